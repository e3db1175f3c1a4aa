-- `text::put_tokens` meets its contract: the lines put so far stand from the start on, and `text` has the path of the last one. Assumes nothing.
use Prim.Native.Nat.{◌/◌, ◌≤◌}
use lib.ListN.{length}
use Rattle.record.specs.Widths.{token_width}
use Rattle.text.specs.Lines.{AddedText, PathText, token_lines}
use Rattle.text.proofs.Whole.{made}
use Rattle.text.proofs.put_tokens.Given as goal

abbrev pub invariant-loop-i : goal.invariant-loop-i
invariant-loop-i l =
    (l.i ≤ length l.listing / token_width) × AddedText l.initial.out l.out l.from l.at (made (token_lines l.listing) l.i) × PathText l.text l.count l.last
