-- `text::line::put_word` meets its contract. Assumes nothing.
use native.Mathlib.Omega.{arith}
use mathlib.Core.List.{[], ◌∷◌}
use lib.ListN.{length-append}
use Rattle.text.proofs.Lines.{added_written, both}
use Rattle.text.proofs.line.put_word.Goals as goal

pub returns : goal.returns
returns c =
    let a = c.args in
    let w = added_written a.out.now a.at a.word.now (omega (arith, length-append a.word.now (a.end ∷ []), c.requires.room)) in
    both (rw (← c.write_at.ensures) at w) c.put_byte.ensures
