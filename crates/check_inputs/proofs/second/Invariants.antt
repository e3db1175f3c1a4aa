-- `check_inputs::second` meets its contract. The invariant: the first i inputs passed, so that the rest decides, and the table has an entry for each of these i. Assumes nothing.
use Prim.Native.Nat.{◌≤◌, ◌/◌}
use mathlib.Core.Bool.{not}
use mathlib.Core.Path.{◌≡◌}
use lib.ListN.{length, take, drop}
use Rattle.rules.specs.Check.{demand, in_turn, second_input}
use Rattle.rules.specs.declared.answer.Refusal.TheVariants.{SecondToken}
use Rattle.check_inputs.specs.Inputs.{input_tokens, check_second, SeenEntries}
use Rattle.record.specs.Widths.{token_width}
use Rattle.check_inputs.proofs.second.Given as goal

abbrev pub invariant-loop-i : goal.invariant-loop-i
invariant-loop-i l =
    (l.i ≤ length l.inputs / token_width)
    × (check_second l.inputs ≡ in_turn (λ k t. demand (not (second_input (take k (input_tokens l.inputs)) t)) SecondToken k) l.i (drop l.i (input_tokens l.inputs)))
    × SeenEntries (take l.i (input_tokens l.inputs)) l.seen
    × (length l.seen ≡ 512)
