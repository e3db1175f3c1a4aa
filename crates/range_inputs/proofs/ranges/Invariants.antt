-- `range_inputs::ranges` meets its contract. The invariant: the first i inputs passed, so that the rest decides. Assumes nothing.
use Prim.Native.Nat.{◌≤◌, ◌/◌}
use mathlib.Core.Path.{◌≡◌}
use lib.ListN.{length, drop}
use Rattle.buffer.specs.Rows.{all_rows}
use Rattle.record.specs.Widths.{range_token_width}
use Rattle.rules.specs.Check.{demand, in_turn}
use Rattle.rules.specs.RangeRun.{range_in, is_proper_range}
use Rattle.rules.specs.declared.answer.Refusal.TheVariants.{Undecided}
use Rattle.range_inputs.specs.Handles.{check_proper}
use Rattle.range_inputs.proofs.ranges.Given as goal

abbrev pub invariant-loop-i : goal.invariant-loop-i
invariant-loop-i l = (l.i ≤ length l.inputs / range_token_width) × (check_proper l.inputs ≡ in_turn (λ k r. demand (is_proper_range r) Undecided k) l.i (drop l.i (all_rows range_token_width range_in l.inputs)))
