-- `check_inputs::fields` meets its contract. The invariant: the first i inputs passed, so that the rest decides. Assumes nothing.
use Prim.Native.Nat.{◌≤◌, ◌/◌}
use mathlib.Core.Path.{◌≡◌}
use lib.ListN.{length, drop}
use Rattle.record.specs.GraphRecords.{graph_of}
use Rattle.buffer.specs.Rows.{all_rows}
use Rattle.record.specs.Widths.{token_width}
use Rattle.rules.specs.Check.{demand, in_turn, good_input}
use Rattle.rules.specs.declared.answer.Refusal.TheVariants.{BadInput}
use Rattle.check_inputs.specs.Inputs.{check_fields}
use Rattle.check_inputs.proofs.fields.Given as goal

abbrev pub invariant-loop-i : goal.invariant-loop-i
invariant-loop-i l =
    (l.i ≤ length l.inputs / token_width) × (check_fields (graph_of l.graph) l.inputs ≡ in_turn (λ k good. demand good BadInput k) l.i (drop l.i (all_rows token_width (good_input (graph_of l.graph)) l.inputs)))
