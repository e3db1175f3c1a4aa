-- `range_inputs::narrow` meets its contract. The invariant: the first i inputs stand as handles, and their ranges in the table. Assumes nothing.
use Prim.Native.Nat.{◌*◌, ◌≤◌, ◌/◌}
use mathlib.Core.List.{◌∷◌, ◌++◌}
use mathlib.Core.Path.{◌≡◌}
use lib.IntN.{pos}
use lib.ListN.{length, drop}
use Rattle.buffer.specs.Rows.{rows}
use Rattle.record.specs.Widths.{token_width, range_token_width}
use Rattle.arithmetic.specs.Ranges.{single}
use Rattle.rules.specs.RangeRun.{range_in}
use Rattle.range_inputs.specs.Handles.{handles_from}
use Rattle.range_inputs.proofs.narrow.Given as goal

abbrev pub invariant-loop-i : goal.invariant-loop-i
invariant-loop-i l =
    (l.i ≤ length l.inputs / range_token_width)
    × (l.handles ≡ handles_from 1 l.i l.inputs ++ drop (l.i * token_width) l.initial.handles)
    × (length l.handles ≡ length l.initial.handles)
    × (l.table ≡ single (pos 0) ∷ rows range_token_width range_in l.i l.inputs)
