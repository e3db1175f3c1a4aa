-- `checks::arrays::all_inside` meets its contract. The invariant: the first i arrays end in the store, so that the rest decides. Assumes nothing.
use Prim.Native.Nat.{◌≤◌, ◌/◌}
use mathlib.Core.Path.{◌≡◌}
use lib.ListN.{length, drop}
use Rattle.record.specs.Arrays.{arrays_of}
use Rattle.record.specs.Widths.{array_width}
use Rattle.rules.specs.Check.{all, inside_store}
use Rattle.checks.proofs.arrays.all_inside.Given as goal

abbrev pub invariant-loop-i : goal.invariant-loop-i
invariant-loop-i l =
    (l.i ≤ length l.arrays / array_width) × (all (inside_store l.cells) (arrays_of l.arrays) ≡ all (inside_store l.cells) (drop l.i (arrays_of l.arrays)))
