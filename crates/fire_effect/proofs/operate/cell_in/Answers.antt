-- `fire_effect::operate::cell_in` meets its contract. Assumes nothing.
use Prim.Native.Nat.{◌+◌, ◌-◌, ◌≤◌}
use mathlib.Core.Path.{◌≡◌, ap}
use native.Mathlib.Omega.{arith}
use mir.Syntax.{w32}
use mir.Val.{to_z, of_z}
use lib.IntN.{pos, nat_abs}
use mir.Facts.{to_z-of_z}
use Rattle.record.specs.declared.array.NamedArray.{NamedArray}
use Rattle.rules.specs.InstructionSet.{number_in}
use Rattle.fire_effect.proofs.Does.{below_cells, in_cells, past_cells, below_one, from_one, size_fits, past_length, inside_length}
use Rattle.fire_effect.proofs.operate.cell_in.Goals as goal
use Rattle.fire_effect.proofs.operate.cell_in.Goals.{Else-index-lt1, Else-length-i}

-- an index that is not below 1 is the number of its size
size : (c : Else-index-lt1) → (c.args.index ≡ pos (nat_abs c.args.index)) × (1 ≤ nat_abs c.args.index)
size c = from_one c.args.index (rw (to_z-of_z c.ranges.index) at c.if-index-lt1.false)

-- what the code reads of it
seen : (c : Else-index-lt1) → nat_abs (to_z w32 (of_z w32 c.args.index)) ≡ nat_abs c.args.index
seen c = ap nat_abs (to_z-of_z c.ranges.index)

abbrev array : (c : Else-index-lt1) → NamedArray
array c = record { first = c.args.first; length = c.args.length }

number : (c : Else-length-i) → number_in (array c.before) c.args.index ≡ pos (c.args.first + nat_abs (to_z w32 (of_z w32 c.args.index)) - 1)
number c =
    rw (seen c.before) (inside_length (array c.before) c.args.index (size c.before).0 (size c.before).1 (rw (seen c.before) at c.if-length-i.false))

pub returns-then-index-lt1 : goal.returns-then-index-lt1
returns-then-index-lt1 c = below_cells c.args.cells (below_one (record { first = c.args.first; length = c.args.length }) c.args.index (rw (to_z-of_z c.ranges.index) at c.if-index-lt1.true))

pub overflow_cast-i : goal.overflow_cast-i
overflow_cast-i c = (rw (to_z-of_z c.ranges.index, (size c).0) tt, rw (seen c) (record { fits = omega (arith, size_fits c.args.index c.ranges.index (size c).0) }))

pub returns-then-length-i : goal.returns-then-length-i
returns-then-length-i c =
    let size : (c.args.index ≡ pos (nat_abs c.args.index)) × (1 ≤ nat_abs c.args.index) = from_one c.args.index (rw (to_z-of_z c.ranges.index) at c.if-index-lt1.false) in
    let seen : nat_abs (to_z w32 (of_z w32 c.args.index)) ≡ nat_abs c.args.index = ap nat_abs (to_z-of_z c.ranges.index) in
    let array : NamedArray = record { first = c.args.first; length = c.args.length } in
    below_cells c.args.cells (past_length (array) c.args.index (size).0 (size).1 (rw (seen) at c.if-length-i.true))

pub overflow_sub-c : goal.overflow_sub-c
overflow_sub-c c =
    let size : (c.args.index ≡ pos (nat_abs c.args.index)) × (1 ≤ nat_abs c.args.index) = from_one c.args.index (rw (to_z-of_z c.ranges.index) at c.if-index-lt1.false) in
    let seen : nat_abs (to_z w32 (of_z w32 c.args.index)) ≡ nat_abs c.args.index = ap nat_abs (to_z-of_z c.ranges.index) in
    let k = (size).1 in let e = seen in omega arith

pub returns-then-c-cells : goal.returns-then-c-cells
returns-then-c-cells c =
    let size : (c.args.index ≡ pos (nat_abs c.args.index)) × (1 ≤ nat_abs c.args.index) = from_one c.args.index (rw (to_z-of_z c.ranges.index) at c.if-index-lt1.false) in
    let seen : nat_abs (to_z w32 (of_z w32 c.args.index)) ≡ nat_abs c.args.index = ap nat_abs (to_z-of_z c.ranges.index) in
    let array : NamedArray = record { first = c.args.first; length = c.args.length } in
    let number : number_in (array) c.args.index ≡ pos (c.args.first + nat_abs (to_z w32 (of_z w32 c.args.index)) - 1) = rw (seen) (inside_length (array) c.args.index (size).0 (size).1 (rw (seen) at c.if-length-i.false)) in
    in_cells c.args.cells (number) c.if-c-cells.true

pub returns-else-c-cells : goal.returns-else-c-cells
returns-else-c-cells c =
    let size : (c.args.index ≡ pos (nat_abs c.args.index)) × (1 ≤ nat_abs c.args.index) = from_one c.args.index (rw (to_z-of_z c.ranges.index) at c.if-index-lt1.false) in
    let seen : nat_abs (to_z w32 (of_z w32 c.args.index)) ≡ nat_abs c.args.index = ap nat_abs (to_z-of_z c.ranges.index) in
    let array : NamedArray = record { first = c.args.first; length = c.args.length } in
    let number : number_in (array) c.args.index ≡ pos (c.args.first + nat_abs (to_z w32 (of_z w32 c.args.index)) - 1) = rw (seen) (inside_length (array) c.args.index (size).0 (size).1 (rw (seen) at c.if-length-i.false)) in
    past_cells c.args.cells (number) c.if-c-cells.false
