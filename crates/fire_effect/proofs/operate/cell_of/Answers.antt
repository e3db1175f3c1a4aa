-- `fire_effect::operate::cell_of` meets its contract. Assumes nothing.
use mathlib.Core.Path.{◌≡◌, ap, ◌∙◌}
use native.Mathlib.Omega.{arith}
use mir.Syntax.{w32}
use mir.Val.{to_z, of_z}
use lib.IntN.{pos, nat_abs}
use lib.Signed.{mag}
use mir.Facts.{to_z-of_z}
use Rattle.arithmetic.proofs.Signed.{negative, not_negative_lem}
use Rattle.fire_effect.proofs.Does.{below_cells, in_cells, past_cells}
use Rattle.fire_effect.proofs.operate.cell_of.Goals as goal
use Rattle.fire_effect.proofs.operate.cell_of.Goals.{Else-a-lt0}

-- an operand that is not negative is the number of its size
size : (c : Else-a-lt0) → c.args.a ≡ pos (mag c.args.a)
size c = not_negative_lem _ (rw (to_z-of_z c.ranges.a) at c.if-a-lt0.false)

-- what the code reads of it
seen : (c : Else-a-lt0) → nat_abs (to_z w32 (of_z w32 c.args.a)) ≡ mag c.args.a
seen c = ap nat_abs (to_z-of_z c.ranges.a ∙ size c)

pub returns-then-a-lt0 : goal.returns-then-a-lt0
returns-then-a-lt0 c = below_cells c.args.cells (negative c.args.a (rw (to_z-of_z c.ranges.a) at c.if-a-lt0.true))

pub overflow_cast-c : goal.overflow_cast-c
overflow_cast-c c = (rw (to_z-of_z c.ranges.a, size c) tt, rw (seen c) (record { fits = omega (arith, c.ranges.a.sfits) }))

pub overflow_cast-c-2 : goal.overflow_cast-c-2
overflow_cast-c-2 c = rw (seen c) (record { fits = omega (arith, c.ranges.a.sfits) })

pub returns-then-c-cells : goal.returns-then-c-cells
returns-then-c-cells c =
    let size : c.args.a ≡ pos (mag c.args.a) = not_negative_lem _ (rw (to_z-of_z c.ranges.a) at c.if-a-lt0.false) in
    let seen : nat_abs (to_z w32 (of_z w32 c.args.a)) ≡ mag c.args.a = ap nat_abs (to_z-of_z c.ranges.a ∙ size) in
    rw (seen) (in_cells c.args.cells (size) (rw (seen) at c.if-c-cells.true))

pub returns-else-c-cells : goal.returns-else-c-cells
returns-else-c-cells c =
    let size : c.args.a ≡ pos (mag c.args.a) = not_negative_lem _ (rw (to_z-of_z c.ranges.a) at c.if-a-lt0.false) in
    let seen : nat_abs (to_z w32 (of_z w32 c.args.a)) ≡ mag c.args.a = ap nat_abs (to_z-of_z c.ranges.a ∙ size) in
    past_cells c.args.cells (size) (rw (seen) at c.if-c-cells.false)
