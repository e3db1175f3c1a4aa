-- `fire_effect::operate::cell_by` meets its contract. Assumes nothing.
use Prim.Native.Nat.{◌-◌}
use mathlib.Core.Path.{◌≡◌, ap, sym, ◌∙◌}
use mathlib.Core.Bool.{false}
use native.Mathlib.Omega.{arith}
use mir.Syntax.{w32}
use mir.Val.{to_z, of_z}
use lib.IntN.{pos, nat_abs}
use lib.Signed.{lt_z}
use mir.Facts.{to_z-of_z}
use Rattle.rules.specs.InstructionSet.{number_in, array_at, cell_number}
use Rattle.abstraction.specs.Tables.{arrays_in}
use Rattle.fire_effect.specs.Effects.{named_of}
use Rattle.fire_effect.proofs.Does.{below_cells, from_one, size_fits, by_negative, by_zero, by_array}
use Rattle.fire_effect.proofs.operate.cell_by.Goals as goal
use Rattle.fire_effect.proofs.operate.cell_by.Goals.{Else-k-lt1}

above : (c : Else-k-lt1) → lt_z c.args.k (pos 1) ≡ false
above c = rw (to_z-of_z c.ranges.k) at c.if-k-lt1.false

-- what the code reads of the constant
seen : (c : Else-k-lt1) → nat_abs (to_z w32 (of_z w32 c.args.k)) ≡ nat_abs c.args.k
seen c = ap nat_abs (to_z-of_z c.ranges.k)

pub returns-then-k-lt0 : goal.returns-then-k-lt0
returns-then-k-lt0 c = below_cells c.args.cells (by_negative (arrays_in c.args.tables.now) c.args.a c.args.k (rw (to_z-of_z c.ranges.k) at c.if-k-lt0.true))

pub returns-then-k-lt1 : goal.returns-then-k-lt1
returns-then-k-lt1 c =
    let z = by_zero (arrays_in c.args.tables.now) c.args.a c.args.k (rw (to_z-of_z c.ranges.k) at c.if-k-lt0.false) (rw (to_z-of_z c.ranges.k) at c.if-k-lt1.true) in
    rw (to_z-of_z c.ranges.a) at c.cell_of.ensures ∙ sym (ap (named_of c.args.cells) z)

pub overflow_cast-k : goal.overflow_cast-k
overflow_cast-k c =
    let k = from_one c.args.k (above c) in
    (rw (to_z-of_z c.ranges.k, k.0) tt, rw (seen c) (record { fits = omega (arith, size_fits c.args.k c.ranges.k k.0) }))

pub overflow_sub-k : goal.overflow_sub-k
overflow_sub-k c = let k = (from_one c.args.k (above c)).1 in let e = seen c in omega arith

pub returns : goal.returns
returns c =
    let above : lt_z c.args.k (pos 1) ≡ false = rw (to_z-of_z c.ranges.k) at c.if-k-lt1.false in
    let seen : nat_abs (to_z w32 (of_z w32 c.args.k)) ≡ nat_abs c.args.k = ap nat_abs (to_z-of_z c.ranges.k) in
    let number : cell_number (arrays_in c.args.tables.now) c.args.k c.args.a ≡ number_in (array_at (arrays_in c.args.tables.now) (nat_abs (to_z w32 (of_z w32 c.args.k)) - 1)) c.args.a = rw (seen) (by_array (arrays_in c.args.tables.now) c.args.a c.args.k (above)) in
    let e = number ∙ ap (λ x. number_in x c.args.a) (sym c.array_of-array.ensures) in
    rw (to_z-of_z c.ranges.a) at c.cell_in.ensures ∙ sym (ap (named_of c.args.cells) e)
