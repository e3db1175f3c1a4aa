-- `checks::arrays::check` meets its contract. Assumes nothing.
use Prim.Native.Nat.{◌/◌, ◌≤◌, ◌%◌}
use native.Mathlib.Omega.{arith}
use mathlib.Core.Path.{sym, ◌∙◌}
use lib.Dec.{eqb}
use lib.ListN.{length}
use borrow.Author.Tests.{leb-true}
use Rattle.buffer.specs.Rows.{whole}
use Rattle.buffer.proofs.Tables.{length_rows}
use Rattle.record.specs.Arrays.{decode_array}
use Rattle.record.specs.Widths.{array_width}
use Rattle.rules.specs.Check.{check_arrays}
use Rattle.check_fields.proofs.Turns.{and_true_left, and_true_right}
use Rattle.checks.proofs.arrays.check.Goals as goal
use Rattle.checks.proofs.arrays.check.Goals.{Then-good}

-- at most 64 records, where the table is good
few : (c : Then-good) → length c.args.arrays.now / array_width ≤ 64
few c =
    let n = length c.args.arrays.now in
    let w = and_true_left (whole array_width 64 n) _ (sym c.good.ensures ∙ c.if-good.true) in
    leb-true (n / array_width) 64 (and_true_right (eqb (n % array_width) 0) _ w)

pub names-requires : goal.names-requires
unfolding check_arrays
names-requires c = omega (arith, few c)

pub returns-then-good : goal.returns-then-good
unfolding check_arrays
returns-then-good c =
    let s = c.args.arrays.now in
    rw (← c.good.ensures, c.if-good.true, length_rows array_width decode_array (length s / array_width) s) c.names.ensures

pub returns-else-good : goal.returns-else-good
unfolding check_arrays
returns-else-good c = rw (c.at.ensures, ← c.good.ensures, c.if-good.false)
