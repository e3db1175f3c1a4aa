-- `arithmetic::rem` meets its contract. The remainder is at most the dividend; by -1 it is 0. Assumes nothing.
use mathlib.Core.Path.{◌≡◌, sym, ap, ◌∙◌}
use lib.IntN.{pos, negsuc}
use mir.Syntax.{w32}
use mir.Val.{of_z}
use mir.Facts.{to_z-of_z, sfits_lit}
use Rattle.arithmetic.specs.Arithmetic.{compute_of, divided, ranged}
use Rattle.arithmetic.proofs.Signed.{same_bits, remainder_fits, remainder_by_minus_one}
use Rattle.arithmetic.proofs.Ranged.{by_nonzero, fits_ranged}
use Rattle.arithmetic.proofs.rem.Goals as goal

pub returns-then-b-eq0 : goal.returns-then-b-eq0
unfolding compute_of divided
returns-then-b-eq0 c =
    let b-zero : c.args.b ≡ pos 0 = same_bits c.ranges.b (sfits_lit tt) c.if-b-eq0.true in
    rw b-zero

pub returns-then-b-eqminus1 : goal.returns-then-b-eqminus1
unfolding compute_of divided ranged
returns-then-b-eqminus1 c =
    let b-minus : c.args.b ≡ negsuc 0 = same_bits c.ranges.b (sfits_lit tt) c.if-b-eqminus1.true in
    rw (b-minus, remainder_by_minus_one c.args.a)

pub returns : goal.returns
unfolding compute_of
returns c =
    let fits = remainder_fits c.args.a c.args.b c.ranges.a in
    rw (to_z-of_z c.ranges.a, to_z-of_z c.ranges.b, to_z-of_z fits)
    (sym (by_nonzero c.args.b _ (λ e. c.if-b-eq0.false (ap (of_z w32) e)) ∙ fits_ranged _ fits))
