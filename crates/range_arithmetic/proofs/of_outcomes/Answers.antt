-- `range_arithmetic::of_outcomes` meets its contract: each arm is the rule of its operation. Assumes nothing.
use mathlib.Core.Path.{◌≡◌, refl, ap, ◌∙◌}
use Rattle.record.specs.declared.operation.Arithmetic.{Arithmetic}
use Rattle.record.specs.declared.operation.Arithmetic.TheVariants.{Add, Sub, Mul, Div, Rem, Lt, Le, Eq}
use Rattle.arithmetic.specs.declared.Range.{Range}
use Rattle.arithmetic.specs.Ranges.{corners, outcome, outcomes, in_bits}
use Rattle.range_arithmetic.proofs.of_outcomes.Goals as goal

by_corners : (o : Arithmetic) (a b : Range) → (o ≡ Rem → ⊥) → (o ≡ Eq → ⊥) → corners (outcome o) a b ≡ outcomes o a b
unfolding outcomes
by_corners Add a b rem eq = refl
by_corners Sub a b rem eq = refl
by_corners Mul a b rem eq = refl
by_corners Div a b rem eq = refl
by_corners Rem a b rem eq = absurd (rem refl)
by_corners Lt a b rem eq = refl
by_corners Le a b rem eq = refl
by_corners Eq a b rem eq = absurd (eq refl)

pub returns-in-Rem : goal.returns-in-Rem
unfolding outcomes
returns-in-Rem c = rw c.in-Rem.is c.remainders.ensures

pub returns-in-Eq : goal.returns-in-Eq
unfolding outcomes
returns-in-Eq c = rw c.in-Eq.is c.equalities.ensures

pub returns-in_default : goal.returns-in_default
returns-in_default c =
    c.at_corners.ensures ∙ ap in_bits (by_corners c.args.op c.args.a c.args.b c.in_default.not-Rem c.in_default.not-Eq)
