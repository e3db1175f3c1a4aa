-- `checks::bound::Bounded::check` meets its contract. Assumes nothing.
use Rattle.rules.specs.Bounded.{and_bound}
use Rattle.check_fields.proofs.Turns.{handed_on}
use Rattle.checks.proofs.bound.BoundedLent.check.Goals as goal

pub returns-in_err-check : goal.returns-in_err-check
unfolding and_bound
returns-in_err-check g c = rw (handed_on c.from_residual.ensures, ← c.check.ensures, c.in_err-check.was)

pub returns-then-good : goal.returns-then-good
unfolding and_bound
returns-then-good g c = rw (← c.check.ensures, c.in_ok-check.was, ← c.good.ensures, c.if-good.true)

pub returns-else-good : goal.returns-else-good
unfolding and_bound
returns-else-good g c = rw (c.at.ensures, ← c.check.ensures, c.in_ok-check.was, ← c.good.ensures, c.if-good.false)
