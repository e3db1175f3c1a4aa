-- `activities::check_lent` meets its contract. Assumes nothing.
use Rattle.check_fields.proofs.Turns.{handed_on}
use Rattle.activities.proofs.check_lent.Goals as goal

pub returns-in_err-check : goal.returns-in_err-check
returns-in_err-check c = rw (handed_on c.from_residual.ensures, ← c.check.ensures, c.in_err-check.was)

pub returns : goal.returns
returns c = rw (← c.check.ensures, c.in_ok-check.was) c.check-2.ensures
