-- `checks::check_lent` meets its contract. A part that fails is the answer; the next is looked at only where all before passed. Assumes nothing.
use Rattle.check_fields.proofs.Turns.{handed_on}
use Rattle.checks.proofs.check_lent.Goals as goal

pub returns-in_err-check : goal.returns-in_err-check
returns-in_err-check g c = rw (handed_on c.from_residual.ensures, ← c.check.ensures, c.in_err-check.was)

pub returns-in_err-check-2 : goal.returns-in_err-check-2
returns-in_err-check-2 g c = rw (handed_on c.from_residual-in_err-check-2.ensures, ← c.check.ensures, c.in_ok-check.was, ← c.check-2.ensures, c.in_err-check-2.was)

pub returns : goal.returns
returns g c = rw (← c.check.ensures, c.in_ok-check.was, ← c.check-2.ensures, c.in_ok-check-2.was) c.check-3.ensures
