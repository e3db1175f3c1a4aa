-- `bounds::check::check` meets its contract. A part that fails is the answer; the next is looked at only where all before passed. Assumes nothing.
use Rattle.rules.specs.Needs.{check_needs}
use Rattle.check_fields.proofs.Turns.{handed_on}
use Rattle.bounds.proofs.check.check.Goals as goal

pub returns-in_err-check : goal.returns-in_err-check
unfolding check_needs
returns-in_err-check c = rw (handed_on c.from_residual.ensures, ← c.check.ensures, c.in_err-check.was)

pub returns-in_err-check-2 : goal.returns-in_err-check-2
unfolding check_needs
returns-in_err-check-2 c = rw (handed_on c.from_residual-in_err-check-2.ensures, ← c.check.ensures, c.in_ok-check.was, ← c.check-2.ensures, c.in_err-check-2.was)

pub returns-in_err-fields : goal.returns-in_err-fields
unfolding check_needs
returns-in_err-fields c = rw (handed_on c.from_residual-in_err-fields.ensures, ← c.check.ensures, c.in_ok-check.was, ← c.check-2.ensures, c.in_ok-check-2.was, ← c.fields.ensures, c.in_err-fields.was)

pub returns : goal.returns
unfolding check_needs
returns c = rw (← c.check.ensures, c.in_ok-check.was, ← c.check-2.ensures, c.in_ok-check-2.was, ← c.fields.ensures, c.in_ok-fields.was) c.loop_free.ensures
