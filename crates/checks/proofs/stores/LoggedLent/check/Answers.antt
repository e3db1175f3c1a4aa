-- `checks::stores::Logged::check` meets its contract. Assumes nothing.
use Rattle.rules.specs.Log.{check_log_stores}
use Rattle.check_fields.proofs.Turns.{handed_on}
use Rattle.checks.proofs.stores.LoggedLent.check.Goals as goal

pub returns-in_err-check : goal.returns-in_err-check
unfolding check_log_stores
returns-in_err-check c = rw (handed_on c.from_residual.ensures, ← c.check.ensures, c.in_err-check.was)

pub returns-then-log_suffices : goal.returns-then-log_suffices
unfolding check_log_stores
returns-then-log_suffices c = rw (← c.check.ensures, c.in_ok-check.was, ← c.log_suffices.ensures, c.if-log_suffices.true)

pub returns-else-log_suffices : goal.returns-else-log_suffices
unfolding check_log_stores
returns-else-log_suffices c = rw (c.at.ensures, ← c.check.ensures, c.in_ok-check.was, ← c.log_suffices.ensures, c.if-log_suffices.false)
