-- `profile::check_stores` meets its contract. Assumes nothing.
use borrow.Author.Tests.{ne_eqb}
use Rattle.rules.specs.Profile.{check_profile_stores}
use Rattle.check_fields.proofs.Turns.{handed_on}
use Rattle.profile.proofs.check_stores.Goals as goal

pub returns-in_err-check : goal.returns-in_err-check
unfolding check_profile_stores
returns-in_err-check c = rw (handed_on c.from_residual.ensures, ← c.check.ensures, c.in_err-check.was)

pub returns-then-profile-eq0 : goal.returns-then-profile-eq0
unfolding check_profile_stores
returns-then-profile-eq0 c = rw (← c.check.ensures, c.in_ok-check.was, c.if-profile-eq0.true)

pub returns-else-profile-eq0 : goal.returns-else-profile-eq0
unfolding check_profile_stores
returns-else-profile-eq0 c = rw (c.at.ensures, ← c.check.ensures, c.in_ok-check.was, ne_eqb _ _ c.if-profile-eq0.false)
