-- `profile::check` meets its contract. Assumes nothing.
use mathlib.Core.Path.{◌∙◌}
use Rattle.rules.specs.Profile.{check_profile}
use Rattle.profile.proofs.check.Goals as goal

pub returns : goal.returns
unfolding check_profile
returns c = c.check_with.ensures ∙ rw c.check_stores-of_stores.ensures
