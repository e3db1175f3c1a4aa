-- `fire_effect::tags::to_all` meets its contract. Assumes nothing.
use Rattle.fire_effect.proofs.Does.{made}
use Rattle.fire_effect.proofs.tags.to_all.Goals as goal

pub returns : goal.returns
returns c = made c.under.ensures
