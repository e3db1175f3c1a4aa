-- `fire_effect::tags::to_none` meets its contract. Assumes nothing.
use Rattle.fire_effect.proofs.Does.{made}
use Rattle.fire_effect.proofs.tags.to_none.Goals as goal

pub returns : goal.returns
returns c = made c.none.ensures
