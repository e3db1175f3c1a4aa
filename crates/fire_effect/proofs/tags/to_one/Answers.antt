-- `fire_effect::tags::to_one` meets its contract. Assumes nothing.
use Rattle.fire_effect.proofs.Does.{sends_key, made}
use Rattle.fire_effect.proofs.tags.to_one.Goals as goal

pub returns : goal.returns
returns c = made (sends_key c.key_under.ensures c.one.ensures)
