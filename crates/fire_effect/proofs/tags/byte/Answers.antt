-- `fire_effect::tags::byte` meets its contract. Assumes nothing.
use mir.Facts.{to_z-of_z}
use Rattle.fire_effect.proofs.Does.{byte_fits}
use Rattle.fire_effect.proofs.tags.byte.Goals as goal

pub overflow_cast-result : goal.overflow_cast-result
overflow_cast-result c = rw (to_z-of_z c.ranges.constant) (byte_fits _ c.requires)
