-- `store::woken` meets its contract. Assumes nothing.
use mir.Facts.{to_z-of_z}
use Rattle.store.proofs.woken.Goals as goal

pub returns : goal.returns
returns c = rw (to_z-of_z c.ranges.v)
