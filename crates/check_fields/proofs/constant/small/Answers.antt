-- `check_fields::constant::small` meets its contract. Assumes nothing.
use mir.Facts.{to_z-of_z}
use Rattle.check_fields.proofs.Constants.{small_converted}
use Rattle.check_fields.proofs.constant.small.Goals as goal

pub returns : goal.returns
returns c = rw c.ok.ensures.value (small_converted c.try_from.result c.args.constant (rw (to_z-of_z c.ranges.constant) at c.try_from.ensures))
