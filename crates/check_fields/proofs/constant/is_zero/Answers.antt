-- `check_fields::constant::is_zero` meets its contract. A number is 0 if its bits are. Assumes nothing.
use Rattle.check_fields.proofs.Constants.{zero_bits}
use Rattle.check_fields.proofs.constant.is_zero.Goals as goal

pub returns : goal.returns
returns c = zero_bits c.args.constant c.ranges.constant
