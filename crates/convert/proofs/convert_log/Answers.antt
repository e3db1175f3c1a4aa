-- `convert::convert_log` meets its contract. Assumes nothing.
use Rattle.convert.proofs.convert_log.Goals as goal

pub returns : goal.returns
returns c = c.convert_records.ensures
