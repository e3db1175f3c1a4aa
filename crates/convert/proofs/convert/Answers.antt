-- `convert::convert` meets its contract. Assumes nothing.
use Rattle.convert.proofs.convert.Goals as goal

pub returns : goal.returns
returns c = c.convert_records.ensures
