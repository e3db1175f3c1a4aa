-- `engine::check_lent` meets its contract. Assumes nothing.
use Rattle.engine.proofs.check_lent.Goals as goal

pub returns : goal.returns
returns c = c.check_lent.ensures
