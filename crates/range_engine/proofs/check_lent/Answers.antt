-- `range_engine::check_lent` meets its contract. Assumes nothing.
use mathlib.Core.Path.{◌∙◌}
use Rattle.range_engine.proofs.check_lent.Goals as goal

pub returns : goal.returns
returns c = c.check_lent.ensures ∙ rw c.check_stores.ensures
