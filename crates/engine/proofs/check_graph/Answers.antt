-- `engine::check_graph` meets its contract: the check's promise, also in 01's numbers. Assumes nothing.
use mathlib.Core.Path.{ap}
use Rattle.rules.specs.Answer.{values_checked}
use Rattle.engine.proofs.check_graph.Goals as goal

pub returns : goal.returns
returns c = (c.check.ensures, ap values_checked c.check.ensures)
