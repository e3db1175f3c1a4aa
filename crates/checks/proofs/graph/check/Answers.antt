-- `checks::graph::check` meets its contract. Assumes nothing.
use Rattle.rules.specs.Check.{check_graph}
use Rattle.checks.proofs.graph.check.Goals as goal

pub returns-then-good_length : goal.returns-then-good_length
unfolding check_graph
returns-then-good_length c = rw (← c.good_length.ensures, c.if-good_length.true) c.records.ensures

pub returns-else-good_length : goal.returns-else-good_length
unfolding check_graph
returns-else-good_length c = rw (c.at.ensures, ← c.good_length.ensures, c.if-good_length.false)
