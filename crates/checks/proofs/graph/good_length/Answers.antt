-- `checks::graph::good_length` meets its contract. Assumes nothing.
use borrow.Author.Tests.{le-leb, lt-leb}
use Rattle.checks.proofs.graph.good_length.Goals as goal

pub returns-then-n-ge1 : goal.returns-then-n-ge1
returns-then-n-ge1 c = rw (le-leb _ _ c.if-n-ge1.true) c.whole.ensures

pub returns-else-n-ge1 : goal.returns-else-n-ge1
returns-else-n-ge1 c = rw (lt-leb _ _ c.if-n-ge1.false)
