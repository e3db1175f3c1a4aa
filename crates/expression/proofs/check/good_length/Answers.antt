-- `expression::check::good_length` meets its contract. Assumes nothing.
use borrow.Author.Tests.{le-leb, lt-leb}
use Rattle.expression.proofs.check.good_length.Goals as goal

pub returns-then-len-ge1 : goal.returns-then-len-ge1
returns-then-len-ge1 c = rw (le-leb 1 c.args.len c.if-len-ge1.true) c.whole.ensures

pub returns-else-len-ge1 : goal.returns-else-len-ge1
returns-else-len-ge1 c = rw (lt-leb 1 c.args.len c.if-len-ge1.false)
