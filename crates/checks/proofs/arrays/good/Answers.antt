-- `checks::arrays::good` meets its contract. Assumes nothing.
use Rattle.checks.proofs.arrays.good.Goals as goal

pub returns-then-whole : goal.returns-then-whole
returns-then-whole c = rw (← c.whole.ensures, c.if-whole.true) c.all_inside.ensures

pub returns-else-whole : goal.returns-else-whole
returns-else-whole c = rw (← c.whole.ensures, c.if-whole.false)
