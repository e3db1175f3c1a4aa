-- `checks::stores::all_whole` meets its contract. Assumes nothing.
use Rattle.checks.proofs.stores.all_whole.Goals as goal

pub returns-then-whole-3 : goal.returns-then-whole-3
returns-then-whole-3 c = rw (← c.whole.ensures, c.if-whole.true, ← c.whole-then-whole.ensures, c.if-whole-2.true, ← c.whole-then-whole-2.ensures, c.if-whole-3.true) c.whole-then-whole-3.ensures

pub returns-else-whole-3 : goal.returns-else-whole-3
returns-else-whole-3 c = rw (← c.whole.ensures, c.if-whole.true, ← c.whole-then-whole.ensures, c.if-whole-2.true, ← c.whole-then-whole-2.ensures, c.if-whole-3.false)

pub returns-else-whole-2 : goal.returns-else-whole-2
returns-else-whole-2 c = rw (← c.whole.ensures, c.if-whole.true, ← c.whole-then-whole.ensures, c.if-whole-2.false)

pub returns-else-whole : goal.returns-else-whole
returns-else-whole c = rw (← c.whole.ensures, c.if-whole.false)
