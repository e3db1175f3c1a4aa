-- `plot_cache::any_order` meets its contract. Assumes nothing.
use borrow.Author.Rules.{rules}
use borrow.Author.Tests.{eq-eqb, ne_eqb}
use Rattle.plot_cache.specs.Serves.{any_order}
use Rattle.plot_cache.proofs.any_order.Goals as goal

pub returns-then-whole : goal.returns-then-whole
unfolding any_order
returns-then-whole c = rw (← c.rests.ensures, c.if-rests.true, eq-eqb _ _ c.if-asked-eq0.true, ← c.whole.ensures, c.if-whole.true)

pub returns-else-whole : goal.returns-else-whole
unfolding any_order
returns-else-whole c = rw (← c.rests.ensures, c.if-rests.true, eq-eqb _ _ c.if-asked-eq0.true, ← c.whole.ensures, c.if-whole.false)

pub returns-else-asked-eq0 : goal.returns-else-asked-eq0
unfolding any_order
returns-else-asked-eq0 c = rw (← c.rests.ensures, c.if-rests.true, ne_eqb _ _ c.if-asked-eq0.false)

pub returns-else-rests : goal.returns-else-rests
unfolding any_order
returns-else-rests c = rw (← c.rests.ensures, c.if-rests.false)
