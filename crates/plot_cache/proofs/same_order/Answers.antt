-- `plot_cache::same_order` meets its contract. Assumes nothing.
use borrow.Author.Tests.{eq-eqb, ne_eqb}
use mathlib.Core.Path.{◌∙◌}
use Rattle.plot_cache.specs.Serves.{same_order}
use Rattle.plot_cache.proofs.SameLists.{pointwise_is}
use Rattle.plot_cache.proofs.same_order.Goals as goal

pub returns-then-kept-asked-2 : goal.returns-then-kept-asked-2
unfolding same_order
returns-then-kept-asked-2 c = rw (eq-eqb _ _ c.if-kept-asked.true, eq-eqb _ _ c.if-kept-asked-2.true) (c.eq.ensures ∙ pointwise_is c.args.kept_picks.now c.args.picks.now)

pub returns-else-kept-asked-2 : goal.returns-else-kept-asked-2
unfolding same_order
returns-else-kept-asked-2 c = rw (eq-eqb _ _ c.if-kept-asked.true, ne_eqb _ _ c.if-kept-asked-2.false)

pub returns-else-kept-asked : goal.returns-else-kept-asked
unfolding same_order
returns-else-kept-asked c = rw (ne_eqb _ _ c.if-kept-asked.false)
