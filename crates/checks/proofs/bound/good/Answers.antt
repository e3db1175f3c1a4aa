-- `checks::bound::good` meets its contract. Assumes nothing.
use borrow.Author.Tests.{eq-eqb, ne_eqb, le-leb, lt-leb}
use Rattle.rules.specs.Bounded.{good_bound}
use Rattle.checks.proofs.bound.good.Goals as goal

pub returns-then-bound-eq0 : goal.returns-then-bound-eq0
unfolding good_bound
returns-then-bound-eq0 c = rw (eq-eqb _ _ c.if-bound-eq0.true)

pub returns-then-bound-ge2 : goal.returns-then-bound-ge2
unfolding good_bound
returns-then-bound-ge2 c = rw (ne_eqb _ _ c.if-bound-eq0.false, le-leb _ _ c.if-bound-ge2.true)

pub returns-else-bound-ge2 : goal.returns-else-bound-ge2
unfolding good_bound
returns-else-bound-ge2 c = rw (ne_eqb _ _ c.if-bound-eq0.false, lt-leb _ _ c.if-bound-ge2.false)
