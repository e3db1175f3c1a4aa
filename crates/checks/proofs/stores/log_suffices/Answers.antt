-- `checks::stores::log_suffices` meets its contract. Assumes nothing.
use borrow.Author.Tests.{eq-eqb, ne_eqb, le-leb, lt-leb}
use Rattle.checks.proofs.stores.log_suffices.Goals as goal

pub returns-then-budget-records : goal.returns-then-budget-records
returns-then-budget-records c = rw (eq-eqb _ _ c.if-log-eq0.true, le-leb _ _ c.if-budget-records.true)

pub returns-else-budget-records : goal.returns-else-budget-records
returns-else-budget-records c = rw (eq-eqb _ _ c.if-log-eq0.true, lt-leb _ _ c.if-budget-records.false)

pub returns-else-log-eq0 : goal.returns-else-log-eq0
returns-else-log-eq0 c = rw (ne_eqb _ _ c.if-log-eq0.false)
