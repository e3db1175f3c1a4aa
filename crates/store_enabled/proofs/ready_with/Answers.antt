-- `store_enabled::ready_with` meets its contract. Assumes nothing.
use borrow.Author.Tests.{eq-eqb, ne_eqb}
use Rattle.store_enabled.proofs.ready_with.Goals as goal

pub returns-then-port-eq0 : goal.returns-then-port-eq0
returns-then-port-eq0 c = rw (eq-eqb _ _ c.if-port-eq0.true) c.ready.ensures

pub returns-else-port-eq0 : goal.returns-else-port-eq0
returns-else-port-eq0 c = rw (ne_eqb _ _ c.if-port-eq0.false) c.ready-else-port-eq0.ensures
