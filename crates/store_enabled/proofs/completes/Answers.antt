-- `store_enabled::completes` meets its contract. Assumes nothing.
use borrow.Author.Tests.{eq-eqb, ne_eqb}
use Rattle.store_enabled.proofs.completes.Goals as goal

pub returns-then-operands-eq1 : goal.returns-then-operands-eq1
returns-then-operands-eq1 c = rw (eq-eqb _ _ c.if-operands-eq1.true)

pub returns-then-operands-eq2 : goal.returns-then-operands-eq2
returns-then-operands-eq2 c = rw (ne_eqb _ _ c.if-operands-eq1.false, eq-eqb _ _ c.if-operands-eq2.true) c.live.ensures

pub returns : goal.returns
returns c = rw (ne_eqb _ _ c.if-operands-eq1.false, ne_eqb _ _ c.if-operands-eq2.false)
