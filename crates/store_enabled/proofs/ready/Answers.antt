-- `store_enabled::ready` meets its contract. Assumes nothing.
use mathlib.Core.Path.{sym, ◌∙◌}
use borrow.Author.Tests.{eq-eqb, ne_eqb}
use Rattle.store_enabled.proofs.ready.Goals as goal

pub returns-then-operands-eq1 : goal.returns-then-operands-eq1
returns-then-operands-eq1 c = rw (eq-eqb _ _ c.if-operands-eq1.true) c.live.ensures

pub returns-then-live : goal.returns-then-live
returns-then-live c =
    let flag = sym c.live-then-operands-eq2.ensures ∙ c.if-live.true in
    rw (ne_eqb _ _ c.if-operands-eq1.false, eq-eqb _ _ c.if-operands-eq2.true, flag) c.live-then-live.ensures

pub returns-then-operands-eq2 : goal.returns-then-operands-eq2
returns-then-operands-eq2 c =
    let flag = sym c.live-then-operands-eq2.ensures ∙ c.if-live.false in
    rw (ne_eqb _ _ c.if-operands-eq1.false, eq-eqb _ _ c.if-operands-eq2.true, flag)

pub returns : goal.returns
returns c = rw (ne_eqb _ _ c.if-operands-eq1.false, ne_eqb _ _ c.if-operands-eq2.false)
