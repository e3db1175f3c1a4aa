-- `engine::carry_on` meets its contract: a check that failed leaves everything as lent, and a saved state that passed is resumed. Assumes nothing.
use mathlib.Core.Path.{sym, ◌∙◌}
use native.Mathlib.Omega.{arith}
use Rattle.engine.proofs.Resuming.{lent, lent_passed, failed}
use Rattle.engine.proofs.carry_on.Goals as goal

pub resume-requires : goal.resume-requires
resume-requires c =
    let a = c.args in
    (lent a.graph.now a.arrays.now a.picks.now a.ledger.now a.cells.now a.budget a.bound a.firings a.tokens (sym c.check_lent-checked.ensures ∙ c.in-Ok.is), omega arith, omega arith, omega arith)

pub returns-in-Err : goal.returns-in-Err
returns-in-Err c =
    let a = c.args in
    failed a.graph.now a.arrays.now a.picks.now a.ledger.now a.cells.now a.budget a.bound a.firings a.tokens _ _ (sym c.check_lent-checked.ensures ∙ c.in-Err.is) _ c.refused.ensures

pub returns-in-Ok : goal.returns-in-Ok
returns-in-Ok c =
    let a = c.args in
    rw (lent_passed a.graph.now a.arrays.now a.picks.now a.ledger.now a.cells.now a.budget a.bound a.firings a.tokens (sym c.check_lent-checked.ensures ∙ c.in-Ok.is)) c.resume.ensures
