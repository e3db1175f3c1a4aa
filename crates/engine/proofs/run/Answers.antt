-- `engine::run` meets its contract: a check that failed leaves everything as lent, and an accepted run ends as the rules say. Assumes nothing.
use mathlib.Core.Path.{refl, sym, ap, ◌∙◌}
use lib.ListN.{length}
use native.Mathlib.Omega.{arith}
use Rattle.rules.specs.Answer.{values_of}
use Rattle.rules.specs.Run.{unless_failed, answer, ledger_after, cells_after}
use Rattle.rules.specs.Bounded.{bounded, check_bounded}
use Rattle.engine.proofs.Accepting.{accepted_bounded}
use Rattle.engine.proofs.run.Goals as goal

pub accepted-requires : goal.accepted-requires
unfolding bounded check_bounded unless_failed answer ledger_after cells_after
accepted-requires c =
    let a = c.args in
    (accepted_bounded a.graph.now a.arrays.now a.inputs.now a.picks.now a.bound (length a.ledger.now) (length a.cells.now) (sym c.check_with-checked.ensures ∙ c.in-Ok.is), omega arith)

pub returns-in-Err : goal.returns-in-Err
unfolding bounded check_bounded unless_failed answer ledger_after cells_after
returns-in-Err c =
    let e = sym c.check_with-checked.ensures ∙ c.in-Err.is in
    let a = c.refused.ensures in
    rw e (record { answered = a; numbers = ap values_of a; ledger_left = refl; cells_left = refl })

pub returns-in-Ok : goal.returns-in-Ok
unfolding bounded check_bounded unless_failed answer ledger_after cells_after
returns-in-Ok c =
    let e = sym c.check_with-checked.ensures ∙ c.in-Ok.is in
    let l = c.accepted.ensures.ended_at in
    rw e (record { answered = l.answered; numbers = ap values_of l.answered; ledger_left = l.ledger_left; cells_left = l.cells_left })
