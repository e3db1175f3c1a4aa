-- `replay::replay` meets its contract: a check that failed leaves everything as lent, and an accepted replay ends as the rules say. Assumes nothing.
use mathlib.Core.Path.{refl, sym, ap, ◌∙◌}
use Rattle.rules.specs.Answer.{values_of}
use Rattle.rules.specs.Check.{check}
use Rattle.rules.specs.Run.{unless_failed, answer, ledger_after, cells_after}
use Rattle.rules.specs.Log.{replayed}
use Rattle.replay.proofs.replay.Goals as goal

pub accepted-requires : goal.accepted-requires
unfolding replayed check unless_failed answer ledger_after cells_after
accepted-requires c = sym c.check_with-checked.ensures ∙ c.in-Ok.is

pub returns-in-Err : goal.returns-in-Err
unfolding replayed check unless_failed answer ledger_after cells_after
returns-in-Err c =
    let e = sym c.check_with-checked.ensures ∙ c.in-Err.is in
    let a = c.refused.ensures in
    rw e (record { answered = a; numbers = ap values_of a; ledger_left = refl; cells_left = refl })

pub returns-in-Ok : goal.returns-in-Ok
unfolding replayed check unless_failed answer ledger_after cells_after
returns-in-Ok c =
    let e = sym c.check_with-checked.ensures ∙ c.in-Ok.is in
    let l = c.accepted.ensures in
    rw e (record { answered = l.answered; numbers = ap values_of l.answered; ledger_left = l.ledger_left; cells_left = l.cells_left })
