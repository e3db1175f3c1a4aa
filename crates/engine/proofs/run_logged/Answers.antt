-- `engine::run_logged` meets its contract: its log has room for every firing. Assumes nothing.
use mathlib.Core.Path.{refl, sym, ap, ◌∙◌}
use native.Mathlib.Omega.{arith}
use lib.ListN.{length}
use Rattle.rules.specs.Answer.{values_of}
use Rattle.rules.specs.Run.{answer, ledger_after, cells_after}
use Rattle.rules.specs.Log.{log_unless_failed, log_after}
use Rattle.rules.specs.Bounded.{bound_logged, check_bound_logged}
use Rattle.rules.proofs.Bounded.{bound_log_fits}
use Rattle.engine.proofs.Accepting.{accepted_logged}
use Rattle.engine.proofs.Recording.{recorded_all}
use Rattle.engine.proofs.run_logged.Goals as goal

pub accepted-requires : goal.accepted-requires
unfolding bound_logged check_bound_logged log_unless_failed log_after answer ledger_after cells_after
accepted-requires c =
    let a = c.args in
    (accepted_logged a.graph.now a.arrays.now a.inputs.now a.picks.now a.budget a.bound (length a.ledger.now) (length a.cells.now) (length a.log.now) (sym c.check_with-checked.ensures ∙ c.in-Ok.is), omega arith)

pub returns-in-Err : goal.returns-in-Err
unfolding bound_logged check_bound_logged log_unless_failed log_after answer ledger_after cells_after
returns-in-Err c =
    let e = sym c.check_with-checked.ensures ∙ c.in-Err.is in
    let r = c.refused.ensures in
    rw e (record { answered = r; numbers = ap values_of r; ledger_left = refl; cells_left = refl; log_left = refl })

pub returns-in-Ok : goal.returns-in-Ok
unfolding bound_logged check_bound_logged log_unless_failed log_after answer ledger_after cells_after
returns-in-Ok c =
    let a = c.args in
    let e = sym c.check_with-checked.ensures ∙ c.in-Ok.is in
    let r = c.accepted.ensures in
    let room = rw e at (bound_log_fits a.graph.now a.arrays.now a.inputs.now a.picks.now a.budget a.bound (length a.ledger.now) (length a.cells.now) (length a.log.now)) in
    rw e (record { answered = r.ended_at.answered; numbers = ap values_of r.ended_at.answered; ledger_left = r.ended_at.ledger_left; cells_left = r.ended_at.cells_left; log_left = r.log_after ∙ recorded_all _ a.log.now (omega (arith, room)) })
