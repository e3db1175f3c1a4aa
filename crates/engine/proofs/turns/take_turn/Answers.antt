-- `engine::turns::take_turn` meets its contract: what is chosen fires, joined by proofs/Turning. Assumes nothing.
use Rattle.store.proofs.Laws.{matching_few}
use Rattle.engine.proofs.Turning.{chosen_now, kept_ended, kept_taken, turn_done, turn_refused}
use Rattle.engine.proofs.turns.take_turn.Goals as goal

pub choose-requires : goal.choose-requires
choose-requires g c = (c.requires.1.matching, c.requires.2)

pub returns-in_err-place-clause-kept : goal.returns-in_err-place-clause-kept
returns-in_err-place-clause-kept g c =
    let e = rw c.in_err-place.was at (chosen_now c.args.graph.now c.args.order c.args.source.now c.args.firings c.choose.result c.args.held.now c.choose.ensures c.requires.0 c.requires.1 c.requires.3) in
    kept_ended _ _ e.ended

pub fire-fired-requires : goal.fire-fired-requires
fire-fired-requires g c =
    let t = rw c.in_ok-place.was at (chosen_now c.args.graph.now c.args.order c.args.source.now c.args.firings c.choose.result c.args.held.now c.choose.ensures c.requires.0 c.requires.1 c.requires.3) in
    (c.requires.0, c.requires.1, t.below, t.enabled_there, record { used = c.args.used; few = matching_few c.requires.1.matching; there = c.requires.4 })

pub returns-in-Ok : goal.returns-in-Ok
returns-in-Ok g c =
    let t = rw c.in_ok-place.was at (chosen_now c.args.graph.now c.args.order c.args.source.now c.args.firings c.choose.result c.args.held.now c.choose.ensures c.requires.0 c.requires.1 c.requires.3) in
    let f = c.fire-fired.ensures in
    record { turned = turn_done _ t (rw c.in-Ok.is at f.stepped); kept = kept_taken _ _ t.taken f.kept }

pub returns-in-Err : goal.returns-in-Err
returns-in-Err g c =
    let t = rw c.in_ok-place.was at (chosen_now c.args.graph.now c.args.order c.args.source.now c.args.firings c.choose.result c.args.held.now c.choose.ensures c.requires.0 c.requires.1 c.requires.3) in
    let f = c.fire-fired.ensures in
    record { turned = turn_refused _ t (rw c.in-Err.is at f.stepped); kept = kept_taken _ _ t.taken f.kept }
