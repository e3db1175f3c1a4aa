-- `engine::resume` meets its contract: a state that is not taken is refused, and from one that is the loop goes on. Assumes nothing.
use mathlib.Core.Path.{refl, sym, ◌∙◌}
use native.Mathlib.Omega.{arith}
use Rattle.fire.specs.Running.{Prepared}
use Rattle.engine.proofs.Accepting.{bound_fits, ended_plain_by}
use Rattle.engine.proofs.Resuming.{own_few, goes_on_lem, refuses}
use Rattle.engine.proofs.resume.Goals as goal
use Rattle.engine.proofs.resume.Goals.{After-make}

pub make-requires : goal.make-requires
make-requires c = let p = c.requires.0 in (p.graph_passed, p.few_arrays)

pub take-requires : goal.take-requires
take-requires c =
    let prepared : Prepared c.args.graph.now c.make.new.out = record { passed = c.requires.0.graph_passed; returns_right = c.make.ensures.returns; arities_right = c.make.ensures.arities } in
    (prepared, c.requires.0.few, c.requires.0.cell_records.0, c.requires.0.cell_records.1, c.new-store.ensures.0, c.new-store.ensures.1)

pub returns-then-not-take : goal.returns-then-not-take
returns-then-not-take c =
    let a = c.args in
    refuses a.graph.now a.arrays.now a.picks.now a.ledger.now a.cells.now a.budget a.bound a.firings a.used
    (sym (c.if-not-take.true) ∙ c.take.ensures.value) _ _ (c.refused.ensures ∙ rw c.at.ensures) refl

pub proceed-own-requires : goal.proceed-own-requires
proceed-own-requires c =
    let prepared : Prepared c.args.graph.now c.make.new.out = record { passed = c.requires.0.graph_passed; returns_right = c.make.ensures.returns; arities_right = c.make.ensures.arities } in
    (prepared, c.take.ensures.running (c.if-not-take.false), bound_fits c.args.picks.now c.args.bound c.requires.3 c.order_under-order.result c.order_under-order.ensures, tt)

pub overflow_add-firings : goal.overflow_add-firings
overflow_add-firings c =
    let p = c.proceed-own in
    let a = c.args in
    omega (arith, own_few a.graph.now a.arrays.now a.picks.now a.ledger.now a.cells.now a.budget a.bound a.firings a.used _ c.make.ensures.named _ _ _ (ended_plain_by a.picks.now a.bound _ _ _ _ a.used a.budget _ c.order_under-order.result c.order_under-order.ensures p.ensures.proceeded), c.requires.1, c.requires.2)

pub returns : goal.returns
returns c =
    let p = c.proceed-own in
    let a = c.args in
    goes_on_lem a.graph.now a.arrays.now a.picks.now a.ledger.now a.cells.now a.budget a.bound a.firings a.used _ c.make.ensures.named
    (sym (c.if-not-take.false) ∙ c.take.ensures.value) p.result _ _ _ (ended_plain_by a.picks.now a.bound _ _ _ _ a.used a.budget _ c.order_under-order.result c.order_under-order.ensures p.ensures.proceeded) c.answered.ensures
