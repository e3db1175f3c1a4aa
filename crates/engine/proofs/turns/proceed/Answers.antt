-- `engine::turns::proceed` meets its contract: the held activities are known before the first turn, and the end is settled. Assumes nothing.
use mathlib.Core.Path.{◌≡◌, refl, sym, ◌∙◌}
use Rattle.record.specs.GraphRecords.{graph_of}
use Rattle.store.proofs.Laws.{matching_room}
use Rattle.engine.proofs.Bounding.{started_on, none_kept, beside_of, none_settled, settled_by_order}
use Rattle.engine.proofs.turns.proceed.Goals as goal
use Rattle.engine.proofs.turns.proceed.Goals.{in-Free, in_default}

pub hold_first-requires : goal.hold_first-requires
hold_first-requires g c =
    let fits = rw c.in-Free.is at c.requires.2 in
    rw (c.new-holds.ensures.0, c.new-holds.ensures.1, c.new-holds.ensures.2) (started_on c.args.graph.now c.requires.0 c.requires.1 _ fits.0 fits.1)

pub turns-own-requires : goal.turns-own-requires
turns-own-requires g c = (
  c.requires.0,
  c.requires.1,
  elim c.match-order.branch [
    | in-Free w ↦ rw (w.order-is, w.holds-is) w.hold_first.ensures
    | in_default w ↦ rw w.order-is (none_kept c.args.order w.in_default.not-Free _ _ _ _ _ _ _ _)
  ],
  c.requires.3,
)

pub settle-requires : goal.settle-requires
settle-requires g c =
    let t = c.turns-own in
    let m = t.ensures.proceeded.running.matching in
    (rw c.in-Free-order.is at (beside_of c.args.graph.now c.requires.0 t.ensures.proceeded.running _ _ _ _ t.ensures.bounding), matching_room m)

pub returns-in-Free-order : goal.returns-in-Free-order
returns-in-Free-order g c =
    let a = c.args in
    let t = c.turns-own in
    let o = c.match-order.order in
    let same : o ≡ a.order = elim c.match-order.branch [ in-Free w ↦ w.order-is ∙ sym w.in-Free.is | in_default w ↦ w.order-is ] in
    rw (sym same) (record { proceeded = settled_by_order (graph_of a.graph.now) a.tables.now _ _ t.new.holds.held _ _ a.ledger.now a.cells.now a.going.used t.new.holds.nexts t.new.holds.marks t.result c.settle.result c.requires.0.arities_right _ t.ensures.proceeded o t.ensures.bounding (rw c.in-Free-order.is c.settle.ensures); log_after = t.ensures.log_after; kept = t.ensures.kept })

pub returns-in_default-order : goal.returns-in_default-order
returns-in_default-order g c =
    let a = c.args in
    let t = c.turns-own in
    let o = c.match-order.order in
    let same : o ≡ a.order = elim c.match-order.branch [ in-Free w ↦ w.order-is ∙ sym w.in-Free.is | in_default w ↦ w.order-is ] in
    rw (sym same) (record { proceeded = settled_by_order (graph_of a.graph.now) a.tables.now _ _ t.new.holds.held _ _ a.ledger.now a.cells.now a.going.used t.new.holds.nexts t.new.holds.marks t.result t.result c.requires.0.arities_right _ t.ensures.proceeded o t.ensures.bounding (none_settled o c.in_default-order.not-Free _ _ _ _ _ _ refl); log_after = t.ensures.log_after; kept = t.ensures.kept })
