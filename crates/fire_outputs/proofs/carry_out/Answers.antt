-- `fire_outputs::carry_out` meets its contract. Assumes nothing.
use mathlib.Core.Path.{ap}
use mathlib.Core.List.{◌++◌}
use native.Mathlib.Omega.{arith}
use native.Mathlib.Nat.{le-add_right, le_refl}
use Prim.Native.Nat.{◌+◌}
use Rattle.record.specs.TokensAndTags.{tokens}
use Rattle.store_enabled.proofs.Spending.{spendable_within}
use Rattle.store.proofs.Laws.{matching_few, matching_room}
use Rattle.fire_outputs.proofs.Laws.{kept_spent, kept_again, kept_as, kept_room, kept_most, on_more, low_content_lem, keys_carried}
use Rattle.fire_outputs.specs.Outputs.{Kept, spent_at, output_tokens, woken_by, cells_in}
use Rattle.fire_outputs.proofs.carry_out.Goals as goal
use Rattle.fire_outputs.proofs.carry_out.Goals.{After-spend_operands}

pub spend_operands-requires : goal.spend_operands-requires
spend_operands-requires c =
    let l = c.requires.0 in
    let few = matching_few l.matching in
    let room = matching_room l.matching in
    let inside = spendable_within l.activity in
    (l.raised, omega (arith, inside), omega (arith, inside), omega (arith, inside))

pub change_cells-content-requires : goal.change_cells-content-requires
change_cells-content-requires c = let p = c.requires in (p.0.store, p.4)

pub wake-requires : goal.wake-requires
wake-requires c =
    let spent : let a = c.args in let after = c.spend_operands.new in Kept a.tables.now a.store.now.links after.flags after.ledger a.used (spent_at a.operands.place a.operands.other (tokens a.used a.ledger.now)) a.ledger.now = let a = c.args in
    let l = c.requires.0 in
    let p = c.spend_operands.ensures in
    let r = p.by_index a.tables.now a.store.now.links a.used l.matching l.activity in
    kept_spent l.matching l.activity p.ledger_after r.0 r.1 in
    let l = c.requires.0 in
    let k = spent in
    (k.matching, on_more c.args.action l.store.few c.requires.4)

pub append_outputs-requires : goal.append_outputs-requires
append_outputs-requires c =
    let spent : let a = c.args in let after = c.spend_operands.new in Kept a.tables.now a.store.now.links after.flags after.ledger a.used (spent_at a.operands.place a.operands.other (tokens a.used a.ledger.now)) a.ledger.now = let a = c.args in
    let l = c.requires.0 in
    let p = c.spend_operands.ensures in
    let r = p.by_index a.tables.now a.store.now.links a.used l.matching l.activity in
    kept_spent l.matching l.activity p.ledger_after r.0 r.1 in
    let a = c.args in
    let p = c.requires in
    let k = spent in
    let w = c.wake.ensures in
    let low = low_content_lem a.action (cells_in a.cells.now) (on_more a.action p.0.store.few p.4) in
    (w.matching, kept_room w (kept_room k p.1), kept_most w (kept_most k p.0.few), p.2, p.3, rw c.change_cells-content.ensures.value low, rw (w.held, k.held) (keys_carried a.action a.operands.place a.operands.other (tokens a.used a.ledger.now) a.outputs a.first a.second p.5))

pub returns : goal.returns
returns c =
    let spent : let a = c.args in let after = c.spend_operands.new in Kept a.tables.now a.store.now.links after.flags after.ledger a.used (spent_at a.operands.place a.operands.other (tokens a.used a.ledger.now)) a.ledger.now = let a = c.args in
    let l = c.requires.0 in
    let p = c.spend_operands.ensures in
    let r = p.by_index a.tables.now a.store.now.links a.used l.matching l.activity in
    kept_spent l.matching l.activity p.ledger_after r.0 r.1 in
    let at-change-cells = c.change_cells-content in
    let a = c.args in
    let k = spent in
    let w = kept_again k (woken_by a.action) a.used (le_refl a.used) c.wake.ensures in
    let e = at-change-cells.ensures in
    let o = c.append_outputs.ensures in
    let v = kept_again w (λ ts. ts ++ output_tokens at-change-cells.result a.outputs) (a.used + a.outputs.count) (le-add_right a.used a.outputs.count) o.1 in (
      o.0,
      kept_as v (ap (λ x. woken_by a.action (spent_at a.operands.place a.operands.other (tokens a.used a.ledger.now)) ++ output_tokens x a.outputs) e.value),
      e.cells_kept,
    )
