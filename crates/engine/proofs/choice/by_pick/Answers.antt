-- `engine::choice::by_pick` meets its contract. Assumes nothing.
use mathlib.Core.Path.{sym, ap, subst, ◌∙◌}
use Prim.Native.Nat.{ℕ, ◌<◌}
use native.Mathlib.Omega.{arith}
use native.Mathlib.Nat.{mod-lt}
use borrow.Author.Rules.{rules}
use lib.ListN.{length}
use Rattle.store.proofs.Laws.{matching_places, matching_room}
use Rattle.rules.specs.Run.{picks_of}
use Rattle.engine.proofs.Choosing.{pick_none, pick_number, pick_there}
use Rattle.engine.proofs.choice.by_pick.Goals as goal

pub ending-requires : goal.ending-requires
unfolding picks_of
ending-requires c = matching_room c.requires.matching

pub returns-then-e-eq0 : goal.returns-then-e-eq0
unfolding picks_of
returns-then-e-eq0 c =
    λ flags held g right arrived back table capacity count cs.
    pick_none c.args.tables.now c.args.ledger.now c.args.used g right arrived table capacity count cs (picks_of c.args.picks.now) c.args.firings
    (sym (c.enabled_count-e.ensures ∙ ap length (matching_places c.requires.matching)) ∙ c.if-e-eq0.true) _ c.ending.ensures

pub enabled_at-requires : goal.enabled_at-requires
unfolding picks_of
enabled_at-requires c =
    let low : c.number_of-number.result < c.enabled_count-e.result = rw c.number_of-number.ensures (mod-lt c.pick_at.result (omega (arith, c.if-e-eq0.false))) in
    subst (λ (k : ℕ). c.number_of-number.result < k) c.enabled_count-e.ensures low

pub returns : goal.returns
unfolding picks_of
returns c =
    λ flags held g right arrived back table capacity count cs.
    let m = c.requires.matching in
    pick_there c.args.tables.now c.args.ledger.now c.args.used g right arrived table capacity count cs (picks_of c.args.picks.now) c.args.firings m _
    (λ z. c.if-e-eq0.false (c.enabled_count-e.ensures ∙ ap length (matching_places m) ∙ z))
    (pick_number m (picks_of c.args.picks.now) c.args.firings _ _ _ _ c.enabled_count-e.ensures c.pick_at.ensures.0 c.number_of-number.ensures c.enabled_at.ensures.0)
