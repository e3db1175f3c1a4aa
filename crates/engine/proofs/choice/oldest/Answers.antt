-- `engine::choice::oldest` meets its contract. Assumes nothing.
use mathlib.Core.Path.{refl, sym, ap, ◌∙◌}
use mathlib.Core.List.{[]}
use native.Mathlib.Omega.{arith}
use native.Mathlib.Nat.{mod-eq_of_lt}
use borrow.Author.Tests.{eqb-true, eqb-false}
use lib.ListN.{length}
use Rattle.store_flags.specs.Flags.{places}
use Rattle.store.proofs.Laws.{matching_places, matching_room}
use Rattle.engine.proofs.Choosing.{pick_none, pick_number, pick_there}
use Rattle.engine.proofs.choice.oldest.Goals as goal

pub ending-requires : goal.ending-requires
ending-requires c = matching_room c.requires.matching

pub enabled_at-requires : goal.enabled_at-requires
enabled_at-requires c =
    let e = c.is_empty.ensures.value in
    omega (arith, eqb-false (length (places c.args.flags.now)) 0 (sym e ∙ c.if-is_empty.false))

pub returns-then-is_empty : goal.returns-then-is_empty
returns-then-is_empty c =
    λ flags held g right arrived back table capacity count cs.
    let none = eqb-true (length (places c.args.flags.now)) 0 (sym c.is_empty.ensures.value ∙ c.if-is_empty.true) in
    pick_none c.args.tables.now c.args.ledger.now c.args.used g right arrived table capacity count cs [] 0
    (sym (ap length (matching_places c.requires.matching)) ∙ none) _ c.ending.ensures

pub returns-else-is_empty : goal.returns-else-is_empty
returns-else-is_empty c =
    λ flags held g right arrived back table capacity count cs.
    let m = c.requires.matching in
    let some = eqb-false (length (places c.args.flags.now)) 0 (sym c.is_empty.ensures.value ∙ c.if-is_empty.false) in
    pick_there c.args.tables.now c.args.ledger.now c.args.used g right arrived table capacity count cs [] 0 m _
    (λ z. some (ap length (matching_places m) ∙ z))
    (pick_number m [] 0 _ 0 0 _ refl refl (sym (mod-eq_of_lt (omega (arith, some)))) c.enabled_at.ensures.0)
