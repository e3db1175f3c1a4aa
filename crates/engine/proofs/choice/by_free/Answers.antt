-- `engine::choice::by_free` meets its contract. Assumes nothing.
use mathlib.Core.Path.{◌≡◌, refl, sym, ap, subst, ◌∙◌}
use mathlib.Core.List.{List, [], ◌∷◌}
use Prim.Native.Nat.{ℕ, ◌%◌, ◌<◌}
use native.Mathlib.Omega.{arith}
use native.Mathlib.Nat.{mod-lt}
use borrow.Author.Rules.{rules}
use lib.ListN.{length, get_or}
use Rattle.store_flags.specs.Flags.{places, minus}
use Rattle.store.proofs.Laws.{matching_room}
use Rattle.rules.specs.Run.{picks_of}
use Rattle.engine.specs.declared.choice.Order.TheVariants.{Free}
use Rattle.engine.specs.Turns.{ChosenAs}
use Rattle.engine.proofs.Bounding.{free_none, free_there}
use Rattle.engine.proofs.choice.by_free.Goals as goal

numbered : (free picks : List ℕ) (f place pick e number : ℕ) → e ≡ length free → pick ≡ get_or picks f 0 → number ≡ pick % e → place ≡ get_or free number 0 → place ≡ get_or free (get_or picks f 0 % length free) 0
numbered free picks f place pick e number a b c d = d ∙ ap (λ (n : ℕ). get_or free n 0) (c ∙ (λ i. b i % a i))

free_count : {free l : List ℕ} {e : ℕ} → free ≡ l → e ≡ length (places free) → e ≡ length (places l)
free_count h d = d ∙ ap (λ (l : List ℕ). length (places l)) h

none_lent : (picks : List ℕ) → length picks ≡ 0 → [] ≡ picks
none_lent [] h = refl
none_lent (x ∷ l) h = absurd (omega arith)

pub first_free-requires : goal.first_free-requires
unfolding picks_of
first_free-requires c = (c.requires.0, c.requires.1)

pub returns-then-picks-eq0 : goal.returns-then-picks-eq0
unfolding picks_of
returns-then-picks-eq0 c =
    λ bound.
    let a = c.args in
    subst (λ (picks : List ℕ). ChosenAs c.first_free.result (Free bound) picks a.firings a.tables.now a.flags.now a.held.now a.ledger.now a.used) (none_lent a.picks.now c.if-picks-eq0.true) (c.first_free.ensures bound a.firings)

pub new-requires : goal.new-requires
new-requires c = c.requires.1

pub ending-requires : goal.ending-requires
unfolding picks_of
ending-requires c = matching_room c.requires.0.matching

pub returns-then-e-eq0 : goal.returns-then-e-eq0
unfolding picks_of
returns-then-e-eq0 c =
    λ bound g right arrived back table capacity count cs.
    free_none c.args.tables.now c.args.ledger.now c.args.used g right arrived table capacity count cs c.requires.0.links c.args.flags.now c.args.held.now c.requires.0.matching bound back (picks_of c.args.picks.now) c.args.firings
    (sym (free_count c.new.ensures c.count-e.ensures) ∙ c.if-e-eq0.true) _ c.ending.ensures

pub pick_at-requires : goal.pick_at-requires
unfolding picks_of
pick_at-requires c = search rules

pub number_of-number-requires : goal.number_of-number-requires
unfolding picks_of
number_of-number-requires c = search rules

pub free_at-requires : goal.free_at-requires
unfolding picks_of
free_at-requires c =
    let low : c.number_of-number.result < c.count-e.result = rw c.number_of-number.ensures (mod-lt c.pick_at.result (omega (arith, c.if-e-eq0.false))) in
    (c.requires.1, subst (λ (k : ℕ). c.number_of-number.result < k) (free_count c.new.ensures c.count-e.ensures) low)

pub returns : goal.returns
unfolding picks_of
returns c =
    λ bound g right arrived back table capacity count cs.
    free_there c.args.tables.now c.args.ledger.now c.args.used g right arrived table capacity count cs c.requires.0.links c.args.flags.now c.args.held.now c.requires.0.matching bound back (picks_of c.args.picks.now) c.args.firings _
    (λ z. c.if-e-eq0.false (free_count c.new.ensures c.count-e.ensures ∙ z))
    (numbered (places (minus c.args.flags.now c.args.held.now)) (picks_of c.args.picks.now) c.args.firings _ _ _ _ (free_count c.new.ensures c.count-e.ensures) c.pick_at.ensures.0 c.number_of-number.ensures c.free_at.ensures)
