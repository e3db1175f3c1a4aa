-- `engine::choice::first_free` meets its contract: without picks each is 0. Assumes nothing.
use mathlib.Core.Path.{◌≡◌, sym, ap, ◌∙◌}
use mathlib.Core.List.{List, []}
use Prim.Native.Nat.{ℕ, ◌%◌, ◌<◌}
use native.Mathlib.Omega.{arith}
use native.Mathlib.Nat.{mod-eq_of_lt}
use lib.ListN.{length, get_or}
use Rattle.store_flags.specs.Flags.{places, minus, FirstIn}
use Rattle.store.proofs.Laws.{matching_room}
use Rattle.rules.specs.Run.{picks_of}
use Rattle.engine.proofs.Bounding.{free_none, free_there}
use Rattle.engine.proofs.choice.first_free.Goals as goal

numbered : (free : List ℕ) (f place : ℕ) → 0 < length free → place ≡ get_or free 0 0 → place ≡ get_or free (get_or (picks_of []) f 0 % length free) 0
unfolding picks_of
numbered free f place some e = e ∙ ap (λ (n : ℕ). get_or free n 0) (sym (mod-eq_of_lt some))

pub new-requires : goal.new-requires
new-requires c = c.requires.1

pub ending-requires : goal.ending-requires
ending-requires c = matching_room c.requires.0.matching

pub returns-in-Some : goal.returns-in-Some
returns-in-Some c =
    λ bound f g right arrived back table capacity count cs.
    let free = places (minus c.args.flags.now c.args.held.now) in
    let there : FirstIn (minus c.args.flags.now c.args.held.now) c.in-Some.place = rw c.new.ensures at c.in-Some.ensures in
    free_there c.args.tables.now c.args.ledger.now c.args.used g right arrived table capacity count cs c.requires.0.links c.args.flags.now c.args.held.now c.requires.0.matching bound back (picks_of []) f _
    (λ z. omega (arith, there.some)) (numbered free f _ there.some there.first)

pub returns-in-None : goal.returns-in-None
returns-in-None c =
    λ bound f g right arrived back table capacity count cs.
    free_none c.args.tables.now c.args.ledger.now c.args.used g right arrived table capacity count cs c.requires.0.links c.args.flags.now c.args.held.now c.requires.0.matching bound back (picks_of []) f
    (rw c.new.ensures at c.in-None.ensures) _ c.ending.ensures
