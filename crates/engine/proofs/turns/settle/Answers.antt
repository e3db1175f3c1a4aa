-- `engine::turns::settle` meets its contract. Assumes nothing.
use Prim.Native.Nat.{ℕ}
use mathlib.Core.Path.{◌≡◌, refl, sym, ap, ◌∙◌}
use mathlib.Core.List.{List}
use lib.ListN.{length}
use Rattle.store_flags.specs.Flags.{places}
use Rattle.engine.specs.Turns.{rests_there, as_it_was}
use Rattle.engine.proofs.turns.settle.Goals as goal

-- none is free
free_count : {free l : List ℕ} {e : ℕ} → free ≡ l → e ≡ length (places free) → e ≡ length (places l)
free_count h d = d ∙ ap (λ (l : List ℕ). length (places l)) h

pub new-requires : goal.new-requires
new-requires c = c.requires.0

pub ending-outcome-requires : goal.ending-outcome-requires
ending-outcome-requires c = c.requires.1

pub returns-then-count-eq0 : goal.returns-then-count-eq0
returns-then-count-eq0 c = rests_there (sym (free_count c.new.ensures c.count.ensures) ∙ c.if-count-eq0.true) _ c.ending-outcome.ensures c.answered.ensures

pub returns : goal.returns
returns c = as_it_was (λ z. c.if-count-eq0.false (free_count c.new.ensures c.count.ensures ∙ z)) refl
