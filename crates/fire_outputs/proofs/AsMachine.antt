-- What a firing writes, joined with the machine: outputs, cells, and tokens that a write wakes. Assumes nothing.
use Prim.Native.Nat.{ℕ, zero, suc}
use native.Mathlib.Decide.{ℕ_discrete}
use mathlib.Core.Path.{◌≡◌, refl, sym, ap, ◌∙◌}
use mathlib.Core.Bool.{Bool, cond}
use mathlib.Core.List.{List, [], ◌∷◌, map}
use lib.ListN.{get_or, set}
use lib.Dec.{eqb}
use lib.IntN.{ℤ}
use borrow.Author.Tests.{eq-eqb, ne_eqb}
use Rattle.record.specs.declared.token.Token as Record
use Rattle.record.specs.declared.token.Content as RecordContent
use Rattle.record.specs.declared.token.Content.TheVariants.{Live, Spent, Deferred}
use Rattle.record.specs.declared.cell.Cell as RecordCell
use Rattle.record.specs.declared.cell.Cell.TheVariants.{Absent, Waiting, Present}
use Rattle.store_chains.specs.Deferred.{content_woken, woken}
use Rattle.machine.specs.Machine.{live, deferred, when, changed, output, fill, cell_at, cell_read, content_read}
use Rattle.rules.specs.Run.{content_held, token_held}
use Rattle.fire_effect.specs.declared.output.Outputs.{Outputs}
use Rattle.fire_effect.specs.declared.output.Key as EffectKey
use Rattle.fire_effect.specs.Effects.{keys_held, output_keys}
use Rattle.abstraction.specs.States.{cell_held}
use Rattle.fire_outputs.specs.Outputs.{outputs_by, output_tokens, cell_fetched, content_fetched}
use Rattle.fire_outputs.proofs.Spent.{map_map, map_same}

-- ---- outputs

outputs_by_lem : (n : ℕ) (j k : EffectKey.Key) (x : RecordContent.Content) → map (output (content_held x)) (keys_held n j k) ≡ map token_held (outputs_by n j k x)
outputs_by_lem zero j k x = refl
outputs_by_lem (suc zero) j k x = refl
outputs_by_lem (suc (suc n)) j k x = refl

pub outputs_held : (o : Outputs) (x : RecordContent.Content) → map (output (content_held x)) (output_keys o) ≡ map token_held (output_tokens x o)
outputs_held o x = outputs_by_lem o.count o.first o.second x

-- ---- tokens that wake

woken_content : (c : ℕ) (v : ℤ) (x : RecordContent.Content) → fill c v (content_held x) ≡ content_held (content_woken c v x)
woken_content c v (Live w) = refl
woken_content c v (Spent w) = refl
woken_content c v (Deferred n) = go (ℕ_discrete n c)
  where
    go : (d : Dec (n ≡ c)) → when d (live v) (deferred n) ≡ content_held (cond (eqb n c) (Live v) (Deferred n))
    go (yes p) = sym (ap (λ (b : Bool). content_held (cond b (Live v) (Deferred n))) (eq-eqb n c p))
    go (no q) = sym (ap (λ (b : Bool). content_held (cond b (Live v) (Deferred n))) (ne_eqb n c q))

pub woken_held : (c : ℕ) (v : ℤ) (ts : List Record.Token) → map (changed (λ k x. fill c v x)) (map token_held ts) ≡ map token_held (map (woken c v) ts)
woken_held c v ts =
    map_map (changed (λ k x. fill c v x)) token_held ts
    ∙ map_same _ _ (λ t. ap (λ x. record { key = (token_held t).key; content = x }) (woken_content c v t.content)) ts
    ∙ sym (map_map token_held (woken c v) ts)

-- ---- cells

pub cell_held_lem : (cs : List RecordCell.Cell) (c : ℕ) → cell_at (map cell_held cs) c ≡ cell_held (get_or cs c Absent)
cell_held_lem [] c = refl
cell_held_lem (x ∷ cs) zero = refl
cell_held_lem (x ∷ cs) (suc c) = cell_held_lem cs c

pub set_held : (cs : List RecordCell.Cell) (c : ℕ) (x : RecordCell.Cell) → set (map cell_held cs) c (cell_held x) ≡ map cell_held (set cs c x)
set_held [] c x = refl
set_held (y ∷ cs) zero x = refl
set_held (y ∷ cs) (suc c) x = ap (λ l. cell_held y ∷ l) (set_held cs c x)

pub fetched_cell : (x : RecordCell.Cell) → cell_read (cell_held x) ≡ cell_held (cell_fetched x)
fetched_cell Absent = refl
fetched_cell Waiting = refl
fetched_cell (Present v) = refl

pub fetched_content : (c : ℕ) (x : RecordCell.Cell) → content_read c (cell_held x) ≡ content_held (content_fetched c x)
fetched_content c Absent = refl
fetched_content c Waiting = refl
fetched_content c (Present v) = refl
