-- What the two stores of `link` make of all chains, those at the bucket of a token and those at its cell, and what `pair` makes of them. Assumes nothing.
use Prim.Native.Nat.{ℕ, suc, ◌+◌, ◌<◌}
use mathlib.Core.Path.{◌≡◌, sym, ap}
use mathlib.Core.List.{List, [], ◌∷◌, ◌++◌}
use native.Mathlib.Omega.{arith}
use lib.ListN.{length, get_or, set}
use Rattle.record.specs.declared.token.Token.{Token}
use Rattle.store_chains.specs.Chains.{bucket_of, bucket_key, Indexed}
use Rattle.store_chains.specs.declared.Slot.{Slot}
use Rattle.store_chains.specs.Deferred.{cell_key, Waiting}
use Rattle.store_chains.specs.Partners.{Partnered, paired, Beside}
use Rattle.store_chains.proofs.Chains.{chained_before, chained_past, chained_on}
use Rattle.store_chains.proofs.Index.{bucket_low}
use Rattle.store_chains.proofs.Partners.{partnered_before, beside_before, paired_chained, partnered_append}

module _ (links : List ℕ) (t : Token) (used : ℕ) (room : used < 2048) (ts : List Token) where
  -- by tag
  module _ (b : ℕ) (e : b ≡ bucket_of t.tag) (low : b < 4096) where
    abbrev at_bucket : List ℕ
    at_bucket = set (set links (used + 4096) (get_or links b 0)) b (used + 1)

    bucket_indexed : length ts ≡ used → Indexed links ts → Indexed at_bucket (ts ++ t ∷ [])
    bucket_indexed len w = let here : b + 0 ≡ b = omega arith in rw here at (chained_on 0 4096 bucket_key links ts w t used len room b low (ap suc (sym e)))

    bucket_waiting : Waiting links ts → Waiting at_bucket ts
    bucket_waiting w =
        let x = get_or links b 0 in
        chained_before 6144 1024 cell_key (set links (used + 4096) x) ts (chained_before 6144 1024 cell_key links ts w (used + 4096) x (omega arith)) b (used + 1) (omega arith)

    bucket_beside : (s : Slot) → Beside links ts t s → Beside at_bucket ts t s
    bucket_beside s w =
        let x = get_or links b 0 in
        beside_before (set links (used + 4096) x) ts t s (beside_before links ts t s w (used + 4096) x (omega arith)) b (used + 1) (omega arith)

  -- in its slot: by tag, and beside its partner
  module _ (s : Slot) (e : s.bucket ≡ bucket_of t.tag) (l₁ l₂ : List ℕ) (linked : l₁ ≡ set (set links (used + 4096) (get_or links s.bucket 0)) s.bucket (used + 1)) (beside : l₂ ≡ paired l₁ used s.partner) where
    low : s.bucket < 4096
    low = rw e (bucket_low t.tag)

    pub slot_indexed : length ts ≡ used → Indexed links ts → Indexed l₂ (ts ++ t ∷ [])
    slot_indexed len w = rw (beside, linked) (paired_chained _ used 0 4096 bucket_key (ts ++ t ∷ []) (omega arith) (bucket_indexed s.bucket e low len w) s.partner)

    pub slot_waiting : Waiting links ts → Waiting l₂ ts
    slot_waiting w = rw (beside, linked) (paired_chained _ used 6144 1024 cell_key ts (omega arith) (bucket_waiting s.bucket e low w) s.partner)

    pub slot_partnered : length ts ≡ used → Beside links ts t s → Partnered l₂ (ts ++ t ∷ [])
    slot_partnered len w = rw (beside, linked) (partnered_append _ ts t used len room s (bucket_beside s.bucket e low s w))

  -- by cell
  module _ (cell : ℕ) (low : cell < 1024) where
    abbrev at_cell : List ℕ
    at_cell = set (set links (used + 7168) (get_or links (cell + 6144) 0)) (cell + 6144) (used + 1)

    pub cell_indexed : Indexed links ts → Indexed at_cell ts
    cell_indexed w =
        let x = get_or links (cell + 6144) 0 in
        chained_past 0 4096 bucket_key (set links (used + 7168) x) ts (chained_past 0 4096 bucket_key links ts w (used + 7168) x (omega arith)) (cell + 6144) (used + 1) (omega arith)

    pub cell_waiting : length ts ≡ used → cell_key t ≡ suc cell → Waiting links ts → Waiting at_cell (ts ++ t ∷ [])
    cell_waiting len e w = chained_on 6144 1024 cell_key links ts w t used len room cell low e

    pub cell_partnered : Partnered links ts → Partnered at_cell ts
    cell_partnered w =
        let x = get_or links (cell + 6144) 0 in
        partnered_before (set links (used + 7168) x) ts (partnered_before links ts w (used + 7168) x (omega arith)) (cell + 6144) (used + 1) (omega arith)
