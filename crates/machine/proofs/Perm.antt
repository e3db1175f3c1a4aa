-- Two lists of tokens with different keys in which each key finds the same are permutations of each other.
-- Assumes nothing.
use mathlib.Core.Path.{◌≡◌, refl, sym, ap, subst, ◌∙◌}
use mathlib.Core.List.Permᴰ
use mathlib.Core.List.{[], ◌∷◌, Permᴰ}
use mathlib.Core.Option.{none, some}
use Rattle.machine.specs.Machine.{when, Key, Token, Machine, Ledger, same_key, find}
use Rattle.machine.specs.Orders.{Distinct}
use Rattle.machine.proofs.View.{when_yes, when_no, none_some}
use Rattle.machine.proofs.Store.{find_head}

module _ (M : Machine) where
  remove : Key M.Tag → Ledger M → Ledger M
  remove k [] = []
  remove k (y ∷ ys) = when (same_key M k y.key) ys (y ∷ remove k ys)

  token_path : (x y : Token M.Tag M.Value) → x.key ≡ y.key → some y.content ≡ some x.content → x ≡ y
  token_path x y p q = go (cc)
    where
      go : x.content ≡ y.content → x ≡ y
      go e = λ i. record { key = p i; content = e i }

  perm_remove : (x : Token M.Tag M.Value) (m : Ledger M) → find M x.key m ≡ some x.content → Permᴰ (x ∷ remove x.key m) m
  unfolding remove
  perm_remove x [] e = none_some e
  perm_remove x (y ∷ ys) e = go (same_key M x.key y.key) (λ h. perm_remove x ys h) e
    where
      go : (d : Dec (x.key ≡ y.key)) → (find M x.key ys ≡ some x.content → Permᴰ (x ∷ remove x.key ys) ys)
          → when d (some y.content) (find M x.key ys) ≡ some x.content → Permᴰ (x ∷ when d ys (y ∷ remove x.key ys)) (y ∷ ys)
      go (yes p) rec h = Permᴰ.cons (token_path x y p h) (Permᴰ.refl ys)
      go (no n) rec h = Permᴰ.trans (Permᴰ.swap refl refl) (Permᴰ.cons refl (rec h))

  find_else : (k j : Key M.Tag) (m : Ledger M) → ¬ (k ≡ j) → find M j (remove k m) ≡ find M j m
  unfolding remove
  find_else k j [] ne = refl
  find_else k j (y ∷ ys) ne = go (same_key M k y.key) (same_key M j y.key) (find_else k j ys ne)
    where
      go : Dec (k ≡ y.key) → Dec (j ≡ y.key) → find M j (remove k ys) ≡ find M j ys → find M j (when (same_key M k y.key) ys (y ∷ remove k ys)) ≡ find M j (y ∷ ys)
      go (yes p) (yes q) h = absurd (ne (p ∙ sym q))
      go (yes p) (no n) h = rw (when_yes (same_key M k y.key) ys (y ∷ remove k ys) p) (sym (when_no (same_key M j y.key) _ _ n))
      go (no n) d h = rw (when_no (same_key M k y.key) ys (y ∷ remove k ys) n) (ap (when (same_key M j y.key) (some y.content)) h)

  find_gone : (k : Key M.Tag) (m : Ledger M) → Distinct M m → find M k (remove k m) ≡ none
  unfolding remove
  find_gone k [] ds = refl
  find_gone k (y ∷ ys) ds = go (same_key M k y.key) (find_gone k ys ds.1)
    where
      go : Dec (k ≡ y.key) → find M k (remove k ys) ≡ none → find M k (when (same_key M k y.key) ys (y ∷ remove k ys)) ≡ none
      go (yes p) h = rw (when_yes (same_key M k y.key) ys (y ∷ remove k ys) p, p) ds.0
      go (no n) h = rw (when_no (same_key M k y.key) ys (y ∷ remove k ys) n) (when_no (same_key M k y.key) _ _ n ∙ h)

  find_none : (k j : Key M.Tag) (m : Ledger M) → Distinct M m → find M j m ≡ none → find M j (remove k m) ≡ none
  find_none k j m ds e = go (same_key M k j)
    where
      go : Dec (k ≡ j) → find M j (remove k m) ≡ none
      go (yes p) = subst (λ i. find M i (remove k m) ≡ none) p (find_gone k m ds)
      go (no n) = find_else k j m n ∙ e

  distinct_remove : (k : Key M.Tag) (m : Ledger M) → Distinct M m → Distinct M (remove k m)
  unfolding remove
  distinct_remove k [] ds = tt
  distinct_remove k (y ∷ ys) ds = go (same_key M k y.key) (distinct_remove k ys ds.1)
    where
      go : (d : Dec (k ≡ y.key)) → Distinct M (remove k ys) → Distinct M (when d ys (y ∷ remove k ys))
      go (yes p) h = ds.1
      go (no n) h = (find_none k y.key ys ds.1 ds.0, h)

  pub perm_of : (l m : Ledger M) → Distinct M l → Distinct M m → ((k : Key M.Tag) → find M k l ≡ find M k m) → Permᴰ l m
  perm_of [] [] dl dm h = Permᴰ.nil
  perm_of [] (y ∷ ys) dl dm h = none_some (h y.key ∙ find_head M y ys)
  perm_of (x ∷ xs) m dl dm h = Permᴰ.trans (Permᴰ.cons refl (perm_of xs (remove x.key m) dl.1 (distinct_remove x.key m dm) rest))
      (perm_remove x m (sym (h x.key) ∙ find_head M x xs))
    where
      rest : (j : Key M.Tag) → find M j xs ≡ find M j (remove x.key m)
      rest j = go (same_key M j x.key)
        where
          go : Dec (j ≡ x.key) → find M j xs ≡ find M j (remove x.key m)
          go (yes p) = rw p (dl.0 ∙ sym (find_gone x.key m dm))
          go (no n) = sym (when_no (same_key M j x.key) _ _ n) ∙ h j ∙ sym (find_else x.key j m (λ q. n (sym q)))
