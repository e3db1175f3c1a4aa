-- Laws of a search from the front of a list. Assumes nothing.
use Prim.Native.Nat.{ℕ, zero, suc, ◌-◌, ◌*◌, ◌≤◌, ◌<◌}
use mathlib.Core.Path.{◌≡◌, refl, sym, ap, ◌∙◌}
use mathlib.Core.Bool.{Bool, true, false, cond}
use mathlib.Core.List.{List, [], ◌∷◌, ◌++◌, map}
use native.Mathlib.Omega.{arith}
use native.Mathlib.Nat.{le_of_suc-le-suc}
use lib.ListN.{length, get_or, set, drop, drop_of_length-le}
use lib.Seq.{drop-cons}
use Rattle.buffer.specs.Rows.{rows, All}
use Rattle.buffer.proofs.Tables.{get_d_rows, length_rows}
use Rattle.std.specs.Prelude.{Option, Some, None, is_some}
use Rattle.store_chains.specs.Search.{first_from, found_of, FoundWithin}

pub found_some : (n : ℕ) → (n ≡ 0 → ⊥) → Some (n - 1) ≡ found_of n
found_some zero h = absurd (h refl)
found_some (suc n) h = ap Some (omega arith)

-- ---- a search that starts one place later

abbrev pub shift : Option ℕ → Option ℕ
shift (Some i) = Some (suc i)
shift None = None

module _ {A : Type 0} (p : A → Bool) where
  first_shift : (i : ℕ) (ts : List A) → first_from p (suc i) ts ≡ shift (first_from p i ts)
  first_shift i [] = refl
  first_shift i (t ∷ ts) = go (p t) (first_shift (suc i) ts)
    where
      go : (b : Bool) → first_from p (suc (suc i)) ts ≡ shift (first_from p (suc i) ts)
          → cond b (Some (suc i)) (first_from p (suc (suc i)) ts) ≡ shift (cond b (Some i) (first_from p (suc i) ts))
      go true ih = refl
      go false ih = ih

  pub first_cons : (t : A) (ts : List A) → first_from p 0 (t ∷ ts) ≡ cond (p t) (Some 0) (shift (first_from p 0 ts))
  first_cons t ts = rw (first_shift 0 ts)

  pub first_within_lem : (ts : List A) → FoundWithin (first_from p 0 ts) (length ts)
  first_within_lem [] = tt
  first_within_lem (t ∷ ts) = rw (first_cons t ts) (go (p t) (first_from p 0 ts) (first_within_lem ts))
    where
      go : (b : Bool) (f : Option ℕ) → FoundWithin f (length ts) → FoundWithin (cond b (Some 0) (shift f)) (suc (length ts))
      go true f w = omega arith
      go false (Some i) w = omega arith
      go false None w = tt

-- what was found passes, and where nothing was found nothing does
module _ {A : Type 0} (p : A → Bool) where
  pub first_passes : (d : A) (ts : List A) (i : ℕ) → first_from p 0 ts ≡ Some i → p (get_or ts i d) ≡ true
  first_passes d [] i e = let z : ◌≡◌ {A = ℕ} 0 1 = cc in absurd (omega arith)
  first_passes d (t ∷ ts) i e = go (p t) refl (first_from p 0 ts) (λ j g. first_passes d ts j g) i (rw (first_cons p t ts) at e)
    where
      go : (b : Bool) → p t ≡ b → (f : Option ℕ) → ((j : ℕ) → f ≡ Some j → p (get_or ts j d) ≡ true) → (i : ℕ) → cond b (Some 0) (shift f) ≡ Some i → p (get_or (t ∷ ts) i d) ≡ true
      go true q f ih i e = let z : i ≡ 0 = cc in rw z q
      go false q (Some j) ih i e = let z : i ≡ suc j = cc in rw z (ih j refl)
      go false q None ih i e = let z : ◌≡◌ {A = ℕ} 0 1 = cc in absurd (omega arith)

  pub first_none : (ts : List A) → first_from p 0 ts ≡ None → All (λ (t : A). p t ≡ false) ts
  first_none [] e = tt
  first_none (t ∷ ts) e = go (p t) refl (first_from p 0 ts) (λ g. first_none ts g) (rw (first_cons p t ts) at e)
    where
      go : (b : Bool) → p t ≡ b → (f : Option ℕ) → (f ≡ None → All (λ (x : A). p x ≡ false) ts) → cond b (Some 0) (shift f) ≡ None → (p t ≡ false) × All (λ (x : A). p x ≡ false) ts
      go true q f ih e = let z : ◌≡◌ {A = ℕ} 0 1 = cc in absurd (omega arith)
      go false q (Some j) ih e = let z : ◌≡◌ {A = ℕ} 0 1 = cc in absurd (omega arith)
      go false q None ih e = (q, ih refl)

  -- the first that passes is added at the end
  pub first_added : (t : A) (ts : List A) → first_from p 0 ts ≡ None → p t ≡ true → first_from p 0 (ts ++ t ∷ []) ≡ Some (length ts)
  first_added t [] e h = rw h
  first_added t (x ∷ ts) e h = rw (first_cons p x (ts ++ t ∷ [])) (go (p x) (first_from p 0 ts) (λ g. first_added t ts g h) (rw (first_cons p x ts) at e))
    where
      go : (b : Bool) (f : Option ℕ) → (f ≡ None → first_from p 0 (ts ++ t ∷ []) ≡ Some (length ts)) → cond b (Some 0) (shift f) ≡ None
          → cond b (Some 0) (shift (first_from p 0 (ts ++ t ∷ []))) ≡ Some (suc (length ts))
      go true f ih e = let z : ◌≡◌ {A = ℕ} 0 1 = cc in absurd (omega arith)
      go false (Some j) ih e = let z : ◌≡◌ {A = ℕ} 0 1 = cc in absurd (omega arith)
      go false None ih e = ap shift (ih refl)

pub within_more : (f : Option ℕ) (m n : ℕ) → m ≤ n → FoundWithin f m → FoundWithin f n
within_more (Some i) m n h w = omega arith
within_more None m n h w = tt

-- ---- a search of records

module _ {A : Type 0} (w : ℕ) (dec : List ℕ → A) (p : A → Bool) (n i : ℕ) (l : List ℕ) where
  pub first_step : i < n → first_from p i (drop i (rows w dec n l)) ≡ cond (p (dec (drop (i * w) l))) (Some i) (first_from p (suc i) (drop (suc i) (rows w dec n l)))
  first_step h =
      let d = dec (drop (i * w) l) in
      let k : i < length (rows w dec n l) = rw (length_rows w dec n l) h in
      rw (drop-cons (rows w dec n l) i d k, get_d_rows w dec n i l d h)

  pub first_end : n ≤ i → first_from p i (drop i (rows w dec n l)) ≡ None
  first_end h =
      let k : length (rows w dec n l) ≤ i = rw (length_rows w dec n l) h in
      rw (drop_of_length-le (rows w dec n l) k)

-- what was found is found with more behind it
pub first_kept_lem : {A : Type 0} (p : A → Bool) (ts us : List A) (n i : ℕ) → first_from p n ts ≡ Some i → first_from p n (ts ++ us) ≡ Some i
first_kept_lem p [] us n i e = let z : ◌≡◌ {A = ℕ} 0 1 = cc in absurd (omega arith)
first_kept_lem p (t ∷ ts) us n i e = go (p t) e (first_kept_lem p ts us (suc n) i)
  where
    go : (b : Bool) → cond b (Some n) (first_from p (suc n) ts) ≡ Some i → (first_from p (suc n) ts ≡ Some i → first_from p (suc n) (ts ++ us) ≡ Some i)
        → cond b (Some n) (first_from p (suc n) (ts ++ us)) ≡ Some i
    go true e later = e
    go false e later = later e

-- one is replaced by another that passes or fails alike
pub first_set : {A : Type 0} (p : A → Bool) (ts : List A) (i : ℕ) (u d : A) → p u ≡ p (get_or ts i d) → (n : ℕ) → first_from p n (set ts i u) ≡ first_from p n ts
first_set p [] i u d h n = refl
first_set p (t ∷ ts) zero u d h n = rw h
first_set p (t ∷ ts) (suc i) u d h n = rw (first_set p ts i u d h (suc n))

-- each is replaced by another that passes or fails alike
pub first_map : {A : Type 0} (p : A → Bool) (f : A → A) → ((t : A) → p (f t) ≡ p t) → (ts : List A) (n : ℕ) → first_from p n (map f ts) ≡ first_from p n ts
first_map p f h [] n = refl
first_map p f h (t ∷ ts) n = rw (h t, first_map p f h ts (suc n))

-- none passes, and one that fails is added at the end
pub first_none_added : {A : Type 0} (p : A → Bool) (ts : List A) (u : A) (n : ℕ) → first_from p n ts ≡ None → p u ≡ false → first_from p n (ts ++ u ∷ []) ≡ None
first_none_added p [] u n e h = rw h
first_none_added p (t ∷ ts) u n e h = go (p t) e (λ e. first_none_added p ts u (suc n) e h)
  where
    go : (b : Bool) → cond b (Some n) (first_from p (suc n) ts) ≡ None → (first_from p (suc n) ts ≡ None → first_from p (suc n) (ts ++ u ∷ []) ≡ None)
        → cond b (Some n) (first_from p (suc n) (ts ++ u ∷ [])) ≡ None
    go true e later = e
    go false e later = later e

-- one that fails is added at the end
pub first_past : {A : Type 0} (p : A → Bool) (ts : List A) (u : A) (n : ℕ) → p u ≡ false → first_from p n (ts ++ u ∷ []) ≡ first_from p n ts
first_past p [] u n h = rw h
first_past p (t ∷ ts) u n h = rw (first_past p ts u (suc n) h)

-- the last
pub get_d_end : {A : Type 0} (ts : List A) (t d : A) → get_or (ts ++ t ∷ []) (length ts) d ≡ t
get_d_end [] t d = refl
get_d_end (x ∷ ts) t d = get_d_end ts t d

-- what holds of all holds of each
pub all_at : {A : Type 0} (P : A → Type 0) (ts : List A) (i : ℕ) (d : A) → i < length ts → All P ts → P (get_or ts i d)
all_at P [] i d h w = absurd (omega arith)
all_at P (x ∷ ts) zero d h w = w.0
all_at P (x ∷ ts) (suc i) d h w = all_at P ts i d (le_of_suc-le-suc h) w.1

-- one passes, so one is found
pub first_some : {A : Type 0} (p : A → Bool) (d : A) (ts : List A) (i : ℕ) → i < length ts → p (get_or ts i d) ≡ true → is_some (first_from p 0 ts) ≡ true
first_some {A} p d ts i h e = go (first_from p 0 ts) refl
  where
    go : (f : Option ℕ) → first_from p 0 ts ≡ f → is_some f ≡ true
    go (Some j) q = refl
    go None q = sym (all_at (λ (t : A). p t ≡ false) ts i d h (first_none p ts q)) ∙ e
