-- Laws of the chains of deferred tokens: a walk along that of a cell wakes every token deferred on it. Assumes nothing.
use Prim.Native.Nat.{ℕ, zero, suc, ◌+◌, ◌≤◌, ◌<◌}
use mathlib.Core.Path.{◌≡◌, refl, sym, ap, ◌∙◌}
use mathlib.Core.Bool.{Bool, true, false, not, ◌||◌, cond}
use mathlib.Core.List.{List, [], ◌∷◌, ◌++◌, map, append_assoc, append-nil}
use native.Mathlib.Omega.{arith}
use native.Mathlib.Nat.{not-suc-le-zero, le_of_suc-le-suc, le_of_lt}
use lib.Dec.{eqb}
use lib.IntN.{ℤ}
use lib.ListN.{length, get_or, set, take, drop, length-set, length-map, get_or-append}
use lib.Seq.{get_or-set_same, get_or-set_other, take-suc, drop-cons, length-take-le, set_at, get_or-take, take-length, drop-length}
use borrow.Author.Tests.{eqb-true, eqb-false, eq-eqb, ne_eqb}
use Rattle.record.specs.declared.token.Token.{Token}
use Rattle.record.specs.declared.token.Content.{Content}
use Rattle.record.specs.declared.token.Content.TheVariants.{Live, Spent, Deferred}
use Rattle.std.specs.Prelude.{is_some}
use Rattle.store_chains.specs.Search.{found_of}
use Rattle.store_chains.specs.Chains.{last_below, part, Linked, Chained}
use Rattle.store_chains.specs.Deferred.{chain_of, cell_key, any_on, Waiting, content_woken, woken}
use Rattle.store_chains.proofs.Parts.{part_set, part_before}
use Rattle.store_chains.proofs.Chains.{last_same, last_none, key_at_lem, walk_first, on_first, on_key, walk_next, next_below, on_next}
use Rattle.store_chains.proofs.Walks.{On}

-- ---- a list whose elements from a place on are changed

module _ (f : Token → Token) (ts : List Token) where
  unfoldable pub above : ℕ → List Token
  above n = take n ts ++ map f (drop n ts)

  -- the next one down is changed
  above_step : (i : ℕ) (d : Token) → i < length ts → set (above (suc i)) i (f (get_or ts i d)) ≡ above i
  unfolding above
  above_step i d h =
      let k : length (take i ts) ≡ i = length-take-le i ts (le_of_lt h) in
      rw (take-suc ts i d h, append_assoc (take i ts) (get_or ts i d ∷ []) (map f (drop (suc i) ts)), drop-cons ts i d h)
      (set_at (take i ts) (get_or ts i d) (map f (drop (suc i) ts)) (f (get_or ts i d)) i k)

  above_same : (i : ℕ) (d : Token) → i < length ts → f (get_or ts i d) ≡ get_or ts i d → above (suc i) ≡ above i
  unfolding above
  above_same i d h e =
      rw (take-suc ts i d h, append_assoc (take i ts) (get_or ts i d ∷ []) (map f (drop (suc i) ts)), drop-cons ts i d h, e)

  -- what is not yet changed
  above_at : (n i : ℕ) (d : Token) → i < n → n ≤ length ts → get_or (above n) i d ≡ get_or ts i d
  unfolding above
  above_at n i d h g =
      get_or-append (take n ts) (map f (drop n ts)) d i (omega (arith, length-take-le n ts g)) ∙ get_or-take n ts i d h

  above_all : above 0 ≡ map f ts
  unfolding above
  above_all = refl

  above_none : ts ≡ above (length ts)
  unfolding above
  above_none = rw (take-length ts, drop-length ts) (sym (append-nil ts))

  -- elements of other keys stay, so they are passed
  above_skip : (b : ℕ) (ks : List ℕ) (d : Token) → ((i : ℕ) → i < length ts → (get_or ks i 0 ≡ b → ⊥) → f (get_or ts i d) ≡ get_or ts i d)
      → (n : ℕ) → n ≤ length ts → above n ≡ above (last_below b ks n)
  above_skip b ks d e zero h = refl
  above_skip b ks d e (suc n) h = go (eqb (get_or ks n 0) b) refl (above_skip b ks d e n (le_of_lt h))
    where
      go : (t : Bool) → eqb (get_or ks n 0) b ≡ t → above n ≡ above (last_below b ks n) → above (suc n) ≡ above (cond t (suc n) (last_below b ks n))
      go true q ih = refl
      go false q ih = above_same n d h (e n h (eqb-false (get_or ks n 0) b q)) ∙ ih

-- ---- keys

module _ (cell : ℕ) (v : ℤ) where
  content_other : (x : Content) → (chain_of x ≡ suc cell → ⊥) → content_woken cell v x ≡ x
  content_other (Live w) h = refl
  content_other (Spent w) h = refl
  content_other (Deferred n) h = rw (ne_eqb n cell (λ e. h (ap suc e)))

  -- a token that is not deferred on the cell stays
  woken_other : (t : Token) → (cell_key t ≡ suc cell → ⊥) → woken cell v t ≡ t
  woken_other t h = rw (content_other t.content h)

  content_own : (x : Content) → chain_of x ≡ suc cell → content_woken cell v x ≡ Live v
  content_own (Live w) e = absurd (omega arith)
  content_own (Spent w) e = absurd (omega arith)
  content_own (Deferred n) e = rw (eq-eqb n cell (omega arith))

  key_own : (x : Content) → chain_of x ≡ suc cell → chain_of (content_woken cell v x) ≡ 0
  key_own (Live w) e = refl
  key_own (Spent w) e = refl
  key_own (Deferred n) e = rw (eq-eqb n cell (omega arith))

  key_set : (ts : List Token) (i : ℕ) → i < length ts → get_or (map cell_key ts) i 0 ≡ suc cell → get_or (map cell_key (map (woken cell v) ts)) i 0 ≡ 0
  key_set [] i h e = absurd (not-suc-le-zero h)
  key_set (t ∷ ts) zero h e = key_own t.content e
  key_set (t ∷ ts) (suc i) h e = key_set ts i (le_of_suc-le-suc h) e

  key_kept : (ts : List Token) (i : ℕ) → i < length ts → (get_or (map cell_key ts) i 0 ≡ suc cell → ⊥) → get_or (map cell_key (map (woken cell v) ts)) i 0 ≡ get_or (map cell_key ts) i 0
  key_kept [] i h e = absurd (not-suc-le-zero h)
  key_kept (t ∷ ts) zero h e = ap chain_of (content_other t.content e)
  key_kept (t ∷ ts) (suc i) h e = key_kept ts i (le_of_suc-le-suc h) e

  -- ---- the walk: ts are the tokens at its start, us those now

  pub record Walk (ts us : List Token) (at : ℕ) : Type 0 where
    pub on : On cell (map cell_key ts) at
    pub low : at ≤ length ts
    pub so_far : us ≡ above (woken cell v) ts at

  passes : (ts : List Token) (d : Token) (i : ℕ) → i < length ts → (get_or (map cell_key ts) i 0 ≡ suc cell → ⊥) → woken cell v (get_or ts i d) ≡ get_or ts i d
  passes ts d i h e = woken_other (get_or ts i d) (λ q. e (key_at_lem cell_key ts i d h ∙ q))

  module _ (links : List ℕ) (ts : List Token) (d : Token) (w : Waiting links ts) (small : cell < 1024) where
    pub walk_start : Walk ts ts (get_or links (cell + 6144) 0)
    walk_start =
        let ks = map cell_key ts in
        let on = on_first 6144 1024 cell_key links ts w cell small in
        let h = walk_first 6144 1024 cell_key links ts w cell small in
        record {
          on = on;
          low = omega (arith, on.below, length-map ts cell_key);
          so_far = rw h (above_none (woken cell v) ts ∙ above_skip (woken cell v) ts (suc cell) ks d (passes ts d) (length ts) (omega arith));
        }

    pub walk_step : (us : List Token) (i : ℕ) → Walk ts us (suc i)
        → (get_or links (i + 7168) 0 < suc i) × Walk ts (set us i (woken cell v (get_or us i d))) (get_or links (i + 7168) 0)
    walk_step us i m =
        let ks = map cell_key ts in
        let g : i < length ts = m.low in
        let h = walk_next 6144 1024 cell_key links ts w cell small i m.on in
        let below = next_below 6144 1024 cell_key links ts w cell small i m.on in
        let u : get_or us i d ≡ get_or ts i d = ap (λ (q : List Token). get_or q i d) m.so_far ∙ above_at (woken cell v) ts (suc i) i d (omega arith) g in
        let s : set us i (woken cell v (get_or us i d)) ≡ above (woken cell v) ts i = rw (u, m.so_far) (above_step (woken cell v) ts i d g) in (
          omega arith,
          record {
            on = on_next 6144 1024 cell_key links ts w cell small i m.on;
            low = omega arith;
            so_far = rw h (s ∙ above_skip (woken cell v) ts (suc cell) ks d (passes ts d) i (le_of_lt g));
          },
        )

    -- the token that the walk is at is deferred on the cell
    pub walk_own : (us : List Token) (i : ℕ) → Walk ts us (suc i) → content_woken cell v (get_or us i d).content ≡ Live v
    walk_own us i m =
        let g : i < length ts = m.low in
        let u : get_or us i d ≡ get_or ts i d = ap (λ (q : List Token). get_or q i d) m.so_far ∙ above_at (woken cell v) ts (suc i) i d (omega arith) g in
        let key : cell_key (get_or ts i d) ≡ suc cell = sym (key_at_lem cell_key ts i d g) ∙ on_key 6144 1024 cell_key links ts w cell small i m.on in
        rw u (content_own (get_or ts i d).content key)

    pub walk_end : (us : List Token) → Walk ts us 0 → us ≡ map (woken cell v) ts
    walk_end us m = m.so_far ∙ above_all (woken cell v) ts

-- ---- what holds afterwards

module _ (cell : ℕ) (v : ℤ) (ts : List Token) where
  abbrev keys : List ℕ
  keys = map cell_key ts

  abbrev keys' : List ℕ
  keys' = map cell_key (map (woken cell v) ts)

  -- a key that is not the cell's is where it was
  other_key : (b i : ℕ) → i < length ts → (b ≡ suc cell → ⊥) → (b ≡ 0 → ⊥) → eqb (get_or keys' i 0) b ≡ eqb (get_or keys i 0) b
  other_key b i h p q = go (eqb (get_or keys i 0) (suc cell)) refl
    where
      go : (t : Bool) → eqb (get_or (map cell_key ts) i 0) (suc cell) ≡ t → eqb (get_or (map cell_key (map (woken cell v) ts)) i 0) b ≡ eqb (get_or (map cell_key ts) i 0) b
      go true e =
          let k = eqb-true (get_or (map cell_key ts) i 0) (suc cell) e in
          rw (key_set cell v ts i h k, k, ne_eqb 0 b (λ z. q (sym z)), ne_eqb (suc cell) b (λ z. p (sym z)))
      go false e = rw (key_kept cell v ts i h (eqb-false (get_or (map cell_key ts) i 0) (suc cell) e))

  -- the cell's key is nowhere
  own_key : (i : ℕ) → i < length ts → eqb (get_or keys' i 0) (suc cell) ≡ false
  own_key i h = go (eqb (get_or keys i 0) (suc cell)) refl
    where
      go : (t : Bool) → eqb (get_or (map cell_key ts) i 0) (suc cell) ≡ t → eqb (get_or (map cell_key (map (woken cell v) ts)) i 0) (suc cell) ≡ false
      go true e =
          let k = eqb-true (get_or (map cell_key ts) i 0) (suc cell) e in
          rw (key_set cell v ts i h k) (ne_eqb 0 (suc cell) (λ z. omega arith))
      go false e = rw (key_kept cell v ts i h (eqb-false (get_or (map cell_key ts) i 0) (suc cell) e)) e

  linked_woken : (heads next : List ℕ) → cell < 1024 → Linked 1024 heads next keys → Linked 1024 (set heads cell 0) next keys'
  linked_woken heads next low w =
      let n : length (map cell_key ts) ≡ length ts = length-map ts cell_key in
      let n' : length (map cell_key (map (woken cell v) ts)) ≡ length ts = length-map (map (woken cell v) ts) cell_key ∙ length-map ts (woken cell v) in
      record {
        head_count = length-set heads cell 0 ∙ w.head_count;
        next_count = w.next_count;
        few = omega (arith, w.few);
        first = λ c h. go c h n n' (eqb c cell) refl;
        link = λ i h k. last n n' i h k (eqb (get_or keys i 0) (suc cell)) refl;
      }
    where
      go : (c : ℕ) → c < 1024 → length (map cell_key ts) ≡ length ts → length (map cell_key (map (woken cell v) ts)) ≡ length ts → (t : Bool) → eqb c cell ≡ t
          → get_or (set heads cell 0) c 0 ≡ last_below (suc c) (map cell_key (map (woken cell v) ts)) (length (map cell_key (map (woken cell v) ts)))
      go c h n n' true e =
          rw (eqb-true c cell e, n', get_or-set_same heads cell 0 0 (omega (arith, w.head_count))) (sym (last_none (suc cell) keys' (length ts) own_key))
      go c h n n' false e =
          let x = eqb-false c cell e in
          rw (get_or-set_other heads cell c 0 0 x, n') (w.first c h ∙ rw n (sym (last_same (suc c) keys' keys (length ts) (λ i q. other_key (suc c) i q (λ z. x (omega arith)) (λ z. omega arith)))))

      last : length (map cell_key ts) ≡ length ts → length (map cell_key (map (woken cell v) ts)) ≡ length ts → (i : ℕ) → i < length (map cell_key (map (woken cell v) ts))
          → (get_or (map cell_key (map (woken cell v) ts)) i 0 ≡ 0 → ⊥) → (t : Bool) → eqb (get_or (map cell_key ts) i 0) (suc cell) ≡ t
          → get_or next i 0 ≡ last_below (get_or (map cell_key (map (woken cell v) ts)) i 0) (map cell_key (map (woken cell v) ts)) i
      last n n' i h k true e = absurd (k (key_set cell v ts i (omega arith) (eqb-true (get_or (map cell_key ts) i 0) (suc cell) e)))
      last n n' i h k false e =
          let x = eqb-false (get_or (map cell_key ts) i 0) (suc cell) e in
          let g : i < length ts = omega arith in
          let y = key_kept cell v ts i g x in
          let z : get_or (map cell_key ts) i 0 ≡ 0 → ⊥ = λ q. k (y ∙ q) in
          rw y (w.link i (omega arith) z ∙ sym (last_same (get_or (map cell_key ts) i 0) keys' keys i (λ j q. other_key (get_or (map cell_key ts) i 0) j (omega arith) x z)))

  -- the cell's chain is emptied
  pub waiting_woken : (links : List ℕ) → cell < 1024 → Waiting links ts → Waiting (set links (cell + 6144) 0) (map (woken cell v) ts)
  unfolding Chained
  waiting_woken links low w =
      rw (part_set 6144 1024 links cell 0 low, part_before 7168 2048 links (cell + 6144) 0 (omega arith))
      (linked_woken (part 6144 1024 links) (part 7168 2048 links) low w)

-- ---- a chain that is not empty

-- where no token is deferred on the cell, and where one is
none_on : (cell : ℕ) (ts : List Token) → any_on cell ts ≡ false → (i : ℕ) → i < length ts → eqb (get_or (map cell_key ts) i 0) (suc cell) ≡ false
none_on cell [] e i h = absurd (not-suc-le-zero h)
none_on cell (t ∷ ts) e i h = go (eqb (cell_key t) (suc cell)) refl e i h (λ f j k. none_on cell ts f j k)
  where
    go : (b : Bool) → eqb (cell_key t) (suc cell) ≡ b → b || any_on cell ts ≡ false → (i : ℕ) → i < suc (length ts)
        → (any_on cell ts ≡ false → (j : ℕ) → j < length ts → eqb (get_or (map cell_key ts) j 0) (suc cell) ≡ false) → eqb (get_or (map cell_key (t ∷ ts)) i 0) (suc cell) ≡ false
    go true q f j k rec = let z : ◌≡◌ {A = ℕ} 0 1 = cc in absurd (omega arith)
    go false q f zero k rec = q
    go false q f (suc j) k rec = rec f j (le_of_suc-le-suc k)

some_on : (cell : ℕ) (ts : List Token) → any_on cell ts ≡ true → (i : ℕ) × (i < length ts) × (get_or (map cell_key ts) i 0 ≡ suc cell)
some_on cell [] e = let z : ◌≡◌ {A = ℕ} 0 1 = cc in absurd (omega arith)
some_on cell (t ∷ ts) e = go (eqb (cell_key t) (suc cell)) refl e (λ h. some_on cell ts h)
  where
    go : (b : Bool) → eqb (cell_key t) (suc cell) ≡ b → b || any_on cell ts ≡ true → (any_on cell ts ≡ true → (i : ℕ) × (i < length ts) × (get_or (map cell_key ts) i 0 ≡ suc cell))
        → (i : ℕ) × (i < length (t ∷ ts)) × (get_or (map cell_key (t ∷ ts)) i 0 ≡ suc cell)
    go true q f rec = (0, omega arith, eqb-true (cell_key t) (suc cell) q)
    go false q f rec = let (i, h, k) = rec f in (suc i, omega arith, k)

last_some : (b : ℕ) (ks : List ℕ) (n i : ℕ) → i < n → get_or ks i 0 ≡ b → 0 < last_below b ks n
last_some b ks zero i h e = absurd (omega arith)
last_some b ks (suc n) i h e = go (eqb (get_or ks n 0) b) refl (λ k. last_some b ks n i k e)
  where
    go : (t : Bool) → eqb (get_or ks n 0) b ≡ t → (i < n → 0 < last_below b ks n) → 0 < cond t (suc n) (last_below b ks n)
    go true q rec = omega arith
    go false q rec = rec (let z = eqb-false (get_or ks n 0) b q in below (eqb i n) refl z)
      where
        below : (s : Bool) → eqb i n ≡ s → (get_or ks n 0 ≡ b → ⊥) → i < n
        below true w z = absurd (z (rw (← eqb-true i n w) e))
        below false w z = omega (arith, eqb-false i n w)

pub any_on_lem : (cell : ℕ) (links : List ℕ) (ts : List Token) → Waiting links ts → cell < 1024 → is_some (found_of (get_or links (cell + 6144) 0)) ≡ any_on cell ts
any_on_lem cell links ts w small = there (get_or links (cell + 6144) 0) ∙ rw (walk_first 6144 1024 cell_key links ts w cell small) (go (any_on cell ts) refl)
  where
    there : (at : ℕ) → is_some (found_of at) ≡ not (eqb at 0)
    there zero = refl
    there (suc i) = rw (ne_eqb (suc i) 0 (λ z. omega arith))

    go : (b : Bool) → any_on cell ts ≡ b → not (eqb (last_below (suc cell) (map cell_key ts) (length ts)) 0) ≡ b
    go false e = rw (last_none (suc cell) (map cell_key ts) (length ts) (none_on cell ts e))
    go true e = let (i, h, k) = some_on cell ts e in rw (ne_eqb (last_below (suc cell) (map cell_key ts) (length ts)) 0 (λ z. omega (arith, last_some (suc cell) (map cell_key ts) (length ts) i h k)))
