-- Laws of chains, for any number of chains and any key: one place more keeps them, and a walk along one meets each of its places. Assumes nothing.
use Prim.Native.Nat.{ℕ, zero, suc, ◌+◌, ◌≤◌, ◌<◌}
use mathlib.Core.Path.{◌≡◌, refl, sym, ap, ◌∙◌}
use mathlib.Core.Bool.{Bool, true, false, cond}
use mathlib.Core.List.{List, [], ◌∷◌, ◌++◌, map, map-append}
use native.Mathlib.Omega.{arith}
use native.Mathlib.Numerals.{add-one}
use native.Mathlib.Nat.{not-suc-le-zero, le_of_suc-le-suc, le_of_lt}
use lib.Dec.{eqb}
use lib.ListN.{length, get_or, set, length-set, length-append, length-map, get_or-append}
use lib.Seq.{get_or-set_same, get_or-set_other, get_or-append_seam}
use borrow.Author.Tests.{eqb-true, eqb-false, ne_eqb}
use Rattle.record.specs.declared.token.Token.{Token}
use Rattle.store_chains.specs.Chains.{last_below, part, Linked, Chained}
use Rattle.store_chains.proofs.Walks.{On}
use Rattle.store_chains.proofs.Parts.{length_part, get_d_part, part_set, part_before, part_past}

-- ---- the last place of a key

module _ (b : ℕ) (ks : List ℕ) where
  pub last_le : (n : ℕ) → last_below b ks n ≤ n
  last_le zero = omega arith
  last_le (suc n) = go (eqb (get_or ks n 0) b) (last_le n)
    where
      go : (t : Bool) → last_below b ks n ≤ n → cond t (suc n) (last_below b ks n) ≤ suc n
      go true ih = omega arith
      go false ih = omega arith

  -- it is the last of those up to itself
  last_again : (n : ℕ) → last_below b ks n ≡ last_below b ks (last_below b ks n)
  last_again zero = refl
  last_again (suc n) = go (eqb (get_or ks n 0) b) refl (last_again n)
    where
      go : (t : Bool) → eqb (get_or ks n 0) b ≡ t → last_below b ks n ≡ last_below b ks (last_below b ks n)
          → cond t (suc n) (last_below b ks n) ≡ last_below b ks (cond t (suc n) (last_below b ks n))
      go true e ih = rw e
      go false e ih = ih

  last_is : (i : ℕ) → suc i ≡ last_below b ks (suc i) → get_or ks i 0 ≡ b
  last_is i h = go (eqb (get_or ks i 0) b) refl h
    where
      go : (t : Bool) → eqb (get_or ks i 0) b ≡ t → suc i ≡ cond t (suc i) (last_below b ks i) → get_or ks i 0 ≡ b
      go true e g = eqb-true (get_or ks i 0) b e
      go false e g = absurd (omega (arith, last_le i))

-- a later place does not change it
last_append : (b x : ℕ) (ks : List ℕ) (n : ℕ) → n ≤ length ks → last_below b (ks ++ x ∷ []) n ≡ last_below b ks n
last_append b x ks zero h = refl
last_append b x ks (suc n) h = rw (get_or-append ks (x ∷ []) 0 n h, last_append b x ks n (le_of_lt h))

pub last_same : (b : ℕ) (js ks : List ℕ) (n : ℕ) → ((i : ℕ) → i < n → eqb (get_or js i 0) b ≡ eqb (get_or ks i 0) b) → last_below b js n ≡ last_below b ks n
last_same b js ks zero e = refl
last_same b js ks (suc n) e = rw (e n (omega arith), last_same b js ks n (λ i h. e i (omega arith)))

pub last_none : (b : ℕ) (ks : List ℕ) (n : ℕ) → ((i : ℕ) → i < n → eqb (get_or ks i 0) b ≡ false) → last_below b ks n ≡ 0
last_none b ks zero e = refl
last_none b ks (suc n) e = rw (e n (omega arith)) (last_none b ks n (λ i h. e i (omega arith)))

-- ---- one place more

module _ (size : ℕ) (heads next ks : List ℕ) (room : length ks < 2048) (w : Linked size heads next ks) where
  -- in no chain
  linked_off : Linked size heads next (ks ++ 0 ∷ [])
  linked_off =
      let e : length (ks ++ 0 ∷ []) ≡ suc (length ks) = length-append ks (0 ∷ []) ∙ omega arith in
      record {
        head_count = w.head_count;
        next_count = w.next_count;
        few = omega (arith, e);
        first = λ c h. rw (e, get_or-append_seam ks 0 [] 0, ne_eqb 0 (suc c) (λ z. omega arith)) (w.first c h ∙ sym (last_append (suc c) 0 ks (length ks) (omega arith)));
        link = rw e (λ i h k. go i h k (eqb i (length ks)) refl);
      }
    where
      go : (i : ℕ) → i < suc (length ks) → (get_or (ks ++ 0 ∷ []) i 0 ≡ 0 → ⊥) → (t : Bool) → eqb i (length ks) ≡ t → get_or next i 0 ≡ last_below (get_or (ks ++ 0 ∷ []) i 0) (ks ++ 0 ∷ []) i
      go i h k true e = absurd (k (rw (eqb-true i (length ks) e) (get_or-append_seam ks 0 [] 0)))
      go i h k false e =
          let g : i < length ks = omega (arith, eqb-false i (length ks) e) in
          let y = get_or-append ks (0 ∷ []) 0 i g in
          rw y (w.link i g (λ q. k (y ∙ q)) ∙ sym (last_append (get_or ks i 0) 0 ks i (le_of_lt g)))

  -- at the head of chain c
  module _ (c : ℕ) (low : c < size) where
    heads_after : (a : ℕ) → a < size → get_or (set heads c (suc (length ks))) a 0 ≡ last_below (suc a) (ks ++ suc c ∷ []) (suc (length ks))
    heads_after a h = rw (get_or-append_seam ks (suc c) [] 0) (go (eqb (suc c) (suc a)) refl)
      where
        go : (t : Bool) → eqb (suc c) (suc a) ≡ t → get_or (set heads c (suc (length ks))) a 0 ≡ cond t (suc (length ks)) (last_below (suc a) (ks ++ suc c ∷ []) (length ks))
        go true e =
            let q : c ≡ a = omega (arith, eqb-true (suc c) (suc a) e) in
            rw (← q) (get_or-set_same heads c (suc (length ks)) 0 (omega (arith, w.head_count)))
        go false e =
            get_or-set_other heads c a (suc (length ks)) 0 (λ q. eqb-false (suc c) (suc a) e (ap suc (sym q))) ∙ w.first a h ∙ sym (last_append (suc a) (suc c) ks (length ks) (omega arith))

    next_after : (i : ℕ) → i < suc (length ks) → (get_or (ks ++ suc c ∷ []) i 0 ≡ 0 → ⊥)
        → get_or (set next (length ks) (get_or heads c 0)) i 0 ≡ last_below (get_or (ks ++ suc c ∷ []) i 0) (ks ++ suc c ∷ []) i
    next_after i h k = go (eqb i (length ks)) refl
      where
        go : (t : Bool) → eqb i (length ks) ≡ t → get_or (set next (length ks) (get_or heads c 0)) i 0 ≡ last_below (get_or (ks ++ suc c ∷ []) i 0) (ks ++ suc c ∷ []) i
        go true e =
            rw (eqb-true i (length ks) e, get_or-append_seam ks (suc c) [] 0)
            (get_or-set_same next (length ks) (get_or heads c 0) 0 (omega (arith, w.next_count)) ∙ w.first c low ∙ sym (last_append (suc c) (suc c) ks (length ks) (omega arith)))
        go false e =
            let x = eqb-false i (length ks) e in
            let g : i < length ks = omega arith in
            let y = get_or-append ks (suc c ∷ []) 0 i g in
            rw (get_or-set_other next (length ks) i (get_or heads c 0) 0 x, y) (w.link i g (λ q. k (y ∙ q)) ∙ sym (last_append (get_or ks i 0) (suc c) ks i (le_of_lt g)))

    linked_on : Linked size (set heads c (suc (length ks))) (set next (length ks) (get_or heads c 0)) (ks ++ suc c ∷ [])
    linked_on =
        let e : length (ks ++ suc c ∷ []) ≡ suc (length ks) = length-append ks (suc c ∷ []) ∙ omega arith in
        record {
          head_count = length-set heads c (suc (length ks)) ∙ w.head_count;
          next_count = length-set next (length ks) (get_or heads c 0) ∙ w.next_count;
          few = omega (arith, e);
          first = rw e heads_after;
          link = rw e next_after;
        }

-- ---- tokens, and chains that stand in one array

module _ (from size : ℕ) (key : Token → ℕ) (links : List ℕ) where
  -- none
  pub chained_none : from + size + 2048 ≤ length links → ((i : ℕ) → get_or links i 0 ≡ 0) → Chained from size key links []
  unfolding Chained
  chained_none h z = record {
    head_count = length_part from size links (omega arith);
    next_count = length_part (from + size) 2048 links h;
    few = omega arith;
    first = λ c g. get_d_part from size links c g ∙ z (c + from);
    link = λ i g k. absurd (not-suc-le-zero g);
  }

  module _ (ts : List Token) (w : Chained from size key links ts) where
    pub chained_few : length ts ≤ 2048
    unfolding Chained
    chained_few = omega (arith, w.few, length-map ts key)

    -- tokens of the same keys
    pub chained_same : (us : List Token) → map key us ≡ map key ts → Chained from size key links us
    unfolding Chained
    chained_same us e = rw e w

    -- a store beside them
    pub chained_before : (j v : ℕ) → j < from → Chained from size key (set links j v) ts
    unfolding Chained
    chained_before j v h = rw (part_before from size links j v h, part_before (from + size) 2048 links j v (omega arith)) w

    pub chained_past : (j v : ℕ) → from + size + 2048 ≤ j → Chained from size key (set links j v) ts
    unfolding Chained
    chained_past j v h = rw (part_past from size links j v (omega arith), part_past (from + size) 2048 links j v h) w

    module _ (t : Token) (used : ℕ) (len : length ts ≡ used) (room : used < 2048) where
      pub chained_off : key t ≡ 0 → Chained from size key links (ts ++ t ∷ [])
      unfolding Chained
      chained_off e = rw (map-append key ts (t ∷ []), e) (linked_off size (part from size links) (part (from + size) 2048 links) (map key ts) (omega (arith, length-map ts key)) w)

      pub chained_on : (c : ℕ) → c < size → key t ≡ suc c
          → Chained from size key (set (set links (used + (from + size)) (get_or links (c + from) 0)) (c + from) (used + 1)) (ts ++ t ∷ [])
      unfolding Chained
      chained_on c low e =
          let k : length (map key ts) ≡ used = length-map ts key ∙ len in
          let x = get_or links (c + from) 0 in
          let m = set links (used + (from + size)) x in
          let heads : part from size (set m (c + from) (used + 1)) ≡ set (part from size links) c (used + 1) =
          part_set from size m c (used + 1) low ∙ ap (λ (l : List ℕ). set l c (used + 1)) (part_past from size links (used + (from + size)) x (omega arith)) in
          let next : part (from + size) 2048 (set m (c + from) (used + 1)) ≡ set (part (from + size) 2048 links) used x =
          part_before (from + size) 2048 m (c + from) (used + 1) (omega arith) ∙ part_set (from + size) 2048 links used x room in
          rw (heads, next, map-append key ts (t ∷ []), e, ← get_d_part from size links c low, add-one, ← k)
          (linked_on size (part from size links) (part (from + size) 2048 links) (map key ts) (omega arith) w c low)

pub key_at_lem : (key : Token → ℕ) (ts : List Token) (i : ℕ) (d : Token) → i < length ts → get_or (map key ts) i 0 ≡ key (get_or ts i d)
key_at_lem key [] i d h = absurd (not-suc-le-zero h)
key_at_lem key (t ∷ ts) zero d h = refl
key_at_lem key (t ∷ ts) (suc i) d h = key_at_lem key ts i d (le_of_suc-le-suc h)

-- ---- a walk

module _ (from size : ℕ) (key : Token → ℕ) (links : List ℕ) (ts : List Token) (w : Chained from size key links ts) (c : ℕ) (low : c < size) where
  pub walk_first : get_or links (c + from) 0 ≡ last_below (suc c) (map key ts) (length ts)
  unfolding Chained
  walk_first = sym (get_d_part from size links c low) ∙ w.first c low ∙ rw (length-map ts key)

  pub on_first : On c (map key ts) (get_or links (c + from) 0)
  unfolding Chained
  on_first =
      let ks = map key ts in
      rw (← get_d_part from size links c low, w.first c low) (record {
        below = last_le (suc c) ks (length ks);
        small = omega (arith, last_le (suc c) ks (length ks), w.few);
        here = last_again (suc c) ks (length ks);
      })

  module _ (i : ℕ) (on : On c (map key ts) (suc i)) where
    pub on_key : get_or (map key ts) i 0 ≡ suc c
    on_key = last_is (suc c) (map key ts) i on.here

    pub walk_next : get_or links (i + (from + size)) 0 ≡ last_below (suc c) (map key ts) i
    unfolding Chained
    walk_next =
        let own = on_key in
        sym (get_d_part (from + size) 2048 links i (omega (arith, on.small))) ∙ w.link i on.below (λ q. omega arith) ∙ rw own

    pub next_below : get_or links (i + (from + size)) 0 ≤ i
    next_below = rw walk_next (last_le (suc c) (map key ts) i)

    pub on_next : On c (map key ts) (get_or links (i + (from + size)) 0)
    on_next =
        let ks = map key ts in
        rw walk_next (record {
          below = omega (arith, last_le (suc c) ks i, on.below);
          small = omega (arith, last_le (suc c) ks i, on.small);
          here = last_again (suc c) ks i;
        })
