-- Laws of the marks: where the activities of at most one tag change, one flag is put, and all flags are right again. Assumes nothing.
use Prim.Native.Nat.{ℕ, zero, suc, ◌+◌, ◌-◌, ◌≤◌, ◌<◌}
use mathlib.Core.Path.{◌≡◌, refl, sym, ap, ◌∙◌}
use mathlib.Core.Bool.{Bool, true, false, ◌&&◌, cond}
use mathlib.Core.List.{List, [], ◌∷◌, ◌++◌, map, append_assoc}
use native.Mathlib.Omega.{arith}
use native.Mathlib.Nat.{not-suc-le-zero, le_of_suc-le-suc}
use lib.ListN.{length, get_or, set, replicate, length-append, get_or-append, length-replicate}
use lib.Dec.{eqb}
use lib.Seq.{set-append_left, get_or-append-add}
use borrow.Author.Tests.{eq-eqb, ne_eqb}
use Rattle.store_flags.specs.Flags.{places_from, places, FlagList}
use Rattle.store_flags.specs.Marks.{bit, places_where, first_of, leads, without, marks, Marked}
use Rattle.store_flags.proofs.Laws.{places_zeros, zero_at}

-- tests that agree from a place on
where_same : {A : Type 0} (p q : ℕ → A → Bool) (i : ℕ) (l : List A) → ((j : ℕ) (x : A) → i ≤ j → p j x ≡ q j x) → places_where p i l ≡ places_where q i l
where_same p q i [] e = refl
where_same p q i (x ∷ l) e = rw (e i x (omega arith), where_same p q (suc i) l (λ j y h. e j y (omega arith)))

pub where_map : {A B : Type 0} (f : A → B) (p : ℕ → B → Bool) (i : ℕ) (l : List A) → places_where p i (map f l) ≡ places_where (λ j x. p j (f x)) i l
where_map f p i [] = refl
where_map f p i (x ∷ l) = rw (where_map f p (suc i) l)

-- a place lies in the list
pub where_below : {A : Type 0} (p : ℕ → A → Bool) (i : ℕ) (l : List A) (k : ℕ) → k < length (places_where p i l) → get_or (places_where p i l) k 0 < i + length l
where_below p i [] k h = absurd (not-suc-le-zero h)
where_below p i (x ∷ l) k h = go (p i x) k h (where_below p (suc i) l)
  where
    go : (b : Bool) (k : ℕ) → k < length (cond b (i ∷ places_where p (suc i) l) (places_where p (suc i) l))
        → ((k : ℕ) → k < length (places_where p (suc i) l) → get_or (places_where p (suc i) l) k 0 < suc i + length l)
        → get_or (cond b (i ∷ places_where p (suc i) l) (places_where p (suc i) l)) k 0 < i + suc (length l)
    go true zero h ih = omega arith
    go true (suc k) h ih = omega (arith, ih k (le_of_suc-le-suc h))
    go false k h ih = omega (arith, ih k h)

-- what stands at a place passes the test
pub where_passes : {A : Type 0} (p : ℕ → A → Bool) (i : ℕ) (l : List A) (d : A) (k : ℕ) → k < length (places_where p i l)
    → (i ≤ get_or (places_where p i l) k 0) × (p (get_or (places_where p i l) k 0) (get_or l (get_or (places_where p i l) k 0 - i) d) ≡ true)
where_passes p i [] d k h = absurd (not-suc-le-zero h)
where_passes {A} p i (x ∷ l) d k h = go (p i x) refl k h (where_passes p (suc i) l d)
  where
    later : (j : ℕ) → (suc i ≤ j) × (p j (get_or l (j - suc i) d) ≡ true) → (i ≤ j) × (p j (get_or (x ∷ l) (j - i) d) ≡ true)
    later j w = let e : j - i ≡ suc (j - suc i) = omega arith in (omega arith, rw e w.1)

    go : (b : Bool) → p i x ≡ b → (k : ℕ) → k < length (cond b (i ∷ places_where p (suc i) l) (places_where p (suc i) l))
        → ((k : ℕ) → k < length (places_where p (suc i) l)
        → (suc i ≤ get_or (places_where p (suc i) l) k 0) × (p (get_or (places_where p (suc i) l) k 0) (get_or l (get_or (places_where p (suc i) l) k 0 - suc i) d) ≡ true))
        → let j = get_or (cond b (i ∷ places_where p (suc i) l) (places_where p (suc i) l)) k 0 in (i ≤ j) × (p j (get_or (x ∷ l) (j - i) d) ≡ true)
    go true e zero h ih = let z : i - i ≡ 0 = omega arith in (omega arith, rw z e)
    go true e (suc k) h ih = later (get_or (places_where p (suc i) l) k 0) (ih k (le_of_suc-le-suc h))
    go false e k h ih = later (get_or (places_where p (suc i) l) k 0) (ih k h)

module _ {A : Type 0} (same : A → A → Bool) where
  length_marks : (f : A → Bool) (l : List A) → length (marks same f l) ≡ length l
  length_marks f [] = refl
  length_marks f (x ∷ l) = ap suc (length_marks (without same x f) l)

  marks_same : (f g : A → Bool) → ((y : A) → g y ≡ f y) → (l : List A) → marks same g l ≡ marks same f l
  marks_same f g e [] = refl
  marks_same f g e (x ∷ l) = rw (e x, marks_same (without same x f) (without same x g) (λ y. rw (e y)) l)

  -- a tag that is not enabled has no mark
  marks_off : (f : A → Bool) (t : A) → f t ≡ false → (l : List A) → marks same f (l ++ t ∷ []) ≡ marks same f l ++ 0 ∷ []
  marks_off f t e [] = rw e
  marks_off f t e (x ∷ l) = ap (λ (r : List ℕ). bit (f x) ∷ r) (marks_off (without same x f) t (off (same x t)) l)
    where
      off : (b : Bool) → cond b false (f t) ≡ false
      off true = refl
      off false = e

  pub first_le : (t : A) (l : List A) → first_of same t l ≤ length l
  first_le t [] = omega arith
  first_le t (x ∷ l) = go (same t x) (first_le t l)
    where
      go : (b : Bool) → first_of same t l ≤ length l → cond b 0 (suc (first_of same t l)) ≤ suc (length l)
      go true ih = omega arith
      go false ih = omega arith

  pub marked_none : (f : A → Bool) → Marked same f [] (replicate 2048 0)
  unfolding Marked
  marked_none f = refl

  -- past the tokens no flag is raised
  pub marked_past : (f : A → Bool) (l : List A) (flags : List ℕ) (i : ℕ) → length l ≤ i → Marked same f l flags → get_or flags i 0 ≡ 0
  unfolding Marked
  marked_past f l flags i h w =
      let m = marks same f l in
      let n = i - length l in
      let k : i ≡ length m + n = omega (arith, length_marks f l) in
      rw (w, k) (get_or-append-add m (replicate (2048 - length l) 0) n 0 ∙ zero_at (2048 - length l) n)

  module _ (equal : (x y : A) → same x y ≡ true → x ≡ y) (own : (x : A) → same x x ≡ true) where
    apart : (t x : A) → same t x ≡ false → same x t ≡ false
    apart t x e = go (same x t) refl
      where
        go : (b : Bool) → same x t ≡ b → b ≡ false
        go false d = refl
        go true d = let h : same t t ≡ false = rw (equal x t d) at e in sym (own t) ∙ h

    same_turned : (x y : A) → same x y ≡ same y x
    same_turned x y = go (same x y) refl
      where
        go : (b : Bool) → same x y ≡ b → b ≡ same y x
        go true d = sym (rw (← equal x y d) (own x))
        go false d = sym (apart x y d)

    -- the ones of the marks are the places of the tokens that lead
    places_marks : (on : A → Bool) (i : ℕ) (l : List A) → places_from i (marks same on l) ≡ places_where (λ j x. eqb (i + first_of same x l) j && on x) i l
    places_marks on i [] = refl
    places_marks on i (x ∷ l) = rw (own x, eq-eqb (i + 0) i (omega arith)) (go (on x) (places_marks (without same x on) (suc i) l ∙ where_same _ _ (suc i) l later))
      where
        later : (j : ℕ) (y : A) → suc i ≤ j → eqb (suc i + first_of same y l) j && without same x on y ≡ eqb (i + first_of same y (x ∷ l)) j && on y
        later j y h = rw (same_turned x y) (by (same y x))
          where
            and_none : (a : Bool) → a && false ≡ false
            and_none true = refl
            and_none false = refl

            by : (b : Bool) → eqb (suc i + first_of same y l) j && cond b false (on y) ≡ eqb (i + cond b 0 (suc (first_of same y l))) j && on y
            by true = and_none (eqb (suc i + first_of same y l) j) ∙ rw (ne_eqb (i + 0) j (λ e. omega arith))
            by false = let e : i + suc (first_of same y l) ≡ suc i + first_of same y l = omega arith in rw e

        go : (b : Bool) → places_from (suc i) (marks same (without same x on) l) ≡ places_where (λ j y. eqb (i + first_of same y (x ∷ l)) j && on y) (suc i) l
            → places_from i (bit b ∷ marks same (without same x on) l)
            ≡ cond b (i ∷ places_where (λ j y. eqb (i + first_of same y (x ∷ l)) j && on y) (suc i) l) (places_where (λ j y. eqb (i + first_of same y (x ∷ l)) j && on y) (suc i) l)
        go true ih = ap (λ (r : List ℕ). i ∷ r) ih
        go false ih = ih

    -- the same from the front, by the marks' own recursion
    pub places_lead : (on : A → Bool) (l : List A) → places (marks same on l) ≡ places_where (leads same on l) 0 l
    places_lead on l = places_marks on 0 l ∙ where_same _ _ 0 l (λ j x h. let e : 0 + first_of same x l ≡ first_of same x l = omega arith in rw e)

    -- the flags' ones are the places of the enabled activities
    pub marked_places : (on : A → Bool) (l : List A) (flags : List ℕ) → Marked same on l flags → places flags ≡ places_where (leads same on l) 0 l
    unfolding Marked
    marked_places on l flags w = ap places w ∙ places_zeros 0 (2048 - length l) (marks same on l) ∙ places_lead on l

    -- the mark at the place of a tag says whether the tag is enabled
    mark_first : (on : A → Bool) (t : A) (l : List A) → first_of same t l < length l → get_or (marks same on l) (first_of same t l) 0 ≡ bit (on t)
    mark_first on t [] h = absurd (not-suc-le-zero h)
    mark_first on t (x ∷ l) h = go (same t x) refl h (mark_first (without same x on) t l)
      where
        go : (b : Bool) → same t x ≡ b → cond b 0 (suc (first_of same t l)) < suc (length l)
            → (first_of same t l < length l → get_or (marks same (without same x on) l) (first_of same t l) 0 ≡ bit (cond (same x t) false (on t)))
            → get_or (bit (on x) ∷ marks same (without same x on) l) (cond b 0 (suc (first_of same t l))) 0 ≡ bit (on t)
        go true q h ih = ap (λ (y : A). bit (on y)) (sym (equal t x q))
        go false q h ih = ih (le_of_suc-le-suc h) ∙ rw (apart t x q)

    mark_flag : (on : A → Bool) (l : List A) (flags : List ℕ) (i : ℕ) → i < length l → Marked same on l flags → get_or flags i 0 ≡ get_or (marks same on l) i 0
    unfolding Marked
    mark_flag on l flags i h w =
        ap (λ (f : List ℕ). get_or f i 0) w ∙ get_or-append (marks same on l) (replicate (2048 - length l) 0) 0 i (omega (arith, length_marks on l))

    -- the flag at the place of a tag says whether the tag is enabled
    pub marked_first : (on : A → Bool) (l : List A) (flags : List ℕ) (t : A) → first_of same t l < length l → Marked same on l flags
        → get_or flags (first_of same t l) 0 ≡ bit (on t)
    marked_first on l flags t h w = mark_flag on l flags (first_of same t l) h w ∙ mark_first on t l h

    agree_without : (f g : A → Bool) (t x : A) → ((y : A) → same t y ≡ false → g y ≡ f y) → (y : A) → same t y ≡ false → without same x g y ≡ without same x f y
    agree_without f g t x e y d = rw (e y d)

    -- with t itself left out they agree everywhere
    agree_all : (f g : A → Bool) (t : A) → ((y : A) → same t y ≡ false → g y ≡ f y) → (y : A) → without same t g y ≡ without same t f y
    agree_all f g t e y = go (same t y) refl
      where
        go : (b : Bool) → same t y ≡ b → cond b false (g y) ≡ cond b false (f y)
        go true d = refl
        go false d = e y d

    marks_change : (f g : A → Bool) (t : A) → ((y : A) → same t y ≡ false → g y ≡ f y) → (l : List A)
        → marks same g l ≡ set (marks same f l) (first_of same t l) (bit (g t))
    marks_change f g t e [] = refl
    marks_change f g t e (x ∷ l) = go (same t x) refl (λ k. marks_change (without same x f) (without same x g) t (agree_without f g t x e) l)
      where
        go : (b : Bool) → same t x ≡ b → (Unit {0} → marks same (without same x g) l ≡ set (marks same (without same x f) l) (first_of same t l) (bit (without same x g t)))
            → bit (g x) ∷ marks same (without same x g) l ≡ set (bit (f x) ∷ marks same (without same x f) l) (cond b 0 (suc (first_of same t l))) (bit (g t))
        go true d ih = rw (← equal t x d) (ap (λ (r : List ℕ). bit (g t) ∷ r) (marks_same (without same t f) (without same t g) (agree_all f g t e) l))
        go false d ih = let h = rw (apart t x d) at (ih tt) in rw (e x d) (ap (λ (r : List ℕ). bit (f x) ∷ r) h)

    marks_append : (f g : A → Bool) (t : A) → ((y : A) → same t y ≡ false → g y ≡ f y) → (l : List A)
        → marks same g (l ++ t ∷ []) ≡ set (marks same f l ++ 0 ∷ []) (first_of same t l) (bit (g t))
    marks_append f g t e [] = refl
    marks_append f g t e (x ∷ l) = go (same t x) refl (λ k. marks_append (without same x f) (without same x g) t (agree_without f g t x e) l)
      where
        go : (b : Bool) → same t x ≡ b → (Unit {0} → marks same (without same x g) (l ++ t ∷ []) ≡ set (marks same (without same x f) l ++ 0 ∷ []) (first_of same t l) (bit (without same x g t)))
            → bit (g x) ∷ marks same (without same x g) (l ++ t ∷ []) ≡ set (bit (f x) ∷ (marks same (without same x f) l ++ 0 ∷ [])) (cond b 0 (suc (first_of same t l))) (bit (g t))
        go true d ih =
            rw (← equal t x d)
            (ap (λ (r : List ℕ). bit (g t) ∷ r)
            (marks_off (without same t g) t (rw (own t)) l ∙ ap (λ (r : List ℕ). r ++ 0 ∷ []) (marks_same (without same t f) (without same t g) (agree_all f g t e) l)))
        go false d ih = let h = rw (apart t x d) at (ih tt) in rw (e x d) (ap (λ (r : List ℕ). bit (f x) ∷ r) h)

    -- the activity of a tag that has a token changes
    pub marked_change : (f g : A → Bool) (t : A) → ((y : A) → same t y ≡ false → g y ≡ f y) → (l : List A) (flags : List ℕ)
        → first_of same t l < length l → Marked same f l flags → Marked same g l (set flags (first_of same t l) (bit (g t)))
    unfolding Marked
    marked_change f g t e l flags h w =
        rw (w, marks_change f g t e l) (set-append_left (marks same f l) (replicate (2048 - length l) 0) (first_of same t l) (bit (g t)) (omega (arith, length_marks f l)))

    -- a token of a tag is appended, the first of its tag or a later one
    pub marked_append : (f g : A → Bool) (t : A) → ((y : A) → same t y ≡ false → g y ≡ f y) → (l : List A) (flags : List ℕ)
        → length l < 2048 → Marked same f l flags → Marked same g (l ++ t ∷ []) (set flags (first_of same t l) (bit (g t)))
    unfolding Marked
    marked_append f g t e l flags h w =
        let n : length (l ++ t ∷ []) ≡ suc (length l) = length-append l (t ∷ []) ∙ omega arith in
        let k : 2048 - length l ≡ suc (2048 - suc (length l)) = omega arith in
        let m = marks same f l in
        let z = replicate {A = ℕ} (2048 - suc (length l)) 0 in
        let s : m ++ 0 ∷ z ≡ (m ++ 0 ∷ []) ++ z = sym (append_assoc m (0 ∷ []) z) in
        rw (n, w, k, s, marks_append f g t e l)
        (set-append_left (m ++ 0 ∷ []) z (first_of same t l) (bit (g t)) (omega (arith, length_marks f l, length-append m (0 ∷ []), first_le t l)))

-- they are 2,048 flags, each 0 or 1

marks_binary : {A : Type 0} (same : A → A → Bool) (on : A → Bool) (l : List A) (n i : ℕ) → get_or (marks same on l ++ replicate n 0) i 0 ≤ 1
marks_binary same on [] n i = omega (arith, zero_at n i)
marks_binary same on (x ∷ l) n zero = go (on x)
  where
    go : (b : Bool) → bit b ≤ 1
    go true = omega arith
    go false = omega arith
marks_binary same on (x ∷ l) n (suc i) = marks_binary same (without same x on) l n i

pub marked_list : {A : Type 0} (same : A → A → Bool) (on : A → Bool) (l : List A) (flags : List ℕ) → length l ≤ 2048 → Marked same on l flags → FlagList flags
unfolding Marked
marked_list same on l flags few m =
    let ms = marks same on l in
    rw m record {
      size = omega (arith, length-append ms (replicate (2048 - length l) 0), length_marks same on l, length-replicate {A = ℕ} (2048 - length l) 0);
      binary = λ i. marks_binary same on l (2048 - length l) i;
    }
