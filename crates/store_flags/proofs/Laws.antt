-- Laws of the flags: how many ones a part has, how a search passes blocks of them, and the list of places. Assumes
-- nothing.
use Prim.Native.Nat.{ℕ, zero, suc, ◌+◌, ◌-◌, ◌*◌, ◌≤◌, ◌<◌}
use mathlib.Core.Path.{◌≡◌, refl, ap, ◌∙◌}
use mathlib.Core.Bool.{Bool, true, false}
use mathlib.Core.List.{List, [], ◌∷◌, ◌++◌}
use mathlib.Core.Logic.{◌⊎◌, inl, inr, ⊎_elim}
use native.Mathlib.Omega.{arith}
use native.Mathlib.Numerals.{add-one}
use native.Mathlib.Nat.{not-suc-le-zero, le_of_suc-le-suc, suc-mul}
use lib.Dec.{ltb}
use lib.ListN.{length, get_or, take, drop, set, length-drop, drop_of_length-le, replicate, length-replicate}
use lib.Seq.{drop-drop}
use borrow.Author.Tests.{le-ltb, lt-ltb, ltb-true, ltb-false}
use Rattle.store_flags.specs.Flags.{places_from, ones, place, Tallied}

abbrev pub Binary : List ℕ → Type 0
Binary l = (i : ℕ) → get_or l i 0 ≤ 1

pub below_or : (a b : ℕ) → (a < b) ⊎ (b ≤ a)
below_or a b = go (ltb a b) refl
  where
    go : (t : Bool) → ltb a b ≡ t → (a < b) ⊎ (b ≤ a)
    go true e = inl (ltb-true a b e)
    go false e = inr (ltb-false a b e)

pub ones_split : (m : ℕ) (l : List ℕ) → ones l ≡ ones (take m l) + ones (drop m l)
ones_split zero l = omega arith
ones_split (suc m) [] = refl
ones_split (suc m) (x ∷ l) = omega (arith, ones_split m l)

pub ones_append : (xs ys : List ℕ) → ones (xs ++ ys) ≡ ones xs + ones ys
ones_append [] ys = omega arith
ones_append (x ∷ xs) ys = omega (arith, ones_append xs ys)

pub ones_set : (l : List ℕ) (i v : ℕ) → i < length l → ones (set l i v) + get_or l i 0 ≡ ones l + v
ones_set [] i v h = absurd (not-suc-le-zero h)
ones_set (x ∷ l) zero v h = omega arith
ones_set (x ∷ l) (suc i) v h = omega (arith, ones_set l i v (le_of_suc-le-suc h))

pub ones_none : (n : ℕ) → ones (replicate n 0) ≡ 0
ones_none zero = refl
ones_none (suc n) = omega (arith, ones_none n)

pub ones_at : (l : List ℕ) (i : ℕ) → get_or l i 0 ≤ ones l
ones_at [] i = omega arith
ones_at (x ∷ l) zero = omega arith
ones_at (x ∷ l) (suc i) = omega (arith, ones_at l i)

pub ones_le : (n : ℕ) (l : List ℕ) → ((i : ℕ) → get_or l i 0 ≤ 1) → ones (take n l) ≤ n
ones_le zero l b = omega arith
ones_le (suc n) [] b = omega arith
ones_le (suc n) (x ∷ l) b = omega (arith, b 0, ones_le n l (λ i. b (suc i)))

-- ---- the place of a one

pub place_later : (k x : ℕ) (l : List ℕ) → x ≤ k → place k (x ∷ l) ≡ suc (place (k - x) l)
place_later k x l h = rw (le-ltb k x h)

pub ones_past : (l : List ℕ) (i : ℕ) → length l ≤ i → ones (drop i l) ≡ 0
ones_past l i h = rw (drop_of_length-le l h)

pub none_left : (l : List ℕ) (i k : ℕ) → length l ≤ i → k < ones (drop i l) → ⊥
none_left l i k h g = omega (arith, ones_past l i h)

-- the first m flags are passed
pub place_skip : (m k : ℕ) (l : List ℕ) → m ≤ length l → ones (take m l) ≤ k → place k l ≡ m + place (k - ones (take m l)) (drop m l)
place_skip zero k l h g = let e : k - 0 ≡ k = omega arith in rw e (omega arith)
place_skip (suc m) k [] h g = absurd (not-suc-le-zero h)
place_skip (suc m) k (x ∷ l) h g =
    let e : (k - x) - ones (take m l) ≡ k - (x + ones (take m l)) = omega arith in
    place_later k x l (omega arith) ∙ ap suc (place_skip m (k - x) l (le_of_suc-le-suc h) (omega arith)) ∙ rw e (omega arith)

-- the one sought is among the first, or none of them is
pub place_left : (k : ℕ) (xs ys : List ℕ) → k < ones xs → place k (xs ++ ys) ≡ place k xs
place_left k [] ys h = absurd (not-suc-le-zero h)
place_left k (x ∷ xs) ys h = ⊎_elim
    (λ g. rw (lt-ltb k x g))
    (λ g. rw (le-ltb k x g, place_left (k - x) xs ys (omega arith)))
    (below_or k x)

pub place_right : (k : ℕ) (xs ys : List ℕ) → ones xs ≤ k → place k (xs ++ ys) ≡ length xs + place (k - ones xs) ys
place_right k [] ys h = let e : k - 0 ≡ k = omega arith in rw e (omega arith)
place_right k (x ∷ xs) ys h =
    let e : k - x - ones xs ≡ k - (x + ones xs) = omega arith in
    place_later k x (xs ++ ys) (omega arith) ∙ ap suc (place_right (k - x) xs ys (omega arith)) ∙ rw e (omega arith)

-- the first one is taken away: of those behind it each has a number less
pub place_rest : (k : ℕ) (l : List ℕ) → Binary l → suc k < ones l
    → (k < ones (set l (place 0 l) 0)) × (place k (set l (place 0 l) 0) ≡ place (suc k) l)
place_rest k [] b h = absurd (not-suc-le-zero h)
place_rest k (zero ∷ l) b h =
    let e : suc k - 0 ≡ suc k = omega arith in
    let d : k - 0 ≡ k = omega arith in
    let later = place_rest k l (λ i. b (suc i)) (omega arith) in
    rw (le-ltb k 0 (omega arith), le-ltb (suc k) 0 (omega arith), e, d) (omega (arith, later.0), ap suc later.1)
place_rest k (suc zero ∷ l) b h =
    let e : suc k - 1 ≡ k = omega arith in
    let d : k - 0 ≡ k = omega arith in
    rw (le-ltb k 0 (omega arith), le-ltb (suc k) 1 (omega arith), e, d) (omega arith, refl)
place_rest k (suc (suc x) ∷ l) b h = absurd (omega (arith, b 0))

-- the search passes w flags
pub passed : (w : ℕ) (l : List ℕ) (i k n : ℕ) → i + w ≤ length l → n ≡ ones (take w (drop i l)) → n ≤ k → k < ones (drop i l)
    → (k - n < ones (drop (i + w) l)) × (i + place k (drop i l) ≡ i + w + place (k - n) (drop (i + w) l))
passed w l i k n h e g u =
    let d = drop i l in
    let s = ones_split w d in
    let p = place_skip w k d (omega (arith, length-drop i l)) (omega arith) in
    rw (← drop-drop w i l, e) (omega arith, omega arith)

-- a block is passed
pub block_passed : (w : ℕ) (l : List ℕ) (b k n : ℕ) → b * w + w ≤ length l → n ≡ ones (take w (drop (b * w) l)) → n ≤ k → k < ones (drop (b * w) l)
    → (k - n < ones (drop ((b + 1) * w) l)) × (b * w + place k (drop (b * w) l) ≡ (b + 1) * w + place (k - n) (drop ((b + 1) * w) l))
block_passed w l b k n h e g u = rw (add-one b, suc-mul b w) (passed w l (b * w) k n h e g u)

pub place_lt : (k : ℕ) (l : List ℕ) → k < ones l → place k l < length l
place_lt k [] h = absurd (not-suc-le-zero h)
place_lt k (x ∷ l) h = ⊎_elim
    (λ g. rw (lt-ltb k x g) (omega arith))
    (λ g. rw (le-ltb k x g) (omega (arith, place_lt (k - x) l (omega arith))))
    (below_or k x)

-- there is a one
pub place_one : (k : ℕ) (l : List ℕ) → Binary l → k < ones l → get_or l (place k l) 0 ≡ 1
place_one k [] b h = absurd (not-suc-le-zero h)
place_one k (x ∷ l) b h = ⊎_elim
    (λ g. rw (lt-ltb k x g) (omega (arith, b 0)))
    (λ g. rw (le-ltb k x g) (place_one (k - x) l (λ i. b (suc i)) (omega arith)))
    (below_or k x)

-- ---- the list of places

pub ones_places : (i : ℕ) (l : List ℕ) → Binary l → length (places_from i l) ≡ ones l
ones_places i [] b = refl
ones_places i (zero ∷ l) b = omega (arith, ones_places (suc i) l (λ j. b (suc j)))
ones_places i (suc x ∷ l) b = omega (arith, b 0, ones_places (suc i) l (λ j. b (suc j)))

-- whatever stands in the list, it has no more places
pub places_le : (i : ℕ) (l : List ℕ) → length (places_from i l) ≤ ones l
places_le i [] = omega arith
places_le i (zero ∷ l) = omega (arith, places_le (suc i) l)
places_le i (suc x ∷ l) = omega (arith, places_le (suc i) l)

pub place_places : (i k : ℕ) (l : List ℕ) → Binary l → k < ones l → get_or (places_from i l) k 0 ≡ i + place k l
place_places i k [] b h = absurd (not-suc-le-zero h)
place_places i k (zero ∷ l) b h =
    let e : k - 0 ≡ k = omega arith in
    place_places (suc i) k l (λ j. b (suc j)) (omega arith) ∙ rw (le-ltb k 0 (omega arith), e) (omega arith)
place_places i zero (suc x ∷ l) b h = rw (lt-ltb 0 (suc x) (omega arith)) (omega arith)
place_places i (suc k) (suc x ∷ l) b h =
    let e : suc k - suc x ≡ k = omega (arith, b 0) in
    place_places (suc i) k l (λ j. b (suc j)) (omega (arith, b 0)) ∙ rw (le-ltb (suc k) (suc x) (omega (arith, b 0)), e) (omega arith)

-- zeros at the end have no place
pub places_zeros : (i m : ℕ) (l : List ℕ) → places_from i (l ++ replicate m 0) ≡ places_from i l
places_zeros i zero [] = refl
places_zeros i (suc m) [] = places_zeros (suc i) m []
places_zeros i m (zero ∷ l) = places_zeros (suc i) m l
places_zeros i m (suc x ∷ l) = ap (λ (r : List ℕ). i ∷ r) (places_zeros (suc i) m l)

-- ---- no flag is set

pub zero_at : (n i : ℕ) → get_or (replicate {A = ℕ} n 0) i 0 ≡ 0
zero_at zero i = refl
zero_at (suc n) zero = refl
zero_at (suc n) (suc i) = zero_at n i

pub tallied_none : Tallied (replicate 2048 0) (replicate 36 0)
tallied_none = record {
  size = length-replicate {A = ℕ} 2048 0;
  binary = λ i. omega (arith, zero_at 2048 i);
  same = refl;
}
