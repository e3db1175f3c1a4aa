-- Laws of flags but for those of another list, and of words that hold them: the difference of the words, and of the counts. Assumes nothing.
use Prim.Native.Nat.{ℕ, zero, suc, ◌+◌, ◌-◌, ◌*◌, ◌/◌, ◌%◌, ◌^◌, ◌≤◌, ◌<◌}
use mathlib.Core.Path.{◌≡◌, refl, sym, ap, ◌∙◌}
use mathlib.Core.List.{List, [], ◌∷◌}
use native.Mathlib.Omega.{arith}
use native.Mathlib.Nat.{pow-suc}
use lib.ListN.{length, get_or, take, drop, take-append-drop}
use lib.Seq.{drop-drop}
use borrow.Author.Tests.{lt-ltb}
use Rattle.store_flags.specs.Flags.{ones, place, places, minus, Under, FlagList, FirstIn, digits, in_word}
use Rattle.store_flags.proofs.Laws.{Binary, ones_split, ones_past, ones_places, places_le, place_later, place_skip, place_left, place_places, place_lt}
use Rattle.store_flags.proofs.Digits.{word_size}

-- ---- lists of one length

-- element by element
abbrev pub Each≤ : List ℕ → List ℕ → Type 0
Each≤ [] [] = Unit {0}
Each≤ [] (x ∷ l) = ⊥
Each≤ (y ∷ m) [] = ⊥
Each≤ (y ∷ m) (x ∷ l) = (y ≤ x) × Each≤ m l

each_of : (m l : List ℕ) → length m ≡ length l → Under m l → Each≤ m l
each_of [] [] e h = tt
each_of [] (x ∷ l) e h = absurd (omega arith)
each_of (y ∷ m) [] e h = absurd (omega arith)
each_of (y ∷ m) (x ∷ l) e h = (h 0, each_of m l (omega arith) (λ i. h (suc i)))

under_of : (m l : List ℕ) → Each≤ m l → Under m l
under_of [] [] h i = omega arith
under_of [] (x ∷ l) h i = absurd h
under_of (y ∷ m) [] h i = absurd h
under_of (y ∷ m) (x ∷ l) h zero = h.0
under_of (y ∷ m) (x ∷ l) h (suc i) = under_of m l h.1 i

each_drop : (n : ℕ) (m l : List ℕ) → Each≤ m l → Each≤ (drop n m) (drop n l)
each_drop zero m l h = h
each_drop (suc n) [] [] h = tt
each_drop (suc n) [] (x ∷ l) h = absurd h
each_drop (suc n) (y ∷ m) [] h = absurd h
each_drop (suc n) (y ∷ m) (x ∷ l) h = each_drop n m l h.1

each_take : (n : ℕ) (m l : List ℕ) → Each≤ m l → Each≤ (take n m) (take n l)
each_take zero m l h = tt
each_take (suc n) [] [] h = tt
each_take (suc n) [] (x ∷ l) h = absurd h
each_take (suc n) (y ∷ m) [] h = absurd h
each_take (suc n) (y ∷ m) (x ∷ l) h = (h.0, each_take n m l h.1)

-- ---- the difference

pub minus_length : (l m : List ℕ) → length (minus l m) ≡ length l
minus_length [] m = refl
minus_length (x ∷ l) [] = refl
minus_length (x ∷ l) (y ∷ m) = ap suc (minus_length l m)

minus_drop : (n : ℕ) (l m : List ℕ) → Each≤ m l → drop n (minus l m) ≡ minus (drop n l) (drop n m)
minus_drop zero l m h = refl
minus_drop (suc n) [] [] h = refl
minus_drop (suc n) [] (y ∷ m) h = absurd h
minus_drop (suc n) (x ∷ l) [] h = absurd h
minus_drop (suc n) (x ∷ l) (y ∷ m) h = minus_drop n l m h.1

minus_take : (n : ℕ) (l m : List ℕ) → Each≤ m l → take n (minus l m) ≡ minus (take n l) (take n m)
minus_take zero l m h = refl
minus_take (suc n) [] [] h = refl
minus_take (suc n) [] (y ∷ m) h = absurd h
minus_take (suc n) (x ∷ l) [] h = absurd h
minus_take (suc n) (x ∷ l) (y ∷ m) h = ap (λ (k : List ℕ). (x - y) ∷ k) (minus_take n l m h.1)

minus_ones : (l m : List ℕ) → Each≤ m l → ones (minus l m) + ones m ≡ ones l
minus_ones [] [] h = refl
minus_ones [] (y ∷ m) h = absurd h
minus_ones (x ∷ l) [] h = absurd h
minus_ones (x ∷ l) (y ∷ m) h = omega (arith, minus_ones l m h.1, h.0)

-- whatever is taken away, no part has more
minus_few : (n : ℕ) (l m : List ℕ) → ones (take n (minus l m)) ≤ ones (take n l)
minus_few zero l m = omega arith
minus_few (suc n) [] m = omega arith
minus_few (suc n) (x ∷ l) [] = omega arith
minus_few (suc n) (x ∷ l) (y ∷ m) = omega (arith, minus_few n l m)

minus_fewer : (l m : List ℕ) → ones (minus l m) ≤ ones l
minus_fewer [] m = omega arith
minus_fewer (x ∷ l) [] = omega arith
minus_fewer (x ∷ l) (y ∷ m) = omega (arith, minus_fewer l m)

minus_binary : (l m : List ℕ) → Binary l → Binary (minus l m)
minus_binary [] m b i = b i
minus_binary (x ∷ l) [] b i = b i
minus_binary (x ∷ l) (y ∷ m) b zero = omega (arith, b 0)
minus_binary (x ∷ l) (y ∷ m) b (suc i) = minus_binary l m (λ j. b (suc j)) i

-- ---- in a word

digits_minus : (n f h : ℕ) → f < 2 ^ n → h < 2 ^ n → Each≤ (digits n h) (digits n f) → (h ≤ f) × (digits n (f - h) ≡ minus (digits n f) (digits n h))
digits_minus zero f h p q e = (omega arith, refl)
digits_minus (suc n) f h p q e =
    let d = pow-suc 2 n in
    let (below, same) = digits_minus n (f / 2) (h / 2) (omega arith) (omega arith) e.1 in
    let low : h % 2 ≤ f % 2 = e.0 in
    let odd : (f - h) % 2 ≡ f % 2 - h % 2 = omega arith in
    let half : (f - h) / 2 ≡ f / 2 - h / 2 = omega arith in
    (omega arith, rw (odd, half, same) refl)

pub word_minus : (f h : ℕ) → f < 2 ^ 64 → h < 2 ^ 64 → Under (in_word h) (in_word f) → (h ≤ f) × (in_word (f - h) ≡ minus (in_word f) (in_word h))
unfolding in_word
word_minus f h p q u = digits_minus 64 f h p q (each_of (in_word h) (in_word f) (word_size h ∙ sym (word_size f)) u)

-- ---- the flags before the first

before_first : (m : ℕ) (l : List ℕ) → m ≤ place 0 l → ones (take m l) ≡ 0
before_first zero l h = refl
before_first (suc m) [] h = refl
before_first (suc m) (zero ∷ l) h = omega (arith, before_first m l (omega (arith, place_later 0 0 l (omega arith))))
before_first (suc m) (suc x ∷ l) h = absurd (omega (arith, rw (lt-ltb 0 (suc x) (omega arith)) at h))

-- ---- the flags that are left

module _ {fs hs : List ℕ} (c : FlagList fs) (d : FlagList hs) (u : Under hs fs) where
  each : Each≤ hs fs
  each = each_of hs fs (d.size ∙ sym c.size) u

  pub rest_list : FlagList (minus fs hs)
  rest_list = record { size = minus_length fs hs ∙ c.size; binary = minus_binary fs hs c.binary }

  pub rest_ones : ones (minus fs hs) + ones hs ≡ ones fs
  rest_ones = minus_ones fs hs each

  -- of a part
  part_ones : (from n : ℕ) → ones (take n (drop from (minus fs hs))) + ones (take n (drop from hs)) ≡ ones (take n (drop from fs))
  part_ones from n =
      let e = each_drop from hs fs each in
      rw (minus_drop from fs hs each, minus_take n (drop from fs) (drop from hs) e)
      (minus_ones (take n (drop from fs)) (take n (drop from hs)) (each_take n (drop from hs) (drop from fs) e))

  pub rest_part : (from n x y : ℕ) → x ≡ ones (take n (drop from fs)) → y ≡ ones (take n (drop from hs)) → (y ≤ x) × (x - y ≡ ones (take n (drop from (minus fs hs))))
  rest_part from n x y p q = let e = part_ones from n in (omega arith, omega arith)

  module _ (b w v : ℕ) (p : in_word w ≡ take 64 (drop (b * 64) fs)) (q : in_word v ≡ take 64 (drop (b * 64) hs)) where
    pub rest_under : Under (in_word v) (in_word w)
    rest_under =
        rw (p, q)
        (under_of (take 64 (drop (b * 64) hs)) (take 64 (drop (b * 64) fs))
        (each_take 64 (drop (b * 64) hs) (drop (b * 64) fs) (each_drop (b * 64) hs fs each)))

    pub rest_word : minus (in_word w) (in_word v) ≡ take 64 (drop (b * 64) (minus fs hs))
    rest_word =
        let e = each_drop (b * 64) hs fs each in
        rw (minus_drop (b * 64) fs hs each, minus_take 64 (drop (b * 64) fs) (drop (b * 64) hs) e, p, q) refl

-- from the first word of the flags that has any on, those that are left are all
pub first_from : (fs hs : List ℕ) (b : ℕ) → b * 64 ≤ place 0 fs → ones (drop (b * 64) (minus fs hs)) ≡ ones (minus fs hs)
first_from fs hs b h =
    let z = before_first (b * 64) fs h in
    omega (arith, ones_split (b * 64) (minus fs hs), minus_few (b * 64) fs hs)

-- where no flag is set none is left
pub none_whole : (fs hs : List ℕ) → ones fs ≡ 0 → length (places (minus fs hs)) ≡ 0
none_whole fs hs h = omega (arith, minus_fewer fs hs, places_le 0 (minus fs hs))

-- ---- a search

module _ {l : List ℕ} (c : FlagList l) where
  pub among : (k : ℕ) → k < length (places l) → k < ones l
  among k h = omega (arith, ones_places 0 l c.binary)

  pub selected : (k : ℕ) → k < ones l → (r : ℕ) → r ≡ place k l → (r ≡ get_or (places l) k 0) × (r < 2048)
  selected k h r e =
      let p = place_places 0 k l c.binary h in
      (omega arith, omega (arith, place_lt k l h, c.size))

  -- those from a word on are all
  abbrev pub AllFrom : (b : ℕ) → Type 0
  AllFrom b = ones (drop (b * 64) l) ≡ ones l

  -- a word that has none is passed
  pub word_passed : (b w : ℕ) → in_word w ≡ take 64 (drop (b * 64) l) → ones (in_word w) ≡ 0 → AllFrom b → AllFrom (b + 1)
  word_passed b w e none all =
      let m : b * 64 + 64 ≡ (b + 1) * 64 = omega arith in
      let behind : ones (drop 64 (drop (b * 64) l)) ≡ ones (drop ((b + 1) * 64) l) = ap ones (drop-drop 64 (b * 64) l) ∙ ap (λ (n : ℕ). ones (drop n l)) m in
      omega (arith, ap ones e, ones_split 64 (drop (b * 64) l), behind)

  -- in one that has some, the first is found
  pub word_found : (b w : ℕ) → b < 32 → in_word w ≡ take 64 (drop (b * 64) l) → 0 < ones (in_word w) → AllFrom b → (r : ℕ) → r ≡ b * 64 + place 0 (in_word w) → FirstIn l r
  word_found b w h e some from r f =
      let d = drop (b * 64) l in
      let here : 0 < ones (take 64 d) = omega (arith, ap ones e) in
      let left : place 0 d ≡ place 0 (in_word w) = ap (place 0) (sym (take-append-drop 64 d)) ∙ place_left 0 (take 64 d) (drop 64 d) here ∙ ap (place 0) (sym e) in
      let before : ones (take (b * 64) l) ≡ 0 = omega (arith, ones_split (b * 64) l) in
      let none : 0 - ones (take (b * 64) l) ≡ 0 = omega arith in
      let at : place 0 l ≡ b * 64 + place 0 d = place_skip (b * 64) 0 l (omega (arith, c.size)) (omega arith) ∙ ap (λ (n : ℕ). b * 64 + place n d) none in
      let all : 0 < ones l = omega (arith, ones_split 64 d) in
      let sel = selected 0 all r (f ∙ sym (at ∙ ap (λ (n : ℕ). b * 64 + n) left)) in
      record { some = omega (arith, ones_places 0 l c.binary); first = sel.0; low = sel.1 }

  pub none_behind : (b : ℕ) → 32 ≤ b → AllFrom b → length (places l) ≡ 0
  none_behind b h all = omega (arith, ones_past l (b * 64) (omega (arith, c.size)), ones_places 0 l c.binary)
