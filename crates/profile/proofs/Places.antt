-- The places at the start of a step: found one after the other, and written. Assumes nothing.
use Prim.Native.Nat.{ℕ, zero, suc, ◌+◌, ◌-◌, ◌*◌, ◌/◌, ◌≤◌, ◌<◌}
use mathlib.Core.Path.{◌≡◌, sym, ap, ◌∙◌}
use mathlib.Core.List.{List, [], ◌∷◌, ◌++◌}
use native.Mathlib.Omega.{arith}
use native.Mathlib.Decide.{dec_le}
use lib.ListN.{length, get_or, set, take, drop, take-append-drop}
use lib.Seq.{take_all, get_or-set_same, get_or-set_other, get_or-drop, drop-drop, length-take-le, set-append_left}
use Rattle.store_flags.specs.Flags.{places, place, ones, in_word, FlagList}
use Rattle.store_flags.proofs.Laws.{Binary, ones_le, ones_places, ones_split, ones_append, ones_set, ones_past, place_skip, place_left, place_right, place_rest, place_lt, place_one}
use Rattle.store_flags.proofs.Digits.{word_size, word_binary}

-- there are 2,048 at most
pub places_few : (flags : List ℕ) → FlagList flags → length (places flags) ≤ 2048
places_few flags w =
    let all : ones (take 2048 flags) ≡ ones flags = ap ones (take_all 2048 flags (omega (arith, w.size))) in
    omega (arith, ones_places 0 flags w.binary, ones_le 2048 flags w.binary, all)

-- ---- the ones that are left: those of a word's rest, and of the words behind it

abbrev left : (flags : List ℕ) → (b rest : ℕ) → List ℕ
left flags b rest = in_word rest ++ drop (b * 64 + 64) flags

-- all ones but the first k are left, each at its place
pub record Left (flags : List ℕ) (b rest k : ℕ) : Type 0 where
  pub word : b < 32
  pub all : ones (left flags b rest) + k ≡ ones flags
  pub at : (j : ℕ) → j < ones (left flags b rest) → place (k + j) flags ≡ b * 64 + place j (left flags b rest)

none_there : (l : List ℕ) → length l ≤ place 0 l → ones l ≡ 0
none_there l h = go (dec_le 1 (ones l))
  where
    go : Dec (1 ≤ ones l) → ones l ≡ 0
    go (yes p) = absurd (omega (arith, place_lt 0 l p))
    go (no z) = omega arith

some_there : (l : List ℕ) → place 0 l < length l → 0 < ones l
some_there l h = go (dec_le 1 (ones l))
  where
    go : Dec (1 ≤ ones l) → 0 < ones l
    go (yes p) = p
    go (no z) =
        let none : ones l ≡ 0 = omega arith in
        let past = place_skip (length l) 0 l (omega arith) (omega (arith, ap ones (take_all (length l) l (omega arith)))) in
        absurd (omega arith)

-- no one stands before the first
none_before : (m : ℕ) (l : List ℕ) → m ≤ place 0 l → m ≤ length l → ones (take m l) ≡ 0
none_before m l h g = go (dec_le 1 (ones (take m l)))
  where
    go : Dec (1 ≤ ones (take m l)) → ones (take m l) ≡ 0
    go (yes p) =
        let e : place 0 l ≡ place 0 (take m l) = ap (place 0) (sym (take-append-drop m l)) ∙ place_left 0 (take m l) (drop m l) p in
        absurd (omega (arith, e, place_lt 0 (take m l) p, length-take-le m l g))
    go (no z) = omega arith

binary_append : (xs ys : List ℕ) → Binary xs → Binary ys → Binary (xs ++ ys)
binary_append [] ys a b i = b i
binary_append (x ∷ xs) ys a b zero = a zero
binary_append (x ∷ xs) ys a b (suc i) = binary_append xs ys (λ j. a (suc j)) b i

module _ {F : List ℕ} (w : FlagList F) where
  whole_word : (b word : ℕ) → in_word word ≡ take 64 (drop (b * 64) F) → left F b word ≡ drop (b * 64) F
  whole_word b word h =
      let behind : drop 64 (drop (b * 64) F) ≡ drop (b * 64 + 64) F = drop-drop 64 (b * 64) F in
      (λ i. h i ++ sym behind i) ∙ take-append-drop 64 (drop (b * 64) F)

  pub left_start : (first word : ℕ) → 0 < ones F → first ≡ place 0 F → in_word word ≡ take 64 (drop (first / 64 * 64) F) → Left F (first / 64) word 0
  left_start first word some e h =
      let b = first / 64 in
      let size = w.size in
      let below : first < 2048 = omega (arith, place_lt 0 F some) in
      let none = none_before (b * 64) F (omega arith) (omega arith) in
      let whole = whole_word b word h in
      record {
        word = omega arith;
        all = rw whole (omega (arith, ones_split (b * 64) F));
        at = rw whole (λ j h.
            let z : 0 + j ≡ j = omega arith in
            let y : j - ones (take (b * 64) F) ≡ j = omega arith in
            rw z (place_skip (b * 64) j F (omega arith) (omega arith) ∙ ap (λ (n : ℕ). b * 64 + place n (drop (b * 64) F)) y));
      }

  module _ (b rest k : ℕ) (l : Left F b rest k) (more : k < ones F) where
    -- none is left in the word: the next word is whole
    pub left_word : 64 ≤ place 0 (in_word rest) → (b + 1 < 32) × ((word : ℕ) → in_word word ≡ take 64 (drop ((b + 1) * 64) F) → Left F (b + 1) word k)
    left_word h =
        let none = none_there (in_word rest) (omega (arith, word_size rest)) in
        let both = ones_append (in_word rest) (drop (b * 64 + 64) F) in
        let next : b + 1 < 32 = go (dec_le (suc (b + 1)) 32) (omega (arith, l.all, both)) in
        let same : (b + 1) * 64 ≡ b * 64 + 64 = omega arith in (
          next,
          λ word is.
              let whole = whole_word (b + 1) word is ∙ ap (λ (n : ℕ). drop n F) same in
              record {
                word = next;
                all = rw whole (omega (arith, l.all, both));
                at = rw whole (λ j g.
                    let z : j - ones (in_word rest) ≡ j = omega arith in
                    l.at j (omega (arith, both)) ∙ ap (λ (n : ℕ). b * 64 + n) (place_right j (in_word rest) (drop (b * 64 + 64) F) (omega arith) ∙ ap (λ (n : ℕ). length (in_word rest) + place n (drop (b * 64 + 64) F)) z) ∙ omega (arith, word_size rest));
              },
        )
      where
        go : Dec (suc (b + 1) ≤ 32) → 0 < ones (drop (b * 64 + 64) F) → b + 1 < 32
        go (yes g) p = g
        go (no z) p = absurd (omega (arith, ones_past F (b * 64 + 64) (omega (arith, w.size))))

    -- the first one of the word's rest is the next
    pub left_one : (p : ℕ) → p ≡ place 0 (in_word rest) → p < 64 → (get_or (in_word rest) p 0 ≡ 1) × (b * 64 + p ≡ place k F)
        × ((rest' : ℕ) → in_word rest' ≡ set (in_word rest) p 0 → Left F b rest' (k + 1))
    left_one p e h =
        let some = some_there (in_word rest) (omega (arith, word_size rest)) in
        let tail = drop (b * 64 + 64) F in
        let both = ones_append (in_word rest) tail in
        let first : place 0 (left F b rest) ≡ p = place_left 0 (in_word rest) tail some ∙ sym e in
        let one : get_or (in_word rest) p 0 ≡ 1 = rw e (place_one 0 (in_word rest) (word_binary rest) some) in
        let z : k + 0 ≡ k = omega arith in
        let G = left F b rest in
        let found : 0 < ones G = omega (arith, both) in
        let binary : Binary G = binary_append (in_word rest) tail (word_binary rest) (λ i. rw (get_or-drop (b * 64 + 64) F i 0) (w.binary (b * 64 + 64 + i))) in
        let fewer : ones (set G (place 0 G) 0) + 1 ≡ ones G = omega (arith, ones_set G (place 0 G) 0 (place_lt 0 G found), place_one 0 G binary found) in (
          one,
          ap (λ (n : ℕ). b * 64 + n) (sym first) ∙ sym (l.at 0 found) ∙ ap (λ (n : ℕ). place n F) z,
          λ rest' put.
              let same : left F b rest' ≡ set G (place 0 G) 0 = ap (λ (m : List ℕ). m ++ tail) put ∙ sym (set-append_left (in_word rest) tail p 0 (omega (arith, word_size rest))) ∙ ap (λ (i : ℕ). set G i 0) (sym first) in
              record {
                word = l.word;
                all = rw same (omega (arith, fewer, l.all));
                at = rw same (λ j g.
                    let y : k + 1 + j ≡ k + suc j = omega arith in
                    rw y (l.at (suc j) (omega (arith, fewer)) ∙ ap (λ (n : ℕ). b * 64 + n) (sym (place_rest j G binary (omega (arith, fewer))).1)));
              },
        )

-- the first k of a list stand in another
abbrev pub Copied : (k : ℕ) → (from out : List ℕ) → Type 0
Copied k from out = (j : ℕ) → j < k → get_or out j 0 ≡ get_or from j 0

pub copied_next : (k x : ℕ) (from out : List ℕ) → k < length out → x ≡ get_or from k 0 → Copied k from out → Copied (k + 1) from (set out k x)
copied_next k x from out room e w j h = go (dec_le (suc j) k)
  where
    go : Dec (suc j ≤ k) → get_or (set out k x) j 0 ≡ get_or from j 0
    go (yes l) = get_or-set_other out k j x 0 (λ q. omega (arith, q)) ∙ w j l
    go (no z) = let q : j ≡ k = omega arith in rw q (get_or-set_same out k x 0 room ∙ e)
