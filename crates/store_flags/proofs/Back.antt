-- The words that keep given flags are those that the flags came from, so a list of flags forgets nothing of them. Assumes nothing.
use Prim.Native.Nat.{ℕ, zero, suc, ◌+◌, ◌*◌, ◌/◌, ◌^◌, ◌≤◌, ◌<◌}
use mathlib.Core.Path.{◌≡◌, refl, sym, ap, ◌∙◌}
use mathlib.Core.List.{List, [], ◌∷◌, ◌++◌, map}
use native.Mathlib.Omega.{arith}
use native.Mathlib.Nat.{not-suc-le-zero, le_of_suc-le-suc, pow-succ'}
use lib.ListN.{length, get_or, set, take, drop, replicate, length-set, get_or-append}
use lib.Seq.{take-append_seam, drop-append_seam, get_or-set_same, get_or-set_other, get_or-drop}
use Rattle.store_flags.specs.Flags.{digits, in_word, flags_in, flags_of, any_set, blocks, Counted, number_of, words_for, words_of}
use Rattle.store_flags.proofs.Digits.{word_size}
use Rattle.store_flags.proofs.Laws.{Binary}

-- the first n words fit their 64 bits
abbrev pub Fitting : ℕ → List ℕ → Type 0
Fitting n ws = (i : ℕ) → i < n → get_or ws i 0 < 2 ^ 64

-- ---- one word

digits_back : (n w : ℕ) → w < 2 ^ n → number_of (digits n w) ≡ w
digits_back zero w h = omega arith
digits_back (suc n) w h =
    let r : 2 ^ suc n ≡ 2 * 2 ^ n = pow-succ' 2 n in
    omega (arith, digits_back n (w / 2) (omega arith))

word_back : (w : ℕ) → w < 2 ^ 64 → number_of (in_word w) ≡ w
unfolding in_word
word_back w h = digits_back 64 w h

-- zeros at the end change no number
number_zeros : (n : ℕ) (l : List ℕ) → number_of (l ++ replicate n 0) ≡ number_of l
number_zeros zero [] = refl
number_zeros (suc n) [] = omega (arith, number_zeros n [])
number_zeros n (x ∷ l) = ap (λ (m : ℕ). x + 2 * m) (number_zeros n l)

number_fits : (n : ℕ) (l : List ℕ) → Binary l → number_of (take n l) < 2 ^ n
number_fits zero l b = omega arith
number_fits (suc n) [] b = let r : 2 ^ suc n ≡ 2 * 2 ^ n = pow-succ' 2 n in omega (arith, number_fits n [] b)
number_fits (suc n) (x ∷ l) b = let r : 2 ^ suc n ≡ 2 * 2 ^ n = pow-succ' 2 n in omega (arith, b 0, number_fits n l (λ i. b (suc i)))

-- ---- the words of the flags

first_back : (w : ℕ) (l : List ℕ) → take 64 (in_word w ++ l) ≡ in_word w
first_back w l = ap (λ (n : ℕ). take n (in_word w ++ l)) (sym (word_size w)) ∙ take-append_seam (in_word w) l

rest_back : (w : ℕ) (l : List ℕ) → drop 64 (in_word w ++ l) ≡ l
rest_back w l = ap (λ (n : ℕ). drop n (in_word w ++ l)) (sym (word_size w)) ∙ drop-append_seam (in_word w) l

flags_back : (n : ℕ) (ws : List ℕ) → n ≤ length ws → Fitting n ws → words_for n (flags_in n ws) ≡ take n ws
flags_back zero ws h f = refl
flags_back (suc n) [] h f = absurd (not-suc-le-zero h)
flags_back (suc n) (w ∷ ws) h f =
    let later = flags_back n ws (le_of_suc-le-suc h) (λ i g. f (suc i) (omega arith)) in
    rw (first_back w (flags_in n ws), rest_back w (flags_in n ws), word_back w (f 0 (omega arith)), later)

length_words : (n : ℕ) (l : List ℕ) → length (words_for n l) ≡ n
length_words zero l = refl
length_words (suc n) l = ap suc (length_words n (drop 64 l))

words_fit : (n : ℕ) (l : List ℕ) → Binary l → Fitting n (words_for n l)
words_fit zero l b i h = absurd (not-suc-le-zero h)
words_fit (suc n) l b zero h = number_fits 64 l b
words_fit (suc n) l b (suc i) h = words_fit n (drop 64 l) (λ j. rw (get_or-drop 64 l j 0) (b (64 + j))) i (le_of_suc-le-suc h)

-- ---- all words

-- a list from what stands before a place, at it and behind it
parts : (n : ℕ) (ws : List ℕ) → n < length ws → take n ws ++ (get_or ws n 0 ∷ drop (suc n) ws) ≡ ws
parts n [] h = absurd (not-suc-le-zero h)
parts zero (w ∷ ws) h = refl
parts (suc n) (w ∷ ws) h = ap (λ (l : List ℕ). w ∷ l) (parts n ws (le_of_suc-le-suc h))

all_back : (ws : List ℕ) → length ws ≡ 69 → Fitting 32 ws → words_for 32 (flags_of ws) ≡ take 32 ws
unfolding flags_of
all_back ws h f = flags_back 32 ws (omega arith) f

words_back : (ws : List ℕ) → Counted ws → Fitting 32 ws → get_or ws 32 0 < 2 ^ 64 → words_of (flags_of ws) ≡ ws
unfolding words_of
words_back ws c f g =
    let words = all_back ws c.summed.count f in
    let mark : number_of (map any_set (take 32 ws)) ≡ get_or ws 32 0 =
    sym (number_zeros 32 (map any_set (take 32 ws))) ∙ ap number_of (sym c.summed.last) ∙ word_back (get_or ws 32 0) g in
    ap (λ (l : List ℕ). l ++ (number_of (map any_set l) ∷ (blocks 64 32 (flags_of ws) ++ blocks 512 4 (flags_of ws)))) words
    ∙ ap (λ (m : ℕ). take 32 ws ++ (m ∷ (blocks 64 32 (flags_of ws) ++ blocks 512 4 (flags_of ws)))) mark
    ∙ ap (λ (l : List ℕ). take 32 ws ++ (get_or ws 32 0 ∷ l)) (sym c.tallied.same)
    ∙ parts 32 ws (omega (arith, c.summed.count))

pub words_none : words_of (flags_of (replicate 69 0)) ≡ replicate 69 0
unfolding words_of flags_of in_word
words_none = refl

-- words that are those of flags fit
words_of_fit : (l : List ℕ) → Binary l → Fitting 32 (words_of l)
unfolding words_of
words_of_fit l b i h =
    let ws = words_for 32 l in
    rw (get_or-append ws (number_of (map any_set ws) ∷ (blocks 64 32 l ++ blocks 512 4 l)) 0 i (omega (arith, length_words 32 l))) (words_fit 32 l b i h)

-- a word is put that fits
fits_set : (ws : List ℕ) (j a i : ℕ) → a < 2 ^ 64 → get_or ws i 0 < 2 ^ 64 → get_or (set ws j a) i 0 < 2 ^ 64
fits_set [] j a i h f = f
fits_set (x ∷ ws) zero a zero h f = h
fits_set (x ∷ ws) zero a (suc i) h f = f
fits_set (x ∷ ws) (suc j) a zero h f = f
fits_set (x ∷ ws) (suc j) a (suc i) h f = fits_set ws j a i h f

-- a word is changed, with the marks and the counts: the words are again those of the flags
module _ {ws : List ℕ} (c : Counted ws) (e : words_of (flags_of ws) ≡ ws) (i w' s' x y : ℕ) (h : i < 2048) (w'_fits : w' < 2 ^ 64) (s'_fits : s' < 2 ^ 64) where
  abbrev with_mark : List ℕ
  with_mark = set (set ws (i / 64) w') 32 s'

  abbrev with_counts : List ℕ
  with_counts = set (set with_mark (33 + i / 64) x) (65 + i / 512) y

  was : Fitting 32 ws
  was j g = rw e at (words_of_fit (flags_of ws) c.tallied.binary j g)

  counts_past : (j : ℕ) → j < 33 → get_or with_counts j 0 ≡ get_or with_mark j 0
  counts_past j g =
      get_or-set_other (set with_mark (33 + i / 64) x) (65 + i / 512) j y 0 (λ d. omega arith)
      ∙ get_or-set_other with_mark (33 + i / 64) j x 0 (λ d. omega arith)

  pub words_put : Counted with_counts → words_of (flags_of with_counts) ≡ with_counts
  words_put after = words_back with_counts after words mark
    where
      words : Fitting 32 with_counts
      words j g =
          rw (counts_past j (omega arith), get_or-set_other (set ws (i / 64) w') 32 j s' 0 (λ d. omega arith)) (fits_set ws (i / 64) w' j w'_fits (was j g))

      mark : get_or with_counts 32 0 < 2 ^ 64
      mark = rw (counts_past 32 (omega arith), get_or-set_same (set ws (i / 64) w') 32 s' 0 (omega (arith, length-set ws (i / 64) w', c.summed.count))) s'_fits
