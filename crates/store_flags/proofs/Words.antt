-- Laws of flags that are kept in words: the flags of all words from those of each, one flag changed, and the first one found by the last word, which says
-- what words have any. Assumes nothing.
use Prim.Native.Nat.{ℕ, zero, suc, ◌+◌, ◌-◌, ◌*◌, ◌/◌, ◌%◌, ◌^◌, ◌≤◌, ◌<◌}
use mathlib.Core.Path.{◌≡◌, refl, sym, ap, ◌∙◌}
use mathlib.Core.List.{List, [], ◌∷◌, ◌++◌, map}
use native.Mathlib.Omega.{arith}
use native.Mathlib.Nat.{not-suc-le-zero, le_of_suc-le-suc}
use native.Mathlib.Decide.{dec_le}
use lib.Dec.{eqb}
use borrow.Author.Tests.{eq-eqb, ne_eqb}
use lib.ListN.{take-append-drop, length, get_or, set, take, drop, replicate, length-append, length-set, length-map, get_or-append, get_or-map}
use lib.Seq.{take-append_seam, drop-append-add, take-set-lt, take-set-le, drop-set-lt, drop-set-add, get_or-set_same, get_or-set_other, get_or-take, get_or-drop, length-take-le, set-append_left}
use Rattle.store_flags.specs.Flags.{ones, place, in_word, flags_in, flags_of, at_most_one, any_set, FlagList, Summed, Counted}
use Rattle.store_flags.proofs.Laws.{ones_append, ones_none, ones_at, place_left, place_right, tallied_none}
use Rattle.store_flags.proofs.Blocks as Blocks
use Rattle.store_flags.proofs.Blocks.{set_append_add, block_is, group_is, block_bounds, groups_all, tallied_set}
use Rattle.store_flags.proofs.Digits.{word_size, word_none, word_some, word_positive}

-- ---- the first n words

in_size : (n : ℕ) (ws : List ℕ) → n ≤ length ws → length (flags_in n ws) ≡ n * 64
in_size zero ws h = refl
in_size (suc n) [] h = absurd (not-suc-le-zero h)
in_size (suc n) (w ∷ ws) h = omega (arith, length-append (in_word w) (flags_in n ws), word_size w, in_size n ws (le_of_suc-le-suc h))

-- the flags of word b
in_word_lem : (n b : ℕ) (ws : List ℕ) → b < n → n ≤ length ws → take 64 (drop (b * 64) (flags_in n ws)) ≡ in_word (get_or ws b 0)
in_word_lem zero b ws g h = absurd (not-suc-le-zero g)
in_word_lem (suc n) b [] g h = absurd (not-suc-le-zero h)
in_word_lem (suc n) zero (w ∷ ws) g h =
    ap (λ (m : ℕ). take m (in_word w ++ flags_in n ws)) (sym (word_size w)) ∙ take-append_seam (in_word w) (flags_in n ws)
in_word_lem (suc n) (suc b) (w ∷ ws) g h =
    let e : suc b * 64 ≡ length (in_word w) + b * 64 = omega (arith, word_size w) in
    ap (λ (m : ℕ). take 64 (drop m (in_word w ++ flags_in n ws))) e
    ∙ ap (take 64) (drop-append-add (in_word w) (flags_in n ws) (b * 64))
    ∙ in_word_lem n b ws (le_of_suc-le-suc g) (le_of_suc-le-suc h)

-- flag k of word b is changed
in_set : (n b k v w' : ℕ) (ws : List ℕ) → b < n → n ≤ length ws → k < 64 → in_word w' ≡ set (in_word (get_or ws b 0)) k v
    → flags_in n (set ws b w') ≡ set (flags_in n ws) (b * 64 + k) v
in_set zero b k v w' ws g h s e = absurd (not-suc-le-zero g)
in_set (suc n) b k v w' [] g h s e = absurd (not-suc-le-zero h)
in_set (suc n) zero k v w' (w ∷ ws) g h s e =
    let d : 0 * 64 + k ≡ k = omega arith in
    rw (d, e) (sym (set-append_left (in_word w) (flags_in n ws) k v (omega (arith, word_size w))))
in_set (suc n) (suc b) k v w' (w ∷ ws) g h s e =
    let d : suc b * 64 + k ≡ length (in_word w) + (b * 64 + k) = omega (arith, word_size w) in
    rw (d, set_append_add (in_word w) (flags_in n ws) (b * 64 + k) v) (ap (λ (l : List ℕ). in_word w ++ l) (in_set n b k v w' ws (le_of_suc-le-suc g) (le_of_suc-le-suc h) s e))

-- a word behind them is changed
in_past : (n b w : ℕ) (ws : List ℕ) → n ≤ b → flags_in n (set ws b w) ≡ flags_in n ws
in_past zero b w ws h = refl
in_past (suc n) b w [] h = refl
in_past (suc n) zero w (x ∷ ws) h = absurd (not-suc-le-zero h)
in_past (suc n) (suc b) w (x ∷ ws) h = ap (λ (l : List ℕ). in_word x ++ l) (in_past n b w ws (le_of_suc-le-suc h))

none_of : (n : ℕ) → at_most_one n ≡ 0 → n ≡ 0
none_of zero e = refl
none_of (suc n) e = absurd (omega arith)

-- where no word has any no flag is set
in_none : (n : ℕ) (ws : List ℕ) → ones (map any_set (take n ws)) ≡ 0 → ones (flags_in n ws) ≡ 0
in_none zero ws z = refl
in_none (suc n) [] z = refl
in_none (suc n) (w ∷ ws) z =
    let here : ones (in_word w) ≡ 0 = none_of (ones (in_word w)) (omega arith) in
    omega (arith, ones_append (in_word w) (flags_in n ws), in_none n ws (omega arith))

-- and the other way round
in_empty : (n : ℕ) (ws : List ℕ) → ones (flags_in n ws) ≡ 0 → ones (map any_set (take n ws)) ≡ 0
in_empty zero ws z = refl
in_empty (suc n) [] z = refl
in_empty (suc n) (w ∷ ws) z =
    let both = ones_append (in_word w) (flags_in n ws) in
    let none : ones (in_word w) ≡ 0 = omega (arith, both) in
    omega (arith, ap at_most_one none, in_empty n ws (omega (arith, both)))

in_some : (n : ℕ) (ws : List ℕ) → 0 < ones (flags_in n ws) → 0 < ones (map any_set (take n ws))
in_some n ws p = go (ones (map any_set (take n ws))) refl
  where
    go : (m : ℕ) → ones (map any_set (take n ws)) ≡ m → 0 < m
    go zero e = absurd (omega (arith, in_none n ws e))
    go (suc m) e = omega arith

-- the first one stands in word b, one of the first n
abbrev Leads : (n : ℕ) → (ws : List ℕ) → (b : ℕ) → Type 0
Leads n ws b = (b < n) × (0 < ones (in_word (get_or ws b 0))) × (place 0 (flags_in n ws) ≡ b * 64 + place 0 (in_word (get_or ws b 0)))

-- it does in the first word that has any
in_first : (n : ℕ) (ws : List ℕ) → n ≤ length ws → 0 < ones (map any_set (take n ws)) → Leads n ws (place 0 (map any_set (take n ws)))
in_first zero ws h p = absurd (not-suc-le-zero p)
in_first (suc n) [] h p = absurd (not-suc-le-zero h)
in_first (suc n) (w ∷ ws) h p = go (ones (in_word w)) refl (in_first n ws (le_of_suc-le-suc h))
  where
    marks : List ℕ
    marks = map any_set (take n ws)

    go : (m : ℕ) → ones (in_word w) ≡ m → (0 < ones marks → Leads n ws (place 0 marks)) → Leads (suc n) (w ∷ ws) (place 0 (at_most_one m ∷ marks))
    go zero e later =
        let here : any_set w ≡ 0 = ap at_most_one e in
        let l = later (omega arith) in
        let none : 0 - ones (in_word w) ≡ 0 = omega arith in
        (omega (arith, l.0), l.1, place_right 0 (in_word w) (flags_in n ws) (omega arith) ∙ rw (none, word_size w) (omega (arith, l.2)))
    go (suc m) e later = (omega arith, omega arith, place_left 0 (in_word w) (flags_in n ws) (omega arith) ∙ omega arith)

-- ---- all words

module _ {ws : List ℕ} (s : Summed ws) where
  pub words_size : length (flags_of ws) ≡ 2048
  unfolding flags_of
  words_size = in_size 32 ws (omega (arith, s.count))

  pub words_word : (b : ℕ) → b < 32 → take 64 (drop (b * 64) (flags_of ws)) ≡ in_word (get_or ws b 0)
  unfolding flags_of
  words_word b h = in_word_lem 32 b ws h (omega (arith, s.count))

  pub words_flag : (i : ℕ) → i < 2048 → get_or (in_word (get_or ws (i / 64) 0)) (i % 64) 0 ≡ get_or (flags_of ws) i 0
  words_flag i h =
      let b = i / 64 in
      let d = drop (b * 64) (flags_of ws) in
      let e : b * 64 + i % 64 ≡ i = omega arith in
      ap (λ (l : List ℕ). get_or l (i % 64) 0) (sym (words_word b (omega arith)))
      ∙ get_or-take 64 d (i % 64) 0 (omega arith)
      ∙ get_or-drop (b * 64) (flags_of ws) (i % 64) 0
      ∙ ap (λ (j : ℕ). get_or (flags_of ws) j 0) e

  -- a one of word b
  pub words_place : (b k : ℕ) → b < 32 → k < ones (in_word (get_or ws b 0)) → place k (drop (b * 64) (flags_of ws)) ≡ place k (in_word (get_or ws b 0))
  words_place b k h g =
      let d = drop (b * 64) (flags_of ws) in
      let e = words_word b h in
      ap (place k) (sym (take-append-drop 64 d)) ∙ place_left k (take 64 d) (drop 64 d) (rw e g) ∙ ap (place k) e

  words_in : 0 < ones (flags_of ws)
      → let b = place 0 (map any_set (take 32 ws)) in
      (0 < ones (map any_set (take 32 ws))) × (b < 32) × (0 < ones (in_word (get_or ws b 0))) × (place 0 (flags_of ws) ≡ b * 64 + place 0 (in_word (get_or ws b 0)))
  unfolding flags_of
  words_in p =
      let some = in_some 32 ws p in
      let l = in_first 32 ws (omega (arith, s.count)) some in
      (some, l.0, l.1, l.2)

  -- the last word's first one is the first word that has any
  pub words_first : 0 < ones (flags_of ws)
      → let b = place 0 (in_word (get_or ws 32 0)) in
      (0 < get_or ws 32 0) × (b < 32) × (0 < ones (in_word (get_or ws b 0))) × (place 0 (flags_of ws) ≡ b * 64 + place 0 (in_word (get_or ws b 0)))
  words_first p =
      let marks = map any_set (take 32 ws) in
      let first = words_in p in
      let all : ones (in_word (get_or ws 32 0)) ≡ ones marks + ones (replicate 32 0) = ap ones s.last ∙ ones_append marks (replicate 32 0) in
      let e : place 0 (in_word (get_or ws 32 0)) ≡ place 0 marks = ap (place 0) s.last ∙ place_left 0 marks (replicate 32 0) first.0 in
      rw e (word_positive (get_or ws 32 0) (omega (arith, first.0)), first.1, first.2, first.3)

  -- and it has none where no flag is set, and only there
  pub words_empty : eqb (ones (in_word (get_or ws 32 0))) 0 ≡ eqb (ones (flags_of ws)) 0
  unfolding flags_of
  words_empty = go (dec_le 1 (ones (in_word (get_or ws 32 0))))
    where
      marks : List ℕ
      marks = map any_set (take 32 ws)

      all : ones (in_word (get_or ws 32 0)) ≡ ones marks
      all = ap ones s.last ∙ ones_append marks (replicate 32 0) ∙ omega (arith, ones_none 32)

      go : Dec (1 ≤ ones (in_word (get_or ws 32 0))) → eqb (ones (in_word (get_or ws 32 0))) 0 ≡ eqb (ones (flags_in 32 ws)) 0
      go (yes h) =
          let there : ¬ (ones (flags_in 32 ws) ≡ 0) = λ z. omega (arith, all, in_empty 32 ws z) in
          ne_eqb (ones (in_word (get_or ws 32 0))) 0 (λ z. omega arith) ∙ sym (ne_eqb (ones (flags_in 32 ws)) 0 there)
      go (no z) = eq-eqb (ones (in_word (get_or ws 32 0))) 0 (omega arith) ∙ sym (eq-eqb (ones (flags_in 32 ws)) 0 (in_none 32 ws (omega (arith, all))))

-- ---- the invariant

any_set_lem : (ws : List ℕ) (b w : ℕ) → map any_set (set ws b w) ≡ set (map any_set ws) b (any_set w)
any_set_lem [] b w = refl
any_set_lem (x ∷ ws) zero w = refl
any_set_lem (x ∷ ws) (suc b) w = ap (λ (l : List ℕ). any_set x ∷ l) (any_set_lem ws b w)

pub none_set : flags_of (replicate 69 0) ≡ replicate 2048 0
unfolding flags_of in_word
none_set = refl

none_last : in_word 0 ≡ map any_set (take 32 (replicate 69 0)) ++ replicate 32 0
unfolding in_word
none_last = refl

pub counted_none : Counted (replicate 69 0)
counted_none = record {
  summed = record { count = refl; last = none_last };
  tallied = rw none_set tallied_none;
}

-- the counts
module _ {ws : List ℕ} (c : Counted ws) where
  pub flag_list : FlagList (flags_of ws)
  flag_list = record { size = c.tallied.size; binary = c.tallied.binary }

  count_at : (j n : ℕ) → n ≡ 33 + j → get_or ws n 0 ≡ get_or (drop 33 ws) j 0
  count_at j n e = ap (λ (m : ℕ). get_or ws m 0) e ∙ sym (get_or-drop 33 ws j 0)

  pub block_count : (b : ℕ) → b < 32 → get_or ws (33 + b) 0 ≡ ones (take 64 (drop (b * 64) (flags_of ws)))
  block_count b h = count_at b (33 + b) refl ∙ block_is (flags_of ws) (drop 33 ws) c.tallied b h

  pub word_count : (b : ℕ) → b < 32 → get_or ws (33 + b) 0 ≡ ones (in_word (get_or ws b 0))
  word_count b h = block_count b h ∙ ap ones (words_word c.summed b h)

  pub group_count : (g : ℕ) → g < 4 → get_or ws (65 + g) 0 ≡ ones (take 512 (drop (g * 512) (flags_of ws)))
  group_count g h = count_at (32 + g) (65 + g) (omega arith) ∙ group_is (flags_of ws) (drop 33 ws) c.tallied g h

  -- a count is at least the flag, and small
  pub word_bounds : (i : ℕ) → i < 2048 → (get_or (flags_of ws) i 0 ≤ get_or ws (33 + i / 64) 0) × (get_or ws (33 + i / 64) 0 ≤ 64)
  word_bounds i h = rw (count_at (i / 64) (33 + i / 64) refl) (block_bounds (flags_of ws) (drop 33 ws) c.tallied i h)

  pub group_bounds : (i : ℕ) → i < 2048 → (get_or (flags_of ws) i 0 ≤ get_or ws (65 + i / 512) 0) × (get_or ws (65 + i / 512) 0 ≤ 512)
  group_bounds i h = rw (count_at (32 + i / 512) (65 + i / 512) (omega arith)) (Blocks.group_bounds (flags_of ws) (drop 33 ws) c.tallied i h)

  pub groups_few : get_or ws 65 0 + get_or ws 66 0 + get_or ws 67 0 + get_or ws 68 0 ≤ 2048
  groups_few = omega (arith, group_bounds 0 (omega arith), group_bounds 512 (omega arith), group_bounds 1024 (omega arith), group_bounds 1536 (omega arith))

  pub groups_count : get_or ws 65 0 + get_or ws 66 0 + get_or ws 67 0 + get_or ws 68 0 ≡ ones (flags_of ws)
  groups_count = rw (count_at 32 65 refl, count_at 33 66 refl, count_at 34 67 refl, count_at 35 68 refl) (groups_all (flags_of ws) (drop 33 ws) c.tallied)

-- ---- the marks

any_one : (n : ℕ) → 0 < n → at_most_one n ≡ 1
any_one zero h = absurd (omega arith)
any_one (suc n) h = refl

pub any_none : any_set 0 ≡ 0
any_none = ap at_most_one (ap ones word_none ∙ ones_none 64)

-- a word with a flag raised has a mark
pub any_some : (w k : ℕ) → get_or (in_word w) k 0 ≡ 1 → any_set w ≡ 1
any_some w k e = any_one (ones (in_word w)) (omega (arith, ones_at (in_word w) k))

pub any_raised : (w w' k : ℕ) → k < 64 → in_word w' ≡ set (in_word w) k 1 → any_set w' ≡ 1
any_raised w w' k h e = any_some w' k (ap (λ (l : List ℕ). get_or l k 0) e ∙ get_or-set_same (in_word w) k 1 0 (omega (arith, word_size w)))

pub any_positive : (w : ℕ) → (w ≡ 0 → ⊥) → w < 2 ^ 64 → any_set w ≡ 1
any_positive w p h = any_one (ones (in_word w)) (word_some w (omega arith) h)

pub mark_at : {ws : List ℕ} → Summed ws → (b : ℕ) → b < 32 → get_or (in_word (get_or ws 32 0)) b 0 ≡ any_set (get_or ws b 0)
mark_at {ws} s b h =
    let n : length (take 32 ws) ≡ 32 = length-take-le 32 ws (omega (arith, s.count)) in
    ap (λ (l : List ℕ). get_or l b 0) s.last
    ∙ get_or-append (map any_set (take 32 ws)) (replicate 32 0) 0 b (omega (arith, length-map (take 32 ws) any_set))
    ∙ ap (λ (d : ℕ). get_or (map any_set (take 32 ws)) b d) (sym any_none)
    ∙ get_or-map any_set (take 32 ws) b 0
    ∙ ap any_set (get_or-take 32 ws b 0 h)

-- a count is changed
module _ {ws : List ℕ} (s : Summed ws) (j a : ℕ) (h : 33 ≤ j) where
  flags_kept : flags_of (set ws j a) ≡ flags_of ws
  unfolding flags_of
  flags_kept = in_past 32 j a ws (omega arith)

  summed_kept : Summed (set ws j a)
  summed_kept = record {
    count = length-set ws j a ∙ s.count;
    last = rw (get_or-set_other ws j 32 a 0 (λ e. omega arith), take-set-le 32 ws j a (omega arith)) s.last;
  }

-- what is read in turn, once what stands before it is written
pub marks_kept : (ws : List ℕ) (i w' : ℕ) → i < 2048 → get_or (set ws (i / 64) w') 32 0 ≡ get_or ws 32 0
marks_kept ws i w' h = get_or-set_other ws (i / 64) 32 w' 0 (λ e. omega arith)

pub in_word_kept : (ws : List ℕ) (i w' s' : ℕ) → i < 2048 → get_or (set (set ws (i / 64) w') 32 s') (33 + i / 64) 0 ≡ get_or ws (33 + i / 64) 0
in_word_kept ws i w' s' h =
    get_or-set_other (set ws (i / 64) w') 32 (33 + i / 64) s' 0 (λ e. omega arith) ∙ get_or-set_other ws (i / 64) (33 + i / 64) w' 0 (λ e. omega arith)

pub in_group_kept : (ws : List ℕ) (i w' s' x : ℕ) → i < 2048
    → get_or (set (set (set ws (i / 64) w') 32 s') (33 + i / 64) x) (65 + i / 512) 0 ≡ get_or ws (65 + i / 512) 0
in_group_kept ws i w' s' x h =
    get_or-set_other (set (set ws (i / 64) w') 32 s') (33 + i / 64) (65 + i / 512) x 0 (λ e. omega arith)
    ∙ get_or-set_other (set ws (i / 64) w') 32 (65 + i / 512) s' 0 (λ e. omega arith)
    ∙ get_or-set_other ws (i / 64) (65 + i / 512) w' 0 (λ e. omega arith)

-- a flag is changed, with the mark of its word and the counts, which are then x and y
module _ {ws : List ℕ} (c : Counted ws) (i v w' s' x y : ℕ) (h : i < 2048) (small : v ≤ 1)
    (put : in_word w' ≡ set (in_word (get_or ws (i / 64) 0)) (i % 64) v) (mark : in_word s' ≡ set (in_word (get_or ws 32 0)) (i / 64) (any_set w'))
    (in_block : x + get_or (flags_of ws) i 0 ≡ get_or ws (33 + i / 64) 0 + v) (inGroup : y + get_or (flags_of ws) i 0 ≡ get_or ws (65 + i / 512) 0 + v) where
  abbrev b : ℕ
  b = i / 64

  abbrev ws' : List ℕ
  ws' = set (set ws b w') 32 s'

  words_set : flags_of ws' ≡ set (flags_of ws) i v
  unfolding flags_of
  words_set =
      let e : b * 64 + i % 64 ≡ i = omega arith in
      in_past 32 32 s' (set ws b w') (omega arith)
      ∙ in_set 32 b (i % 64) v w' ws (omega arith) (omega (arith, c.summed.count)) (omega arith) put
      ∙ ap (λ (j : ℕ). set (flags_in 32 ws) j v) e

  summed_set : Summed ws'
  summed_set =
      let n = c.summed.count in
      let size : length ws' ≡ 69 = length-set (set ws b w') 32 s' ∙ length-set ws b w' ∙ n in
      let at : get_or ws' 32 0 ≡ s' = get_or-set_same (set ws b w') 32 s' 0 (omega (arith, length-set ws b w')) in
      let words : take 32 ws' ≡ set (take 32 ws) b w' = take-set-le 32 (set ws b w') 32 s' (omega arith) ∙ take-set-lt 32 ws b w' (omega arith) in
      let marks : map any_set (take 32 ws') ≡ set (map any_set (take 32 ws)) b (any_set w') = ap (map any_set) words ∙ any_set_lem (take 32 ws) b w' in
      let room : b < length (map any_set (take 32 ws)) = omega (arith, length-map (take 32 ws) any_set, length-take-le 32 ws (omega arith)) in
      record {
        count = size;
        last =
            ap in_word at ∙ mark ∙ ap (λ (l : List ℕ). set l b (any_set w')) c.summed.last
            ∙ set-append_left (map any_set (take 32 ws)) (replicate 32 0) b (any_set w') room
            ∙ ap (λ (l : List ℕ). l ++ replicate 32 0) (sym marks);
      }

  counts_kept : drop 33 ws' ≡ drop 33 ws
  counts_kept = drop-set-lt 33 (set ws b w') 32 s' (omega arith) ∙ drop-set-lt 33 ws b w' (omega arith)

  abbrev ws'' : List ℕ
  ws'' = set (set ws' (33 + b) x) (65 + i / 512) y

  pub flags_put : flags_of ws'' ≡ set (flags_of ws) i v
  flags_put =
      flags_kept (summed_kept summed_set (33 + b) x (omega arith)) (65 + i / 512) y (omega arith)
      ∙ flags_kept summed_set (33 + b) x (omega arith) ∙ words_set

  counts_put : drop 33 ws'' ≡ set (set (drop 33 ws) b x) (32 + i / 512) y
  counts_put =
      let e : 65 + i / 512 ≡ 33 + (32 + i / 512) = omega arith in
      ap (λ (n : ℕ). drop 33 (set (set ws' (33 + b) x) n y)) e
      ∙ drop-set-add 33 (set ws' (33 + b) x) (32 + i / 512) y
      ∙ ap (λ (l : List ℕ). set l (32 + i / 512) y) (drop-set-add 33 ws' b x ∙ ap (λ (l : List ℕ). set l b x) counts_kept)

  pub counted_put : Counted ws''
  counted_put = record {
    summed = summed_kept (summed_kept summed_set (33 + b) x (omega arith)) (65 + i / 512) y (omega arith);
    tallied =
        let ex : x ≡ get_or (drop 33 ws) b 0 + v - get_or (flags_of ws) i 0 = omega (arith, count_at c b (33 + b) refl) in
        let ey : y ≡ get_or (drop 33 ws) (32 + i / 512) 0 + v - get_or (flags_of ws) i 0 = omega (arith, count_at c (32 + i / 512) (65 + i / 512) (omega arith)) in
        rw (flags_put, counts_put, ex, ey) (tallied_set (flags_of ws) (drop 33 ws) c.tallied i v h small);
  }
