-- Working definition: no public promise cites it.
-- Flags of 0 or 1 in a list: how many are 1 and at which places they stand. And how they are kept, in 69 words: 64 in a word,
-- then a word that says which words have any, then the counts by blocks of 64 and by groups of 512.
-- Assumes nothing.
use Rattle.std.specs.Prelude.{ℕ, zero, suc, ◌+◌, ◌-◌, ◌*◌, ◌/◌, ◌%◌, ◌≤◌, ◌<◌, ◌≡◌, cond, List, [], ◌∷◌, ◌++◌, map, length, get_or, take, drop, replicate, ltb}

-- the places of the ones, in order, where the list's first has place i
abbrev pub places_from : ℕ → List ℕ → List ℕ
places_from i [] = []
places_from i (zero ∷ l) = places_from (suc i) l
places_from i (suc x ∷ l) = i ∷ places_from (suc i) l

abbrev pub places : List ℕ → List ℕ
places l = places_from 0 l

-- the number of ones
abbrev pub ones : List ℕ → ℕ
ones [] = 0
ones (x ∷ l) = x + ones l

-- the place of one number k, counted from 0
abbrev pub place : ℕ → List ℕ → ℕ
place k [] = 0
place k (x ∷ l) = cond (ltb k x) 0 (suc (place (k - x) l))

-- the ones of each of the first n blocks of a width
abbrev pub blocks : ℕ → ℕ → List ℕ → List ℕ
blocks width zero l = []
blocks width (suc n) l = ones (take width l) ∷ blocks width n (drop width l)

-- the flags but for those of another list
abbrev pub minus : List ℕ → List ℕ → List ℕ
minus [] m = []
minus (x ∷ l) [] = x ∷ l
minus (x ∷ l) (y ∷ m) = (x - y) ∷ minus l m

-- of which every one is a one here too
abbrev pub Under : List ℕ → List ℕ → Type 0
Under m l = (i : ℕ) → get_or m i 0 ≤ get_or l i 0

-- where the first of them stands
pub record FirstIn (l : List ℕ) (r : ℕ) : Type 0 where
  pub some : 0 < length (places l)
  pub first : r ≡ get_or (places l) 0 0
  pub low : r < 2048

-- 2,048 flags, each 0 or 1
pub record FlagList (l : List ℕ) : Type 0 where
  pub size : length l ≡ 2048
  pub binary : (i : ℕ) → get_or l i 0 ≤ 1

-- 2,048 flags, each 0 or 1, with their counts by blocks and, behind those, by groups of eight blocks
pub record Tallied (flags counts : List ℕ) : Type 0 where
  pub size : length flags ≡ 2048
  pub binary : (i : ℕ) → get_or flags i 0 ≤ 1
  pub same : counts ≡ blocks 64 32 flags ++ blocks 512 4 flags

-- ---- flags in words

-- the n lowest binary digits of a number, the lowest first
abbrev pub digits : ℕ → ℕ → List ℕ
digits zero w = []
digits (suc n) w = w % 2 ∷ digits n (w / 2)

-- the 64 flags of a word
unfoldable pub in_word : ℕ → List ℕ
in_word w = digits 64 w

-- the flags of the first n words
abbrev pub flags_in : ℕ → List ℕ → List ℕ
flags_in zero ws = []
flags_in (suc n) [] = []
flags_in (suc n) (w ∷ ws) = in_word w ++ flags_in n ws

-- the flags that the first 32 words hold
unfoldable pub flags_of : List ℕ → List ℕ
flags_of ws = flags_in 32 ws

abbrev pub at_most_one : ℕ → ℕ
at_most_one zero = 0
at_most_one (suc n) = 1

-- 1 for a word that has any flag set
abbrev pub any_set : ℕ → ℕ
any_set w = at_most_one (ones (in_word w))

-- word 32 says which of those before it have any flag set
pub record Summed (ws : List ℕ) : Type 0 where
  pub count : length ws ≡ 69
  pub last : in_word (get_or ws 32 0) ≡ map any_set (take 32 ws) ++ replicate 32 0

-- the invariant that every operation keeps; the counts stand behind word 32
pub record Counted (ws : List ℕ) : Type 0 where
  pub summed : Summed ws
  pub tallied : Tallied (flags_of ws) (drop 33 ws)

-- ---- the words that keep given flags

-- the number of which the list has the binary digits, the lowest first
abbrev pub number_of : List ℕ → ℕ
number_of [] = 0
number_of (x ∷ l) = x + 2 * number_of l

-- n words, each of 64 of the flags
abbrev pub words_for : ℕ → List ℕ → List ℕ
words_for zero l = []
words_for (suc n) l = number_of (take 64 l) ∷ words_for n (drop 64 l)

-- the 69 words of 2,048 flags: nothing else meets the invariant and has these flags
unfoldable pub words_of : List ℕ → List ℕ
words_of l = words_for 32 l ++ (number_of (map any_set (words_for 32 l)) ∷ (blocks 64 32 l ++ blocks 512 4 l))
