-- A table of records of one width in a buffer, over any width and any kind of record. Assumes nothing.
use Rattle.std.specs.Prelude.{ℕ, zero, suc, ◌+◌, ◌*◌, ◌/◌, ◌%◌, Bool, ◌&&◌, List, [], ◌∷◌, ◌++◌, length, take, drop, eqb, leb}

-- whole records of that width, and no more than `most`, in a buffer of that length
abbrev pub whole : (width most length : ℕ) → Bool
whole width most n = eqb (n % width) 0 && leb (n / width) most

-- the bytes from a place on replaced by b; every other byte stays
unfoldable pub written : List ℕ → ℕ → List ℕ → List ℕ
written l at b = take at l ++ (b ++ drop (at + length b) l)

-- record i replaced by b; every other byte stays
unfoldable pub put_row : (width : ℕ) → List ℕ → ℕ → List ℕ → List ℕ
put_row width l i b = take (i * width) l ++ (b ++ drop (i * width + width) l)

module _ {A : Type 0} where
  -- what the first n records hold, by a function that reads the record that a list of bytes starts with
  abbrev pub rows : (width : ℕ) → (List ℕ → A) → ℕ → List ℕ → List A
  rows width read zero l = []
  rows width read (suc n) l = read l ∷ rows width read n (drop width l)

  -- what all its whole records hold
  abbrev pub all_rows : (width : ℕ) → (List ℕ → A) → List ℕ → List A
  all_rows width read l = rows width read (length l / width) l

  -- the bytes of a list of records
  abbrev pub joined : (A → List ℕ) → List A → List ℕ
  joined write [] = []
  joined write (x ∷ xs) = write x ++ joined write xs

  -- the buffer with a list of records written from its start; bytes past what is written stay as lent
  abbrev pub written_over : (A → List ℕ) → List A → (lent : List ℕ) → List ℕ
  written_over write xs lent = joined write xs ++ drop (length (joined write xs)) lent

  abbrev pub All : (A → Type 0) → List A → Type 0
  All P [] = Unit {0}
  All P (x ∷ xs) = P x × All P xs
