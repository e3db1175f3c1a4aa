-- Working definition: no public promise cites it.
-- The flags of the enabled activities of a ledger, from the tags of its tokens in order of arrival and the test which tags are enabled:
-- an activity's place is that of its earliest token, and each activity is counted once. Over any kind of tag. Assumes nothing.
use Rattle.std.specs.Prelude.{ℕ, suc, ◌-◌, ◌≡◌, Bool, true, false, ◌&&◌, cond, List, [], ◌∷◌, ◌++◌, length, replicate, eqb}

abbrev pub bit : Bool → ℕ
bit true = 1
bit false = 0

-- the places, in order, of the elements that pass a test of place and element, where the list's first has place i
abbrev pub places_where : {A : Type 0} → (ℕ → A → Bool) → ℕ → List A → List ℕ
places_where test i [] = []
places_where test i (x ∷ l) = cond (test i x) (i ∷ places_where test (suc i) l) (places_where test (suc i) l)

module _ {A : Type 0} (same : A → A → Bool) where
  -- the place of the earliest token of tag x, or the number of tokens where there is none
  abbrev pub first_of : A → List A → ℕ
  first_of x [] = 0
  first_of x (y ∷ l) = cond (same x y) 0 (suc (first_of x l))

  -- the token at place i has an enabled tag and is the earliest of it
  abbrev pub leads : (A → Bool) → List A → ℕ → A → Bool
  leads on l i x = eqb (first_of x l) i && on x

  -- the tags that are enabled, but for x
  abbrev pub without : A → (A → Bool) → A → Bool
  without x on y = cond (same x y) false (on y)

  -- a flag for each token: past the earliest token of a tag the tag no longer counts
  abbrev pub marks : (A → Bool) → List A → List ℕ
  marks on [] = []
  marks on (x ∷ l) = bit (on x) ∷ marks (without x on) l

  -- the invariant: the 2,048 flags are those of the enabled activities
  unfoldable pub Marked : (A → Bool) → List A → List ℕ → Type 0
  Marked on l flags = flags ≡ marks on l ++ replicate (2048 - length l) 0
