-- Working definition: no public promise cites it.
-- A search of a list from its front. Assumes nothing.
use Rattle.std.specs.Prelude.{ℕ, zero, suc, ◌<◌, ◌≡◌, Bool, cond, List, [], ◌∷◌, length, get_or, Option, Some, None, IfSome}
use Rattle.record.specs.TokensAndTags.{stands_at}
use Rattle.record.specs.declared.tag.Tag.{Tag}
use Rattle.record.specs.declared.token.Token.{Token}

-- the place of the first element that passes a test, where the list's first has place i
abbrev pub first_from : {A : Type 0} → (A → Bool) → ℕ → List A → Option ℕ
first_from p i [] = None
first_from p i (x ∷ xs) = cond (p x) (Some i) (first_from p (suc i) xs)

-- a place + 1, or 0 for none
abbrev pub found_of : ℕ → Option ℕ
found_of zero = None
found_of (suc i) = Some i

-- what was found is below n
abbrev pub FoundWithin : Option ℕ → ℕ → Type 0
FoundWithin f n = IfSome f (λ i. i < n)

-- no token stands at a port of a tag: one that arrives there is no second
abbrev pub Free : List Token → Tag → (port : ℕ) → Type 0
Free ts tag port = first_from (stands_at tag port) 0 ts ≡ None

-- 01, "Firing", refusal 9: no two tokens stand on one port of a tag, so each is the first that a search of its port finds
unfoldable pub Single : List Token → Type 0
Single ts = (i : ℕ) (d : Token) → i < length ts → first_from (stands_at (get_or ts i d).tag (get_or ts i d).port) 0 ts ≡ Some i
