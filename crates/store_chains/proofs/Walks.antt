-- A walk along a chain, from its last place to its first. Assumes nothing.
use Prim.Native.Nat.{ℕ, zero, suc, ◌≤◌}
use mathlib.Core.Path.{◌≡◌, refl}
use mathlib.Core.Bool.{Bool, cond}
use mathlib.Core.List.{List, map}
use lib.ListN.{length}
use Rattle.std.specs.Prelude.{Option, Some, None}
use Rattle.record.specs.TokensAndTags.{tokens, token_at, stands_at}
use Rattle.record.specs.declared.tag.Tag.{Tag}
use Rattle.store_chains.specs.Search.{found_of}
use Rattle.store_chains.specs.Chains.{bucket_of, bucket_key, last_below}

-- `at` is a place + 1 of chain c, or 0 at its end
pub record On (c : ℕ) (ks : List ℕ) (at : ℕ) : Type 0 where
  pub below : at ≤ length ks
  pub small : at ≤ 2048
  pub here : at ≡ last_below (suc c) ks at

-- a place as a chain has it: place + 1, and 0 for none. `found_of` is the way back
abbrev pub link_of : Option ℕ → ℕ
link_of None = 0
link_of (Some i) = suc i

pub link_found : (n : ℕ) → link_of (found_of n) ≡ n
link_found zero = refl
link_found (suc i) = refl

pub found_link : (f : Option ℕ) → found_of (link_of f) ≡ f
found_link None = refl
found_link (Some i) = refl

-- 1 + the first of n places that passes a test, or what was found past them
abbrev pub earliest : (ℕ → Bool) → (n : ℕ) → (past : ℕ) → ℕ
earliest q zero past = past
earliest q (suc i) past = earliest q i (cond (q i) (suc i) past)

-- a token stands at a port of a tag, by its place in a ledger
abbrev pub stands : (ledger : List ℕ) → Tag → (port : ℕ) → ℕ → Bool
stands l tag port i = stands_at tag port (token_at l i)

-- a search of the chain of a tag, in the first n records of a ledger, has come to `at`, with what it found before it: nothing was missed
pub record Walk (l : List ℕ) (n : ℕ) (tag : Tag) (port at best : ℕ) : Type 0 where
  pub on : On (bucket_of tag) (map bucket_key (tokens n l)) at
  pub low : at ≤ n
  pub same : earliest (stands l tag port) n 0 ≡ earliest (stands l tag port) at best
