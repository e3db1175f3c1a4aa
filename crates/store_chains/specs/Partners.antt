-- Working definition: no public promise cites it.
-- The partner of a token stands on the other port of its tag. Each place has that of its partner in the array of all chains, behind the chains, as place + 1 and 0 for
-- none. Assumes nothing.
use Rattle.std.specs.Prelude.{ℕ, ◌+◌, ◌-◌, ◌≤◌, ◌<◌, ◌≡◌, List, length, get_or, set, Option, Some, None}
use Rattle.buffer.specs.Rows.{All}
use Rattle.record.specs.TokensAndTags.{stands_at}
use Rattle.record.specs.declared.token.Token.{Token}
use Rattle.store_chains.specs.declared.Slot.{Slot}
use Rattle.store_chains.specs.Search.{first_from, found_of, Single}
use Rattle.store_chains.specs.Slots.{Open}

abbrev pub partner_at : (links : List ℕ) → (place : ℕ) → Option ℕ
partner_at links i = found_of (get_or links (i + 9216) 0)

-- the invariant: what stands beside a token is what a search of the other port of its tag finds
pub record Partnered (links : List ℕ) (ts : List Token) : Type 0 where
  pub room : 11264 ≤ length links
  pub few : length ts ≤ 2048
  pub beside : (i : ℕ) (d : Token) → i < length ts → partner_at links i ≡ first_from (stands_at (get_or ts i d).tag (1 - (get_or ts i d).port)) 0 ts

-- the token at a place and its partner are put beside each other
abbrev pub paired : (links : List ℕ) → (place : ℕ) → Option ℕ → List ℕ
paired links n (Some i) = set (set links (n + 9216) (i + 1)) (i + 9216) (n + 1)
paired links n None = set links (n + 9216) 0

-- a token that arrives in its slot, on port 0 or 1, among tokens that have their partners
pub record Beside (links : List ℕ) (ts : List Token) (t : Token) (s : Slot) : Type 0 where
  pub partners : Partnered links ts
  pub single : Single ts
  pub ports : All (λ (x : Token). x.port < 2) ts
  pub low : t.port < 2
  pub slot : Open ts t.tag t.port s
