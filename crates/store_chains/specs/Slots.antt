-- Working definition: no public promise cites it.
-- Where a token may arrive. Assumes nothing.
use Rattle.std.specs.Prelude.{ℕ, ◌-◌, ◌≡◌, true, List, Option, Some, None, is_some}
use Rattle.record.specs.TokensAndTags.{stands_at}
use Rattle.record.specs.declared.tag.Tag.{Tag}
use Rattle.record.specs.declared.token.Token.{Token}
use Rattle.store_chains.specs.declared.Slot.{Slot}
use Rattle.store_chains.specs.Search.{first_from, Free}
use Rattle.store_chains.specs.Chains.{bucket_of}

-- a token may arrive at a port of a tag, which is 0 or 1: none stands there, and the slot is the chain of the tag and what stands on its other port
pub record Open (ts : List Token) (tag : Tag) (port : ℕ) (s : Slot) : Type 0 where
  pub free : Free ts tag port
  pub bucket : s.bucket ≡ bucket_of tag
  pub partner : s.partner ≡ first_from (stands_at tag (1 - port)) 0 ts

-- a slot, or none, and a token stands there
abbrev pub SoughtAt : Option Slot → List Token → Tag → (port : ℕ) → Type 0
SoughtAt (Some s) ts tag port = Open ts tag port s
SoughtAt None ts tag port = is_some (first_from (stands_at tag port) 0 ts) ≡ true
