-- Working definition: no public promise cites it.
-- What is kept beside the used records of a ledger: the chains by tag, and the flags of the enabled activities with their counts.
-- Assumes nothing.
use Rattle.std.specs.Prelude.{ℕ, ◌+◌, ◌-◌, ◌*◌, ◌/◌, ◌≤◌, ◌<◌, ◌≡◌, Bool, true, false, ◌&&◌, cond, List, length, set, take, eqb, Option, Some, None, min}
use Rattle.buffer.specs.Rows.{joined, put_row, All}
use Rattle.record.specs.TokensAndTags.{encode_token, tokens, token_at, stands_at, TokenFits}
use Rattle.record.specs.declared.tag.Tag.{Tag}
use Rattle.record.specs.declared.token.Token.{Token}
use Rattle.record.specs.Widths.{token_width, state_offset}
use Rattle.store_flags.specs.Marks.{Marked}
use Rattle.store_chains.specs.Chains.{Indexed}
use Rattle.store_chains.specs.Search.{first_from, Single}
use Rattle.store_chains.specs.Partners.{Partnered}
use Rattle.store_enabled.specs.Enabled.{is_live_record, arity_of, is_enabled, tags_in, tag_same, earliest_of, spent_token}

-- a ledger whose used records are indexed and have their partners, and stand on ports 0 and 1, no two on one port of a tag
pub record Known (links ledger : List ℕ) (used : ℕ) : Type 0 where
  pub room : used ≤ length ledger / token_width
  pub index : Indexed links (tokens used ledger)
  pub ports : All (λ (t : Token). t.port < 2) (tokens used ledger)
  pub single : Single (tokens used ledger)
  pub partners : Partnered links (tokens used ledger)

-- the flags are those of the enabled activities
unfoldable pub Right : (tables : List ℕ) → List Token → (flags : List ℕ) → Type 0
Right tables ts flags = Marked tag_same (is_enabled tables ts) (tags_in ts) flags

-- the invariant of this crate; the used records are the bytes of their tokens, in every byte
pub record Stored (tables links flags ledger : List ℕ) (used : ℕ) : Type 0 where
  pub known : Known links ledger used
  pub bytes : take (used * token_width) ledger ≡ joined encode_token (tokens used ledger)
  pub fits : All TokenFits (tokens used ledger)
  pub right : Right tables (tokens used ledger) flags

-- the flag of an activity is raised if its operands are all live, and else left as it was
abbrev pub raised_if : (live : Bool) → (flags : List ℕ) → (place : ℕ) → List ℕ
raised_if live flags place = cond live (set flags place 1) flags

-- ---- answers of a search

abbrev pub live_found : (ℕ → Token) → Option ℕ → Bool
live_found at (Some i) = is_live_record (at i).content
live_found at None = false

-- the place of the activity of a tag, if it is enabled
abbrev pub enabled_at : (tables : List ℕ) → List Token → Tag → Option ℕ
enabled_at tables ts tag = cond (is_enabled tables ts tag) (Some (earliest_of ts tag)) None

-- of n operands all are live, where a and b say it of ports 0 and 1
abbrev pub ready_of : (n : ℕ) → (a b : Bool) → Bool
ready_of n a b = cond (eqb n 1) a (cond (eqb n 2) (a && b) false)

-- the same, where a says it of a port below 2 and b of the other
abbrev pub ready_with : (n port : ℕ) → (a b : Bool) → Bool
ready_with n port a b = cond (eqb port 0) (ready_of n a b) (ready_of n b a)

-- ---- a token that has arrived

-- record `own` is the last, and the first on a port of a tag, which is 0 or 1; `other` is its partner, which stands on the other port
pub record Last (ledger : List ℕ) (own : ℕ) (tag : Tag) (port : ℕ) (other : Option ℕ) : Type 0 where
  pub room : own < length ledger / token_width
  pub few : own < 2048
  pub ports : All (λ (t : Token). t.port < 2) (tokens (own + 1) ledger)
  pub low : port < 2
  pub first : first_from (stands_at tag port) 0 (tokens (own + 1) ledger) ≡ Some own
  pub partner : other ≡ first_from (stands_at tag (1 - port)) 0 (tokens (own + 1) ledger)

-- ---- a token that stands in its record already

-- the bytes of record i are those of t, which is on port 0 or 1; where its activity waits for one operand, on port 0
pub record StandingRecord (tables ledger : List ℕ) (i : ℕ) (t : Token) : Type 0 where
  pub same : token_at ledger i ≡ t
  pub fits : TokenFits t
  pub bytes : ledger ≡ put_row token_width ledger i (encode_token t)
  pub low : t.port < 2
  pub alone : arity_of tables t.tag ≡ 1 → t.port ≡ 0

-- ---- operands that are spent

-- the tokens at two places, or at one that is given twice, are operands of an activity: both are live, the first is that of port 0, and the
-- earlier is the first of their tag
pub record OperandPlaces (ledger : List ℕ) (used first second : ℕ) : Type 0 where
  pub first_within : first < used
  pub second_within : second < used
  pub first_live : is_live_record (token_at ledger first).content ≡ true
  pub second_live : is_live_record (token_at ledger second).content ≡ true
  pub one_tag : (token_at ledger second).tag ≡ (token_at ledger first).tag
  pub found : first_from (stands_at (token_at ledger first).tag 0) 0 (tokens used ledger) ≡ Some first
  pub place : earliest_of (tokens used ledger) (token_at ledger first).tag ≡ min first second

-- of two places the earlier comes first
pub record EarlierFirst (place other first second : ℕ) : Type 0 where
  pub lead : place ≡ min first second
  pub rest : place + other ≡ first + second

-- the operands stand at an activity's place and at another, whichever of them is on port 0
pub record Spendable (ledger : List ℕ) (used place other : ℕ) : Type 0 where
  pub first : ℕ
  pub second : ℕ
  pub operands : OperandPlaces ledger used first second
  pub order : EarlierFirst place other first second

-- the bytes and the tokens of a ledger, where the tokens at two places are spent: a live one is spent by its state byte
abbrev pub states_spent : List ℕ → (first second : ℕ) → List ℕ
states_spent l i j = set (set l (i * token_width + state_offset) 1) (j * token_width + state_offset) 1

abbrev pub tokens_spent : (used : ℕ) → List ℕ → (first second : ℕ) → List Token
tokens_spent used l i j = set (set (tokens used l) i (spent_token (token_at l i))) j (spent_token (token_at l j))
