-- Working definition: no public promise cites it.
-- The operands of a tag among a ledger's tokens, as searches of the tokens. proofs/ joins them with the machine's definitions. Assumes nothing.
use Rattle.std.specs.Prelude.{ℕ, ◌<◌, ◌≡◌, true, cond, List, length, get_or, eqb, ℤ, Option, Some, None}
use Rattle.record.specs.declared.tag.Tag.{Tag}
use Rattle.record.specs.declared.token.Token.{Token}
use Rattle.record.specs.declared.token.Content.{Content}
use Rattle.record.specs.declared.token.Content.TheVariants.{Live, Spent, Deferred}
use Rattle.record.specs.TokensAndTags.{stands_at}
use Rattle.store_chains.specs.Search.{first_from}
use Rattle.store_enabled.specs.Enabled.{earliest_of, operands_live}
use Rattle.abstraction.specs.States.{no_token}

-- ---- the operands

-- a live operand, by its place and value
pub data Operand : Type 0 where
  Held : (place : ℕ) → ℤ → Operand
  Lacking : Operand

-- the operands of a tag, by their places and values. Where one is waited for, it stands for both
pub data Matched : Type 0 where
  Both : (first second : ℕ) → (left right : ℤ) → Matched
  Missing : Matched

unfoldable pub operand_held : (place : ℕ) → Content → Operand
operand_held i (Live v) = Held i v
operand_held i (Spent v) = Lacking
operand_held i (Deferred cell) = Lacking

unfoldable pub operand_found : List Token → Option ℕ → Operand
operand_found ts (Some i) = operand_held i (get_or ts i no_token).content
operand_found ts None = Lacking

unfoldable pub operand_at : List Token → Tag → (port : ℕ) → Operand
operand_at ts tag port = operand_found ts (first_from (stands_at tag port) 0 ts)

unfoldable pub one : Operand → Matched
one (Held i v) = Both i i v v
one Lacking = Missing

unfoldable pub two : Operand → Operand → Matched
two (Held i v) (Held j w) = Both i j v w
two (Held i v) Lacking = Missing
two Lacking o = Missing

unfoldable pub matched_at : (arity : ℕ) → List Token → Tag → Matched
matched_at n ts tag =
    cond (eqb n 0) Missing
    (cond (eqb n 1) (one (operand_at ts tag 0)) (two (operand_at ts tag 0) (operand_at ts tag 1)))

-- of the place of a token on a port and that of its partner, the one on port 0; of the partner's and its own, the one on port 1
abbrev pub by_port : (port own other : ℕ) → ℕ
by_port port own other = cond (eqb port 0) own other

-- the operands of an activity with a token on a port at its place, whose partner is at another
abbrev pub both_at : (port place other : ℕ) → (left right : ℤ) → Matched
both_at port place other v w = Both (by_port port place other) (by_port port other place) v w

-- "Its place is the ledger position of its earliest operand": the token there is the earliest of the tag, and stands on a port that is waited for; all operands
-- of the tag are live
pub record Earliest (arity : ℕ) (ts : List Token) (tag : Tag) (place : ℕ) : Type 0 where
  pub within : place < length ts
  pub first : earliest_of ts tag ≡ place
  pub waited : 0 < arity → (get_or ts place no_token).port < arity
  pub enabled : operands_live arity ts tag ≡ true
