-- Working definition: no public promise cites it.
-- What holds once the inputs are in the ledger. Assumes nothing.
use Rattle.std.specs.Prelude.{ℕ, ◌*◌, ◌/◌, ◌<◌, ◌≡◌, List, length, take, drop}
use Rattle.buffer.specs.Rows.{all_rows}
use Rattle.record.specs.TokensAndTags.{tokens, token_at, decode_token, root_of}
use Rattle.record.specs.declared.token.Token.{Token}
use Rattle.record.specs.Widths.{token_width}
use Rattle.store_chains.specs.Search.{Free}
use Rattle.store_chains.specs.Deferred.{LowCell}
use Rattle.store_enabled.specs.Enabled.{arity_of}
use Rattle.store.specs.Matching.{Matching}

-- an input has the root tag of its instruction; and what the matching store asks of a token that arrives: where one operand is waited for, it is on port 0
pub record ProperArrival (tables : List ℕ) (t : Token) : Type 0 where
  pub root : t.tag ≡ root_of t.tag.instruction
  pub low : t.port < 2
  pub cell : LowCell t.content
  pub alone : arity_of tables t.tag ≡ 1 → t.port ≡ 0

-- none of the inputs before it stands where an input does, which refusal 9 is for
abbrev pub Alone : (inputs : List ℕ) → Type 0
Alone inputs = (i : ℕ) → i < length inputs / token_width → Free (take i (all_rows token_width decode_token inputs)) (token_at inputs i).tag (token_at inputs i).port

-- 01, "Firing": "An accepted run first .. writes its inputs to the ledger": `ledger` is as lent, `ledger'` has the r inputs
pub record Loaded (tables links flags ledger ledger' inputs : List ℕ) (r : ℕ) : Type 0 where
  pub all : r ≡ length inputs / token_width
  pub matching : Matching tables links flags ledger' r
  pub taken : tokens r ledger' ≡ all_rows token_width decode_token inputs
  pub size : length ledger' ≡ length ledger
  -- 01, "Tokens and tags": "bytes past what is written stay as lent"
  pub rest : drop (r * token_width) ledger' ≡ drop (r * token_width) ledger
