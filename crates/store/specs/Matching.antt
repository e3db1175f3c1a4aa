-- Working definition: no public promise cites it.
-- The invariant of the matching store; what becomes of a token that is spent is in `store_enabled`, and passed on here. Assumes nothing.
use Rattle.std.specs.Prelude.{ℕ, List}
use Rattle.buffer.specs.Rows.{All}
use Rattle.record.specs.TokensAndTags.{tokens}
use Rattle.record.specs.declared.token.Token.{Token}
use Rattle.store_chains.specs.Deferred.{LowCell, Waiting}
use Rattle.store_enabled.specs.Store.{Stored}
pub use Rattle.store_enabled.specs.Enabled.{content_spent, spent_token}

pub record StoreParts (tables links flags ledger : List ℕ) (used : ℕ) : Type 0 where
  pub store : Stored tables links flags ledger used
  pub deferred : Waiting links (tokens used ledger)
  pub cells : All (λ (t : Token). LowCell t.content) (tokens used ledger)

-- opaque to callers
unfoldable pub StoreInside : (tables links flags ledger : List ℕ) → (used : ℕ) → Type 0
StoreInside tables links flags ledger used = StoreParts tables links flags ledger used

-- the invariant: the arrays are right for the used records of the ledger. Callers use it by the laws `matching-..` of proofs/Laws alone
pub record Matching (tables links flags ledger : List ℕ) (used : ℕ) : Type 0 where
  pub inside : StoreInside tables links flags ledger used
