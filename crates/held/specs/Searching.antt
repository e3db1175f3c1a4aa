-- Working definition: no public promise cites it.
-- 02, R-9: the search for a token that holds an activity back. It passes over records that need no second look: a proper token stays proper. Assumes nothing.
use Rattle.std.specs.Prelude.{ℕ, ◌+◌, ◌≤◌, ◌<◌, ◌≡◌, Bool, true, false, not, ◌&&◌, cond, List, leb, length, get_or}
use Rattle.record.specs.declared.tag.Path.{Path}
use Rattle.record.specs.declared.token.Token.{Token}
use Rattle.record.specs.TokensAndTags.{token_at}
use Rattle.machine.specs.Machine.{on_option}
use Rattle.rules.specs.Held.{stands_in}
use Rattle.ending.specs.Endings.{proper_by}

-- what comes behind a record, if those below another are passed over
abbrev pub later_of : (at skip : ℕ) → ℕ
later_of at skip = cond (leb skip at) (at + 1) skip

-- the second mark of a record: those from it on and below the mark are proper
abbrev pub Skips : (tables ledger : List ℕ) → (used : ℕ) → (marks : List ℕ) → Type 0
Skips tables ledger used marks = (j i : ℕ) → j ≤ i → i < get_or marks (j + 2048) 0 → (i < used) × (proper_by tables (token_at ledger i) ≡ true)

-- the first from a record on that is not proper, or the number of all
pub record PendingFrom (tables ledger : List ℕ) (used from r : ℕ) : Type 0 where
  pub low : from ≤ r
  pub high : r ≤ used
  pub none : (i : ℕ) → from ≤ i → i < r → proper_by tables (token_at ledger i) ≡ true
  pub one : r < used → proper_by tables (token_at ledger r) ≡ false

-- the rules' `holds_back`, by the tables of a graph
unfoldable pub holds_by : (tables : List ℕ) → (bound : ℕ) → Path → (m : ℕ) → Token → Bool
holds_by tables k p m t = not (proper_by tables t) && on_option (stands_in p t.tag) false (λ j. leb (j + k) m)

pub record HolderFrom (tables ledger : List ℕ) (used : ℕ) (path : Path) (bound m from r : ℕ) : Type 0 where
  pub low : from ≤ r
  pub high : r ≤ used
  pub none : (i : ℕ) → from ≤ i → i < r → holds_by tables bound path m (token_at ledger i) ≡ false
  pub one : r < used → holds_by tables bound path m (token_at ledger r) ≡ true

-- a search changed second marks alone, and they are right
pub record Skipped (tables ledger : List ℕ) (used : ℕ) (marks marks' : List ℕ) : Type 0 where
  pub size : length marks' ≡ length marks
  pub same : (i : ℕ) → i < 2048 → get_or marks' i 0 ≡ get_or marks i 0
  pub skips : Skips tables ledger used marks'

-- the first mark of a record: none of those below it holds its activity back
pub record MarkedPast (tables ledger : List ℕ) (bound used : ℕ) (marks : List ℕ) : Type 0 where
  pub size : length marks ≡ 4096
  pub past : (i j : ℕ) → i < 2048 → j < get_or marks i 0
      → (i < used) × (j < used) × (holds_by tables bound (token_at ledger i).tag.path ((token_at ledger i).tag.iteration + 1) (token_at ledger j) ≡ false)
  pub skips : Skips tables ledger used marks
