-- 02, R-13, in bytes: "For any state taken, the same orders theorem applies from there, with that state in the place of the inputs." One claim about two runs from one
-- state, for every two lists of picks. It speaks of what `carry_on` (crate engine) and `list` promise. The statement; it is proved in proofs/SavedOrders. Assumes nothing.
use Rattle.std.specs.Prelude.{ℕ, ◌*◌, ◌≡◌, List, length, take, Ok}
use Rattle.number.specs.Number.{Bytes}
use Rattle.record.specs.Widths.{token_width}
use Rattle.rules.specs.Check.{check_graph}
use Rattle.rules.specs.Runs.{LentToRun, LeftByRun}
use Rattle.rules.specs.Orders.{Allowed}
use Rattle.rules.specs.Saved.{CarriedOn}
use Rattle.listing.specs.Demand3.{BytesAgree}

-- the promise of `carry_on`
abbrev pub CarriedTo : (graph arrays : List ℕ) → (budget firings tokens : ℕ) → LentToRun → LeftByRun → Type 0
CarriedTo graph arrays budget firings n l x = CarriedOn graph arrays l.picks budget firings n x.answer l.ledger x.ledger l.cells x.cells

-- neither run is refused by 7; where the graph fails its check, lengths do not count
abbrev pub NotBadStore : (graph : List ℕ) → LentToRun → Type 0
NotBadStore graph l = check_graph graph ≡ Ok tt → Allowed l.picks (length l.ledger) (length l.cells)

-- both are lent one state: equal records of the tokens, equal cells, and equal room. What stands behind the records may differ
pub record OneState (tokens : ℕ) (l m : LentToRun) : Type 0 where
  pub capacity : length l.ledger ≡ length m.ledger
  pub records : take (tokens * token_width) l.ledger ≡ take (tokens * token_width) m.ledger
  pub cells : l.cells ≡ m.cells

-- completed or hung alike, with equal answers, cells, tokens and listings, or both refused. It is said of any state: one that is not taken is refused in both
abbrev pub Demand3From : Type 0
Demand3From = (graph arrays : List ℕ) (firings tokens : ℕ) → Bytes graph → (l m : LentToRun) → Bytes l.ledger → Bytes m.ledger → Bytes l.cells
    → NotBadStore graph l → NotBadStore graph m → OneState tokens l m
    → (x y : LeftByRun) → CarriedTo graph arrays 2048 firings tokens l x → CarriedTo graph arrays 2048 firings tokens m y → BytesAgree x y
