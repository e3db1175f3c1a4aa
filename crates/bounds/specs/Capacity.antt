-- 02, R-12, "The ledger a graph really takes", in bytes: of a run that completes or hangs with t tokens at budget 2,048. It speaks of what `run` (crate engine)
-- promises, `Ran`. The statements; they are proved in proofs/Capacity. Assumes nothing.
use Rattle.std.specs.Prelude.{ℕ, ◌*◌, ◌/◌, ◌≤◌, ◌<◌, ◌≡◌, true, List, ◌++◌, length, take, drop}
use Rattle.buffer.specs.Rows.{whole}
use Rattle.record.specs.TokensAndTags.{most_tokens, capacity_of}
use Rattle.record.specs.Widths.{token_width}
use Rattle.machine.specs.Orders.{Quiescent}
use Rattle.rules.specs.declared.answer.Refusal.TheVariants.{LedgerFull}
use Rattle.rules.specs.declared.answer.Outcome.TheVariants.{Refused}
use Rattle.rules.specs.Orders.{Allowed}
use Rattle.rules.specs.Runs.{LentToRun, LeftByRun, RanOn, outcome_in}

-- ---- "with any capacity from t to 2,048 and equal picks the end is the same apart from unused bytes"

-- the bytes of the first t records
abbrev pub first_records : (t : ℕ) → List ℕ → List ℕ
first_records t ledger = take (t * token_width) ledger

pub record SameEnd (x y : LeftByRun) (lent : List ℕ) : Type 0 where
  pub answers : y.answer ≡ x.answer
  pub cells : y.cells ≡ x.cells
  -- the used records are the same, and bytes past them stay as lent
  pub ledger : y.ledger ≡ first_records x.answer.tokens x.ledger ++ drop (x.answer.tokens * token_width) lent

abbrev pub EnoughRoom : Type 0
EnoughRoom = (graph arrays inputs : List ℕ) (l m : LentToRun) (x y : LeftByRun) → RanOn graph arrays inputs 2048 l x → Quiescent (outcome_in x.answer.outcome)
    → m.picks ≡ l.picks → length m.cells ≡ length l.cells → whole token_width most_tokens (length m.ledger) ≡ true → x.answer.tokens ≤ capacity_of (length m.ledger)
    → RanOn graph arrays inputs 2048 m y → SameEnd x y m.ledger

-- ---- "with any smaller one every order is refused by 8"

pub record RefusedBy8 (inputs capacity : ℕ) (lent : LentToRun) (y : LeftByRun) : Type 0 where
  pub place : ℕ
  pub by8 : y.answer.outcome ≡ Refused LedgerFull place
  -- inputs that do not fit are refused before any firing, at the first that does not, and nothing is written
  pub at_once : capacity < inputs → (place ≡ capacity) × (y.answer.firings ≡ 0) × (y.answer.tokens ≡ 0) × (y.ledger ≡ lent.ledger) × (y.cells ≡ lent.cells)
  -- else a firing is: the inputs are among the tokens
  pub in_firing : inputs ≤ capacity → inputs ≤ y.answer.tokens

abbrev pub TooSmall : Type 0
TooSmall = (graph arrays inputs : List ℕ) (l m : LentToRun) (x y : LeftByRun) → RanOn graph arrays inputs 2048 l x → Quiescent (outcome_in x.answer.outcome)
    → Allowed m.picks (length m.ledger) (length m.cells) → length m.cells ≡ length l.cells → capacity_of (length m.ledger) < x.answer.tokens
    → RanOn graph arrays inputs 2048 m y → RefusedBy8 (length inputs / token_width) (capacity_of (length m.ledger)) m y
