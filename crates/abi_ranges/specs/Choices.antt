-- 02, R-11, in bytes: "For all choices of inputs within their ranges, a completed range run promises that the plain run with equal capacity, cell count and all else
-- completes with as many firings and that each value lies in its token's range." It speaks of what `run_ranges` (crate range_engine) and `run` (crate engine) promise. The
-- statements; they are proved in proofs/Choices. Assumes nothing.
use Rattle.std.specs.Prelude.{ℕ, ◌≡◌, true, length, ℤ}
use mathlib.Core.List.{List, map, Permᴰ}
use Rattle.record.specs.declared.tag.Tag.{Tag}
use Rattle.record.specs.TokensAndTags.{most_tokens, ledger_of}
use Rattle.record.specs.Cells as Cells
use Rattle.record.specs.Widths.{pick_width}
use Rattle.buffer.specs.Rows.{whole, written_over}
use Rattle.arithmetic.specs.declared.Range.{Range}
use Rattle.arithmetic.specs.Ranges.{Holds}
use Rattle.machine.specs.Machine.{Token, Cell}
use Rattle.machine.specs.InStep.{PlaceByPlace, RelatedToken, RelatedCell}
use Rattle.machine.specs.Orders.{Quiescent}
use Rattle.rules.specs.Run.{token_record, cell_record}
use Rattle.rules.specs.Runs.{outcome_in}
use Rattle.rules.specs.Bounded.{BoundedOn}
use Rattle.rules.specs.RangeRun.{encode_range, encode_range_cell}
use Rattle.rules.specs.Ranges.{ChosenInputs, AsManyRecords}
use Rattle.range_engine.specs.Promise.{LentToRun, LeftByRun, RangesOn}

-- the answers are equal; the tokens of both runs have equal keys and states place by place, and each value lies in its token's range; the cells likewise
pub record WithinRanges (l : LentToRun) (x : LeftByRun) (m : LentToRun) (y : LeftByRun) : Type 0 where
  pub answer : x.answer ≡ y.answer
  pub ranges : List (Token Tag Range)
  pub values : List (Token Tag ℤ)
  pub tokens : PlaceByPlace (RelatedToken Holds) ranges values
  pub range_ledger : x.ledger ≡ written_over encode_range ranges l.ledger
  pub ledger : y.ledger ≡ ledger_of (map token_record values) m.ledger
  pub cell_ranges : List (Cell Range)
  pub cell_values : List (Cell ℤ)
  pub cells : PlaceByPlace (RelatedCell Holds) cell_ranges cell_values
  pub range_cells : x.cells ≡ written_over encode_range_cell cell_ranges l.cells
  pub plain_cells : y.cells ≡ written_over Cells.encode_cell (map cell_record cell_values) m.cells

-- of a range run that completes or hangs, with a bound or none, and a plain run under the same table, picks, budget and bound
abbrev pub RangesHold : Type 0
RangesHold = (graph arrays ranges inputs : List ℕ) (budget k : ℕ) (l m : LentToRun) (x y : LeftByRun) → ChosenInputs ranges inputs → l.picks ≡ m.picks
    → AsManyRecords (length l.ledger) (length l.cells) (length m.ledger) (length m.cells)
    → RangesOn graph arrays ranges budget k l x → BoundedOn graph arrays inputs budget k m y → Quiescent (outcome_in x.answer.outcome) → WithinRanges l x m y

-- as demand 3 compares runs: equal answers and cells, and the same tokens in some order
pub record SameRanges (l : LentToRun) (x : LeftByRun) (m : LentToRun) (y : LeftByRun) : Type 0 where
  pub answer : x.answer ≡ y.answer
  pub tokens : List (Token Tag Range)
  pub others : List (Token Tag Range)
  pub same : Permᴰ tokens others
  pub first_ledger : x.ledger ≡ written_over encode_range tokens l.ledger
  pub second_ledger : y.ledger ≡ written_over encode_range others m.ledger
  pub cells : List (Cell Range)
  pub first_cells : x.cells ≡ written_over encode_range_cell cells l.cells
  pub second_cells : y.cells ≡ written_over encode_range_cell cells m.cells

-- any two orders of a range run without a bound, one of which completes or hangs
abbrev pub RangeOrders : Type 0
RangeOrders = (graph arrays ranges : List ℕ) (budget : ℕ) (l m : LentToRun) (x y : LeftByRun)
    → whole pick_width most_tokens (length l.picks) ≡ true → whole pick_width most_tokens (length m.picks) ≡ true
    → length l.ledger ≡ length m.ledger → length l.cells ≡ length m.cells
    → RangesOn graph arrays ranges budget 0 l x → RangesOn graph arrays ranges budget 0 m y → Quiescent (outcome_in x.answer.outcome) → SameRanges l x m y
