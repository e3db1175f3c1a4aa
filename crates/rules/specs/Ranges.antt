-- 02, R-11: "For all choices of inputs within their ranges, a completed range run promises that the plain run with equal capacity, cell count and all else
-- completes with as many firings and that each value lies in its token's range." The statements; they are proved in proofs/Ranges.
-- Assumes nothing.
use Rattle.std.specs.Prelude.{ℕ, ◌/◌, ◌%◌, ◌≡◌, true, List, length}
use Rattle.number.specs.Number.{number32, signed_of}
use Rattle.buffer.specs.Rows.{whole, all_rows}
use Rattle.record.specs.TokensAndTags.{tag_in, port_in, most_tokens, capacity_of}
use Rattle.record.specs.Widths.{range_token_width, range_cell_width, token_width, value_offset, state_offset, cell_width, pick_width}
use Rattle.arithmetic.specs.Ranges.{Holds}
use Rattle.machine.specs.Orders.{EndsAgree, Quiescent}
use Rattle.machine.specs.InStep.{PlaceByPlace, RelatedEnds}
use Rattle.rules.specs.Check.{most_cells}
use Rattle.rules.specs.Run as Plain
use Rattle.rules.specs.Bounded.{bounded}
use Rattle.rules.specs.RangeRun.{range_in, range_capacity_of, RangeResult, refused_at_once, ran_to, range_result}

-- ---- from inputs

-- a plain input record out of a range record: the same fields but for the value, which lies in the range
pub record ChosenFrom (range input : List ℕ) : Type 0 where
  pub tag : tag_in range ≡ tag_in input
  pub port : port_in range ≡ port_in input
  pub state : number32 range state_offset ≡ number32 input state_offset
  pub value : Holds (range_in range) (signed_of (number32 input value_offset))

-- "choices of inputs within their ranges", both in whole records
pub record ChosenInputs (ranges inputs : List ℕ) : Type 0 where
  pub whole_ranges : length ranges % range_token_width ≡ 0
  pub whole_inputs : length inputs % token_width ≡ 0
  pub each : PlaceByPlace ChosenFrom (all_rows range_token_width (λ l. l) ranges) (all_rows token_width (λ l. l) inputs)

-- "with equal capacity, cell count": ledgers and cells of as many records, by their lengths in bytes
pub record AsManyRecords (range_ledger range_cells ledger cells : ℕ) : Type 0 where
  pub whole_range_ledger : whole range_token_width most_tokens range_ledger ≡ true
  pub whole_range_cells : whole range_cell_width most_cells range_cells ≡ true
  pub whole_ledger : whole token_width most_tokens ledger ≡ true
  pub whole_cells : whole cell_width most_cells cells ≡ true
  pub capacity : range_capacity_of range_ledger ≡ capacity_of ledger
  pub cell_count : range_cells / range_cell_width ≡ cells / cell_width

-- of a range run that completes or hangs: the plain run completes or hangs as it does, with as many firings, and what it leaves is within
abbrev pub Promised : RangeResult → Plain.Result → Type 0
Promised (refused_at_once r p) y = Unit {0}
Promised (ran_to d) (Plain.refused_at_once r p) = ⊥
Promised (ran_to d) (Plain.ran_to e) = Quiescent d.outcome → RelatedEnds Holds d e

-- "and all else": the table of named arrays, the picks, the budget and the bound; bound 0 is none (`BoundZero` of Bounded)
abbrev pub RangesPromise : Type 0
RangesPromise = (graph arrays ranges inputs picks : List ℕ) (budget k range_ledger range_cells ledger cells : ℕ) → ChosenInputs ranges inputs → AsManyRecords range_ledger range_cells ledger cells
    → Promised (range_result graph arrays ranges picks budget k range_ledger range_cells) (bounded graph arrays inputs picks budget k ledger cells)

-- ---- any two orders of range runs, without a bound

abbrev pub SameEnds : RangeResult → RangeResult → Type 0
SameEnds (refused_at_once r p) (refused_at_once q o) = (r ≡ q) × (p ≡ o)
SameEnds (refused_at_once r p) (ran_to e) = ⊥
SameEnds (ran_to d) (refused_at_once q o) = ⊥
SameEnds (ran_to d) (ran_to e) = EndsAgree d e

abbrev pub AnyTwoRangeOrders : Type 0
AnyTwoRangeOrders = (graph arrays ranges picks picks' : List ℕ) (budget ledger cells : ℕ) → whole pick_width most_tokens (length picks) ≡ true → whole pick_width most_tokens (length picks') ≡ true
    → SameEnds (range_result graph arrays ranges picks budget 0 ledger cells) (range_result graph arrays ranges picks' budget 0 ledger cells)
