-- 02, R-11: the promise of a range run by name, in the words of a run's (`lent_to_run`, `left_by_run`). Assumes nothing.
use Rattle.std.specs.Prelude.{ℕ, List, length}
use Rattle.rules.specs.RangeRun.{range_result, RangesRan}
pub use Rattle.rules.specs.Runs.{LentToRun, LeftByRun, lent_to_run, left_by_run}

-- the answer, also in 01's numbers, and every byte of ledger and cells; bound 0 is none
abbrev pub RangesOn : (graph arrays inputs : List ℕ) → (budget bound : ℕ) → LentToRun → LeftByRun → Type 0
RangesOn graph arrays inputs budget k l x =
    RangesRan (range_result graph arrays inputs l.picks budget k (length l.ledger) (length l.cells)) x.answer l.ledger x.ledger l.cells x.cells
