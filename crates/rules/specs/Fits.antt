-- Every token and every cell that a run leaves fits its record, so that its bytes tell which it is; the tokens fit the ledger, and the cells are as many as
-- were lent. The statement; it is proved in proofs/Fits, and of runs from a saved state in proofs/Parts. Assumes nothing.
use Rattle.std.specs.Prelude.{ℕ, ◌/◌, ◌≤◌, ◌≡◌, List, length}
use Rattle.number.specs.Number.{Bytes}
use Rattle.buffer.specs.Rows.{All}
use Rattle.record.specs.TokensAndTags.{TokenFits, capacity_of}
use Rattle.record.specs.Cells.{CellFits}
use Rattle.record.specs.Widths.{cell_width}
use Rattle.rules.specs.Run.{Result, refused_at_once, ran_to, result}
use Rattle.rules.specs.Orders.{result_tokens, result_cells}
use Rattle.rules.specs.Saved.{carried}

-- a run that was not refused at once leaves as many cells as there are
abbrev pub CellCount : Result → ℕ → Type 0
CellCount (refused_at_once r p) n = Unit {0}
CellCount (ran_to e) n = length (result_cells (ran_to e)) ≡ n

pub record AllFit (x : Result) (capacity count : ℕ) : Type 0 where
  pub tokens : All TokenFits (result_tokens x)
  pub cells : All CellFits (result_cells x)
  pub room : length (result_tokens x) ≤ capacity
  pub cell_count : CellCount x count

-- of every run, where graph and inputs are bytes
abbrev pub ResultsFit : Type 0
ResultsFit = (graph arrays inputs picks : List ℕ) (budget ledger cells : ℕ) → Bytes graph → Bytes inputs
    → AllFit (result graph arrays inputs picks budget ledger cells) (capacity_of ledger) (cells / cell_width)

-- and of every run from a saved state, where graph, ledger and cells are
abbrev pub CarriedFit : Type 0
CarriedFit = (graph arrays picks ledger cells : List ℕ) (budget firings tokens : ℕ) → Bytes graph → Bytes ledger → Bytes cells
    → AllFit (carried graph arrays picks budget ledger cells firings tokens) (capacity_of (length ledger)) (length cells / cell_width)
