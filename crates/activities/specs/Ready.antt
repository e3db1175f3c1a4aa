-- Working definition: no public promise cites it.
-- What the counting of activities goes by: what is lent beside a state, and the flags of its enabled activities. Assumes nothing.
use Rattle.std.specs.Prelude.{ℕ, ◌/◌, ◌%◌, ◌≤◌, ◌≡◌, List, Ok}
use Rattle.record.specs.GraphRecords.{graph_of}
use Rattle.record.specs.TokensAndTags.{most_tokens, capacity_of}
use Rattle.record.specs.Widths.{cell_width}
use Rattle.rules.specs.Check.{check_graph, most_cells}
use Rattle.fire.specs.Running.{Prepared, Running}

-- the graph passed its check, and ledger and cells are of allowed length
pub record LentToCount (graph : List ℕ) (ledger cells : ℕ) : Type 0 where
  pub graph_passed : check_graph graph ≡ Ok tt
  pub few : capacity_of ledger ≤ most_tokens
  pub cell_records : (cells % cell_width ≡ 0) × (cells / cell_width ≤ most_cells)

-- the flags are those of the enabled activities, as between the firings of a run
pub record ReadyToCount (graph tables flags ledger : List ℕ) (used : ℕ) : Type 0 where
  pub prepared : Prepared graph tables
  pub links : List ℕ
  pub cells : List ℕ
  pub running : Running (graph_of graph) tables links flags ledger cells used
