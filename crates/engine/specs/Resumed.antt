-- Working definition: no public promise cites it.
-- 02, R-13: a run that goes on from a saved state, once graph and stores passed their checks. Assumes nothing.
use Rattle.std.specs.Prelude.{ℕ, ◌/◌, ◌%◌, ◌≤◌, ◌≡◌, List, length, Ok}
use Rattle.record.specs.GraphRecords.{graph_of}
use Rattle.record.specs.Arrays.{most_arrays, arrays_of}
use Rattle.record.specs.TokensAndTags.{most_tokens, capacity_of}
use Rattle.record.specs.Widths.{cell_width, array_width}
use Rattle.machine.specs.Machine.{by_picks}
use Rattle.machine.specs.Bounded.{run_bounded}
use Rattle.rules.specs.declared.answer.Refusal.TheVariants.{DamagedState}
use Rattle.rules.specs.Check.{demand, ◌and_then◌, check_graph, check_stores, check_arrays, most_cells, Checked}
use Rattle.rules.specs.Run.{picks_of, Result, ran_to, unless_failed}
use Rattle.rules.specs.Held.{held_in}
use Rattle.rules.specs.Bounded.{and_bound}
use Rattle.rules.specs.Saved.{state_saved, machine_saved, state_taken}

-- the checks of what is lent beside it; picks, ledger and cells by their lengths in bytes
abbrev pub resume_lent_checked : (graph arrays : List ℕ) → (picks bound ledger cells : ℕ) → Checked
resume_lent_checked graph arrays picks k ledger cells = check_graph graph and_then and_bound (check_stores 0 picks ledger cells) k and_then check_arrays (graph_of graph) (cells / cell_width) arrays

-- the graph passed, the table of named arrays is not too long, and ledger and cells are of allowed length
pub record LentToResume (graph arrays : List ℕ) (ledger cells : ℕ) : Type 0 where
  pub graph_passed : check_graph graph ≡ Ok tt
  pub few_arrays : length arrays / array_width ≤ most_arrays
  pub few : capacity_of ledger ≤ most_tokens
  pub cell_records : (cells % cell_width ≡ 0) × (cells / cell_width ≤ most_cells)

-- refused by 24, or run to its end
abbrev pub resumed : (graph arrays picks : List ℕ) → (budget bound : ℕ) → (ledger cells : List ℕ) → (firings used : ℕ) → Result
resumed graph arrays picks budget k ledger cells firings used =
    let M = machine_saved graph (arrays_of arrays) ledger cells in
    unless_failed (demand (state_taken graph ledger cells firings used) DamagedState 0) (ran_to (run_bounded M (held_in (graph_of graph) k) (by_picks M) budget (picks_of picks) firings (state_saved ledger cells used)))
