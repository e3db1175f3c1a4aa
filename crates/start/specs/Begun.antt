-- Working definition: no public promise cites it.
-- 01, "Firing": "An accepted run first sets all cells absent and writes its inputs to the ledger." What it is lent, and what holds then.
-- Assumes nothing.
use Rattle.std.specs.Prelude.{ℕ, ◌*◌, ◌/◌, ◌%◌, ◌≤◌, ◌≡◌, List, length, drop, Ok}
use Rattle.record.specs.GraphRecords.{graph_of}
use Rattle.record.specs.Arrays.{most_arrays, arrays_of}
use Rattle.record.specs.TokensAndTags.{most_tokens, capacity_of}
use Rattle.record.specs.Widths.{token_width, cell_width, array_width}
use Rattle.machine.specs.Machine.{Machine}
use Rattle.rules.specs.Check.{check_graph, check_inputs, most_cells}
use Rattle.rules.specs.InstructionSet.{machine_of}
use Rattle.rules.specs.Run.{first_state}
use Rattle.abstraction.specs.Tables.{arrays_in}
use Rattle.fire.specs.Running.{Prepared, Running, state_in}

-- the machine of what is lent
abbrev pub machine_lent : (graph arrays ledger cells : List ℕ) → Machine
machine_lent graph arrays ledger cells = machine_of (graph_of graph) (arrays_of arrays) (length ledger / token_width) (length cells / cell_width)

-- graph and inputs passed their checks, the table of named arrays is not too long, and ledger and cells, by their lengths in bytes, are of allowed length
pub record Accepted (graph arrays inputs : List ℕ) (ledger cells : ℕ) : Type 0 where
  pub graph_passed : check_graph graph ≡ Ok tt
  pub few_arrays : length arrays / array_width ≤ most_arrays
  pub inputs_passed : check_inputs (graph_of graph) (capacity_of ledger) inputs ≡ Ok tt
  pub few : capacity_of ledger ≤ most_tokens
  pub cell_records : (cells % cell_width ≡ 0) × (cells / cell_width ≤ most_cells)

-- the state is that from which 01's run starts; `ledger` and `cells` are as lent
pub record Begun (graph arrays inputs tables links flags ledger ledger' cells cells' : List ℕ) (used : ℕ) : Type 0 where
  pub prepared : Prepared graph tables
  pub named : arrays_in tables ≡ arrays_of arrays
  pub running : Running (graph_of graph) tables links flags ledger' cells' used
  pub state : state_in ledger' cells' used ≡ first_state inputs (length cells / cell_width)
  pub size : length ledger' ≡ length ledger
  pub rest : drop (used * token_width) ledger' ≡ drop (used * token_width) ledger
  pub cell_size : length cells' ≡ length cells
