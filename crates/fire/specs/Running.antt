-- Working definition: no public promise cites it.
-- What holds between firings of the arrays, the ledger and the cells, and what a firing makes of them in the terms of the machine. Assumes nothing.
use Rattle.std.specs.Prelude.{ℕ, ◌*◌, ◌/◌, ◌≤◌, ◌<◌, ◌≡◌, List, length, drop, ℤ, Result, Ok, Err}
use Rattle.record.specs.declared.tag.Tag.{Tag}
use Rattle.record.specs.declared.token.Token as Record
use Rattle.record.specs.declared.instruction.Instruction.{Instruction}
use Rattle.buffer.specs.Rows.{All}
use Rattle.record.specs.GraphRecords.{graph_of}
use Rattle.record.specs.TokensAndTags.{tokens}
use Rattle.record.specs.Widths.{token_width, cell_width}
use Rattle.machine.specs.Machine.{Machine, State, Effect, refuse, fired, not_fired, on_option, StateOf, EffectOf, look, operands, commit}
use Rattle.machine.specs.Orders.{Good}
use Rattle.rules.specs.declared.answer.Refusal.{Refusal}
use Rattle.rules.specs.Check.{operands_at, check_graph}
use Rattle.rules.specs.InstructionSet.{machine_of}
use Rattle.abstraction.specs.States.{state_held}
use Rattle.abstraction.specs.Tables.{Arities, Returns, arrays_in}
use Rattle.store.specs.Matching.{Matching}
use Rattle.fire_outputs.specs.Outputs.{cells_in, CellStore}

-- the machine of a graph and of the named arrays in the tables, over a ledger and cells, and its state there
abbrev pub machine_over : List Instruction → (tables ledger cells : List ℕ) → Machine
machine_over g tables ledger cells = machine_of g (arrays_in tables) (length ledger / token_width) (length cells / cell_width)

abbrev pub state_in : (ledger cells : List ℕ) → (used : ℕ) → State Tag ℤ
state_in ledger cells used = state_held (tokens used ledger) (cells_in cells)

-- each token stands at a port of an instruction of the graph
abbrev pub Arrived : List Instruction → List Record.Token → Type 0
Arrived g ts = All (λ (t : Record.Token). t.port < operands_at g t.tag.instruction) ts

-- between firings
pub record Running (g : List Instruction) (tables links flags ledger cells : List ℕ) (used : ℕ) : Type 0 where
  pub matching : Matching tables links flags ledger used
  pub few : length ledger / token_width ≤ 2048
  pub store : CellStore cells
  pub arrived : Arrived g (tokens used ledger)
  pub good : Good (machine_over g tables ledger cells) (state_in ledger cells used)

-- ---- a firing, whatever its activity asks for: e is given, so that another instruction set may fire by the same steps

-- what it asks for by the instruction set, of the operands that it has; it fires as `commit` of that (`fires_asked`, proofs/Effects)
abbrev pub asked : (M : Machine) → StateOf M → M.Tag → EffectOf M
asked M s τ = on_option (operands M (look M s) τ) (refuse M.second_token) (λ p. M.effect τ p.left p.right)

abbrev pub asked_in : List Instruction → (tables ledger cells : List ℕ) → (used : ℕ) → Tag → Effect Refusal Tag ℤ
asked_in g tables ledger cells used τ = asked (machine_over g tables ledger cells) (state_in ledger cells used) τ

-- a firing that was done left n tokens
pub record Went (g : List Instruction) (τ : Tag) (e : Effect Refusal Tag ℤ) (tables links flags ledger' cells' : List ℕ) (n used : ℕ) (ledger cells : List ℕ) : Type 0 where
  pub step : commit (machine_over g tables ledger cells) (state_in ledger cells used) τ e ≡ fired (state_in ledger' cells' n)
  pub running : Running g tables links flags ledger' cells' n
  pub grown : used ≤ n
  pub size : length ledger' ≡ length ledger
  pub rest : drop (n * token_width) ledger' ≡ drop (n * token_width) ledger
  pub cell_size : length cells' ≡ length cells

-- a firing that was refused left ledger and cells as it found them
pub record Stopped (r : Refusal) (g : List Instruction) (τ : Tag) (e : Effect Refusal Tag ℤ) (tables links flags ledger' cells' : List ℕ) (used : ℕ) (ledger cells : List ℕ) : Type 0 where
  pub step : commit (machine_over g tables ledger cells) (state_in ledger cells used) τ e ≡ not_fired r
  pub running : Running g tables links flags ledger' cells' used
  pub same_ledger : ledger' ≡ ledger
  pub same_cells : cells' ≡ cells

abbrev pub Stepped : Result ℕ Refusal → List Instruction → Tag → Effect Refusal Tag ℤ → (tables links flags ledger' cells' : List ℕ) → (used : ℕ) → (ledger cells : List ℕ) → Type 0
Stepped (Ok n) g τ e tables links flags ledger' cells' used ledger cells =
    Went g τ e tables links flags ledger' cells' n used ledger cells
Stepped (Err r) g τ e tables links flags ledger' cells' used ledger cells =
    Stopped r g τ e tables links flags ledger' cells' used ledger cells

-- what a run has of its graph: it passed the check, and the tables made of it are right
pub record Prepared (graph tables : List ℕ) : Type 0 where
  pub passed : check_graph graph ≡ Ok tt
  pub returns_right : Returns (graph_of graph) tables
  pub arities_right : Arities (graph_of graph) tables
