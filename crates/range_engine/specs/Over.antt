-- Working definition: no public promise cites it.
-- A range run over handles, and what it tells of the run over ranges. Assumes nothing.
use Rattle.std.specs.Prelude.{ℕ, ◌*◌, ◌/◌, ◌≤◌, ◌≡◌, List, length, ℤ, pos, nat_abs, Ok}
use Rattle.record.specs.declared.array.NamedArray.{NamedArray}
use Rattle.record.specs.declared.tag.Tag.{Tag}
use Rattle.record.specs.declared.instruction.Instruction.{Instruction}
use Rattle.record.specs.GraphRecords.{graph_of}
use Rattle.record.specs.Arrays.{most_arrays, arrays_of}
use Rattle.record.specs.TokensAndTags.{most_tokens}
use Rattle.record.specs.Widths.{token_width, cell_width, array_width, range_token_width, range_cell_width}
use Rattle.buffer.specs.Rows.{written_over}
use Rattle.arithmetic.specs.declared.Range.{Range}
use Rattle.arithmetic.specs.Ranges.{single}
use Rattle.machine.specs.Machine.{Machine, State, End, by_picks}
use Rattle.machine.specs.Bounded.{settled, run_bounded}
use Rattle.machine.specs.InStep.{RelatedState}
use Rattle.machine.specs.Handles.{StandsAt, state_by, Tabled, run_on}
use Rattle.rules.specs.declared.answer.Refusal.{Refusal}
use Rattle.rules.specs.declared.answer.Answer.{Answer}
use Rattle.rules.specs.Check.{◌and_then◌, check_graph, check_arrays, most_cells, Checked}
use Rattle.rules.specs.InstructionSet.{effect_in}
use Rattle.rules.specs.Run.{picks_of, outcome_of, first_state}
use Rattle.rules.specs.Held.{held_in}
use Rattle.rules.specs.Bounded.{and_bound}
use Rattle.rules.specs.RangeSet.{range_machine_of}
use Rattle.rules.specs.RangeRun.{encode_range, encode_range_cell, range_capacity_of, check_range_stores, check_range_inputs, first_ranges, RangeResult, ran_to, ranges_unless_failed}
use Rattle.rules.specs.RangeHandles.{meaning, step_in}
use Rattle.abstraction.specs.Tables.{arrays_in}
use Rattle.fire.specs.Running.{machine_over, state_in}
use Rattle.engine.specs.declared.choice.Order.{Order}
use Rattle.engine.specs.Turns.{chooser_for}

-- ---- a run

abbrev pub range_machine_for : List Instruction → (tables ledger cells : List ℕ) → Machine
range_machine_for g tables ledger cells = range_machine_of g (arrays_in tables) (length ledger / token_width) (length cells / cell_width)

-- the end of a run over handles, and its table; t are the ranges at its start
abbrev pub end_over : Order → (source : List ℕ) → List Instruction → (tables ledger cells : List ℕ) → (used budget : ℕ) → (t : List Range) → Tabled Refusal Tag Range ℤ
end_over order source g tables ledger cells used budget t =
    run_on (range_machine_for g tables ledger cells) ℤ (effect_in g (arrays_in tables) (length cells / cell_width)) (pos 0) (step_in g (arrays_in tables) (length cells / cell_width))
    (chooser_for order source g tables ledger cells) budget 0 t (state_in ledger cells used)

-- the same with what is held back left out at its end
abbrev pub settled_over : (bound : ℕ) → List Instruction → (tables ledger cells : List ℕ) → Tabled Refusal Tag Range ℤ → Tabled Refusal Tag Range ℤ
settled_over k g tables ledger cells x = record { table = x.table; ended = settled (machine_over g tables ledger cells) (held_in g k) 0 x.ended }

-- ---- in ranges

-- the end of a range run from a state, with a bound, which is none where it is 0
abbrev pub range_end : (bound : ℕ) → (picks : List ℕ) → (budget : ℕ) → List Instruction → List NamedArray → (capacity count : ℕ) → State Tag Range → End Refusal Tag Range
range_end k picks budget g named capacity n s = let M = range_machine_of g named capacity n in run_bounded M (held_in g k) (by_picks M) budget (picks_of picks) 0 s

-- the end of a range run, told by the answer and by ledger, cells and table
pub record AsRanges (e : End Refusal Tag Range) (r : Answer) (ledger cells : List ℕ) (table : List Range) : Type 0 where
  pub answered : r ≡ record { outcome = outcome_of e.outcome; firings = e.firings; tokens = length e.state.tokens }
  pub state : e.state ≡ state_by (meaning table) (state_in ledger cells r.tokens)

-- buffers of these lengths hold it
pub record Fits (r : Answer) (ledger' cells' ledger cells : List ℕ) : Type 0 where
  pub room : r.tokens ≤ length ledger' / token_width
  pub size : length ledger' ≡ length ledger
  pub cell_size : length cells' ≡ length cells

-- a state over handles stands for one over ranges; handle 0 is that of the single value 0
pub record StandsFor (t : List Range) (s : State Tag Range) (u : State Tag ℤ) : Type 0 where
  pub zero : StandsAt nat_abs t (single (pos 0)) (pos 0)
  pub state : RelatedState (StandsAt nat_abs t) s u

-- a run over handles from u, with the ranges t, tells the range run of every state for which u stands
abbrev pub Tells : (bound : ℕ) → (picks : List ℕ) → (budget : ℕ) → List Instruction → List NamedArray → (capacity count : ℕ) → (t : List Range) → (u : State Tag ℤ) → Answer → (ledger cells : List ℕ) → (table : List Range) → Type 0
Tells k picks budget g named capacity n t u r ledger cells table =
    (s : State Tag Range) → StandsFor t s u → AsRanges (range_end k picks budget g named capacity n s) r ledger cells table

-- ---- in bytes

-- the bytes of as many plain token records and cell records
abbrev pub own_bytes : (ledger : ℕ) → ℕ
own_bytes ledger = ledger / range_token_width * token_width

abbrev pub store_bytes : (cells : ℕ) → ℕ
store_bytes cells = cells / range_cell_width * cell_width

-- buffers of as many records
pub record AsManyHandles (own store ledger cells : ℕ) : Type 0 where
  pub tokens : own / token_width ≡ ledger / range_token_width
  pub cell_count : store / cell_width ≡ cells / range_cell_width

-- what a range run answers, and leaves in ledger and cells
pub record LeftAs (e : End Refusal Tag Range) (r : Answer) (ledger cells ledger' cells' : List ℕ) : Type 0 where
  pub answered : r ≡ record { outcome = outcome_of e.outcome; firings = e.firings; tokens = length e.state.tokens }
  pub ledger_left : ledger' ≡ written_over encode_range e.state.tokens ledger
  pub cells_left : cells' ≡ written_over encode_range_cell e.state.cells cells

-- for every state over ranges for which the inputs as handles stand; the handles are plain inputs
abbrev pub Leaves : (bound : ℕ) → (picks : List ℕ) → (budget : ℕ) → (graph arrays handles : List ℕ) → (table : List Range) → Answer → (ledger cells ledger' cells' : List ℕ) → Type 0
Leaves k picks budget graph arrays handles table r ledger cells ledger' cells' =
    let n = length cells / range_cell_width in
    (s : State Tag Range) → StandsFor table s (first_state handles n)
    → LeftAs (range_end k picks budget (graph_of graph) (arrays_of arrays) (range_capacity_of (length ledger)) n s) r ledger cells ledger' cells'

-- everything but the inputs passed its check; ledger and cells by their lengths in bytes
pub record LentToRanges (graph arrays : List ℕ) (inputs ledger cells : ℕ) : Type 0 where
  pub graph_passed : check_graph graph ≡ Ok tt
  pub few_arrays : length arrays / array_width ≤ most_arrays
  pub few_inputs : inputs / range_token_width ≤ most_tokens
  pub few : range_capacity_of ledger ≤ most_tokens
  pub few_cells : cells / range_cell_width ≤ most_cells

-- what is left to check and to do then
abbrev pub with_inputs : (bound : ℕ) → (picks : List ℕ) → (budget : ℕ) → (graph arrays inputs : List ℕ) → (ledger cells : ℕ) → RangeResult
with_inputs k picks budget graph arrays inputs ledger cells =
    let n = cells / range_cell_width in
    ranges_unless_failed (check_range_inputs (graph_of graph) (range_capacity_of ledger) inputs)
    (ran_to (range_end k picks budget (graph_of graph) (arrays_of arrays) (range_capacity_of ledger) n (first_ranges inputs n)))

-- the checks before that of the inputs
abbrev pub ranges_lent_checked : (graph arrays : List ℕ) → (inputs picks bound ledger cells : ℕ) → Checked
ranges_lent_checked graph arrays inputs picks k ledger cells =
    check_graph graph and_then and_bound (check_range_stores inputs picks ledger cells) k and_then check_arrays (graph_of graph) (cells / range_cell_width) arrays
