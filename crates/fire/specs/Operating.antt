-- Working definition: no public promise cites it.
-- What an operation is to a firing: what it asks for of the operands, and what it keeps from one firing to the next. The plain one keeps nothing; over ranges a
-- table of them is kept. Assumes nothing.
use Rattle.std.specs.Prelude.{ℕ, ◌/◌, ◌≤◌, ◌<◌, ◌≡◌, List, length, ℤ, Result, Ok}
use Rattle.record.specs.declared.array.NamedArray.{NamedArray}
use Rattle.record.specs.declared.tag.Tag.{Tag}
use Rattle.record.specs.declared.instruction.Instruction.{Instruction}
use Rattle.record.specs.declared.operation.Operation.{Operation}
use Rattle.record.specs.GraphRecords.{graph_of, instruction_in, operation_of}
use Rattle.record.specs.Widths.{cell_width, graph_width}
use Rattle.machine.specs.Machine.{Machine, StateOf, EffectOf, Effect, refuse, on_option, look, operands}
use Rattle.machine.specs.Orders.{CellsBelow, ReadsForSome}
use Rattle.rules.specs.declared.answer.Refusal.{Refusal}
use Rattle.rules.specs.Check.{check_graph}
use Rattle.abstraction.specs.Tables.{arrays_in}
use Rattle.fire_effect.specs.declared.operate.Action.{Action}
use Rattle.fire_effect.specs.Effects.{Arrives, AllSent, then_tags, new_tags_of}
use Rattle.fire.specs.Running.{machine_over, state_in, Running, Went}

-- ---- an operation, with its constant k and the operands a and b on ports 0 and 1

abbrev pub Operated : Type 0
Operated = Operation → List NamedArray → (k : ℤ) → (cells : ℕ) → (a b : ℤ) → Result Action Refusal

-- what is kept after it
abbrev pub After : Type 0 → Type 0
After S = Operation → List NamedArray → (k : ℤ) → (cells : ℕ) → (a b : ℤ) → S

-- what is kept has room for one more operation: it fits some number of tokens that a ledger may have
pub record WithRoom (fits : ℕ → Type 0) : Type 0 where
  pub used : ℕ
  pub few : used ≤ 2048
  pub there : fits used

-- ---- an activity's instruction, with the operands a and b

abbrev pub Asks : Type 0
Asks = List Instruction → List NamedArray → (cells : ℕ) → Tag → (a b : ℤ) → Effect Refusal Tag ℤ

abbrev pub Keeps : Type 0 → Type 0
Keeps S = List Instruction → List NamedArray → (cells : ℕ) → Tag → (a b : ℤ) → S

-- of the operands that it has
module _ (M : Machine) where
  abbrev pub asked_with : (M.Tag → M.Value → M.Value → EffectOf M) → StateOf M → M.Tag → EffectOf M
  asked_with asks s τ = on_option (operands M (look M s) τ) (refuse M.second_token) (λ p. asks τ p.left p.right)

  abbrev pub kept_with : {S : Type 0} → S → (M.Tag → M.Value → M.Value → S) → StateOf M → M.Tag → S
  kept_with x keeps s τ = on_option (operands M (look M s) τ) x (λ p. keeps τ p.left p.right)

abbrev pub asked_by : Asks → List Instruction → (tables ledger cells : List ℕ) → (used : ℕ) → Tag → Effect Refusal Tag ℤ
asked_by asks g tables ledger cells used τ = asked_with (machine_over g tables ledger cells) (asks g (arrays_in tables) (length cells / cell_width)) (state_in ledger cells used) τ

abbrev pub kept_by : {S : Type 0} → S → Keeps S → List Instruction → (tables ledger cells : List ℕ) → (used : ℕ) → Tag → S
kept_by x keeps g tables ledger cells used τ = kept_with (machine_over g tables ledger cells) x (keeps g (arrays_in tables) (length cells / cell_width)) (state_in ledger cells used) τ

-- ---- what a firing needs to know of it

-- an instruction of the graph is its operation and then its new tags, which are given a control for the operand on port 1; and it keeps what its operation does
pub record InTurn {S : Type 0} (operated : Operated) (after : After S) (control : ℤ → ℤ) (asks : Asks) (keeps : Keeps S) : Type 0 where
  pub asked : (graph : List ℕ) (table : List NamedArray) (cells : ℕ) (τ : Tag) (a b : ℤ) → τ.instruction < length graph / graph_width
      → asks (graph_of graph) table cells τ a b
      ≡ then_tags (operated (operation_of (instruction_in graph τ.instruction).code) table (instruction_in graph τ.instruction).constant cells a b)
      (new_tags_of (operation_of (instruction_in graph τ.instruction).code) (graph_of graph) τ (instruction_in graph τ.instruction) (control b))
  pub kept : (graph : List ℕ) (table : List NamedArray) (cells : ℕ) (τ : Tag) (a b : ℤ) → τ.instruction < length graph / graph_width
      → keeps (graph_of graph) table cells τ a b ≡ after (operation_of (instruction_in graph τ.instruction).code) table (instruction_in graph τ.instruction).constant cells a b

-- an effect sends to ports that take a token, names cells of the store, and reads for some key
pub record Sound (g : List Instruction) (cells : ℕ) (e : Effect Refusal Tag ℤ) : Type 0 where
  pub arrives : AllSent (Arrives g) e
  pub cells_below : CellsBelow cells e
  pub reads_for_some : ReadsForSome e

abbrev pub AllSound : Asks → Type 0
AllSound asks = (graph : List ℕ) → check_graph graph ≡ Ok tt → (table : List NamedArray) (cells : ℕ) (τ : Tag) (a b : ℤ) → Sound (graph_of graph) cells (asks (graph_of graph) table cells τ a b)

-- what is kept fits the tokens that a firing leaves
abbrev pub FitsAfter : {S : Type 0} → (S → ℕ → Type 0) → (x : S) → Asks → Keeps S → Type 0
FitsAfter fits x asks keeps =
    (graph : List ℕ) → check_graph graph ≡ Ok tt → (tables links flags ledger cells links' flags' ledger' cells' : List ℕ) (used n : ℕ) (τ : Tag)
    → Running (graph_of graph) tables links flags ledger cells used
    → Went (graph_of graph) τ (asked_by asks (graph_of graph) tables ledger cells used τ) tables links' flags' ledger' cells' n used ledger cells
    → fits x used → fits (kept_by x keeps (graph_of graph) tables ledger cells used τ) n
