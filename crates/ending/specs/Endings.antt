-- Working definition: no public promise cites it.
-- How a run that fires no more ends, for token records, under any graph with these tables. Assumes nothing.
use Rattle.std.specs.Prelude.{ℕ, ◌+◌, ◌-◌, ◌*◌, ◌≡◌, Bool, ◌&&◌, List, get_or, eqb, leb}
use Rattle.record.specs.declared.array.NamedArray.{NamedArray}
use Rattle.record.specs.declared.token.Token.{Token}
use Rattle.record.specs.declared.cell.Cell.{Cell}
use Rattle.record.specs.declared.instruction.Instruction.{Instruction}
use Rattle.record.specs.Widths.{token_width, state_offset}
use Rattle.machine.specs.Machine.{is_proper, Choice, ending, run_by}
use Rattle.rules.specs.declared.answer.Outcome.{Outcome}
use Rattle.rules.specs.InstructionSet.{machine_of}
use Rattle.rules.specs.Run.{content_held, outcome_of}
use Rattle.store_enabled.specs.Enabled.{arity_of}
use Rattle.abstraction.specs.States.{state_held, OnPorts}
use Rattle.abstraction.specs.Tables.{Arities}

-- a token that a completed run may leave, by the tables of a graph
abbrev pub proper_by : (tables : List ℕ) → Token → Bool
proper_by tables t = is_proper (arity_of tables t.tag) (content_held t.content)

-- whether record i is a spent token's, by its state alone, and whether the four before it are
abbrev pub state_spent : (ledger : List ℕ) → (i : ℕ) → Bool
state_spent ledger i = eqb (get_or ledger (i * token_width + state_offset) 0) 1

abbrev pub four_spent : (ledger : List ℕ) → (i : ℕ) → Bool
four_spent ledger i = leb 4 i && (state_spent ledger (i - 1) && (state_spent ledger (i - 2) && (state_spent ledger (i - 3) && state_spent ledger (i - 4))))

-- the outcome where nothing is enabled
abbrev pub EndsWith : Outcome → (tables : List ℕ) → List Token → Type 0
EndsWith o tables ts = (g : List Instruction) → Arities g tables → (table : List NamedArray) (capacity count : ℕ) (cs : List Cell)
    → o ≡ outcome_of (ending (machine_of g table capacity count) (state_held ts cs))

-- the outcome of a run that has no budget left, whatever picks and firings came before
abbrev pub RestsAs : Outcome → (tables : List ℕ) → List Token → Type 0
RestsAs o tables ts = (g : List Instruction) → Arities g tables → OnPorts g ts → (table : List NamedArray) (capacity count : ℕ) (cs : List Cell)
    (choose : Choice (machine_of g table capacity count)) (picks : List ℕ) (f : ℕ)
    → o ≡ outcome_of (run_by (machine_of g table capacity count) choose 0 picks f (state_held ts cs)).outcome
