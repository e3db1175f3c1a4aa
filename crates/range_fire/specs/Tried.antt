-- Working definition: no public promise cites it.
-- A firing over handles in the terms of the machine: what the activity asks for and adds to the table of ranges, and what is left. Assumes nothing.
use Rattle.std.specs.Prelude.{ℕ, ◌/◌, ◌≡◌, List, ◌++◌, length, Result}
use Rattle.record.specs.declared.tag.Tag.{Tag}
use Rattle.record.specs.declared.instruction.Instruction.{Instruction}
use Rattle.record.specs.Widths.{cell_width}
use Rattle.arithmetic.specs.declared.Range.{Range}
use Rattle.machine.specs.Machine.{refuse, on_option, look, operands}
use Rattle.rules.specs.declared.answer.Refusal.{Refusal}
use Rattle.rules.specs.declared.answer.Refusal.TheVariants.{SecondToken}
use Rattle.rules.specs.RangeHandles.{StepHere, as_is, step_in}
use Rattle.abstraction.specs.Tables.{arrays_in}
use Rattle.fire.specs.Running.{machine_over, state_in, Stepped}

-- what the activity asks for by the step over handles, of the operands that it has
abbrev pub step_at : List Instruction → (tables ledger cells : List ℕ) → (used : ℕ) → List Range → Tag → StepHere
step_at g tables ledger cells used t τ =
    let M = machine_over g tables ledger cells in
    on_option (operands M (look M (state_in ledger cells used)) τ) (as_is (refuse SecondToken)) (λ p. step_in g (arrays_in tables) (length cells / cell_width) t τ p.left p.right)

-- the step was made: what is primed is left. `fire::fire` by the operation over ranges promises it (`tried`, proofs/Tried)
pub record TriedAs (r : Result ℕ Refusal) (g : List Instruction) (τ : Tag) (x : StepHere) (tables links flags ledger' cells' : List ℕ) (table' : List Range) (used : ℕ) (ledger cells : List ℕ) (table : List Range) : Type 0 where
  pub stepped : Stepped r g τ x.asked tables links flags ledger' cells' used ledger cells
  pub held : table' ≡ table ++ x.added
