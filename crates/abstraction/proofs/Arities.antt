-- An activity waits for two operands at most. Assumes nothing.
use Prim.Native.Nat.{◌≤◌}
use native.Mathlib.Omega.{arith}
use mathlib.Core.Bool.{Bool, true, false, cond}
use mathlib.Core.List.{List}
use Rattle.record.specs.declared.tag.Tag.{Tag}
use Rattle.record.specs.declared.instruction.Instruction.{Instruction}
use Rattle.record.specs.GraphRecords.{operands_of}
use Rattle.rules.specs.Check.{instruction_at}
use Rattle.rules.specs.InstructionSet.{is_result, arity_in}
use Rattle.rules.proofs.PassedGraph.{two_operands}

pub arity_small : (g : List Instruction) (τ : Tag) → arity_in g τ ≤ 2
unfolding arity_in
arity_small g τ = go (is_result (instruction_at g τ.instruction) τ)
  where
    go : (b : Bool) → cond b 0 (operands_of (instruction_at g τ.instruction).code) ≤ 2
    go true = omega arith
    go false = two_operands (instruction_at g τ.instruction).code
