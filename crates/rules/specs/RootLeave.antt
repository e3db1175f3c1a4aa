-- 02, R-5: "A run in which no token comes to such a LEAVE keeps its answer". The machine before R-5, and the statement; it is proved in proofs/RootLeave.
-- Assumes nothing.
use Rattle.std.specs.Prelude.{ℕ, ◌≡◌, Bool, false, ◌&&◌, cond, ◌⊎◌, List, ℤ, eqb, Ok}
use Rattle.record.specs.declared.tag.Tag.{Tag}
use Rattle.record.specs.declared.array.NamedArray.{NamedArray}
use Rattle.record.specs.declared.instruction.Instruction.{Instruction}
use Rattle.buffer.specs.Rows.{All}
use Rattle.record.specs.Paths.{is_root}
use Rattle.record.specs.GraphRecords.{operands_of, graph_of}
use Rattle.machine.specs.Machine.{Token, refuse, Machine, run}
use Rattle.machine.specs.Agreement.{with_instructions}
use Rattle.rules.specs.declared.answer.Refusal.{Refusal}
use Rattle.rules.specs.Check.{instruction_at, check_graph, check_inputs}
use Rattle.rules.specs.InstructionSet.{EffectHere, effect_in, machine_of}
use Rattle.rules.specs.Run.{first_state}

-- a LEAVE (code 9) under path 0
unfoldable pub is_root_leave : List Instruction → Tag → Bool
is_root_leave g τ = eqb (instruction_at g τ.instruction).code 9 && is_root τ.path

-- ---- before R-5: only OUT (code 3) was a result, and a LEAVE under path 0 was refused when it fired, by 15. Refusal 15 no longer exists, so any refusal stands in for it

unfoldable pub arity_before : List Instruction → Tag → ℕ
arity_before g τ = let r = instruction_at g τ.instruction in cond (eqb r.code 3) 0 (operands_of r.code)

unfoldable pub effect_at_root_leave : Refusal → List Instruction → List NamedArray → (cells : ℕ) → Tag → (a b : ℤ) → EffectHere
effect_at_root_leave word g table cells τ a b = cond (is_root_leave g τ) (refuse word) (effect_in g table cells τ a b)

abbrev pub machine_at_root_leave : Refusal → List Instruction → List NamedArray → (capacity cells : ℕ) → Machine
machine_at_root_leave word g table capacity cells = with_instructions (machine_of g table capacity cells) (arity_before g) (effect_at_root_leave word g table cells)

-- ---- the claim

-- no token of the ledger, inputs included, is there
abbrev pub NoneAtRootLeave : List Instruction → List (Token Tag ℤ) → Type 0
NoneAtRootLeave g ts = All (λ t. is_root_leave g t.key.tag ≡ false) ts

-- the run as it was and as it is, where no token comes to such a LEAVE in the one or in the other
abbrev pub KeepsAnswer : Type 0
KeepsAnswer = (graph inputs : List ℕ) (table : List NamedArray) (capacity cells : ℕ) → check_graph graph ≡ Ok tt → check_inputs (graph_of graph) capacity inputs ≡ Ok tt
    → (word : Refusal) (budget : ℕ) (picks : List ℕ)
    → NoneAtRootLeave (graph_of graph) (run (machine_at_root_leave word (graph_of graph) table capacity cells) budget picks (first_state inputs cells)).state.tokens
    ⊎ NoneAtRootLeave (graph_of graph) (run (machine_of (graph_of graph) table capacity cells) budget picks (first_state inputs cells)).state.tokens
    → run (machine_of (graph_of graph) table capacity cells) budget picks (first_state inputs cells) ≡ run (machine_at_root_leave word (graph_of graph) table capacity cells) budget picks (first_state inputs cells)
