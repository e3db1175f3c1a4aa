-- 02, R-2 and R-5 in their own words, over the rules: which tokens a completed run may leave. The statement; it is proved in proofs/Proper. Assumes nothing.
use Rattle.std.specs.Prelude.{ℕ, ◌≡◌, Bool, true, List, ◌↔◌}
use Rattle.record.specs.declared.token.Token.{Token}
use Rattle.record.specs.declared.token.Content.{Content}
use Rattle.record.specs.declared.token.Content.TheVariants.{Live, Spent, Deferred}
use Rattle.record.specs.declared.instruction.Instruction.{Instruction}
use Rattle.buffer.specs.Rows.{All}
use Rattle.record.specs.GraphRecords.{graph_of}
use Rattle.machine.specs.Orders.{Completed, Quiescent}
use Rattle.rules.specs.Check.{instruction_at}
use Rattle.rules.specs.InstructionSet.{is_result}
use Rattle.rules.specs.Run.{result}
use Rattle.rules.specs.Orders.{result_outcome, result_tokens}

-- "every live token is at an OUT and none is deferred"; a token at a LEAVE under path 0 is a result too
abbrev pub ProperContent : (atResult : Bool) → Content → Type 0
ProperContent atResult (Live v) = atResult ≡ true
ProperContent atResult (Spent v) = Unit {0}
ProperContent atResult (Deferred c) = ⊥

abbrev pub ProperToken : List Instruction → Token → Type 0
ProperToken g t = ProperContent (is_result (instruction_at g t.tag.instruction) t.tag) t.content

-- "a run with nothing enabled is completed only if" all are proper. "Otherwise the answer is hung"
abbrev pub CompletedExactly : Type 0
CompletedExactly = (graph arrays inputs picks : List ℕ) (budget ledger cells : ℕ) → Quiescent (result_outcome (result graph arrays inputs picks budget ledger cells))
    → Completed (result_outcome (result graph arrays inputs picks budget ledger cells)) ↔ All (ProperToken (graph_of graph)) (result_tokens (result graph arrays inputs picks budget ledger cells))
