-- `bounds::reach::ready` meets its contract: an instruction has one port or two. Assumes nothing.
use Prim.Native.Nat.{ℕ, zero, suc, ◌*◌, ◌≤◌}
use native.Mathlib.Omega.{arith}
use native.Mathlib.Nat.{add-zero}
use mathlib.Core.Bool.{Bool, false, and-true, and-false}
use mathlib.Core.List.{List}
use mathlib.Core.Path.{◌≡◌, sym, ◌∙◌}
use Rattle.record.specs.declared.instruction.Instruction.{Instruction}
use Rattle.record.specs.GraphRecords.{graph_of}
use Rattle.rules.specs.Check.{instruction_at, operands_at}
use Rattle.rules.specs.Needs.{all_below}
use Rattle.rules.proofs.PassedGraph.{two_operands}
use Rattle.check_fields.proofs.Graphs.{operands_in}
use Rattle.bounds.proofs.reach.ready.Goals as goal

-- port 0 is not there
lacking : (n : ℕ) (f : ℕ → Bool) → 1 ≤ n → f 0 ≡ false → false ≡ all_below n f
lacking zero f h e = absurd (omega arith)
lacking (suc zero) f h e = rw e
lacking (suc (suc n)) f h e = rw (← lacking (suc n) f (omega arith) e, and-false (f (suc n)))

two : (g : List Instruction) (i n : ℕ) → operands_at g i ≡ n → 1 ≤ operands_at g i → (n ≡ 1 → ⊥) → operands_at g i ≡ 2
unfolding operands_at
two g i n e h k = omega (arith, two_operands (instruction_at g i).code)

pub returns-then-not-sent-at : goal.returns-then-not-sent-at
returns-then-not-sent-at c =
    let a = c.args in
    let p = c.requires in
    lacking (operands_at (graph_of a.graph.now) a.i) _ p.2 (rw (add-zero (a.i * 2)) (c.if-not-sent-at.true))

pub returns-then-operands-eq1 : goal.returns-then-operands-eq1
returns-then-operands-eq1 c =
    let a = c.args in
    let p = c.requires in
    let n = operands_in a.graph.now a.i p.0 ∙ sym c.operands.ensures ∙ c.if-operands-eq1.true in
    rw (n, add-zero (a.i * 2), c.if-not-sent-at.false)

pub returns : goal.returns
returns c =
    let a = c.args in
    let p = c.requires in
    let e = operands_in a.graph.now a.i p.0 ∙ sym c.operands.ensures in
    rw (two (graph_of a.graph.now) a.i _ e p.2 c.if-operands-eq1.false, add-zero (a.i * 2), c.if-not-sent-at.false) (sym (and-true _))
