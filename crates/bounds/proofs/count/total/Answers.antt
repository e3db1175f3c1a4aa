-- `bounds::count::total` meets its contract. The invariant: the sums over the first i instructions. Assumes nothing.
use Prim.Native.Nat.{ℕ, ◌+◌}
use native.Mathlib.Omega.{arith}
use native.Mathlib.Numerals.{add-one}
use mathlib.Core.Bool.{Bool, cond}
use mathlib.Core.List.{List}
use mathlib.Core.Path.{◌≡◌, refl, sym, ◌∙◌}
use lib.ListN.{length}
use Rattle.record.specs.declared.instruction.Instruction.{Instruction}
use Rattle.record.specs.GraphRecords.{graph_of}
use Rattle.rules.specs.Check.{instruction_at}
use Rattle.rules.specs.Needs.{firings_needed, outputs_needed}
use Rattle.check_fields.proofs.Graphs.{length_graph, at_graph}
use Rattle.bounds.specs.Reach.{flag, sum_over}
use Rattle.bounds.proofs.count.total.Goals as goal
use Rattle.bounds.proofs.count.total.Goals.{then-reached-i, else-reached-i}

-- one instruction more
one_more : (g : List Instruction) (reached : List Bool) (f : Instruction → ℕ) (n v : ℕ) → cond (flag reached n) (f (instruction_at g n)) 0 ≡ v → sum_over n g reached f + v ≡ sum_over (n + 1) g reached f
one_more g reached f n v e = rw (add-one n, e)

pub loop-i-init : goal.loop-i-init
loop-i-init c = (omega arith, refl, refl, omega arith, omega arith)

pub loop-i-preserved : goal.loop-i-preserved
loop-i-preserved c =
    let l = c.loop-i in
    let a = c.args in
    let s = a.graph.now in
    let t = a.reached.now in
    let own = at_graph s l.i (omega arith) in
    elim c.if-reached-i.branch [
      | then-reached-i w ↦
          let r = own ∙ sym w.read-r.ensures in
          let f = one_more (graph_of s) t firings_needed l.i w.firings_of-firings.result (rw (w.if-reached-i.true, r) (sym w.firings_of-firings.ensures.0)) in
          let o = one_more (graph_of s) t outputs_needed l.i w.outputs_of-outputs.result (rw (w.if-reached-i.true, r) (sym w.outputs_of-outputs.ensures.0)) in
          (omega arith, omega (arith, f), omega (arith, o), omega arith, omega arith)
      | else-reached-i w ↦
          let f = one_more (graph_of s) t firings_needed l.i 0 (rw w.if-reached-i.false) in
          let o = one_more (graph_of s) t outputs_needed l.i 0 (rw w.if-reached-i.false) in
          (omega arith, omega (arith, f), omega (arith, o), omega arith, omega arith)
    ]

pub returns : goal.returns
returns c =
    let l = c.loop-i in
    let s = c.args.graph.now in
    let n : l.i ≡ length (graph_of s) = omega (arith, length_graph s) in
    (rw (← n) l.invariant.1, rw (← n) l.invariant.2, omega (arith, c.requires))
