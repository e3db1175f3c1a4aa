-- `bounds::check::loop_free` meets its contract. The invariant: the first i records passed, so that the rest decides. Assumes nothing.
use native.Mathlib.Omega.{arith}
use mathlib.Core.Bool.{Bool}
use mathlib.Core.Path.{refl, sym, ap, ◌∙◌}
use Rattle.record.specs.GraphRecords.{graph_of}
use Rattle.rules.specs.declared.answer.Refusal.TheVariants.{NotLoopFree}
use Rattle.rules.specs.Check.{demand}
use Rattle.check_fields.proofs.Turns.{turn, turn_end}
use Rattle.check_fields.proofs.Graphs.{length_graph, in_graph}
use Rattle.bounds.proofs.check.loop_free.Goals as goal
use Rattle.bounds.proofs.check.loop_free.Invariants.{free}

pub loop-i-init : goal.loop-i-init
loop-i-init c = (omega arith, refl)

pub returns-then-not-is_loop_free : goal.returns-then-not-is_loop_free
returns-then-not-is_loop_free c =
    let l = c.loop-i in
    let s = c.args.graph.now in
    let x = c.read-r.result in
    let e = in_graph s l.i (omega arith) x ∙ sym c.read-r.ensures in
    rw c.at.ensures (sym (l.invariant.1 ∙ turn free (graph_of s) l.i x (omega (arith, length_graph s)) e (ap (λ (b : Bool). demand b NotLoopFree l.i) (sym c.is_loop_free.ensures ∙ c.if-not-is_loop_free.true))))

pub loop-i-preserved : goal.loop-i-preserved
loop-i-preserved c =
    let l = c.loop-i in
    let s = c.args.graph.now in
    let x = c.read-r.result in
    let e = in_graph s l.i (omega arith) x ∙ sym c.read-r.ensures in
    (omega arith, l.invariant.1 ∙ turn free (graph_of s) l.i x (omega (arith, length_graph s)) e (ap (λ (b : Bool). demand b NotLoopFree l.i) (sym c.is_loop_free.ensures ∙ c.if-not-is_loop_free.false)))

pub returns : goal.returns
returns c =
    let s = c.args.graph.now in
    sym (c.loop-i.invariant.1 ∙ turn_end free (graph_of s) c.loop-i.i (omega (arith, length_graph s)))
