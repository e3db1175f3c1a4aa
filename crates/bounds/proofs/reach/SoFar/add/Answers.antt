-- `bounds::reach::SoFar::add` meets its contract: a round that came to instruction i comes to the next. Assumes nothing.
use Rattle.std.proofs.Common.{Ok}
use Prim.Native.Nat.{ℕ, ◌/◌, ◌≤◌, ◌<◌}
use native.Mathlib.Omega.{arith}
use mathlib.Core.Path.{◌≡◌, refl, sym, ◌∙◌}
use mathlib.Core.Bool.{true, or-false}
use mathlib.Core.List.{List}
use lib.ListN.{length}
use borrow.Author.Tests.{leb-true}
use Rattle.record.specs.GraphRecords.{graph_of}
use Rattle.record.specs.Widths.{graph_width}
use Rattle.machine.proofs.View.{false_true}
use Rattle.rules.specs.Check.{operands_at, check_graph}
use Rattle.rules.proofs.Lists.{or_right}
use Rattle.check_fields.proofs.Graphs.{length_graph, at_graph}
use Rattle.checks.proofs.Passed.{passed_length, passed_at}
use Rattle.bounds.proofs.Ports.{destinations_inside}
use Rattle.bounds.proofs.Rounds.{is_ready, leave, take_in}
use Rattle.bounds.proofs.reach.SoFar.add.Goals as goal

module _ (graph : List ℕ) (i : ℕ) (passed : check_graph graph ≡ Ok tt) (h : i < length graph / graph_width) where
  within : i < length (graph_of graph)
  within = omega (arith, length_graph graph)

  low : i < 256
  low = omega (arith, within, (passed_length graph passed).1)

  known : 1 ≤ operands_at (graph_of graph) i
  unfolding operands_at
  known = leb-true _ _ (passed_at graph passed i within).known

pub bounds-self-i : goal.bounds-self-i
bounds-self-i c = let p = c.requires in low c.args.graph.now c.args.i p.0 p.1

pub returns-then-self-i : goal.returns-then-self-i
returns-then-self-i c = λ ts before added r. rw (or-false added) (leave ts (graph_of c.args.graph.now) r (λ e. c.if-self-i.true))

pub ready-requires : goal.ready-requires
ready-requires c =
    let a = c.args in
    let p = c.requires in
    (p.1, low a.graph.now a.i p.0 p.1, known a.graph.now a.i p.0 p.1)

pub returns-then-not-ready : goal.returns-then-not-ready
returns-then-not-ready c = λ ts before added r.
    let a = c.args in
    let p = c.requires in
    let g = graph_of a.graph.now in
    rw (or-false added) (leave ts g r (λ e. false_true (sym (c.if-not-ready.true) ∙ c.ready.ensures ∙ is_ready ts g r.kept a.i (low a.graph.now a.i p.0 p.1) ∙ e)))

pub bounds-self-i-2 : goal.bounds-self-i-2
bounds-self-i-2 c = let p = c.requires in low c.args.graph.now c.args.i p.0 p.1

pub read-requires : goal.read-requires
read-requires c = c.requires.1

pub send-requires : goal.send-requires
send-requires c =
    let a = c.args in
    let p = c.requires in
    rw (c.read.ensures, ← at_graph a.graph.now a.i p.1) (destinations_inside a.graph.now p.0 a.i (within a.graph.now a.i p.0 p.1))

pub returns : goal.returns
returns c = λ ts before added r.
    let a = c.args in
    let p = c.requires in
    let s = a.graph.now in
    let g = graph_of s in
    let w = within s a.i p.0 p.1 in
    let l = low s a.i p.0 p.1 in
    let own = c.read.ensures ∙ sym (at_graph s a.i p.1) in
    let ready = sym (is_ready ts g r.kept a.i l) ∙ sym c.ready.ensures ∙ c.if-not-ready.false in
    rw (or_right added true refl, c.send.ensures, own) (take_in ts g r w l c.if-self-i.false ready (destinations_inside s p.0 a.i w))
