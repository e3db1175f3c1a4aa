-- `checks::arrays::names` meets its contract. The invariant: the first i instructions passed, so that the rest decides. Assumes nothing.
use Prim.Native.Nat.{◌<◌, ◌/◌}
use native.Mathlib.Omega.{arith}
use mathlib.Core.Bool.{Bool}
use mathlib.Core.Path.{refl, sym, ap, ◌∙◌}
use lib.ListN.{length}
use Rattle.record.specs.GraphRecords.{graph_of}
use Rattle.record.specs.Widths.{graph_width}
use Rattle.rules.specs.declared.answer.Refusal.TheVariants.{BadArray}
use Rattle.rules.specs.Check.{demand, names_good}
use Rattle.check_fields.proofs.Turns.{turn, turn_end}
use Rattle.check_fields.proofs.Graphs.{length_graph, in_graph}
use Rattle.checks.proofs.arrays.names.Goals as goal

pub loop-i-init : goal.loop-i-init
loop-i-init c = (omega arith, refl)

pub names_good-requires : goal.names_good-requires
names_good-requires c = c.requires

pub returns-then-not-names_good : goal.returns-then-not-names_good
returns-then-not-names_good c =
    let l = c.loop-i in
    let a = c.args in
    let g = a.graph.now in
    let r = c.read.result in
    let h : l.i < length g / graph_width = omega arith in
    let e = in_graph g l.i h r ∙ sym c.read.ensures in
    let good = sym c.names_good.ensures ∙ c.if-not-names_good.true in
    rw c.at.ensures (sym (l.invariant.1 ∙ turn (λ k r. demand (names_good a.n r) BadArray k) (graph_of g) l.i r (omega (arith, length_graph g)) e (ap (λ (b : Bool). demand b BadArray l.i) good)))

pub loop-i-preserved : goal.loop-i-preserved
loop-i-preserved c =
    let l = c.loop-i in
    let a = c.args in
    let g = a.graph.now in
    let r = c.read.result in
    let h : l.i < length g / graph_width = omega arith in
    let e = in_graph g l.i h r ∙ sym c.read.ensures in
    let good = sym c.names_good.ensures ∙ c.if-not-names_good.false in
    (omega arith, l.invariant.1 ∙ turn (λ k r. demand (names_good a.n r) BadArray k) (graph_of g) l.i r (omega (arith, length_graph g)) e (ap (λ (b : Bool). demand b BadArray l.i) good))

pub returns : goal.returns
returns c =
    let a = c.args in
    let g = a.graph.now in
    sym (c.loop-i.invariant.1 ∙ turn_end (λ k r. demand (names_good a.n r) BadArray k) (graph_of g) c.loop-i.i (omega (arith, length_graph g)))
