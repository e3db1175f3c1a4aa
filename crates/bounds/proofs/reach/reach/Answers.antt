-- `bounds::reach::reach` meets its contract. The invariant: the table has at least what the rounds of the definition have reached. Assumes nothing.
use native.Mathlib.Omega.{arith}
use mathlib.Core.Bool.{false}
use lib.ListN.{replicate}
use Rattle.record.specs.GraphRecords.{graph_of}
use Rattle.check_fields.proofs.Graphs.{length_graph}
use Rattle.bounds.proofs.Rounds.{start, first, again, no_more, enough}
use Rattle.bounds.proofs.reach.reach.Goals as goal

pub loop-init : goal.loop-init
loop-init c = (λ ts k. (start ts (graph_of c.args.graph.now) k, first ts (graph_of c.args.graph.now) (replicate 256 false)), omega arith)

pub round-requires : goal.round-requires
round-requires c = c.requires

pub returns-then-not-round : goal.returns-then-not-round
returns-then-not-round c = λ ts k i.
    let l = c.loop in
    let g = graph_of c.args.graph.now in
    no_more ts g (c.round.ensures ts (l.invariant.0 ts k).0) (c.if-not-round.true) i

pub loop-preserved : goal.loop-preserved
loop-preserved c = (
  λ ts k.
      let l = c.loop in
      let g = graph_of c.args.graph.now in
      let r = c.round.ensures ts (l.invariant.0 ts k).0 in
      (r.kept, again ts g r l.counter (l.invariant.0 ts k).1),
  omega arith,
)

pub returns : goal.returns
returns c = λ ts k i.
    let l = c.loop in
    let s = c.args.graph.now in
    enough ts (graph_of s) l.counter (l.invariant.0 ts k).0 (omega (arith, length_graph s)) (l.invariant.0 ts k).1 i
