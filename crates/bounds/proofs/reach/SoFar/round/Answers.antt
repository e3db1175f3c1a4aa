-- `bounds::reach::SoFar::round` meets its contract. The invariant: the round came to instruction i. Assumes nothing.
use native.Mathlib.Omega.{arith}
use mathlib.Core.Path.{◌≡◌, refl}
use mathlib.Core.Bool.{true, or-false}
use lib.ListN.{length}
use Rattle.record.specs.GraphRecords.{graph_of}
use Rattle.rules.proofs.Lists.{or_right}
use Rattle.check_fields.proofs.Graphs.{length_graph}
use Rattle.bounds.proofs.Rounds.{begin}
use Rattle.bounds.proofs.reach.SoFar.round.Goals as goal
use Rattle.bounds.proofs.reach.SoFar.round.Goals.{then-add, else-add}

pub loop-i-init : goal.loop-i-init
loop-i-init c = (omega arith, λ ts k. begin ts (graph_of c.args.graph.now) k)

pub add-requires : goal.add-requires
add-requires c = (c.requires, omega arith)

pub loop-i-preserved : goal.loop-i-preserved
loop-i-preserved c = (
  omega arith,
  λ ts k.
      let l = c.loop-i in
      let r = c.add.ensures ts _ l.added (l.invariant.1 ts k) in
      elim c.if-add.branch [
        | then-add w ↦ rw w.added-is (rw (w.if-add.true, or_right l.added true refl) at r)
        | else-add w ↦ rw w.added-is (rw (w.if-add.false, or-false l.added) at r)
      ],
)

pub returns : goal.returns
returns c = λ ts k.
    let l = c.loop-i in
    let s = c.args.graph.now in
    let n : length (graph_of s) ≡ l.i = omega (arith, length_graph s) in
    rw n (l.invariant.1 ts k)
