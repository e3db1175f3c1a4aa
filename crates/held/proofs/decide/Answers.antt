-- `held::decide` meets its contract. The invariant: the flags of the listed records that were looked at are right, and so are the marks. Assumes nothing.
use Prim.Native.Nat.{◌<◌, ◌≤◌}
use native.Mathlib.Omega.{arith}
use mathlib.Core.Path.{ap}
use lib.ListN.{length, length-set}
use Rattle.record.specs.GraphRecords.{graph_of}
use Rattle.store_flags.specs.Flags.{places}
use Rattle.store_flags.specs.Marks.{bit}
use Rattle.held.proofs.Deciding.{listed_below, one_looked, all_looked, listed_free, one_standing}
use Rattle.held.proofs.decide.Goals as goal

pub holds_now-on-requires : goal.holds_now-on-requires
holds_now-on-requires c =
    let at-loop = c.loop-k in
    let below : at-loop.k < length (places c.args.nexts.now) = omega (arith, c.loop-k-test.true, c.count-n.ensures.value) in
    let low = listed_below c.args.nexts.now at-loop.k c.args.used c.count-n.ensures.list.binary c.requires.5 below _ c.select-i.ensures.0 in
    (c.requires.0, low, c.requires.1, c.requires.2, c.requires.3, c.requires.4, at-loop.invariant.1)

pub loop-k-preserved : goal.loop-k-preserved
loop-k-preserved c =
    let at-holds-now = c.holds_now-on in
    let l = c.loop-k in
    let i = c.select-i in
    let below : l.k < length (places c.args.nexts.now) = omega (arith, c.loop-k-test.true, c.count-n.ensures.value) in
    let inside : i.result < length l.held = omega (arith, i.ensures.1, c.put.ensures.list.size, ap length c.put.ensures.held_after, length-set l.held i.result (bit c.holds_now-on.result)) in
    (one_looked _ _ _ _ l.invariant.0 c.count-n.ensures.list.binary below _ i.ensures.0 inside _ at-holds-now.ensures.value _ c.put.ensures.held_after, at-holds-now.ensures.marked_past, one_standing (graph_of c.args.graph.now) c.args.ledger.now c.args.bound c.args.used i.result l.held l.marks c.requires.2 l.invariant.2 inside _ _ at-holds-now.ensures.looked_at _ c.put.ensures.held_after)

pub returns : goal.returns
returns c =
    let a = c.args in
    let l = c.loop-k in
    let all : length (places a.nexts.now) ≤ l.k = omega (arith, c.loop-k-test.false, c.count-n.ensures.value) in record {
      held_decided = record {
        right = all_looked _ _ _ _ a.used l.invariant.0 all c.count-n.ensures.list.binary c.requires.5 (listed_free (graph_of a.graph.now) a.bound a.flags.now a.nexts.now a.ledger.now a.used c.requires.8);
      };
      under = (l.invariant.0.under, l.invariant.1);
      all_standing = l.invariant.2;
    }
