-- `graph_tables::returns` meets its contract. The invariant: the table has the returns of the records from i on. Assumes nothing.
use Prim.Native.Nat.{◌<◌, ◌-◌, ◌/◌, suc}
use native.Mathlib.Omega.{arith}
use mathlib.Core.List.{◌∷◌}
use mathlib.Core.Path.{◌≡◌, refl, sym, ◌∙◌}
use lib.Seq.{drop-cons}
use lib.ListN.{length, drop, drop_of_length-le}
use Rattle.record.specs.GraphRecords.{graph_of}
use Rattle.record.specs.Widths.{graph_width}
use Rattle.graph_tables.proofs.Entries.{no_returns, note_returns}
use Rattle.check_fields.proofs.Sites.{length_at_site}
use Rattle.check_fields.proofs.Graphs.{length_graph, in_graph}
use Rattle.graph_tables.proofs.returns.Goals as goal

pub loop-i-init : goal.loop-i-init
loop-i-init c =
    let g = c.args.graph.now in
    (omega arith, refl, rw (drop_of_length-le (graph_of g) {i = length g / graph_width} (omega (arith, length_graph g))) no_returns)

pub loop-i-preserved : goal.loop-i-preserved
loop-i-preserved c =
    let l = c.loop-i in
    let g = c.args.graph.now in
    let j = l.i - 1 in
    let r = c.read.result in
    let h : j < length g / graph_width = omega arith in
    let e = in_graph g j h r ∙ sym c.read.ensures in
    let n : suc j ≡ l.i = omega arith in
    let d : drop j (graph_of g) ≡ r ∷ drop l.i (graph_of g) = drop-cons (graph_of g) j r (omega (arith, length_graph g)) ∙ rw (e, n) in (
      omega arith,
      rw c.note.ensures (length_at_site l.out r _ ∙ l.invariant.1),
      rw (d, c.note.ensures) (note_returns (drop l.i (graph_of g)) l.out r l.invariant.2 (omega (arith, l.invariant.1))),
    )

pub returns : goal.returns
returns c =
    let z : c.loop-i.i ≡ 0 = omega arith in
    (rw z at c.loop-i.invariant.2, c.loop-i.invariant.1)
