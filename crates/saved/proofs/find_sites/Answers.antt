-- `saved::find_sites` meets its contract. The invariant: the table tells of the first i records. Assumes nothing.
use Prim.Native.Nat.{◌<◌, ◌/◌}
use native.Mathlib.Omega.{arith}
use mathlib.Core.Path.{refl, sym, ◌∙◌}
use lib.Seq.{take_all}
use lib.ListN.{length, take}
use Rattle.record.specs.GraphRecords.{graph_of}
use Rattle.record.specs.Widths.{graph_width}
use Rattle.check_fields.proofs.Sites.{length_at_site}
use Rattle.check_fields.proofs.Turns.{take_next}
use Rattle.check_fields.proofs.Graphs.{length_graph, in_graph}
use Rattle.saved.proofs.Laws.{no_sites, one_site}
use Rattle.saved.proofs.find_sites.Goals as goal

pub loop-i-init : goal.loop-i-init
loop-i-init c = (omega arith, rw c.none-sites.ensures, rw c.none-sites.ensures no_sites)

pub loop-i-preserved : goal.loop-i-preserved
loop-i-preserved c =
    let l = c.loop-i in
    let g = c.args.graph.now in
    let r = c.read.result in
    let h : l.i < length g / graph_width = omega (arith, c.loop-i-test.true) in
    let e = in_graph g l.i h r ∙ sym c.read.ensures in (
      omega arith,
      rw c.note.ensures (length_at_site l.sites r _ ∙ l.invariant.1),
      rw (take_next (graph_of g) l.i r (omega (arith, length_graph g)) e, c.note.ensures) (one_site (take l.i (graph_of g)) l.sites r _ (omega (arith, l.invariant.1)) l.invariant.2),
    )

pub returns : goal.returns
returns c =
    let l = c.loop-i in
    let g = c.args.graph.now in
    rw (take_all l.i (graph_of g) (omega (arith, c.loop-i-test.false, length_graph g))) at l.invariant.2
