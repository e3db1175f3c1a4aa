-- `checks::graph::records` meets its contract. The invariant: the first i records passed, so that the rest decides, and the table has the sites of these i. Assumes nothing.
use Prim.Native.Nat.{◌<◌, ◌/◌}
use native.Mathlib.Omega.{arith}
use mathlib.Core.Path.{refl, sym, ◌∙◌}
use lib.ListN.{length, take}
use Rattle.record.specs.GraphRecords.{graph_of}
use Rattle.record.specs.Widths.{graph_width}
use Rattle.rules.specs.Check.{check_record}
use Rattle.check_fields.proofs.Turns.{handed_on, take_next, turn, turn_end}
use Rattle.checks.proofs.Passed.{passed_record}
use Rattle.check_fields.proofs.Graphs.{length_graph, in_graph}
use Rattle.check_fields.proofs.Sites.{no_sites, note_sites, length_at_site}
use Rattle.checks.proofs.graph.records.Goals as goal

pub loop-i-init : goal.loop-i-init
loop-i-init c = (omega arith, refl, rw c.none-sites.ensures no_sites, rw c.none-sites.ensures)

pub record-requires : goal.record-requires
record-requires c = c.loop-i.invariant.2

pub returns-in_err-record : goal.returns-in_err-record
returns-in_err-record c =
    let at-instruction-at = c.read-r in
    let l = c.loop-i in
    let g = c.args.graph.now in
    let r = at-instruction-at.result in
    let h : l.i < length g / graph_width = omega arith in
    let e = in_graph g l.i h r ∙ sym at-instruction-at.ensures in
    let t = l.invariant.1 ∙ turn (check_record (graph_of g)) (graph_of g) l.i r (omega (arith, length_graph g)) e (sym c.record.ensures) in
    handed_on c.from_residual.ensures ∙ sym (rw c.in_err-record.was at t)

pub loop-i-preserved : goal.loop-i-preserved
loop-i-preserved c =
    let at-instruction-at = c.read-r in
    let l = c.loop-i in
    let g = c.args.graph.now in
    let r = at-instruction-at.result in
    let h : l.i < length g / graph_width = omega arith in
    let e = in_graph g l.i h r ∙ sym at-instruction-at.ensures in
    let t = l.invariant.1 ∙ turn (check_record (graph_of g)) (graph_of g) l.i r (omega (arith, length_graph g)) e (sym c.record.ensures) in
    let p = c.in_ok-record.was in
    let good = passed_record (graph_of g) l.i r (sym c.record.ensures ∙ p) in
    let n = note_sites (take l.i (graph_of g)) l.sites l.invariant.2 r l.invariant.3 good.site in (
      omega arith,
      t ∙ rw p,
      rw (take_next (graph_of g) l.i r (omega (arith, length_graph g)) e, c.note.ensures) n,
      rw c.note.ensures (length_at_site l.sites r _ ∙ l.invariant.3),
    )

pub returns : goal.returns
returns c =
    let g = c.args.graph.now in
    sym (c.loop-i.invariant.1 ∙ turn_end (check_record (graph_of g)) (graph_of g) c.loop-i.i (omega (arith, length_graph g)))
