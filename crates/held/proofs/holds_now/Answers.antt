-- `held::holds_now` meets its contract. Assumes nothing.
use native.Mathlib.Omega.{arith}
use mathlib.Core.Path.{refl, sym, ◌∙◌}
use Rattle.record.specs.GraphRecords.{graph_of}
use Rattle.held.proofs.Searching.{marked_on}
use Rattle.held.proofs.Deciding.{other_free_at, mark_low, holder_here, held_now, looked_none, looked_on}
use Rattle.held.proofs.holds_now.Goals as goal

pub returns-then-not-is_next : goal.returns-then-not-is_next
returns-then-not-is_next c =
    let a = c.args in
    let t = c.read-t in record { value = other_free_at (graph_of a.graph.now) a.tables.now a.ledger.now a.bound a.used a.flags.now a.marks.now a.i t.result t.ensures (sym c.is_next.ensures ∙ c.if-not-is_next.true); marked_past = c.requires.6; looked_at = looked_none _ _ _ _ _ _ }

pub first_holder-holder-requires : goal.first_holder-holder-requires
first_holder-holder-requires c =
    let a = c.args in
    let low = mark_low (graph_of a.graph.now) a.tables.now a.ledger.now a.bound a.used a.flags.now a.marks.now a.i c.requires.6 c.requires.3 c.requires.1 in
    (c.requires.2, c.requires.3, c.requires.5, omega (arith, low, c.holder-from.ensures), c.requires.6.skips)

pub returns : goal.returns
returns c =
    let at-is-next = c.is_next in
    let at-if2 = c.if-not-is_next in
    let a = c.args in
    let h = c.first_holder-holder in
    let t = c.read-t in
    let here = holder_here (graph_of a.graph.now) a.tables.now a.ledger.now a.bound a.used a.flags.now a.marks.now a.i c.requires.6 c.requires.3 c.requires.1 t.result t.ensures _ _ h.result refl refl (rw c.holder-from.ensures at h.ensures.holder_from) in record { value = held_now (graph_of a.graph.now) a.tables.now a.ledger.now a.bound a.used a.flags.now a.marks.now a.i c.requires.6 c.requires.3 c.requires.1 c.requires.0 c.requires.4 (sym c.is_raised.ensures.value ∙ c.if-not-is_raised.false) t.result t.ensures (sym at-is-next.ensures ∙ at-if2.false) h.result here; marked_past = marked_on a.tables.now a.ledger.now a.bound a.used a.marks.now _ c.requires.6 c.requires.3 h.ensures.skipped a.i c.requires.1 h.result here _ c.set_holder.ensures.marks_after; looked_at = looked_on (graph_of a.graph.now) a.ledger.now a.bound a.used a.i a.tables.now a.marks.now _ c.requires.6.size c.requires.3 h.ensures.skipped c.requires.1 t.result t.ensures (sym at-is-next.ensures ∙ at-if2.false) h.result here _ c.set_holder.ensures.marks_after }
