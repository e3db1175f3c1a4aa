-- `range_engine::handled` meets its contract: the handles are a plain run's inputs, and stand for the ranges. Assumes nothing.
use Prim.Native.Nat.{◌/◌}
use mathlib.Core.Path.{refl, sym, ap, ◌∙◌}
use native.Mathlib.Omega.{arith}
use lib.ListN.{length}
use Rattle.record.specs.Widths.{range_cell_width}
use Rattle.rules.specs.Answer.{values_of}
use Rattle.rules.specs.RangeRun.{first_ranges, ranges_unless_failed, range_answer, range_ledger_after, range_cells_after}
use Rattle.range_engine.proofs.Writing.{accepted_handles, inputs_stand, ranges_few, only_handles}
use Rattle.range_engine.proofs.handled.Goals as goal

pub narrow-requires : goal.narrow-requires
unfolding ranges_unless_failed range_answer range_ledger_after range_cells_after
narrow-requires c = record { few = c.requires.0.few_inputs; records = omega (arith, c.requires.2) }

pub check-checked-requires : goal.check-checked-requires
unfolding ranges_unless_failed range_answer range_ledger_after range_cells_after
check-checked-requires c = only_handles _ _ _ _ c.requires.2 c.narrow.ensures

pub accepted-requires : goal.accepted-requires
unfolding ranges_unless_failed range_answer range_ledger_after range_cells_after
accepted-requires c =
    let a = c.args in
    let w = c.narrow.ensures in
    let passed = sym c.check-checked.ensures ∙ c.in-Ok.is in
    (rw (only_handles _ _ _ _ c.requires.2 w) (accepted_handles a.graph.now a.arrays.now a.inputs.now (length a.ledger.now) (length a.cells.now) c.requires.0 passed), c.requires.1, rw (only_handles _ _ _ _ c.requires.2 w) (ranges_few a.graph.now a.arrays.now a.inputs.now (length a.ledger.now) (length a.cells.now) c.requires.0 passed _ w.ranges))

pub returns-in-Err : goal.returns-in-Err
unfolding ranges_unless_failed range_answer range_ledger_after range_cells_after
returns-in-Err c =
    let e = sym c.check-checked.ensures ∙ c.in-Err.is in
    let a = c.refused.ensures in
    rw e (record { answered = a; numbers = ap values_of a; ledger_left = refl; cells_left = refl })

pub returns-in-Ok : goal.returns-in-Ok
unfolding ranges_unless_failed range_answer range_ledger_after range_cells_after
returns-in-Ok c =
    let a = c.args in
    let w = c.narrow.ensures in
    let e = sym c.check-checked.ensures ∙ c.in-Ok.is in
    let n = length a.cells.now / range_cell_width in
    let stands = inputs_stand a.graph.now a.arrays.now a.inputs.now (length a.ledger.now) (length a.cells.now) c.requires.0 e _ w.ranges n in
    let l = c.accepted.ensures (first_ranges a.inputs.now n) (rw (only_handles _ _ _ _ c.requires.2 w) stands) in
    rw e (record { answered = l.answered; numbers = ap values_of l.answered; ledger_left = l.ledger_left; cells_left = l.cells_left })
