-- `range_engine::run_ranges` meets its contract: a check that failed leaves everything as lent, and what passed is run as the rules say. Assumes nothing.
use mathlib.Core.Path.{refl, sym, ap, ◌∙◌}
use native.Mathlib.Omega.{arith}
use lib.ListN.{length}
use Rattle.rules.specs.Answer.{values_of}
use Rattle.rules.specs.RangeRun.{range_answer, range_ledger_after, range_cells_after}
use Rattle.range_engine.proofs.Writing.{lent_passed, result_failed, result_passed}
use Rattle.range_engine.proofs.run_ranges.Goals as goal

pub with_inputs-requires : goal.with_inputs-requires
unfolding range_answer range_ledger_after range_cells_after
with_inputs-requires c =
    let a = c.args in
    (lent_passed a.graph.now a.arrays.now (length a.inputs.now) (length a.picks.now) a.bound (length a.ledger.now) (length a.cells.now) (sym c.check_lent-checked.ensures ∙ c.in-Ok.is), omega arith)

pub returns-in-Err : goal.returns-in-Err
unfolding range_answer range_ledger_after range_cells_after
returns-in-Err c =
    let a = c.args in
    let e = sym c.check_lent-checked.ensures ∙ c.in-Err.is in
    let r = c.refused.ensures in
    rw (result_failed a.graph.now a.arrays.now a.inputs.now a.picks.now a.budget a.bound (length a.ledger.now) (length a.cells.now) e) (record { answered = r; numbers = ap values_of r; ledger_left = refl; cells_left = refl })

pub returns-in-Ok : goal.returns-in-Ok
unfolding range_answer range_ledger_after range_cells_after
returns-in-Ok c =
    let a = c.args in
    let e = sym c.check_lent-checked.ensures ∙ c.in-Ok.is in
    rw (result_passed a.graph.now a.arrays.now a.inputs.now a.picks.now a.budget a.bound (length a.ledger.now) (length a.cells.now) e) c.with_inputs.ensures
