-- `checks::check_with` meets its contract: the inputs are the last of all. Assumes nothing.
use Prim.Native.Nat.{◌/◌}
use mathlib.Core.Path.{◌∙◌}
use Rattle.record.specs.GraphRecords.{graph_of}
use Rattle.record.specs.TokensAndTags.{capacity_of}
use Rattle.record.specs.Widths.{cell_width}
use Rattle.rules.specs.Check.{check_inputs}
use Rattle.check_fields.proofs.Turns.{handed_on}
use Rattle.checks.proofs.InOrder.{ended_before, last_decides}
use Rattle.checks.proofs.check_with.Goals as goal

pub returns-in_err-check_lent : goal.returns-in_err-check_lent
returns-in_err-check_lent g c =
    let a = c.args in
    handed_on c.from_residual.ensures ∙ ended_before a.graph.now a.arrays.now (a.cells / cell_width) (g.L.Lent.checked a.lent.now) (check_inputs (graph_of a.graph.now) (capacity_of a.ledger) a.inputs.now) _ c.check_lent.ensures c.in_err-check_lent.was

pub returns : goal.returns
returns g c =
    let a = c.args in
    c.check.ensures ∙ last_decides a.graph.now a.arrays.now (a.cells / cell_width) (g.L.Lent.checked a.lent.now) (check_inputs (graph_of a.graph.now) (capacity_of a.ledger) a.inputs.now) _ c.check_lent.ensures c.in_ok-check_lent.was
