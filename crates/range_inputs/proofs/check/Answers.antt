-- `range_inputs::check` meets its contract: where no range is refused by 23, the rest is the check of plain inputs. Assumes nothing.
use mathlib.Core.Path.{sym, ◌∙◌}
use Rattle.record.specs.GraphRecords.{graph_of}
use Rattle.rules.specs.RangeRun.{check_range_inputs}
use Rattle.rules.proofs.Ranges.{same_good_rows, same_fields}
use Rattle.check_fields.proofs.Turns.{handed_on}
use Rattle.range_inputs.specs.Handles.{handles_of}
use Rattle.range_inputs.proofs.Rows.{fields_each}
use Rattle.range_inputs.proofs.check.Goals as goal

pub returns-in_err-fields : goal.returns-in_err-fields
unfolding check_range_inputs
returns-in_err-fields c =
    let inputs = c.args.inputs.now in
    rw (handed_on c.from_residual.ensures, same_good_rows inputs (handles_of inputs) (fields_each inputs) (graph_of c.args.graph.now), ← c.requires, ← c.fields.ensures, c.in_err-fields.was)

pub returns-in_err-ranges : goal.returns-in_err-ranges
unfolding check_range_inputs
returns-in_err-ranges c =
    let inputs = c.args.inputs.now in
    rw (
      handed_on c.from_residual-in_err-ranges.ensures,
      same_good_rows inputs (handles_of inputs) (fields_each inputs) (graph_of c.args.graph.now),
      ← c.requires,
      ← c.fields.ensures,
      c.in_ok-fields.was,
      ← c.ranges-2.ensures,
      c.in_err-ranges.was,
    )

pub returns : goal.returns
unfolding check_range_inputs
returns c =
    let inputs = c.args.inputs.now in
    c.check.ensures
    ∙ rw c.requires (sym (same_fields inputs (handles_of inputs) (fields_each inputs) (graph_of c.args.graph.now) c.args.capacity (sym c.ranges-2.ensures ∙ c.in_ok-ranges.was)))
