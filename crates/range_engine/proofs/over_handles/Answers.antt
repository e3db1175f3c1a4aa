-- `range_engine::over_handles` meets its contract: it begins as a plain run of the handles, and goes on by the engine's loop. Assumes nothing.
use mathlib.Core.Path.{◌∙◌}
use Rattle.record.specs.GraphRecords.{graph_of}
use Rattle.engine.proofs.Accepting.{bound_fits}
use Rattle.range_engine.proofs.Writing.{told_first, loop_tells, fits_left}
use Rattle.range_engine.proofs.over_handles.Goals as goal

pub from_inputs-requires : goal.from_inputs-requires
from_inputs-requires c =
    let o = c.order_under-order in
    (c.requires.0, bound_fits c.args.picks.now c.args.bound c.requires.1 o.result o.ensures, c.requires.2)

pub returns : goal.returns
returns c =
    let a = c.args in
    let o = c.order_under-order in
    let f = c.from_inputs.ensures in
    let l = fits_left f.proceeded in record {
      tells =
          told_first a.graph.now a.arrays.now a.handles.now f.begun a.bound a.picks.now a.budget a.over.now c.from_inputs.result _ _ _
          (loop_tells a.picks.now a.bound (graph_of a.graph.now) f.tables f.links' f.flags' _ _ _ f.ledger₁ f.cells₁ f.used a.budget a.over.now c.from_inputs.result o.result o.ensures f.proceeded f.kept);
      fits = record { room = l.room; size = l.size ∙ f.begun.size; cell_size = l.cell_size ∙ f.begun.cell_size };
    }
