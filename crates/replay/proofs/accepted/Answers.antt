-- `replay::accepted` meets its contract: it begins and goes on by the engine's loop, and what it leaves is said of the buffers as lent. Assumes nothing.
use mathlib.Core.List.{[]}
use lib.ListN.{length}
use Rattle.record.specs.GraphRecords.{graph_of}
use Rattle.start.proofs.Starting.{accepted_by}
use Rattle.engine.specs.declared.choice.Order.TheVariants.{Log}
use Rattle.engine.proofs.Keeping.{proceeded_plain}
use Rattle.replay.proofs.Accepting.{as_replay}
use Rattle.replay.proofs.accepted.Goals as goal

pub from_inputs-requires : goal.from_inputs-requires
from_inputs-requires c =
    let a = c.args in
    (accepted_by a.graph.now a.arrays.now a.inputs.now [] (length a.ledger.now) (length a.cells.now) c.requires, tt, tt)

pub returns : goal.returns
returns c =
    let a = c.args in
    let f = c.from_inputs.ensures in
    as_replay a.graph.now a.arrays.now a.inputs.now a.log.now a.ledger.now a.cells.now c.requires f.begun c.records_in.result c.records_in.ensures
    (proceeded_plain _ Log a.log.now (graph_of a.graph.now) f.tables f.ledger₁ f.cells₁ f.used c.records_in.result f.proceeded)
