-- `saved::port_allowed` meets its contract. Assumes nothing.
use Rattle.record.specs.GraphRecords.{graph_of}
use Rattle.saved.proofs.Laws.{operands_of_lem}
use Rattle.saved.proofs.port_allowed.Goals as goal

pub returns : goal.returns
returns c =
    let x = c.args in
    rw (operands_of_lem (graph_of x.graph.now) x.tables.now c.requires x.t.tag (rw c.arity-operands.ensures at c.if-operands-eq0.false), c.arity-operands.ensures)
