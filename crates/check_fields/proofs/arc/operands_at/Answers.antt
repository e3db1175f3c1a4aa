-- `check_fields::arc::operands_at` meets its contract. The code is the first byte of the record. Assumes nothing.
use native.Mathlib.Omega.{arith}
use mathlib.Core.Path.{sym, ◌∙◌}
use Rattle.check_fields.proofs.Graphs.{operands_in, operands_past}
use Rattle.check_fields.proofs.arc.operands_at.Goals as goal

pub returns-then-at-graph : goal.returns-then-at-graph
returns-then-at-graph c =
    let a = c.args in
    c.of.ensures ∙ sym (operands_in a.graph.now a.i (omega arith))

pub returns-else-at-graph : goal.returns-else-at-graph
returns-else-at-graph c = let a = c.args in sym (operands_past a.graph.now a.i (omega arith))
