-- `held::is_next` meets its contract. The code is the first byte of the record. Assumes nothing.
use mathlib.Core.Path.{sym, ap, ◌∙◌}
use borrow.Author.Tests.{le-ltb}
use native.Mathlib.Omega.{arith}
use lib.Dec.{eqb}
use Rattle.check_fields.proofs.Graphs.{code_at, code_past}
use Rattle.held.proofs.is_next.Goals as goal

pub returns-then-at-graph : goal.returns-then-at-graph
returns-then-at-graph c =
    let a = c.args in
    ap (λ n. eqb n 7) (sym (code_at a.graph.now a.i (omega arith)))

pub returns-else-at-graph : goal.returns-else-at-graph
returns-else-at-graph c =
    let a = c.args in
    le-ltb _ _ c.if-at-graph.false ∙ ap (λ n. eqb n 7) (sym (code_past a.graph.now a.i (omega arith)))
