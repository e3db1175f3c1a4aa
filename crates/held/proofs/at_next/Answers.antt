-- `held::at_next` meets its contract. Assumes nothing.
use mathlib.Core.Path.{refl, sym, ◌∙◌}
use Rattle.record.specs.GraphRecords.{graph_of}
use Rattle.record.specs.TokensAndTags.{token_at}
use Rattle.held.proofs.Laws.{late_there, late_not}
use Rattle.held.proofs.at_next.Goals as goal

pub returns-then-is_next : goal.returns-then-is_next
returns-then-is_next c =
    let a = c.args in
    let t = c.read-t in
    late_there (graph_of a.graph.now) a.bound t.result (token_at a.ledger.now a.i) t.ensures (sym c.is_next.ensures ∙ c.if-is_next.true) _ refl

pub returns-else-is_next : goal.returns-else-is_next
returns-else-is_next c =
    let a = c.args in
    let t = c.read-t in
    c.if-is_next.false ∙ late_not (graph_of a.graph.now) a.bound t.result (token_at a.ledger.now a.i) t.ensures (sym c.is_next.ensures ∙ c.if-is_next.false)
