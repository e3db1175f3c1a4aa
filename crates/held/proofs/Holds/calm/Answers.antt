-- `held::Holds::calm` meets its contract. Assumes nothing.
use mathlib.Core.Path.{sym, ◌∙◌}
use lib.ListN.{length}
use borrow.Author.Tests.{eqb-true}
use Rattle.record.specs.GraphRecords.{graph_of}
use Rattle.store_flags.specs.Flags.{places}
use Rattle.held.proofs.Quiet.{empty_still, calm_kept}
use Rattle.held.proofs.Holds.calm.Goals as goal

pub returns-then-is_empty : goal.returns-then-is_empty
returns-then-is_empty c =
    λ e.
    let a = c.args in
    let empty = empty_still a.tables.now a.flags.now a.ledger.now a.self.now.nexts a.self.now.held a.self.now.marks (eqb-true (length (places a.self.now.nexts)) 0 (sym c.is_empty.ensures.value ∙ c.if-is_empty.true)) in
    calm_kept (graph_of a.graph.now) a.tables.now a.flags.now a.ledger.now a.bound a.used a.n a.self.now.nexts a.self.now.held a.self.now.marks c.requires.0 c.requires.1 c.requires.4 c.requires.6 c.requires.7 c.is_empty.ensures.list.binary
    (c.none_new.ensures (c.if-not-none_new.false)) empty

pub returns : goal.returns
returns c =
    λ e.
    let a = c.args in
    calm_kept (graph_of a.graph.now) a.tables.now a.flags.now a.ledger.now a.bound a.used a.n a.self.now.nexts a.self.now.held a.self.now.marks c.requires.0 c.requires.1 c.requires.4 c.requires.6 c.requires.7 c.is_empty.ensures.list.binary
    (c.none_new.ensures (c.if-not-none_new.false)) (c.all_still.ensures e)
