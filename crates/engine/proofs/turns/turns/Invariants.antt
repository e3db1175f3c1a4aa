-- `engine::turns::turns` meets its contract. The invariant is what holds after some firings (proofs/Looping), and what is known of the held activities (proofs/Bounding). Assumes nothing.
use mathlib.Core.Path.{◌≡◌}
use Rattle.record.specs.GraphRecords.{graph_of}
use Rattle.engine.specs.Turns.{Bounding}
use Rattle.engine.proofs.Looping.{SoFar, Noted}
use Rattle.engine.proofs.turns.turns.Given as goal

abbrev pub invariant-loop-firings : goal.invariant-loop-firings
invariant-loop-firings g l =
    SoFar g.O.Operate.asks g.O.Operate.keeps (graph_of l.graph) l.initial.order l.source l.initial.ledger l.initial.cells l.initial.used l.budget l.initial.by l.tables l.store.links l.store.flags l.ledger l.cells l.used l.firings l.by
    × Noted g.O.Operate.asks g.O.Operate.keeps (graph_of l.graph) l.initial.order l.source l.tables l.initial.ledger l.initial.cells l.initial.log l.initial.used l.budget l.initial.by l.ledger l.cells l.log l.used l.firings l.by
    × Bounding l.initial.order (graph_of l.graph) l.tables l.store.flags l.ledger l.used l.holds.nexts l.holds.held l.holds.marks
    × (l.order ≡ l.initial.order)
    × g.O.Operate.fits l.by l.used
