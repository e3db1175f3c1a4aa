-- `held::decide` meets its contract. The invariant: the flags of the listed records that were looked at are right, and so are the marks. Assumes nothing.
use Rattle.record.specs.GraphRecords.{graph_of}
use Rattle.held.specs.Searching.{MarkedPast}
use Rattle.held.specs.Deciding.{held_at, AllStanding}
use Rattle.held.proofs.Deciding.{LookedTo}
use Rattle.held.proofs.decide.Given as goal

abbrev pub invariant-loop-k : goal.invariant-loop-k
invariant-loop-k l =
    LookedTo (held_at (graph_of l.graph) l.bound l.flags l.ledger l.used) l.nexts l.held l.k × MarkedPast l.tables l.ledger l.bound l.used l.marks × AllStanding (graph_of l.graph) l.ledger l.bound l.used l.held l.marks
