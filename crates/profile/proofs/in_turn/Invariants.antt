-- `profile::in_turn` meets its contract. The invariant is what holds after some of the activities (proofs/Stepping). Assumes nothing.
use Rattle.record.specs.GraphRecords.{graph_of}
use Rattle.profile.proofs.Stepping.{Midway}
use Rattle.profile.proofs.in_turn.Given as goal

abbrev pub invariant-loop-firings : goal.invariant-loop-firings
invariant-loop-firings l =
    Midway (graph_of l.graph) l.tables l.initial.ledger l.initial.cells l.start l.due.count l.due.places l.store.links l.store.flags l.ledger l.cells l.used l.firings l.spent
