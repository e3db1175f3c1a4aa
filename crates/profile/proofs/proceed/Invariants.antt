-- `profile::proceed` meets its contract. The invariant is what holds after some whole steps (proofs/Looping). Assumes nothing.
use Rattle.record.specs.GraphRecords.{graph_of}
use Rattle.profile.proofs.Looping.{SoFar}
use Rattle.profile.proofs.proceed.Given as goal

abbrev pub invariant-loop-records : goal.invariant-loop-records
invariant-loop-records l =
    SoFar (graph_of l.graph) l.initial.ledger l.initial.cells l.initial.profile l.start l.room l.tables l.store.links l.store.flags l.ledger l.cells l.profile l.used l.unspent l.firings l.records
