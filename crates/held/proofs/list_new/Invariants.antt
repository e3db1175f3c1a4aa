-- `held::list_new` meets its contract. Assumes nothing.
use Rattle.record.specs.GraphRecords.{graph_of}
use Rattle.held.proofs.Laws.{ListedTo}
use Rattle.held.proofs.list_new.Given as goal

abbrev pub invariant-loop-i : goal.invariant-loop-i
invariant-loop-i l = ListedTo (graph_of l.graph) l.bound l.ledger l.initial.i l.n l.initial.nexts l.nexts l.i
