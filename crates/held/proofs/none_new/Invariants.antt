-- `held::none_new` meets its contract. The invariant: none of those before is one. The measure is how many are left. Assumes nothing.
use Rattle.record.specs.GraphRecords.{graph_of}
use Rattle.held.specs.Deciding.{NoneNew}
use Rattle.held.proofs.none_new.Given as goal

abbrev pub invariant-loop-i : goal.invariant-loop-i
invariant-loop-i l = NoneNew (graph_of l.graph) l.bound l.ledger l.initial.i l.i
