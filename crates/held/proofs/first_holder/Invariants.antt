-- `held::first_holder` meets its contract. The invariant: none of those before holds back, and the marks are right. The measure is how many are left. Assumes nothing.
use Prim.Native.Nat.{◌-◌}
use Rattle.held.specs.Searching.{Skipped}
use Rattle.held.proofs.Searching.{FreeTo}
use Rattle.held.proofs.first_holder.Given as goal

abbrev pub invariant-loop-at : goal.invariant-loop-at
invariant-loop-at l = FreeTo l.tables l.ledger l.used l.path l.bound l.m l.initial.at l.at × Skipped l.tables l.ledger l.used l.initial.marks l.marks

abbrev pub decreases-loop-at : goal.decreases-loop-at
decreases-loop-at l = l.used - l.at
