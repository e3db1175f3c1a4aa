-- `held::next_pending` meets its contract. The invariant: those before are proper. The measure is how many are left. Assumes nothing.
use Prim.Native.Nat.{◌-◌}
use Rattle.held.proofs.Searching.{ProperTo}
use Rattle.held.proofs.next_pending.Given as goal

abbrev pub invariant-loop-at : goal.invariant-loop-at
invariant-loop-at l = ProperTo l.tables l.ledger l.used l.initial.at l.at

abbrev pub decreases-loop-at : goal.decreases-loop-at
decreases-loop-at l = l.used - l.at
