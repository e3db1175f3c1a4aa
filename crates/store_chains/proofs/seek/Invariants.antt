-- `store_chains::seek` meets its contract. The loop's invariant: two searches of the chain, for the port and for the other one, have come to `at`; the first
-- has found nothing. The measure is `at`, since a chain goes back. Assumes nothing.
use Prim.Native.Nat.{◌-◌}
use Rattle.store_chains.proofs.Walks.{Walk, link_of}
use Rattle.store_chains.proofs.seek.Given as goal

abbrev pub invariant-loop-at : goal.invariant-loop-at
invariant-loop-at l = Walk l.ledger l.used l.tag l.port (link_of l.at) 0 × Walk l.ledger l.used l.tag (1 - l.port) (link_of l.at) (link_of l.partner)

abbrev pub decreases-loop-at : goal.decreases-loop-at
decreases-loop-at l = link_of l.at
