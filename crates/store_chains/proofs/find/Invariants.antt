-- `store_chains::find` meets its contract. The loop's invariant: `at` is on the chain of the tag, and the places past it have found nothing. The measure is
-- `at`, since a chain goes back. Assumes nothing.
use Rattle.store_chains.proofs.Walks.{Walk, link_of}
use Rattle.store_chains.proofs.find.Given as goal

abbrev pub invariant-loop-at : goal.invariant-loop-at
invariant-loop-at l = Walk l.ledger l.used l.tag l.port (link_of l.at) 0

abbrev pub decreases-loop-at : goal.decreases-loop-at
decreases-loop-at l = link_of l.at
