-- `store::wake` meets its contract. The loop's invariant: the tokens of the cell's chain from `at` back are as they were, and those past it
-- are woken; the chains stay. The measure is `at`, since a chain goes back. Assumes nothing.
use mathlib.Core.Path.{◌≡◌}
use Rattle.store_chains.proofs.Walks.{link_of}
use Rattle.store.proofs.Changes.{Waking}
use Rattle.store.proofs.wake.Given as goal

abbrev pub invariant-loop-at : goal.invariant-loop-at
invariant-loop-at l =
    (l.store.links ≡ l.initial.store.links) × Waking l.cell l.v l.tables l.initial.store.links l.initial.ledger l.used l.store.flags l.ledger (link_of l.at)

abbrev pub decreases-loop-at : goal.decreases-loop-at
decreases-loop-at l = link_of l.at
