-- `saved::enter` meets its contract. The invariant: the first i tokens can arrive and have arrived, and are counted. Assumes nothing.
use Prim.Native.Nat.{◌≤◌}
use mathlib.Core.Bool.{true}
use mathlib.Core.Path.{◌≡◌}
use Rattle.record.specs.GraphRecords.{graph_of}
use Rattle.machine.specs.Saved.{all_up_to}
use Rattle.store.specs.Matching.{Matching}
use Rattle.saved.specs.Passes.{arrives_at, spent_of_two, closes_at, first_spent}
use Rattle.saved.proofs.Laws.{Counts}
use Rattle.saved.proofs.enter.Given as goal

abbrev pub invariant-loop-i : goal.invariant-loop-i
invariant-loop-i l =
    (l.i ≤ l.used) × Matching l.tables l.store.links l.store.flags l.ledger l.i × (all_up_to (arrives_at (graph_of l.graph) l.tables l.ledger l.count) l.i ≡ true)
    × Counts (first_spent l.ledger) l.i l.fired × Counts (spent_of_two l.tables l.ledger) l.i l.of_two × Counts (closes_at l.tables l.ledger) l.i l.closed
