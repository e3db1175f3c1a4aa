-- `bounds::reach::SoFar::round` meets its contract. The invariant: the round came to instruction i. Assumes nothing.
use Prim.Native.Nat.{◌/◌, ◌≤◌}
use mathlib.Core.List.{List}
use lib.ListN.{length}
use Rattle.record.specs.declared.token.Token.{Token}
use Rattle.record.specs.GraphRecords.{graph_of}
use Rattle.record.specs.Widths.{graph_width}
use Rattle.bounds.specs.Reach.{ReachedSoFar, Round}
use Rattle.bounds.proofs.reach.SoFar.round.Given as goal

abbrev pub invariant-loop-i : goal.invariant-loop-i
invariant-loop-i l =
    (l.i ≤ length l.graph / graph_width) × ((ts : List Token) → ReachedSoFar ts (graph_of l.graph) l.initial.self.sent l.initial.self.reached → Round ts (graph_of l.graph) l.i l.initial.self.reached l.self.sent l.self.reached l.added)
