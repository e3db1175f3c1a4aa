-- `bounds::reach::reach` meets its contract. The invariant: the table has at least what the rounds of the definition have reached. Assumes nothing.
use Prim.Native.Nat.{◌/◌, ◌≤◌}
use mathlib.Core.List.{List}
use lib.ListN.{length}
use Rattle.record.specs.declared.token.Token.{Token}
use Rattle.record.specs.GraphRecords.{graph_of}
use Rattle.record.specs.Widths.{graph_width}
use Rattle.rules.proofs.Rounds.{Within, after}
use Rattle.bounds.specs.Reach.{Ports, sent_by_inputs, flag, ReachedSoFar}
use Rattle.bounds.proofs.reach.reach.Given as goal

abbrev pub invariant-loop : goal.invariant-loop
invariant-loop l =
    ((ts : List Token) → Ports (sent_by_inputs ts) l.fn.sent → ReachedSoFar ts (graph_of l.graph) l.so_far.sent l.so_far.reached × Within (after ts (graph_of l.graph) l.counter) (flag l.so_far.reached)) × (l.counter ≤ length l.graph / graph_width)
