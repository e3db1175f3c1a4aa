-- `checks::graph::records` meets its contract. The invariant: the first i records passed, so that the rest decides, and the table has the sites of these i. Assumes nothing.
use Prim.Native.Nat.{◌≤◌, ◌/◌}
use mathlib.Core.Path.{◌≡◌}
use lib.ListN.{length, take, drop}
use Rattle.record.specs.GraphRecords.{graph_of}
use Rattle.record.specs.Widths.{graph_width}
use Rattle.rules.specs.Check.{in_turn, check_record}
use Rattle.check_fields.specs.Sites.{Sites}
use Rattle.checks.proofs.graph.records.Given as goal

abbrev pub invariant-loop-i : goal.invariant-loop-i
invariant-loop-i l =
    (l.i ≤ length l.graph / graph_width)
    × (in_turn (check_record (graph_of l.graph)) 0 (graph_of l.graph) ≡ in_turn (check_record (graph_of l.graph)) l.i (drop l.i (graph_of l.graph)))
    × Sites (take l.i (graph_of l.graph)) l.sites
    × (length l.sites ≡ 256)
