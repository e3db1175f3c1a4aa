-- `bounds::count::total` meets its contract. The invariant: the sums over the first i instructions. Assumes nothing.
use Prim.Native.Nat.{◌≤◌, ◌/◌, ◌*◌}
use mathlib.Core.Path.{◌≡◌}
use lib.ListN.{length}
use Rattle.record.specs.GraphRecords.{graph_of}
use Rattle.record.specs.Widths.{graph_width}
use Rattle.rules.specs.Needs.{firings_needed, outputs_needed}
use Rattle.bounds.specs.Reach.{sum_over}
use Rattle.bounds.proofs.count.total.Given as goal

abbrev pub invariant-loop-i : goal.invariant-loop-i
invariant-loop-i l =
    (l.i ≤ length l.graph / graph_width) × (l.firings ≡ sum_over l.i (graph_of l.graph) l.reached firings_needed) × (l.outputs ≡ sum_over l.i (graph_of l.graph) l.reached outputs_needed) × (l.firings ≤ l.i) × (l.outputs ≤ l.i * 2)
