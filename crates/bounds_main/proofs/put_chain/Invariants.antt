-- `bounds_main::put_chain` meets its contract: nothing is said, so it is safe and ends. Assumes nothing.
use Rattle.std.proofs.Common.{length, ◌/◌, ◌≤◌, ◌≡◌}
use Rattle.record.specs.Widths.{graph_width}
use Rattle.bounds_main.proofs.put_chain.Given as goal

abbrev pub invariant-loop-i : goal.invariant-loop-i
invariant-loop-i l = (l.i ≤ length l.initial.graph / graph_width) × (length l.graph ≡ length l.initial.graph)
