-- `expression_main::say_graph` meets its contract: nothing is said, so it is safe and ends. Assumes nothing.
use Rattle.std.proofs.Common.{length, ◌/◌, ◌≤◌}
use Rattle.record.specs.Widths.{graph_width}
use Rattle.expression_main.proofs.say_graph.Given as goal

abbrev pub invariant-loop-i : goal.invariant-loop-i
invariant-loop-i g l = l.i ≤ length l.graph / graph_width
