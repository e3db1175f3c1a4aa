-- `expression_main::put_counts` meets its contract: nothing is said, so it is safe and ends. Assumes nothing.
use Rattle.std.proofs.Common.{length, ◌/◌, ◌≤◌, ◌≡◌}
use Rattle.record.specs.Widths.{value_width}
use Rattle.expression_main.proofs.put_counts.Given as goal

abbrev pub invariant-loop-k : goal.invariant-loop-k
invariant-loop-k l = (l.k ≤ length l.initial.values / value_width) × (length l.values ≡ length l.initial.values) × (length l.inputs ≡ length l.initial.inputs)
