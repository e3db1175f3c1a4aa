-- `expression_main::put_sums` meets its contract: nothing is said, so it is safe and ends. Assumes nothing.
use Rattle.std.proofs.Common.{length, ◌≤◌, ◌≡◌}
use Rattle.expression_main.proofs.put_sums.Given as goal

abbrev pub invariant-loop-i : goal.invariant-loop-i
invariant-loop-i l = (2 ≤ l.i) × (length l.expression ≡ length l.initial.expression)
