-- `engine_main::sum` is safe and ends. The invariant: the total is below 65,521. Assumes nothing.
use Rattle.std.proofs.Common.{◌<◌}
use Rattle.engine_main.proofs.sum.Given as goal

abbrev pub invariant-loop-byte : goal.invariant-loop-byte
invariant-loop-byte l = l.total < 65521
