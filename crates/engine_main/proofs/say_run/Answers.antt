-- `engine_main::say_run` writes what was printed: it is within the buffer. Assumes nothing.
use native.Mathlib.Omega.{arith}
use mathlib.Core.Path.{sym}
use lib.Seq.{length-take-le}
use Rattle.text.proofs.Room.{done_within}
use Rattle.engine_main.proofs.say_run.Goals as goal

pub slice_bounds-out-end : goal.slice_bounds-out-end
slice_bounds-out-end c = omega (arith, done_within _ _ _ (sym c.in-Ok.ensures.value), c.print.auto.out)

pub slice_bounds-write_all-end : goal.slice_bounds-write_all-end
slice_bounds-write_all-end c = sym (length-take-le _ _ (omega (arith, done_within _ _ _ (sym c.in-Ok.ensures.value), c.print.auto.out)))
