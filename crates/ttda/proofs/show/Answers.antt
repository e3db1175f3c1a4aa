-- `ttda::show` meets its contract: what was printed is within the buffer. Assumes nothing.
use native.Mathlib.Omega.{arith}
use mathlib.Core.Path.{sym}
use lib.Seq.{length-take-le}
use Rattle.text.proofs.Room.{done_within}
use Rattle.ttda.proofs.show.Goals as goal

pub slice_bounds-write_all-end : goal.slice_bounds-write_all-end
slice_bounds-write_all-end c = omega (arith, done_within _ _ _ (sym c.in-Ok.ensures.answered), c.print_run.auto.out)

pub slice_bounds-write_all-end-in-Ok : goal.slice_bounds-write_all-end-in-Ok
slice_bounds-write_all-end-in-Ok c = sym (length-take-le _ _ (omega (arith, done_within _ _ _ (sym c.in-Ok.ensures.answered), c.print_run.auto.out)))
