-- `arithmetic::div` meets its contract. Assumes nothing.
use mir.Facts.{to_z-of_z}
use Rattle.arithmetic.specs.Arithmetic.{compute_of}
use Rattle.arithmetic.proofs.Ranged.{checked_quotient}
use Rattle.arithmetic.proofs.div.Goals as goal

pub returns : goal.returns
unfolding compute_of
returns c = checked_quotient c.args.a c.args.b c.ranges.b c.checked_div.result (rw (to_z-of_z c.ranges.a, to_z-of_z c.ranges.b) at c.checked_div.ensures)
