-- `arithmetic::mul` meets its contract. Assumes nothing.
use mir.Facts.{to_z-of_z}
use Rattle.arithmetic.specs.Arithmetic.{compute_of}
use Rattle.arithmetic.proofs.Ranged.{checked}
use Rattle.arithmetic.proofs.mul.Goals as goal

pub returns : goal.returns
unfolding compute_of
returns c = checked _ _ (rw (to_z-of_z c.ranges.a, to_z-of_z c.ranges.b) at c.checked_mul.ensures)
