-- `arithmetic::lt` meets its contract: the test is that of the definition. Assumes nothing.
use mir.Facts.{to_z-of_z}
use Rattle.arithmetic.specs.Arithmetic.{compute_of}
use Rattle.arithmetic.proofs.Ranged.{truth_told}
use Rattle.arithmetic.proofs.lt.Goals as goal

pub returns : goal.returns
unfolding compute_of
returns c = rw (c.from.ensures, to_z-of_z c.ranges.a, to_z-of_z c.ranges.b) (truth_told _)
