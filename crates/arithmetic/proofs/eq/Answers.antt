-- `arithmetic::eq` meets its contract: two numbers with the same bits are equal. Assumes nothing.
use Rattle.arithmetic.specs.Arithmetic.{compute_of}
use Rattle.arithmetic.proofs.Ranged.{eq_bits, truth_told}
use Rattle.arithmetic.proofs.eq.Goals as goal

pub returns : goal.returns
unfolding compute_of
returns c = rw (c.from.ensures, eq_bits c.ranges.a c.ranges.b) (truth_told _)
