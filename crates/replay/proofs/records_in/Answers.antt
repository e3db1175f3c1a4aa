-- `replay::records_in` meets its contract. Assumes nothing.
use native.Mathlib.Omega.{arith}
use Rattle.replay.proofs.records_in.Goals as goal

pub returns : goal.returns
returns c = omega (arith, c.div_ceil.ensures)
