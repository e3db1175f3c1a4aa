-- `range_output::put_cells` meets its contract. The invariant: the first i records are written. Assumes nothing.
use native.Mathlib.Omega.{arith}
use Rattle.range_output.proofs.Written.{passed_none, passed_more, passed_all, length_cell}
use Rattle.range_output.proofs.put_cells.Goals as goal

pub loop-i-init : goal.loop-i-init
loop-i-init c = passed_none

pub read-requires : goal.read-requires
read-requires c = omega (arith, c.requires.0)

pub put_row-requires : goal.put_row-requires
put_row-requires c = (omega (arith, c.loop-i.invariant.size, c.requires.1), rw c.cell_bytes-row.ensures (length_cell _))

pub loop-i-preserved : goal.loop-i-preserved
loop-i-preserved c =
    passed_more c.loop-i.invariant (omega arith) (omega (arith, c.requires.1)) c.read.ensures c.cell_bytes-row.ensures c.put_row.ensures

pub shape_of-out : goal.shape_of-out
shape_of-out c = c.loop-i.invariant.size

pub returns : goal.returns
returns c = passed_all c.loop-i.invariant (omega (arith, c.loop-i-test.false))
