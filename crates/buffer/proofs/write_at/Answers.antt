-- `buffer::write_at` meets its contract. Assumes nothing.
use borrow.Rule.Slice.PartMut.{Post-is}
use native.Mathlib.Omega.{arith}
use Prim.Native.Nat.{◌+◌}
use lib.ListN.{length}
use Rattle.buffer.specs.Rows.{written}
use Rattle.buffer.proofs.write_at.Goals as goal

pub returns : goal.returns
unfolding written
returns c =
    let a = c.args in
    rw (c.copy_from_slice.ensures.after, Post-is a.at (a.at + length a.src.now) a.buf.now (omega arith))
