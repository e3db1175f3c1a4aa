-- `buffer::row_at` meets its contract. Assumes nothing.
use Prim.Native.Nat.{◌*◌}
use Rattle.buffer.proofs.Tables.{tail_part}
use Rattle.buffer.proofs.row_at.Goals as goal

pub returns : goal.returns
returns c = tail_part (c.args.i * c.args.width) c.args.s.now
