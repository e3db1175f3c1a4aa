-- `buffer::put_row` meets its contract. Assumes nothing.
use mathlib.Core.Path.{◌∙◌}
use Rattle.buffer.proofs.Tables.{written_row}
use Rattle.buffer.proofs.put_row.Goals as goal

pub returns : goal.returns
returns c =
    let a = c.args in
    c.write_at.ensures ∙ written_row a.width a.buf.now a.i a.row.now c.requires.1
