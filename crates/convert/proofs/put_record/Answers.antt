-- `convert::put_record` meets its contract. Assumes nothing.
use native.Mathlib.Omega.{arith}
use lib.ListN.{length-drop}
use Rattle.convert.proofs.Records.{parts_put}
use Rattle.convert.proofs.put_record.Goals as goal

pub slice_bounds-write_at-end : goal.slice_bounds-write_at-end
slice_bounds-write_at-end c = rw (c.row_at-row.ensures, length-drop) (omega arith)

pub slice_bounds-write_at-end-3 : goal.slice_bounds-write_at-end-3
slice_bounds-write_at-end-3 c = rw (c.row_at-row.ensures, length-drop) (omega arith)

pub returns : goal.returns
returns c =
    parts_put c.args.layout.rest c.args.old.now _ c.args.out.now _ _ _ c.args.i c.requires.old_in_bounds c.requires.out_in_bounds c.row_at-row.ensures c.write_at.ensures c.write_at-2.ensures c.write_at-3.ensures
