-- `range_inputs::narrowed` meets its contract: the first 28 bytes, one by one, and those of the handle in the place of the value. Assumes nothing.
use mathlib.Core.Path.{sym, refl, ◌∙◌}
use native.Mathlib.Omega.{arith}
use lib.Seq.{length-take-le}
use Rattle.range_table.proofs.Bytes.{low_first}
use Rattle.range_inputs.specs.Handles.{handle_bytes}
use Rattle.range_inputs.proofs.Rows.{front_bytes}
use Rattle.range_inputs.proofs.narrowed.Goals as goal

pub slice_bounds-plain-end : goal.slice_bounds-plain-end
slice_bounds-plain-end c = sym (length-take-le 28 c.args.s.now (omega (arith, c.requires)))

pub copy_from_slice-requires : goal.copy_from_slice-requires
copy_from_slice-requires c = sym (length-take-le 28 c.args.s.now (omega (arith, c.requires)))

pub returns : goal.returns
unfolding handle_bytes
returns c = rw (c.copy_from_slice.ensures.after, front_bytes 28 0 c.args.s.now (omega (arith, c.requires)), c.copy_from_slice-2.ensures.after ∙ c.to_le_bytes.ensures ∙ low_first c.args.handle) refl
