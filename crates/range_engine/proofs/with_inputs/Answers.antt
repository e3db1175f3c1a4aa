-- `range_engine::with_inputs` meets its contract. Assumes nothing.
use native.Mathlib.Omega.{arith}
use lib.ListN.{length}
use Rattle.range_engine.specs.Over.{own_bytes}
use Rattle.range_engine.proofs.Writing.{own_part}
use Rattle.range_engine.proofs.with_inputs.Goals as goal

pub slice_bounds-handles-end : goal.slice_bounds-handles-end
slice_bounds-handles-end c = omega (arith, c.requires.0.few_inputs)

pub handled-requires : goal.handled-requires
handled-requires c = (c.requires.0, c.requires.1, own_part (own_bytes (length c.args.inputs.now)) 57344 (omega (arith, c.requires.0.few_inputs)))

pub returns : goal.returns
returns c = c.handled.ensures
