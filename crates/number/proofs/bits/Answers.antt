-- `number::bits` meets its contract. Assumes nothing.
use mathlib.Core.Path.{ap, ◌∙◌}
use mir.Syntax.{w32}
use mir.Val.{of_z}
use mir.Facts.{to_z-of_z}
use Rattle.number.specs.Number.{bits_of}
use Rattle.number.proofs.bits.Goals as goal

pub returns : goal.returns
unfolding bits_of
returns c = c.cast_unsigned.ensures ∙ ap (of_z w32) (to_z-of_z c.ranges.value)
