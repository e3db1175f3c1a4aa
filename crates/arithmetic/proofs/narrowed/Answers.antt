-- `arithmetic::narrowed` meets its contract. Assumes nothing.
use mathlib.Core.Path.{◌∙◌}
use mir.Facts.{to_z-of_z}
use Rattle.arithmetic.proofs.Ranged.{converted}
use Rattle.arithmetic.proofs.narrowed.Goals as goal

pub returns : goal.returns
returns c = c.ok.ensures.value ∙ converted c.try_from.result c.args.z (rw (to_z-of_z c.ranges.z) at c.try_from.ensures)
