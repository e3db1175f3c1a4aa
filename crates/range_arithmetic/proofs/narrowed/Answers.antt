-- `range_arithmetic::narrowed` meets its contract. Assumes nothing.
use mathlib.Core.Path.{sym, ◌∙◌}
use mir.Facts.{to_z-of_z}
use Rattle.arithmetic.proofs.Ranged.{ranged_fits}
use Rattle.range_arithmetic.proofs.InBits.{both_in}
use Rattle.range_arithmetic.proofs.narrowed.Goals as goal

pub returns : goal.returns
returns c =
    let low = rw (to_z-of_z c.ranges.low) at (sym c.narrowed.ensures ∙ c.in_ok-low.was) in
    let high = rw (to_z-of_z c.ranges.high) at (sym c.narrowed-2.ensures ∙ c.in_ok-high.was) in
    rw (to_z-of_z (ranged_fits _ _ low), to_z-of_z (ranged_fits _ _ high)) (both_in c.args.low c.args.high _ _ low high)
