-- `fire_effect::tags::switch` meets its contract. Assumes nothing.
use mathlib.Core.Path.{◌≡◌, ap}
use mir.Facts.{sfits_lit}
use mir.Syntax.{w32}
use mir.Val.{of_z}
use lib.IntN.{pos}
use Rattle.arithmetic.proofs.Signed.{same_bits}
use Rattle.arithmetic.proofs.Ranged.{eq_eq_z, ne_eq_z}
use Rattle.rules.specs.InstructionSet.{side_of}
use Rattle.fire_effect.proofs.tags.switch.Goals as goal

pub returns-then-control-eq0 : goal.returns-then-control-eq0
unfolding side_of
returns-then-control-eq0 c =
    let zero-control : c.args.control ≡ pos 0 = same_bits c.ranges.control (sfits_lit tt) c.if-control-eq0.true in
    rw (eq_eq_z zero-control) c.to_one.ensures

pub returns-else-control-eq0 : goal.returns-else-control-eq0
unfolding side_of
returns-else-control-eq0 c = rw (ne_eq_z c.args.control (pos 0) (λ e. c.if-control-eq0.false (ap (of_z w32) e))) c.to_one-else-control-eq0.ensures
