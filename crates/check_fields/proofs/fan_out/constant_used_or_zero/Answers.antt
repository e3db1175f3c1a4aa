-- `check_fields::fan_out::constant_used_or_zero` meets its contract. Assumes nothing.
use mir.Facts.{to_z-of_z}
use Rattle.check_fields.proofs.fan_out.constant_used_or_zero.Goals as goal

pub returns-then-uses_constant : goal.returns-then-uses_constant
returns-then-uses_constant c = λ code e. rw (← c.uses_constant.ensures code e, c.if-uses_constant.true)

pub returns-else-uses_constant : goal.returns-else-uses_constant
returns-else-uses_constant c = λ code e. rw (← c.uses_constant.ensures code e, c.if-uses_constant.false) (rw (to_z-of_z c.ranges.value) at c.is_zero.ensures)
