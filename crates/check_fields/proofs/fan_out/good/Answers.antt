-- `check_fields::fan_out::good` meets its contract. Assumes nothing.
use Rattle.check_fields.proofs.fan_out.good.Goals as goal

pub returns-then-allowed : goal.returns-then-allowed
returns-then-allowed c = rw (← c.allowed.ensures, c.if-allowed.true, c.unused_are_zero.ensures)

pub returns-else-allowed : goal.returns-else-allowed
returns-else-allowed c = rw (← c.allowed.ensures, c.if-allowed.false)
