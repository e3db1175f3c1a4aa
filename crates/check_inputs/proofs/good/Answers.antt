-- `check_inputs::good` meets its contract. Assumes nothing.
use Rattle.rules.specs.Check.{good_input}
use Rattle.check_inputs.proofs.good.Goals as goal

pub returns-then-is_input : goal.returns-then-is_input
unfolding good_input
returns-then-is_input c = rw (← c.is_input.ensures, c.if-is_input.true, c.operands_at.ensures, c.u16_at.ensures)

pub returns-else-is_input : goal.returns-else-is_input
unfolding good_input
returns-else-is_input c = rw (← c.is_input.ensures, c.if-is_input.false)
