-- `check_inputs::is_second` meets its contract. Assumes nothing.
use mathlib.Core.Path.{sym, ◌∙◌}
use Rattle.rules.specs.Check.{second_input}
use Rattle.check_inputs.proofs.is_second.Goals as goal

pub returns-then-mark : goal.returns-then-mark
unfolding second_input
returns-then-mark c = c.taken.ensures

pub returns-else-mark : goal.returns-else-mark
unfolding second_input
returns-else-mark c = c.if-mark.false ∙ sym (c.requires.1 c.if-mark.false)
