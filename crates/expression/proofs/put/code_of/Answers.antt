-- `expression::put::code_of` meets its contract. Assumes nothing.
use mathlib.Core.Path.{sym, ◌∙◌}
use Rattle.expression.proofs.put.code_of.Goals as goal

pub returns-then-is_variable : goal.returns-then-is_variable
returns-then-is_variable c = rw (sym c.is_variable.ensures ∙ c.if-is_variable.true)

pub returns-else-is_variable : goal.returns-else-is_variable
returns-else-is_variable c = rw (sym c.is_variable.ensures ∙ c.if-is_variable.false)
