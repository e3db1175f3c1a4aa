-- `expression::numbers::number_of` meets its contract. Assumes nothing.
use native.Mathlib.Omega.{arith}
use mathlib.Core.Path.{sym, ◌∙◌}
use Rattle.expression.proofs.numbers.number_of.Goals as goal

pub returns-then-is_variable : goal.returns-then-is_variable
returns-then-is_variable c = (rw (sym c.is_variable.ensures ∙ c.if-is_variable.true), omega arith)

pub returns-else-is_variable : goal.returns-else-is_variable
returns-else-is_variable c = (rw (sym c.is_variable.ensures ∙ c.if-is_variable.false), omega arith)
