-- `expression::value` meets its contract. Assumes nothing.
use mathlib.Core.Path.{sym, ◌∙◌}
use Rattle.rules.specs.Expression.{evaluated}
use Rattle.check_fields.proofs.Turns.{handed_on}
use Rattle.expression.proofs.value.Goals as goal

pub returns-in_err-values : goal.returns-in_err-values
unfolding evaluated
returns-in_err-values c = rw (handed_on c.from_residual.ensures, ← c.values.ensures, c.in_err-values.was)

pub whole-requires : goal.whole-requires
unfolding evaluated
whole-requires c = sym c.values.ensures ∙ c.in_ok-values.was

pub returns : goal.returns
unfolding evaluated
returns c = rw (c.ok_or.ensures.value, c.at.ensures, ← c.values.ensures, c.in_ok-values.was, c.whole.ensures)
