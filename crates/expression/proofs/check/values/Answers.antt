-- `expression::check::values` meets its contract. Assumes nothing.
use Prim.Native.Nat.{◌*◌}
use mathlib.Core.Path.{sym, ◌∙◌}
use native.Mathlib.Omega.{arith}
use borrow.Author.Tests.{eq-eqb, ne_eqb}
use Rattle.record.specs.ExpressionRecords.{expression_of}
use Rattle.record.specs.Widths.{value_width}
use Rattle.rules.specs.Expression.{is_variable, count, check_values}
use Rattle.check_fields.proofs.Turns.{handed_on}
use Rattle.expression.proofs.Terms.{passed_terms}
use Rattle.expression.proofs.check.values.Goals as goal

pub returns-in_err-check : goal.returns-in_err-check
unfolding check_values
returns-in_err-check c = rw (handed_on c.from_residual.ensures, ← c.check.ensures, c.in_err-check.was)

pub overflow_mul-variables : goal.overflow_mul-variables
unfolding check_values
overflow_mul-variables c =
    let s = c.args.expression.now in
    let few = (passed_terms s (sym c.check.ensures ∙ c.in_ok-check.was)).1 in
    let least = c.variables.ensures.1 in
    omega arith

pub returns-then-len-variables : goal.returns-then-len-variables
unfolding check_values
returns-then-len-variables c =
    let a = c.args in
    let n = c.variables.ensures.0 in
    rw (c.at.ensures, ← c.check.ensures, c.in_ok-check.was, ne_eqb a.len (count is_variable (expression_of a.expression.now) * value_width) (λ q. c.if-len-variables.true (omega arith)))

pub returns : goal.returns
unfolding check_values
returns c =
    let a = c.args in
    let n = c.variables.ensures.0 in
    let q = c.if-len-variables.false in
    rw (← c.check.ensures, c.in_ok-check.was, eq-eqb a.len (count is_variable (expression_of a.expression.now) * value_width) (omega arith))
