-- `expression::check::made` meets its contract. Assumes nothing.
use Prim.Native.Nat.{suc, ◌*◌}
use mathlib.Core.Path.{sym, ◌∙◌}
use native.Mathlib.Omega.{arith}
use lib.ListN.{length}
use borrow.Author.Tests.{le-leb, lt-leb}
use Rattle.record.specs.ExpressionRecords.{expression_of}
use Rattle.record.specs.Widths.{graph_width}
use Rattle.rules.specs.Expression.{check_made}
use Rattle.check_fields.proofs.Turns.{handed_on}
use Rattle.expression.proofs.Terms.{length_terms, passed_terms}
use Rattle.expression.proofs.check.made.Goals as goal

pub returns-in_err-check : goal.returns-in_err-check
unfolding check_made
returns-in_err-check c = rw (handed_on c.from_residual.ensures, ← c.check.ensures, c.in_err-check.was)

pub overflow_mul-expression : goal.overflow_mul-expression
unfolding check_made
overflow_mul-expression c =
    let s = c.args.expression.now in
    let few = (passed_terms s (sym c.check.ensures ∙ c.in_ok-check.was)).1 in
    omega arith

pub returns-then-room-expression : goal.returns-then-room-expression
unfolding check_made
returns-then-room-expression c =
    let a = c.args in
    let s = a.expression.now in
    rw (c.at.ensures, ← c.check.ensures, c.in_ok-check.was, lt-leb (graph_width * suc (length (expression_of s))) a.room (omega (arith, c.if-room-expression.true, length_terms s)))

pub returns : goal.returns
unfolding check_made
returns c =
    let a = c.args in
    let s = a.expression.now in
    rw (← c.check.ensures, c.in_ok-check.was, le-leb (graph_width * suc (length (expression_of s))) a.room (omega (arith, c.if-room-expression.false, length_terms s)))
