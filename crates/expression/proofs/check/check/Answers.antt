-- `expression::check::check` meets its contract. Assumes nothing.
use mathlib.Core.Path.{sym, ◌∙◌}
use Rattle.rules.specs.Expression.{check_terms, check_expression}
use Rattle.check_fields.proofs.Turns.{handed_on}
use Rattle.expression.proofs.Marks.{no_marks}
use Rattle.expression.proofs.check.check.Goals as goal

pub returns-then-not-good_length : goal.returns-then-not-good_length
unfolding check_expression check_terms
returns-then-not-good_length c = rw (c.at.ensures, ← c.good_length.ensures, c.if-not-good_length.true)

pub terms-requires : goal.terms-requires
unfolding check_expression check_terms
terms-requires c = (sym c.good_length.ensures ∙ c.if-not-good_length.false, no_marks)

pub returns-in_err-terms : goal.returns-in_err-terms
unfolding check_expression check_terms
returns-in_err-terms c = rw (handed_on c.from_residual.ensures, ← c.good_length.ensures, c.if-not-good_length.false, ← c.terms.ensures.value, c.in_err-terms.was)

pub all_named-requires : goal.all_named-requires
unfolding check_expression check_terms
all_named-requires c = (sym c.good_length.ensures ∙ c.if-not-good_length.false, c.terms.ensures.marked_named c.in_ok-terms.was)

pub returns : goal.returns
unfolding check_expression check_terms
returns c = rw (← c.good_length.ensures, c.if-not-good_length.false, ← c.terms.ensures.value, c.in_ok-terms.was) c.all_named.ensures
