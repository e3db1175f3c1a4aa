-- The table of worked cases of R-14 holds: what the definitions give is what the table says, in one fact over all rows. Assumes nothing.
use mathlib.Core.Path.{◌≡◌, refl}
use mathlib.Core.List.{map}
use Rattle.rules.proofs.Computed.{rules}
use Rattle.rules.specs.Expression.{expressions}
use Rattle.rules.specs.ExpressionCases.{seen_expression, expected_expression, expression_cases}

pub expression_cases_hold : map seen_expression expression_cases ≡ map expected_expression expression_cases
unfolding rules expressions seen_expression expected_expression
expression_cases_hold = refl
