-- The value of an expression, one call of `value_at` at a time. Assumes nothing.
use Prim.Native.Nat.{ℕ, ◌<◌}
use mathlib.Core.Path.{◌≡◌, ◌∙◌}
use mathlib.Core.Bool.{true, false}
use mathlib.Core.List.{List}
use lib.ListN.{length, get_or}
use lib.IntN.{pos}
use Rattle.std.specs.Prelude.{Some}
use Rattle.record.specs.declared.term.Term.{Term}
use Rattle.record.specs.ExpressionRecords.{expression_of, term_in}
use Rattle.rules.specs.Expression.{term_at, is_variable, count, arithmetic_of, combined, variables_of, value_at}
use Rattle.rules.proofs.ExpressionPassed.{passed}
use Rattle.rules.proofs.ExpressionGraph.{variable_number_lem, variable_low}
use Rattle.rules.proofs.ExpressionTree.{variable_value, operation_value}
use Rattle.expression.specs.Tables.{NumberedRecords}
use Rattle.expression.proofs.Puts.{at_i}

module _ {s numbers : List ℕ} (h : NumberedRecords s numbers) (i : ℕ) (low : i < length (expression_of s)) (t : Term) (told : t ≡ term_in s i) where
  abbrev ts : List Term
  ts = expression_of s

  pub variable_at : is_variable t ≡ true → get_or numbers i 0 < count is_variable ts
  variable_at v = rw (h.says i low) (variable_low ts i low (rw (at_i h i low t told) v))

  module _ (values : List ℕ) where
    pub value_variable : is_variable t ≡ true → value_at ts (variables_of values) i ≡ Some (get_or (variables_of values) (get_or numbers i 0) (pos 0))
    value_variable v =
        let is : is_variable (term_at ts i) ≡ true = rw (at_i h i low t told) v in
        variable_value ts (passed s h.passed) (variables_of values) i is ∙ rw (h.says i low, variable_number_lem ts i is)

    pub value_operation : is_variable t ≡ false → value_at ts (variables_of values) i ≡ combined (arithmetic_of t.kind) (value_at ts (variables_of values) t.left) (value_at ts (variables_of values) t.right)
    value_operation v = operation_value ts (passed s h.passed) (variables_of values) i low (rw (at_i h i low t told) v) ∙ rw (at_i h i low t told)
