-- The records of an expression's bytes as the list of its terms. Assumes nothing.
use Rattle.std.proofs.Common.{Ok}
use Prim.Native.Nat.{ℕ, suc, ◌*◌, ◌/◌, ◌≤◌, ◌<◌}
use mathlib.Core.Path.{◌≡◌}
use mathlib.Core.Bool.{true}
use mathlib.Core.List.{List, []}
use native.Mathlib.Omega.{arith}
use lib.ListN.{length, get_or}
use lib.Dec.{leb}
use borrow.Author.Tests.{leb-true, eqb-true}
use Rattle.buffer.specs.Rows.{whole}
use Rattle.buffer.proofs.Tables.{length_rows, get_d_rows}
use Rattle.record.specs.declared.term.Term.{Term}
use Rattle.record.specs.ExpressionRecords.{decode_term, expression_of, term_in}
use Rattle.record.specs.Widths.{term_width, graph_width, value_width}
use Rattle.rules.specs.declared.answer.Refusal.TheVariants.{BadStore, GraphTooLong}
use Rattle.rules.specs.Expression.{most_terms, is_expression_length, term_at, is_variable, count, check_expression, check_made, check_values}
use Rattle.rules.proofs.Passed.{both}
use Rattle.rules.proofs.Accepted.{whole_bytes}
use Rattle.rules.proofs.ExpressionPassed.{passed}
use Rattle.check_fields.proofs.Turns.{both-passed, demanded}

pub length_terms : (l : List ℕ) → length (expression_of l) ≡ length l / term_width
length_terms l = length_rows term_width decode_term (length l / term_width) l

module _ (l : List ℕ) (i : ℕ) (h : i < length l / term_width) where
  -- whatever stands past the expression
  pub in_terms : (d : Term) → get_or (expression_of l) i d ≡ term_in l i
  in_terms d = get_d_rows term_width decode_term (length l / term_width) i l d h

  pub at_terms : term_at (expression_of l) i ≡ term_in l i
  unfolding term_at
  at_terms = in_terms (decode_term [])

-- "1 to 100 records"
module _ (n : ℕ) (e : is_expression_length n ≡ true) where
  pub some_terms : 0 < n / term_width
  some_terms = let (some, w) = both (leb 1 n) (whole term_width most_terms n) e in let all = (whole_bytes term_width most_terms n w).0 in omega (arith, leb-true 1 n some)

  pub few_terms : n / term_width ≤ most_terms
  few_terms = (whole_bytes term_width most_terms n (both (leb 1 n) (whole term_width most_terms n) e).1).1

-- of an expression that passed
pub passed_terms : (s : List ℕ) → check_expression s ≡ Ok tt → (0 < length s / term_width) × (length s / term_width ≤ most_terms)
passed_terms s e = let ok = passed s e in (let some = ok.some in omega (arith, length_terms s), let few = ok.few in omega (arith, length_terms s))

-- of a graph that fits, and of values for each variable
pub passed_made : (s : List ℕ) (room : ℕ) → check_made s room ≡ Ok tt → (check_expression s ≡ Ok tt) × (graph_width * suc (length (expression_of s)) ≤ room)
unfolding check_made
passed_made s room e =
    let (ok, fits) = both-passed (check_expression s) _ e in
    (ok, leb-true (graph_width * suc (length (expression_of s))) room (demanded _ GraphTooLong 0 fits))

pub passed_values : (s : List ℕ) (n : ℕ) → check_values s n ≡ Ok tt → (check_expression s ≡ Ok tt) × (n ≡ count is_variable (expression_of s) * value_width)
unfolding check_values
passed_values s n e =
    let (ok, many) = both-passed (check_expression s) _ e in
    (ok, eqb-true n (count is_variable (expression_of s) * value_width) (demanded _ BadStore 0 many))
