-- Worked cases of 02, R-14, as one table over bytes: what becomes of an expression, the value of its last record, and its run. proofs/ExpressionCases has the one
-- fact over it. Assumes nothing.
use Rattle.std.specs.Prelude.{ℕ, ◌*◌, List, [], ◌∷◌, ◌++◌, length, replicate, ℤ, pos, negsuc, Option, None, Some, Result, Ok, Err}
use Rattle.rules.specs.declared.answer.Fault.{Fault}
use Rattle.rules.specs.declared.answer.Refusal.TheVariants.{BadExpression, GraphTooLong}
use Rattle.rules.specs.Check.{fault_at}
use Rattle.rules.specs.Answer.{Values, values_of}
use Rattle.rules.specs.Run.{result, answer}
use Rattle.record.specs.ExpressionRecords.{expression_of}
use Rattle.record.specs.Widths.{token_width}
use Rattle.rules.specs.Expression.{expression_value, check_made, made_of, graph_for, graph_bytes, input_bytes, output_of}
use Rattle.rules.specs.CaseRows.{to0, to1, values}

-- ---- how the rows are written

abbrev pub term : (kind left right : ℕ) → List ℕ
term kind left right = kind ∷ left ∷ right ∷ 0 ∷ 0 ∷ 0 ∷ 0 ∷ 0 ∷ []

abbrev pub variable : List ℕ
variable = term 0 0 0

pub data ExpressionCase : Type 0 where
  -- of an expression and the length of an output: the answer
  making : (expression : List ℕ) → (output : ℕ) → Result ℕ Fault → ExpressionCase
  -- of an expression and an output: what is left there
  writing : (expression output : List ℕ) → (left : List ℕ) → ExpressionCase
  -- of an expression, the values of its variables and the picks: its value, and the answer of its run
  running : (expression : List ℕ) → List ℤ → (picks : List ℕ) → Option ℤ → Values → ExpressionCase

pub data SeenExpression : Type 0 where
  answered : Result ℕ Fault → SeenExpression
  wrote : List ℕ → SeenExpression
  ran : Option ℤ → Values → SeenExpression

-- by the definitions
unfoldable pub seen_expression : ExpressionCase → SeenExpression
seen_expression (making e n a) = answered (made_of (check_made e n) (length (graph_for (expression_of e))))
seen_expression (writing e lent left) = wrote (output_of (check_made e (length lent)) (graph_for (expression_of e)) lent)
seen_expression (running e vs picks v a) = ran (expression_value (expression_of e) vs) (values_of (answer (result (graph_bytes (expression_of e)) [] (input_bytes vs) picks 2048 (token_width * 300) 0)))

-- by the table
unfoldable pub expected_expression : ExpressionCase → SeenExpression
expected_expression (making e n a) = answered a
expected_expression (writing e lent left) = wrote left
expected_expression (running e vs picks v a) = ran v a

-- ---- the rows

-- x SUB y
abbrev pub difference : List ℕ
difference = variable ++ variable ++ term 17 0 1

-- (x SUB y) DIV z, with z before y
abbrev pub quotient : List ℕ
quotient = variable ++ variable ++ variable ++ term 17 0 2 ++ term 19 3 1

abbrev pub expression_cases : List ExpressionCase
expression_cases =
    -- "with place 0 for a wrong length"
    making [] 800 (Err (fault_at BadExpression 0))
    ∷ making (variable ++ 0 ∷ []) 800 (Err (fault_at BadExpression 0))
    ∷ making (replicate 808 0) 2000 (Err (fault_at BadExpression 0))
    -- "else at the first record with a bad field": a kind, a zero byte, a name of a variable, a name of no record before it
    ∷ making (variable ++ variable ++ term 15 0 1) 800 (Err (fault_at BadExpression 2))
    ∷ making (variable ++ variable ++ term 24 0 1) 800 (Err (fault_at BadExpression 2))
    ∷ making (variable ++ (0 ∷ 0 ∷ 0 ∷ 0 ∷ 0 ∷ 0 ∷ 0 ∷ 1 ∷ [])) 800 (Err (fault_at BadExpression 1))
    ∷ making (variable ++ term 0 0 1) 800 (Err (fault_at BadExpression 1))
    ∷ making (variable ++ term 16 0 1) 800 (Err (fault_at BadExpression 1))
    -- "or naming one already named", by another record or by this one
    ∷ making (variable ++ variable ++ term 16 0 1 ++ term 16 1 2) 800 (Err (fault_at BadExpression 3))
    ∷ making (variable ++ term 16 0 0) 800 (Err (fault_at BadExpression 1))
    -- "else at the first never named"
    ∷ making (variable ++ variable ++ variable ++ term 16 0 2) 800 (Err (fault_at BadExpression 1))
    -- "then 26, graph too long for the lent output"
    ∷ making difference 63 (Err (fault_at GraphTooLong 0))
    ∷ making difference 64 (Ok 4)
    ∷ making variable 32 (Ok 2)
    -- the graph; bytes behind it stay as lent, and an output too short stays unwritten
    ∷ writing quotient (replicate 97 7) (to1 1 (pos 0) 0 3 ++ to1 1 (pos 0) 1 4 ++ to1 1 (pos 0) 1 3 ++ to1 17 (pos 0) 0 4 ++ to1 19 (pos 0) 0 5 ++ to0 3 (pos 0) ++ 7 ∷ [])
    ∷ writing variable (replicate 31 7) (replicate 31 7)
    -- values and runs, in two orders
    ∷ running variable (negsuc 6 ∷ []) [] (Some (negsuc 6)) (values 0 1 2 0)
    ∷ running quotient (pos 7 ∷ pos 2 ∷ pos 14 ∷ []) [] (Some (negsuc 2)) (values 0 5 8 0)
    ∷ running quotient (pos 7 ∷ pos 2 ∷ pos 14 ∷ []) (2 ∷ 0 ∷ 1 ∷ 0 ∷ []) (Some (negsuc 2)) (values 0 5 8 0)
    ∷ running quotient (pos 7 ∷ pos 0 ∷ pos 14 ∷ []) [] None (values 12 4 7 4)
    ∷ running difference (negsuc 2147483647 ∷ pos 1 ∷ []) [] None (values 12 2 4 2)
    ∷ []
