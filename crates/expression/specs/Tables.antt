-- Working definition: no public promise cites it.
-- What is kept on the way through an expression: what a record is, the records named so far, and the instruction of each record. Assumes nothing.
use Rattle.std.specs.Prelude.{ℕ, ◌<◌, ◌≡◌, Bool, true, false, ◌&&◌, List, length, get_or, leb, Option, Some, None, Ok}
use Rattle.record.specs.declared.operation.Arithmetic.{Arithmetic}
use Rattle.record.specs.declared.term.Term.{Term}
use Rattle.record.specs.ExpressionRecords.{expression_of}
use Rattle.rules.specs.Check.{any}
use Rattle.rules.specs.Expression.{most_terms, is_operation, names, arithmetic_of, instruction_for, check_expression}

-- the operation that a record's kind names, and none where it names none
abbrev pub OperationOf : Term → Option Arithmetic → Type 0
OperationOf t (Some o) = (leb 16 t.kind ≡ true) × (leb t.kind 23 ≡ true) × (o ≡ arithmetic_of t.kind)
OperationOf t None = (leb 16 t.kind && leb t.kind 23) ≡ false

-- the table has the numbers that some records name
pub record MarkedNamed (ts : List Term) (table : List Bool) : Type 0 where
  pub size : length table ≡ most_terms
  pub says : (j : ℕ) → j < most_terms → get_or table j false ≡ any (names j) ts

-- what an operation names is in the table
abbrev pub NamesInside : Term → Type 0
NamesInside t = is_operation t ≡ true → (t.left < most_terms) × (t.right < most_terms)

-- the table has the instruction of each record of an expression that passed
pub record NumberedRecords (expression table : List ℕ) : Type 0 where
  pub passed : check_expression expression ≡ Ok tt
  pub size : length table ≡ most_terms
  pub says : (i : ℕ) → i < length (expression_of expression) → get_or table i 0 ≡ instruction_for (expression_of expression) i
