-- `expression::numbers::numbers` meets its contract. The invariant: the table has the instructions of the first i records, and the variables among them are
-- counted. Assumes nothing.
use Prim.Native.Nat.{◌/◌, ◌≤◌}
use mathlib.Core.Path.{◌≡◌}
use lib.ListN.{length}
use Rattle.record.specs.ExpressionRecords.{expression_of}
use Rattle.record.specs.Widths.{term_width}
use Rattle.rules.specs.Expression.{variable_number}
use Rattle.expression.proofs.Counts.{Upto}
use Rattle.expression.proofs.numbers.numbers.Given as goal

abbrev pub invariant-loop-i : goal.invariant-loop-i
invariant-loop-i l =
    (l.i ≤ length l.expression / term_width) × (l.before ≡ variable_number (expression_of l.expression) l.i) × (l.before ≤ l.i) × Upto (expression_of l.expression) l.i l.numbers
