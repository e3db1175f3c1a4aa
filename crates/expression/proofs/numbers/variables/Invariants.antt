-- `expression::numbers::variables` meets its contract. The invariant: the variables among the first i records are counted. Assumes nothing.
use Prim.Native.Nat.{◌/◌, ◌≤◌}
use mathlib.Core.Path.{◌≡◌}
use lib.ListN.{length}
use Rattle.record.specs.ExpressionRecords.{expression_of}
use Rattle.record.specs.Widths.{term_width}
use Rattle.rules.specs.Expression.{variable_number}
use Rattle.expression.proofs.numbers.variables.Given as goal

abbrev pub invariant-loop-i : goal.invariant-loop-i
invariant-loop-i l = (l.i ≤ length l.expression / term_width) × (l.n ≡ variable_number (expression_of l.expression) l.i) × (l.n ≤ l.i)
