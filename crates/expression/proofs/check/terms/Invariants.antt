-- `expression::check::terms` meets its contract. The invariant: the first i records passed, so that the rest decides, and the table has what they name.
-- Assumes nothing.
use Prim.Native.Nat.{ℕ, ◌/◌, ◌≤◌}
use mathlib.Core.Path.{◌≡◌}
use mathlib.Core.List.{List}
use lib.ListN.{length, take, drop}
use Rattle.record.specs.declared.term.Term.{Term}
use Rattle.record.specs.ExpressionRecords.{expression_of}
use Rattle.record.specs.Widths.{term_width}
use Rattle.rules.specs.declared.answer.Refusal.TheVariants.{BadExpression}
use Rattle.rules.specs.Check.{demand, in_turn, Checked}
use Rattle.rules.specs.Expression.{good_term}
use Rattle.expression.specs.Tables.{MarkedNamed}
use Rattle.expression.proofs.check.terms.Given as goal

abbrev pub good : List Term → ℕ → Term → Checked
good ts i t = demand (good_term (take i ts) i t) BadExpression i

abbrev pub invariant-loop-i : goal.invariant-loop-i
invariant-loop-i l =
    (l.i ≤ length l.expression / term_width)
    × (in_turn (good (expression_of l.expression)) 0 (expression_of l.expression) ≡ in_turn (good (expression_of l.expression)) l.i (drop l.i (expression_of l.expression)))
    × MarkedNamed (take l.i (expression_of l.expression)) l.named
