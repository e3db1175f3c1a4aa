-- `expression::check::all_named` meets its contract. The invariant: the first j records passed, so that the rest decides. Assumes nothing.
use Prim.Native.Nat.{ℕ, suc, ◌/◌, ◌<◌}
use mathlib.Core.Bool.{Bool, ◌||◌}
use mathlib.Core.Path.{◌≡◌}
use mathlib.Core.List.{List}
use lib.ListN.{length, drop}
use lib.Dec.{eqb}
use Rattle.record.specs.declared.term.Term.{Term}
use Rattle.record.specs.ExpressionRecords.{expression_of}
use Rattle.record.specs.Widths.{term_width}
use Rattle.rules.specs.declared.answer.Refusal.TheVariants.{BadExpression}
use Rattle.rules.specs.Check.{demand, any, in_turn, Checked}
use Rattle.rules.specs.Expression.{names}
use Rattle.expression.proofs.check.all_named.Given as goal

abbrev pub is_named : List Term → ℕ → Bool
is_named ts j = eqb (suc j) (length ts) || any (names j) ts

abbrev pub named : List Term → ℕ → Term → Checked
named ts j t = demand (is_named ts j) BadExpression j

abbrev pub invariant-loop-j : goal.invariant-loop-j
invariant-loop-j l = (l.j < length l.expression / term_width) × (in_turn (named (expression_of l.expression)) 0 (expression_of l.expression) ≡ in_turn (named (expression_of l.expression)) l.j (drop l.j (expression_of l.expression)))
