-- `expression::numbers::variable_of` meets its contract. Assumes nothing.
use Prim.Native.Nat.{◌≤◌}
use native.Mathlib.Omega.{arith}
use mathlib.Core.Bool.{Bool, true, false}
use mathlib.Core.List.{[], ◌∷◌}
use mathlib.Core.Path.{◌≡◌}
use mir.Val.{bool_byte}
use Rattle.record.specs.declared.term.Term.{Term}
use Rattle.rules.specs.Expression.{is_variable, count}
use Rattle.expression.proofs.numbers.variable_of.Goals as goal

one : (t : Term) (b : Bool) → b ≡ is_variable t → (bool_byte b ≡ count is_variable (t ∷ [])) × (bool_byte b ≤ 1)
one t true e = (rw (← e), omega arith)
one t false e = (rw (← e), omega arith)

pub returns : goal.returns
returns c = rw c.from.ensures (one c.args.t c.is_variable.result c.is_variable.ensures)
