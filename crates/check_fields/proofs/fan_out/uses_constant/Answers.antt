-- `check_fields::fan_out::uses_constant` meets its contract. Assumes nothing.
use mathlib.Core.Bool.{true, false}
use mathlib.Core.List.{[], ◌∷◌}
use borrow.Enum.Refused.{opened}
use Rattle.check_fields.proofs.Operations.{uses_among}
use Rattle.check_fields.proofs.fan_out.uses_constant.Goals as goal

pub returns-in-Const : goal.returns-in-Const
returns-in-Const c = λ code e. uses_among code true (3 ∷ 7 ∷ 8 ∷ 9 ∷ 10 ∷ 12 ∷ []) (rw e c.in-Const.in-Const-own.keys1) tt

pub returns-in_default : goal.returns-in_default
returns-in_default c = λ code e. uses_among code false (0 ∷ 1 ∷ 2 ∷ 4 ∷ 5 ∷ 6 ∷ 11 ∷ 13 ∷ []) (rw e (opened c.in_default.in_default-own.keys2)) tt
