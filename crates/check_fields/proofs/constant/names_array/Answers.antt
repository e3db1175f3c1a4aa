-- `check_fields::constant::names_array` meets its contract. Assumes nothing.
use mathlib.Core.Bool.{true, false}
use mathlib.Core.List.{[], ◌∷◌}
use borrow.Enum.Refused.{opened}
use Rattle.check_fields.proofs.Operations.{names_among}
use Rattle.check_fields.proofs.constant.names_array.Goals as goal

pub returns-in-Fetch : goal.returns-in-Fetch
returns-in-Fetch c = λ code e. names_among code true (9 ∷ 10 ∷ []) (rw e c.in-Fetch.in-Fetch-own.keys1) tt

pub returns-in_default : goal.returns-in_default
returns-in_default c = λ code e. names_among code false (0 ∷ 1 ∷ 2 ∷ 3 ∷ 4 ∷ 5 ∷ 6 ∷ 7 ∷ 8 ∷ 11 ∷ 12 ∷ 13 ∷ []) (rw e (opened c.in_default.in_default-own.keys2)) tt
