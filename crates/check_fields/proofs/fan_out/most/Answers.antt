-- `check_fields::fan_out::most` meets its contract. An arm knows which variants it has, and at these the table has one most fan-out. Assumes nothing.
use mathlib.Core.List.{[], ◌∷◌}
use borrow.Enum.Refused.{opened}
use Rattle.check_fields.proofs.FanOuts.{mosts, most_among}
use Rattle.check_fields.proofs.fan_out.most.Goals as goal

pub returns-in-Sink : goal.returns-in-Sink
unfolding mosts
returns-in-Sink c = λ code e. most_among code 0 (1 ∷ 2 ∷ 8 ∷ 13 ∷ []) (rw e c.in-Sink.in-Sink-own.keys1) tt

pub returns-in_default : goal.returns-in_default
unfolding mosts
returns-in_default c = λ code e. most_among code 2 (0 ∷ 3 ∷ 4 ∷ 5 ∷ 6 ∷ 7 ∷ 9 ∷ 10 ∷ 11 ∷ 12 ∷ []) (rw e (opened c.in_default.in_default-own.keys2)) tt
