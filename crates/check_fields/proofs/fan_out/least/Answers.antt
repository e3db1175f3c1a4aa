-- `check_fields::fan_out::least` meets its contract. An arm knows which variants it has, and at these the table has one least fan-out. Assumes nothing.
use mathlib.Core.List.{[], ◌∷◌}
use Rattle.check_fields.proofs.FanOuts.{leasts, least_among}
use Rattle.check_fields.proofs.fan_out.least.Goals as goal

pub returns-in-Switch : goal.returns-in-Switch
unfolding leasts
returns-in-Switch c = λ code e. least_among code 2 (4 ∷ 7 ∷ []) (rw e c.in-Switch.in-Switch-own.keys1) tt

pub returns-in-Sink : goal.returns-in-Sink
unfolding leasts
returns-in-Sink c = λ code e. least_among code 0 (1 ∷ 2 ∷ 8 ∷ 10 ∷ 13 ∷ []) (rw e c.in-Sink.in-Sink-own.keys2) tt

pub returns-in_default : goal.returns-in_default
unfolding leasts
returns-in_default c = λ code e. least_among code 1 (0 ∷ 3 ∷ 5 ∷ 6 ∷ 9 ∷ 11 ∷ 12 ∷ []) (rw e c.in_default.in_default-own.keys3) tt
