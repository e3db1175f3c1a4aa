-- `engine::choice::number_of` meets its contract. Assumes nothing.
use native.Mathlib.Nat.{mod-eq_of_lt}
use mathlib.Core.Path.{sym}
use Rattle.engine.proofs.choice.number_of.Goals as goal

pub returns-then-pick-e : goal.returns-then-pick-e
returns-then-pick-e c = sym (mod-eq_of_lt c.if-pick-e.true)
