-- `text::digits::Small::new` meets its contract. Assumes nothing.
use mathlib.Core.Path.{refl}
use Rattle.text.proofs.Fields.{tabled}
use Rattle.text.proofs.digits.Small.new.Goals as goal

pub invariant_of-result : goal.invariant_of-result
invariant_of-result c = tabled _ tt refl
