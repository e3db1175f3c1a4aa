-- `bounds::bounds` meets its contract. Assumes nothing.
use mathlib.Core.Path.{refl, sym, ap, ◌∙◌}
use Rattle.rules.specs.Answer.{values_needed}
use Rattle.rules.specs.Needs.{needs}
use Rattle.check_fields.proofs.Turns.{handed_on}
use Rattle.bounds.proofs.bounds.Goals as goal

pub returns-in_err-check : goal.returns-in_err-check
unfolding needs
returns-in_err-check c = rw (handed_on c.from_residual.ensures, ← c.check.ensures, c.in_err-check.was) (record { answered = refl; numbers = refl })

pub at_most-requires : goal.at_most-requires
unfolding needs
at_most-requires c = sym c.check.ensures ∙ c.in_ok-check.was

pub returns : goal.returns
unfolding needs
returns c = record { answered = c.at_most.ensures; numbers = ap values_needed c.at_most.ensures }
