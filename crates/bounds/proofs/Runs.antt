-- 02, R-3, in bytes, proved: no run exceeds the bounds (`no_run_exceeds`), and they are exact where no SWITCH or FETCH is reached (`bounds_exact`). From the same
-- over the rules. Assumes nothing.
use mathlib.Core.Path.{ap, ◌∙◌, subst}
use lib.ListN.{length}
use Rattle.machine.specs.Orders.{Quiescent}
use Rattle.rules.specs.declared.answer.Answer.{Answer}
use Rattle.rules.specs.Run.{result}
use Rattle.rules.specs.Runs.{outcome_in}
use Rattle.rules.proofs.Needs.{never_exceeded, exact}
use Rattle.rules.proofs.Outcomes.{outcome_said}
use Rattle.bounds.specs.Runs.{NoRunExceeds, BoundsExact}

pub no_run_exceeds : NoRunExceeds
no_run_exceeds graph arrays inputs firings tokens e budget l x ran =
    rw ran.answered (never_exceeded graph arrays inputs l.picks budget (length l.ledger) (length l.cells) firings tokens e)

pub bounds_exact : BoundsExact
bounds_exact graph arrays inputs firings tokens e plain budget l x ran rest =
    rw ran.answered (exact graph arrays inputs l.picks budget (length l.ledger) (length l.cells) firings tokens e plain
    (subst Quiescent (ap (λ (r : Answer). outcome_in r.outcome) ran.answered ∙ outcome_said (result graph arrays inputs l.picks budget (length l.ledger) (length l.cells))) rest))
