-- How a run ended, by its answer and by its result: one outcome. Assumes nothing.
use mathlib.Core.Path.{◌≡◌, refl}
use Rattle.machine.specs.Machine.{Outcome, completed, hung, budget_spent, refused}
use Rattle.rules.specs.declared.answer.Refusal.{Refusal}
use Rattle.rules.specs.Run.{Result, refused_at_once, ran_to, outcome_of, answer}
use Rattle.rules.specs.Orders.{result_outcome}
use Rattle.rules.specs.Runs.{outcome_in}

pub outcome_back : (o : Outcome Refusal) → outcome_in (outcome_of o) ≡ o
outcome_back completed = refl
outcome_back hung = refl
outcome_back budget_spent = refl
outcome_back (refused r place) = refl

-- what is said of one is said of the other, by a `subst`
pub outcome_said : (x : Result) → outcome_in (answer x).outcome ≡ result_outcome x
unfolding answer
outcome_said (refused_at_once r place) = refl
outcome_said (ran_to e) = outcome_back e.outcome
