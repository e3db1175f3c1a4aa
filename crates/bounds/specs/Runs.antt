-- 02, R-3, in bytes: what the bounds say of every run from the same inputs. It speaks of what `bounds` and `run` (crate engine) promise, `needs` and `Ran`.
-- The statements; they are proved in proofs/Runs. Assumes nothing.
use Rattle.std.specs.Prelude.{ℕ, ◌≤◌, ◌≡◌, List}
use Rattle.machine.specs.Orders.{Quiescent}
use Rattle.rules.specs.Runs.{LentToRun, LeftByRun, RanOn, outcome_in}
use Rattle.rules.specs.Needs.{needs, needs_at_most, NoSwitchOrFetch}

-- "No completed or hung run exceeds either", and no spent or refused one, whatever picks, budget, ledger and cells are lent
abbrev pub NoRunExceeds : Type 0
NoRunExceeds = (graph arrays inputs : List ℕ) (firings tokens : ℕ) → needs graph inputs ≡ needs_at_most firings tokens
    → (budget : ℕ) (l : LentToRun) (x : LeftByRun) → RanOn graph arrays inputs budget l x → (x.answer.firings ≤ firings) × (x.answer.tokens ≤ tokens)

-- "and both are exact where no SWITCH or FETCH is reached": of each run that completes or hangs
abbrev pub BoundsExact : Type 0
BoundsExact = (graph arrays inputs : List ℕ) (firings tokens : ℕ) → needs graph inputs ≡ needs_at_most firings tokens → NoSwitchOrFetch graph inputs
    → (budget : ℕ) (l : LentToRun) (x : LeftByRun) → RanOn graph arrays inputs budget l x → Quiescent (outcome_in x.answer.outcome) → (x.answer.firings ≡ firings) × (x.answer.tokens ≡ tokens)
