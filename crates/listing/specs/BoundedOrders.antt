-- 02, R-9, in bytes: "At any budget, a bounded run that completes, or hangs with no held activity left, must equal the end of every unbounded order at budget 2,048, as demand 3
-- compares them." It speaks of what `run` (crate engine) and `list` promise. The statements; they are proved in proofs/BoundedOrders. Assumes nothing.
use Rattle.std.specs.Prelude.{ℕ, ◌/◌, ◌≡◌, true, List, ◌↔◌, length}
use Rattle.number.specs.Number.{Bytes}
use Rattle.record.specs.TokensAndTags.{capacity_of}
use Rattle.record.specs.Widths.{cell_width}
use Rattle.machine.specs.Orders.{Quiescent, Refused}
use Rattle.rules.specs.Runs.{LentToRun, LeftByRun, RanOn, LentToLogged, LeftByLogged, LoggedOn, outcome_in}
use Rattle.rules.specs.Orders.{Allowed}
use Rattle.rules.specs.Saved.{CarriedOn}
use Rattle.rules.specs.Bounded.{good_bound, bounded, LeavesNoneHeld, BoundedOn, BoundLoggedOn, BoundCarriedOn}
use Rattle.listing.specs.Demand3.{AlikeBytes}

-- what a run with a bound is lent and leaves
abbrev pub NoneHeldLeft : (graph arrays inputs : List ℕ) → (budget bound : ℕ) → LentToRun → Type 0
NoneHeldLeft graph arrays inputs budget k l =
    LeavesNoneHeld graph arrays k (length l.ledger) (length l.cells) (bounded graph arrays inputs l.picks budget k (length l.ledger) (length l.cells))

-- equal answers, cells, tokens and listings. "A hang on held ones promises no equality."
abbrev pub BoundedAsOrders : Type 0
BoundedAsOrders = (graph arrays inputs : List ℕ) → Bytes graph → Bytes inputs → (budget k : ℕ) (l m : LentToRun) → NoneHeldLeft graph arrays inputs budget k l
    → Allowed m.picks (length m.ledger) (length m.cells)
    → capacity_of (length l.ledger) ≡ capacity_of (length m.ledger) → length l.cells / cell_width ≡ length m.cells / cell_width
    → (x y : LeftByRun) → BoundedOn graph arrays inputs budget k l x → RanOn graph arrays inputs 2048 m y → AlikeBytes x y

-- where an order completes or hangs, no run with a bound is refused
abbrev pub BoundedUnrefused : Type 0
BoundedUnrefused = (graph arrays inputs : List ℕ) (budget k : ℕ) → good_bound k ≡ true → (l m : LentToRun) → Allowed l.picks (length l.ledger) (length l.cells)
    → length l.ledger ≡ length m.ledger → length l.cells ≡ length m.cells
    → (x y : LeftByRun) → BoundedOn graph arrays inputs budget k l x → RanOn graph arrays inputs 2048 m y → Quiescent (outcome_in y.answer.outcome) → ¬ (Refused (outcome_in x.answer.outcome))

-- "or 0 for none": what is claimed of runs, of runs that write a log and of runs from a saved state is claimed of them with bound 0
pub record ZeroIsNone : Type 0 where
  pub of_runs : (graph arrays inputs : List ℕ) (budget : ℕ) (l : LentToRun) (x : LeftByRun) → BoundedOn graph arrays inputs budget 0 l x ↔ RanOn graph arrays inputs budget l x
  pub of_logged : (graph arrays inputs : List ℕ) (l : LentToLogged) (x : LeftByLogged) → BoundLoggedOn graph arrays inputs 0 l x ↔ LoggedOn graph arrays inputs l x
  pub of_carried : (graph arrays : List ℕ) (budget firings tokens : ℕ) (l : LentToRun) (x : LeftByRun)
      → BoundCarriedOn graph arrays l.picks budget 0 firings tokens x.answer l.ledger x.ledger l.cells x.cells
      ↔ CarriedOn graph arrays l.picks budget firings tokens x.answer l.ledger x.ledger l.cells x.cells
