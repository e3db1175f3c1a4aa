-- 02, R-9, which hang it was: "A hang on held ones promises no equality." What is claimed of the counts in what a run with a bound left. The statements; they are proved in
-- proofs/Hangs. Assumes nothing.
use Rattle.std.specs.Prelude.{ℕ, ◌≡◌, ◌↔◌, List, length}
use Rattle.number.specs.Number.{Bytes}
use Rattle.machine.specs.Orders.{Completed, Quiescent}
use Rattle.rules.specs.Runs.{LentToRun, LeftByRun, outcome_in}
use Rattle.rules.specs.Bounded.{bounded, LeavesNoneHeld, BoundedOn}
use Rattle.activities.specs.Counts.{held_back_in, counts, tally_of}

-- how many activities the bound of a run holds back in what it left
abbrev pub held_left : (graph : List ℕ) → (bound : ℕ) → LeftByRun → ℕ
held_left graph k x = held_back_in graph k x.ledger x.cells x.answer.tokens

-- of a run that completed or hung
pub record TellsHang (graph arrays inputs : List ℕ) (budget k : ℕ) (l : LentToRun) (x : LeftByRun) : Type 0 where
  -- what it left is taken, and all activities that are enabled there are held back
  pub found : counts graph k x.answer.firings x.answer.tokens x.ledger x.cells ≡ tally_of (held_left graph k x) (held_left graph k x)
  -- there are none where it completed
  pub completed : Completed (outcome_in x.answer.outcome) → held_left graph k x ≡ 0
  -- and none exactly if it "completes, or hangs with no held activity left"
  pub exactly : held_left graph k x ≡ 0
      ↔ LeavesNoneHeld graph arrays k (length l.ledger) (length l.cells) (bounded graph arrays inputs l.picks budget k (length l.ledger) (length l.cells))

abbrev pub WhichHang : Type 0
WhichHang = (graph arrays inputs : List ℕ) → Bytes graph → Bytes inputs → (budget k : ℕ) (l : LentToRun) (x : LeftByRun)
    → BoundedOn graph arrays inputs budget k l x → Quiescent (outcome_in x.answer.outcome) → TellsHang graph arrays inputs budget k l x
