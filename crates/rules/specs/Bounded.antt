-- 02, R-9, "Loop bounding": a run with a bound over bytes, one that writes a log and one from a saved state, and what is claimed of them; proved in proofs/Bounded. What
-- such a run answers and leaves is said of a result as of a run's (`answer`, `ledger_after`, `cells_after`). A replay and a profile take no bound. Assumes nothing.
use Rattle.std.specs.Prelude.{ℕ, ◌/◌, ◌≡◌, Bool, true, ◌&&◌, ◌||◌, List, length, eqb, leb}
use Rattle.record.specs.GraphRecords.{graph_of}
use Rattle.record.specs.Arrays.{arrays_of}
use Rattle.record.specs.TokensAndTags.{capacity_of}
use Rattle.record.specs.Widths.{cell_width}
use Rattle.machine.specs.Machine.{by_picks}
use Rattle.machine.specs.Bounded as Machines
use Rattle.machine.specs.Bounded.{run_bounded, log_bounded}
use Rattle.machine.specs.Orders.{Quiescent, Refused}
use Rattle.rules.specs.declared.answer.Refusal.TheVariants.{BadBound, DamagedState}
use Rattle.rules.specs.declared.answer.Answer.{Answer}
use Rattle.rules.specs.Check.{demand, ◌and_then◌, check_stores, check_inputs, check_with, Checked}
use Rattle.rules.specs.InstructionSet.{machine_of}
use Rattle.rules.specs.Run.{first_state, picks_of, Result, refused_at_once, ran_to, unless_failed, result, answer, Ran}
use Rattle.rules.specs.Log.{check_log_stores, LogResult, log_unless_failed, logged, LogRan}
use Rattle.rules.specs.Saved.{machine_saved, state_saved, state_taken, carried}
use Rattle.rules.specs.Runs.{LentToRun, LeftByRun, LentToLogged, LeftByLogged}
use Rattle.rules.specs.Orders.{result_outcome, AlikeResults, Allowed}
use Rattle.rules.specs.Held.{held_in}

-- ---- the run

-- "a bound k from 2 to 256, or 0 for none"
unfoldable pub good_bound : ℕ → Bool
good_bound k = eqb k 0 || (leb 2 k && leb k 256)

-- "Refused: 21, bad bound, after 7": after the check of the stores
unfoldable pub and_bound : Checked → (bound : ℕ) → Checked
and_bound stores k = stores and_then demand (good_bound k) BadBound 0

-- R-10: 22 "after 21 and before inputs"
unfoldable pub check_bounded : (graph arrays inputs picks : List ℕ) → (bound ledger cells : ℕ) → Checked
check_bounded graph arrays inputs picks k ledger cells =
    check_with graph arrays (cells / cell_width)
    (and_bound (check_stores (length inputs) (length picks) ledger cells) k)
    (check_inputs (graph_of graph) (capacity_of ledger) inputs)

-- "Picks count without held activities. If only held ones remain, the answer is hung, at a used-up budget too."
unfoldable pub bounded : (graph arrays inputs picks : List ℕ) → (budget bound ledger cells : ℕ) → Result
bounded graph arrays inputs picks budget k ledger cells =
    let M = machine_of (graph_of graph) (arrays_of arrays) (capacity_of ledger) (cells / cell_width) in
    unless_failed (check_bounded graph arrays inputs picks k ledger cells)
    (ran_to (run_bounded M (held_in (graph_of graph) k) (by_picks M) budget (picks_of picks) 0 (first_state inputs (cells / cell_width))))

-- what it promises of what it is lent and leaves
abbrev pub BoundedOn : (graph arrays inputs : List ℕ) → (budget bound : ℕ) → LentToRun → LeftByRun → Type 0
BoundedOn graph arrays inputs budget k l x =
    Ran (bounded graph arrays inputs l.picks budget k (length l.ledger) (length l.cells)) x.answer l.ledger x.ledger l.cells x.cells

-- ---- one that writes a log (R-7)

unfoldable pub check_bound_logged : (graph arrays inputs picks : List ℕ) → (budget bound ledger cells lent : ℕ) → Checked
check_bound_logged graph arrays inputs picks budget k ledger cells lent =
    check_with graph arrays (cells / cell_width)
    (and_bound (check_log_stores (length inputs) (length picks) ledger cells budget lent) k)
    (check_inputs (graph_of graph) (capacity_of ledger) inputs)

unfoldable pub bound_logged : (graph arrays inputs picks : List ℕ) → (budget bound ledger cells lent : ℕ) → LogResult
bound_logged graph arrays inputs picks budget k ledger cells lent =
    let M = machine_of (graph_of graph) (arrays_of arrays) (capacity_of ledger) (cells / cell_width) in
    let s = first_state inputs (cells / cell_width) in
    log_unless_failed (check_bound_logged graph arrays inputs picks budget k ledger cells lent)
    (run_bounded M (held_in (graph_of graph) k) (by_picks M) budget (picks_of picks) 0 s) (log_bounded M (held_in (graph_of graph) k) (by_picks M) budget (picks_of picks) s)

abbrev pub BoundLoggedOn : (graph arrays inputs : List ℕ) → (bound : ℕ) → LentToLogged → LeftByLogged → Type 0
BoundLoggedOn graph arrays inputs k l x = LogRan (bound_logged graph arrays inputs l.picks l.budget k (length l.ledger) (length l.cells) (length l.log))
    x.answer l.ledger x.ledger l.cells x.cells l.log x.log

-- ---- one from a saved state (R-13): 24 "after 7 and in the place of 6"

unfoldable pub check_bound_saved : (graph arrays picks ledger cells : List ℕ) → (bound firings tokens : ℕ) → Checked
check_bound_saved graph arrays picks ledger cells k firings n =
    check_with graph arrays (length cells / cell_width)
    (and_bound (check_stores 0 (length picks) (length ledger) (length cells)) k)
    (demand (state_taken graph ledger cells firings n) DamagedState 0)

unfoldable pub bound_carried : (graph arrays picks : List ℕ) → (budget bound : ℕ) → (ledger cells : List ℕ) → (firings tokens : ℕ) → Result
bound_carried graph arrays picks budget k ledger cells firings n =
    let M = machine_saved graph (arrays_of arrays) ledger cells in
    unless_failed (check_bound_saved graph arrays picks ledger cells k firings n)
    (ran_to (run_bounded M (held_in (graph_of graph) k) (by_picks M) budget (picks_of picks) firings (state_saved ledger cells n)))

abbrev pub BoundCarriedOn : (graph arrays picks : List ℕ) → (budget bound firings tokens : ℕ) → Answer → (ledger ledger' cells cells' : List ℕ) → Type 0
BoundCarriedOn graph arrays picks budget k firings n r ledger ledger' cells cells' = Ran (bound_carried graph arrays picks budget k ledger cells firings n) r ledger ledger' cells cells'

-- ---- the claims

-- "or 0 for none"
pub record BoundZero : Type 0 where
  pub of_run : (graph arrays inputs picks : List ℕ) (budget ledger cells : ℕ) → bounded graph arrays inputs picks budget 0 ledger cells ≡ result graph arrays inputs picks budget ledger cells
  pub of_logged : (graph arrays inputs picks : List ℕ) (budget ledger cells lent : ℕ) → bound_logged graph arrays inputs picks budget 0 ledger cells lent ≡ logged graph arrays inputs picks budget ledger cells lent
  pub of_carried : (graph arrays picks ledger cells : List ℕ) (budget firings n : ℕ) → bound_carried graph arrays picks budget 0 ledger cells firings n ≡ carried graph arrays picks budget ledger cells firings n

-- "completes, or hangs with no held activity left"
abbrev pub LeavesNoneHeld : (graph arrays : List ℕ) → (bound ledger cells : ℕ) → Result → Type 0
LeavesNoneHeld graph arrays k ledger cells (refused_at_once r p) = ⊥
LeavesNoneHeld graph arrays k ledger cells (ran_to e) = Machines.LeavesNoneHeldOfMachine (machine_of (graph_of graph) (arrays_of arrays) (capacity_of ledger) (cells / cell_width)) (held_in (graph_of graph) k) e

-- "must equal the end of every unbounded order [..] as demand 3 compares them"
pub record BoundedEndsAs (x y : Result) : Type 0 where
  pub rests : Quiescent (result_outcome x)
  -- completed or hung
  pub outcome : (answer x).outcome ≡ (answer y).outcome
  pub alike : AlikeResults x y

-- "At any budget, a bounded run that completes, or hangs with no held activity left, must equal the end of every unbounded order at budget 2,048"
abbrev pub BoundedAsEveryOrder : Type 0
BoundedAsEveryOrder = (graph arrays inputs picks picks' : List ℕ) (budget k ledger ledger' cells cells' : ℕ)
    → LeavesNoneHeld graph arrays k ledger cells (bounded graph arrays inputs picks budget k ledger cells)
    → Allowed picks' ledger' cells' → capacity_of ledger ≡ capacity_of ledger' → cells / cell_width ≡ cells' / cell_width
    → BoundedEndsAs (bounded graph arrays inputs picks budget k ledger cells) (result graph arrays inputs picks' 2048 ledger' cells')

-- where one order completes or hangs, a run with a bound is not refused: what it may still do is spend its budget or hang on held activities
abbrev pub NotRefused : Type 0
NotRefused = (graph arrays inputs picks picks' : List ℕ) (budget k ledger cells : ℕ) → good_bound k ≡ true → Allowed picks ledger cells
    → Quiescent (result_outcome (result graph arrays inputs picks' 2048 ledger cells)) → ¬ (Refused (result_outcome (bounded graph arrays inputs picks budget k ledger cells)))
