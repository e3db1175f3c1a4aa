-- 02, R-13: what is claimed of runs that stop and carry on, in bytes. The statements; they are proved in proofs/: Resumed, Parts. Assumes nothing.
use Rattle.std.specs.Prelude.{ℕ, ◌+◌, ◌*◌, ◌≡◌, true, List, [], ◌∷◌, length, take, drop, Ok}
use Rattle.number.specs.Number.{Bytes}
use Rattle.buffer.specs.Rows.{whole}
use Rattle.record.specs.TokensAndTags.{most_tokens}
use Rattle.record.specs.Widths.{token_width, pick_width}
use Rattle.machine.specs.Saved.{sum}
use Rattle.rules.specs.declared.answer.Outcome.{Outcome}
use Rattle.rules.specs.declared.answer.Outcome.TheVariants as Outcomes
use Rattle.rules.specs.Check.{check_graph}
use Rattle.rules.specs.Run.{Result, refused_at_once, ran_to, result, answer, ledger_after, cells_after}
use Rattle.rules.specs.Runs.{LeftByRun}
use Rattle.rules.specs.Orders.{ResultsAgree, Allowed}
use Rattle.rules.specs.Saved.{state_taken, carried}

-- ---- a run in parts

-- what a run leaves for the next part to go on from
abbrev pub left_by : Result → (ledger cells : List ℕ) → LeftByRun
left_by x ledger cells = record { answer = answer x; ledger = ledger_after x ledger; cells = cells_after x cells }

abbrev pub next_part : (graph arrays picks : List ℕ) → (budget : ℕ) → LeftByRun → LeftByRun
next_part graph arrays picks budget x = left_by (carried graph arrays picks budget x.ledger x.cells x.answer.firings x.answer.tokens) x.ledger x.cells

-- a refused part is no cut by a budget: none follows it
abbrev pub followed_unless_refused : {A : Type 0} → Outcome → A → A → A
followed_unless_refused Outcomes.Completed a b = b
followed_unless_refused Outcomes.Hung a b = b
followed_unless_refused Outcomes.Spent a b = b
followed_unless_refused (Outcomes.Refused r place) a b = a

-- the parts that follow, by their budgets: "its picks divided alike", to each part those of its own firings
abbrev pub later_parts : (graph arrays : List ℕ) → (budgets : List ℕ) → (picks : List ℕ) → LeftByRun → LeftByRun
later_parts graph arrays [] picks x = x
later_parts graph arrays (b ∷ bs) picks x =
    followed_unless_refused x.answer.outcome x (later_parts graph arrays bs (drop (b * pick_width) picks) (next_part graph arrays (take (b * pick_width) picks) b x))

-- "A run cut by budgets at any firings, its picks divided alike and all else equal, ends as the uncut run in every byte of answer, ledger and cells.", "and the uncut budget
-- is their sum", which may be any number here
abbrev pub CutRuns : Type 0
CutRuns = (graph arrays inputs picks ledger cells : List ℕ) (a : ℕ) (later : List ℕ) → Bytes graph → Bytes inputs → whole pick_width most_tokens (length picks) ≡ true
    → later_parts graph arrays later (drop (a * pick_width) picks) (left_by (result graph arrays inputs (take (a * pick_width) picks) a (length ledger) (length cells)) ledger cells)
    ≡ left_by (result graph arrays inputs picks (a + sum later) (length ledger) (length cells)) ledger cells

-- the same of a run that goes on from a saved state
abbrev pub CutAgain : Type 0
CutAgain = (graph arrays picks ledger cells : List ℕ) (firings tokens a : ℕ) (later : List ℕ) → Bytes graph → Bytes ledger → Bytes cells → whole pick_width most_tokens (length picks) ≡ true
    → later_parts graph arrays later (drop (a * pick_width) picks) (left_by (carried graph arrays (take (a * pick_width) picks) a ledger cells firings tokens) ledger cells)
    ≡ left_by (carried graph arrays picks (a + sum later) ledger cells firings tokens) ledger cells

-- ---- what a run leaves is taken

-- it was not refused before any firing
abbrev pub Began : Result → Type 0
Began (refused_at_once r p) = ⊥
Began (ran_to e) = Unit {0}

abbrev pub TakenAfter : (graph : List ℕ) → LeftByRun → Type 0
TakenAfter graph x = state_taken graph x.ledger x.cells x.answer.firings x.answer.tokens ≡ true

-- whatever its answer is: completed, hung, spent, or refused in a firing
pub record LeavesTaken : Type 0 where
  pub by_run : (graph arrays inputs picks ledger cells : List ℕ) (budget : ℕ) → Bytes graph → Bytes inputs
      → Began (result graph arrays inputs picks budget (length ledger) (length cells)) → TakenAfter graph (left_by (result graph arrays inputs picks budget (length ledger) (length cells)) ledger cells)
  pub by_carried : (graph arrays picks ledger cells : List ℕ) (budget firings tokens : ℕ) → Bytes graph → Bytes ledger → Bytes cells
      → Began (carried graph arrays picks budget ledger cells firings tokens) → TakenAfter graph (left_by (carried graph arrays picks budget ledger cells firings tokens) ledger cells)

-- ---- "For any state taken, the same orders theorem applies from there, with that state in the place of the inputs."

-- two runs from one state: equal counts, equal cells, and ledgers that are equal in the state's records, of one capacity. 24 looks at nothing else, so that it is said of any
-- state: if it is not taken, both are refused. Neither is refused by 7 for its picks
abbrev pub AnyTwoOrdersFrom : Type 0
AnyTwoOrdersFrom = (graph arrays picks picks' ledger ledger' cells : List ℕ) (firings tokens : ℕ)
    → (check_graph graph ≡ Ok tt → Allowed picks (length ledger) (length cells)) → (check_graph graph ≡ Ok tt → Allowed picks' (length ledger') (length cells))
    → length ledger ≡ length ledger' → take (tokens * token_width) ledger ≡ take (tokens * token_width) ledger'
    → ResultsAgree (carried graph arrays picks 2048 ledger cells firings tokens) (carried graph arrays picks' 2048 ledger' cells firings tokens)
