-- 02, R-7, in bytes: what is claimed of logs and of their replay. It speaks of what `run_logged` (crate engine) and `replay` promise, `LoggedOn` and
-- `ReplayedOn`. The statements; they are proved in proofs/Claims. Assumes nothing.
use Rattle.std.specs.Prelude.{ℕ, ◌*◌, ◌/◌, ◌<◌, ◌≡◌, length, take}
use mathlib.Core.List.{List, Permᴰ}
use Rattle.number.specs.Number.{Bytes}
use Rattle.buffer.specs.Rows.{rows}
use Rattle.record.specs.TokensAndTags.{capacity_of}
use Rattle.record.specs.Widths.{cell_width, log_width}
use Rattle.machine.specs.Sequences.{Once}
use Rattle.machine.specs.Orders.{Quiescent, Refused, RefusedBy}
use Rattle.rules.specs.declared.answer.Answer.{Answer}
use Rattle.rules.specs.declared.answer.Refusal.TheVariants.{BadStore}
use Rattle.rules.specs.Runs.{LentToLogged, LeftByLogged, LoggedOn, ReplayedOn, outcome_in}

-- ---- the log of a run

-- its first records, as many as it has firings: bytes behind them stay as lent
abbrev pub log_in : LeftByLogged → List ℕ
log_in x = take (x.answer.firings * log_width) x.log

-- its records, in every byte of each
abbrev pub records_in : LeftByLogged → List (List ℕ)
records_in x = rows log_width (take log_width) x.answer.firings x.log

-- ---- how it ended

-- a refusal before any firing has no tokens, and one in a firing has the operands that were to be spent
abbrev pub RefusedInFiring : Answer → Type 0
RefusedInFiring a = Refused (outcome_in a.outcome) × (0 < a.tokens)

-- ---- the claims

-- a replay left what the run x left
pub record Again (x : LeftByLogged) (r : Answer) (ledger' cells' : List ℕ) : Type 0 where
  -- "gives the same ledger, cells and counts in every byte"
  pub ledger : ledger' ≡ x.ledger
  pub cells : cells' ≡ x.cells
  pub firings : r.firings ≡ x.answer.firings
  pub tokens : r.tokens ≡ x.answer.tokens
  -- and answers the same, unless the run was refused in a firing
  pub answer : ¬ (RefusedInFiring x.answer) → r ≡ x.answer

-- "Replaying the log of a run not refused by 7, buffers lent alike"
abbrev pub LogReplays : Type 0
LogReplays = (graph arrays inputs : List ℕ) → Bytes graph → Bytes inputs → (l : LentToLogged) (x : LeftByLogged) → LoggedOn graph arrays inputs l x → ¬ (RefusedBy BadStore (outcome_in x.answer.outcome))
    → (r : Answer) (ledger' cells' : List ℕ) → ReplayedOn graph arrays inputs (log_in x) l.ledger l.cells r ledger' cells' → Again x r ledger' cells'

-- "The logs of two completed runs of one graph with equal inputs, capacity and cell count hold the same records, each once.": and of two that hang;
-- the budgets may differ
abbrev pub LogsAgree : Type 0
LogsAgree = (graph arrays inputs : List ℕ) → Bytes graph → Bytes inputs → (l m : LentToLogged)
    → capacity_of (length l.ledger) ≡ capacity_of (length m.ledger) → length l.cells / cell_width ≡ length m.cells / cell_width
    → (x y : LeftByLogged) → LoggedOn graph arrays inputs l x → LoggedOn graph arrays inputs m y → Quiescent (outcome_in x.answer.outcome) → Quiescent (outcome_in y.answer.outcome)
    → Permᴰ (records_in x) (records_in y) × Once (records_in x)
