-- Demand 3, whole, in the words of the demand and of 01, "Any two orders". One claim about two runs over one graph and one list of inputs, in bytes: for every
-- two lists of picks, and whatever ledger and cells held before. It speaks of what `run` (crate engine) and `list` promise, `RanOn` and `list_answer` with `listed_out`.
-- Behind it stands the same of two budgets that are each enough, and of runs that write a log. The statements; they are proved in proofs/Demand3. Assumes nothing.
use Rattle.std.specs.Prelude.{ℕ, ◌*◌, ◌/◌, ◌≤◌, ◌≡◌, true, ◌↔◌, length, take}
use mathlib.Core.List.{List, Permᴰ}
use Rattle.number.specs.Number.{Bytes}
use Rattle.record.specs.TokensAndTags.{capacity_of}
use Rattle.record.specs.Widths.{token_width, cell_width}
use Rattle.engine.specs.Promise.{LentToRun, LeftByRun, RanOn, LentToLogged, LeftByLogged, LoggedOn}
use Rattle.machine.specs.Orders.{Completed, Hung, Quiescent, Spent, Refused}
use Rattle.rules.specs.Runs.{lent_beside_log, left_beside_log, outcome_in}
use Rattle.rules.specs.Orders.{Allowed, NotForOtherBuffers}
use Rattle.rules.specs.Log.{log_suffices}
use Rattle.listing.specs.Listing.{record_key, records, list_answer, listed_out}
use Rattle.listing.specs.Sorted.{DifferentKeys}

-- ---- two runs

-- 01: "neither run is refused by 7 for a buffer other than the inputs". The demand's "picks, ledger and cells of allowed length" is a case of it; where the
-- graph fails its check, lengths do not count, and both runs are refused
abbrev pub NotForOthers : (graph inputs : List ℕ) → LentToRun → Type 0
NotForOthers graph inputs l = NotForOtherBuffers graph inputs l.picks (length l.ledger) (length l.cells)

-- the first t ledger records, of t tokens, which `list` is lent
abbrev pub used_bytes : LeftByRun → List ℕ
used_bytes x = take (x.answer.tokens * token_width) x.ledger

-- ---- the claim

-- of two runs that complete or hang. R-2: "completed or hung alike in all, with everything else equal"
pub record AlikeBytes (x y : LeftByRun) : Type 0 where
  -- 01: "If one run completes with f firings and t tokens, so does the other.", and if one hangs, so does the other
  pub answers : x.answer ≡ y.answer
  -- 01: "All cell bytes are equal."
  pub cells : x.cells ≡ y.cells
  -- 01: "The first t ledger records of one run are those of the other in some order, in every byte of each, states included"
  pub same_tokens : Permᴰ (records (used_bytes x)) (records (used_bytes y))
  -- the demand: "both ledgers hold the same tokens, each once": no two records have one path, iteration, instruction and port
  pub each_once : DifferentKeys record_key (records (used_bytes x))
  -- 01: "The listings of the two, in outputs of their length, are equal in every byte": `list` is done with both
  pub listings : (out out' : List ℕ) → length out ≡ length (used_bytes x) → length out' ≡ length (used_bytes y)
      → (list_answer (used_bytes x) out ≡ 0) × (list_answer (used_bytes y) out' ≡ 0) × (listed_out (used_bytes x) out ≡ listed_out (used_bytes y) out')

pub record BytesAgree (x y : LeftByRun) : Type 0 where
  -- the demand: "one run completes exactly when the other does"
  pub completes : Completed (outcome_in x.answer.outcome) ↔ Completed (outcome_in y.answer.outcome)
  pub hangs : Hung (outcome_in x.answer.outcome) ↔ Hung (outcome_in y.answer.outcome)
  pub alike : Quiescent (outcome_in x.answer.outcome) → AlikeBytes x y
  -- 01: "If one run is refused, so is the other"
  pub refused : Refused (outcome_in x.answer.outcome) ↔ Refused (outcome_in y.answer.outcome)
  -- a budget of 2,048 is never spent
  pub never_spent : ¬ (Spent (outcome_in x.answer.outcome))

-- 01: "two whole runs over one graph and one list of inputs, for every two lists of picks [..] Capacity and cell count are equal [..] What ledger and
-- cells held beforehand may differ." They are "at a budget of 2,048"
abbrev pub Demand3 : Type 0
Demand3 = (graph arrays inputs : List ℕ) → Bytes graph → Bytes inputs → (l m : LentToRun) → NotForOthers graph inputs l → NotForOthers graph inputs m
    → capacity_of (length l.ledger) ≡ capacity_of (length m.ledger) → length l.cells / cell_width ≡ length m.cells / cell_width
    → (x y : LeftByRun) → RanOn graph arrays inputs 2048 l x → RanOn graph arrays inputs 2048 m y → BytesAgree x y

-- ---- two budgets

-- the same with any two budgets that are each enough, and not 2,048 alone: if a run completes or hangs, so does every order that may do as many firings
abbrev pub AnyTwoBudgets : Type 0
AnyTwoBudgets = (graph arrays inputs : List ℕ) → Bytes graph → Bytes inputs → (budget budget' : ℕ) (l m : LentToRun) → Allowed m.picks (length m.ledger) (length m.cells)
    → capacity_of (length l.ledger) ≡ capacity_of (length m.ledger)
    → length l.cells / cell_width ≡ length m.cells / cell_width
    → (x y : LeftByRun) → RanOn graph arrays inputs budget l x → RanOn graph arrays inputs budget' m y → Quiescent (outcome_in x.answer.outcome) → x.answer.firings ≤ budget' → AlikeBytes x y

-- ---- runs that write a log

-- demand 3 of two runs with logs that suffice for 2,048 firings
abbrev pub Demand3Logged : Type 0
Demand3Logged = (graph arrays inputs : List ℕ) → Bytes graph → Bytes inputs → (l m : LentToLogged) → l.budget ≡ 2048 → m.budget ≡ 2048
    → log_suffices 2048 (length l.log) ≡ true → log_suffices 2048 (length m.log) ≡ true
    → NotForOthers graph inputs (lent_beside_log l) → NotForOthers graph inputs (lent_beside_log m)
    → capacity_of (length l.ledger) ≡ capacity_of (length m.ledger)
    → length l.cells / cell_width ≡ length m.cells / cell_width
    → (x y : LeftByLogged) → LoggedOn graph arrays inputs l x → LoggedOn graph arrays inputs m y → BytesAgree (left_beside_log x) (left_beside_log y)
