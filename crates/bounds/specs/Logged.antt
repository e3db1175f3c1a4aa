-- 02, R-3 and R-12, in bytes, of runs that write a log: they speak of what `run_logged` (crate engine) promises, `LoggedOn`. The statements; they are proved in
-- proofs/Logged. Assumes nothing.
use Rattle.std.specs.Prelude.{ℕ, ◌/◌, ◌≤◌, ◌<◌, ◌≡◌, true, List, length}
use Rattle.buffer.specs.Rows.{whole}
use Rattle.record.specs.TokensAndTags.{most_tokens, capacity_of}
use Rattle.record.specs.Widths.{token_width}
use Rattle.machine.specs.Orders.{Quiescent}
use Rattle.rules.specs.Needs.{needs, needs_at_most, NoSwitchOrFetch}
use Rattle.rules.specs.Log.{log_suffices}
use Rattle.rules.specs.Orders.{Allowed}
use Rattle.rules.specs.Runs.{LentToLogged, LeftByLogged, LoggedOn, lent_beside_log, left_beside_log, outcome_in}
use Rattle.bounds.specs.Capacity.{SameEnd, RefusedBy8}

-- ---- R-3

-- whatever log is lent
abbrev pub NoLoggedExceeds : Type 0
NoLoggedExceeds = (graph arrays inputs : List ℕ) (firings tokens : ℕ) → needs graph inputs ≡ needs_at_most firings tokens
    → (l : LentToLogged) (x : LeftByLogged) → LoggedOn graph arrays inputs l x → (x.answer.firings ≤ firings) × (x.answer.tokens ≤ tokens)

abbrev pub LoggedExact : Type 0
LoggedExact = (graph arrays inputs : List ℕ) (firings tokens : ℕ) → needs graph inputs ≡ needs_at_most firings tokens → NoSwitchOrFetch graph inputs
    → (l : LentToLogged) (x : LeftByLogged) → LoggedOn graph arrays inputs l x → Quiescent (outcome_in x.answer.outcome) → (x.answer.firings ≡ firings) × (x.answer.tokens ≡ tokens)

-- ---- R-12: the other run's log suffices too

abbrev pub LoggedEnoughRoom : Type 0
LoggedEnoughRoom = (graph arrays inputs : List ℕ) (l m : LentToLogged) (x y : LeftByLogged) → l.budget ≡ 2048 → m.budget ≡ 2048 → log_suffices 2048 (length m.log) ≡ true
    → LoggedOn graph arrays inputs l x → Quiescent (outcome_in x.answer.outcome) → m.picks ≡ l.picks → length m.cells ≡ length l.cells
    → whole token_width most_tokens (length m.ledger) ≡ true → x.answer.tokens ≤ capacity_of (length m.ledger)
    → LoggedOn graph arrays inputs m y → SameEnd (left_beside_log x) (left_beside_log y) m.ledger

abbrev pub LoggedTooSmall : Type 0
LoggedTooSmall = (graph arrays inputs : List ℕ) (l m : LentToLogged) (x y : LeftByLogged) → l.budget ≡ 2048 → m.budget ≡ 2048 → log_suffices 2048 (length m.log) ≡ true
    → LoggedOn graph arrays inputs l x → Quiescent (outcome_in x.answer.outcome) → Allowed m.picks (length m.ledger) (length m.cells) → length m.cells ≡ length l.cells
    → capacity_of (length m.ledger) < x.answer.tokens
    → LoggedOn graph arrays inputs m y → RefusedBy8 (length inputs / token_width) (capacity_of (length m.ledger)) (lent_beside_log m) (left_beside_log y)
