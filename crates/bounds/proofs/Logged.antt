-- R-3 and R-12 of runs that write a log: with a log that suffices such a run is a run, and with another it is refused before any firing. Assumes nothing.
use Prim.Native.Nat.{ℕ, ◌≤◌}
use mathlib.Core.Path.{◌≡◌, refl, subst}
use mathlib.Core.Bool.{Bool, true, false}
use mathlib.Core.List.{List}
use native.Mathlib.Omega.{arith}
use lib.ListN.{length}
use Rattle.machine.specs.Orders.{Quiescent, Refused}
use Rattle.rules.specs.declared.answer.Outcome.{Outcome}
use Rattle.rules.specs.declared.answer.Outcome.TheVariants as Outcomes
use Rattle.rules.specs.Log.{log_suffices}
use Rattle.rules.specs.Runs.{LentToLogged, LeftByLogged, RanOn, LoggedOn, lent_beside_log, left_beside_log, outcome_in}
use Rattle.rules.proofs.Logged.{logged_runs_on, logged_else}
use Rattle.bounds.specs.Logged.{NoLoggedExceeds, LoggedExact, LoggedEnoughRoom, LoggedTooSmall}
use Rattle.bounds.proofs.Runs.{no_run_exceeds, bounds_exact}
use Rattle.bounds.proofs.Capacity.{enough_room, too_small}

not_both_lem : (o : Outcome) → Quiescent (outcome_in o) → ¬ (Refused (outcome_in o))
not_both_lem Outcomes.Completed q r = r
not_both_lem Outcomes.Hung q r = r
not_both_lem Outcomes.Spent q r = r
not_both_lem (Outcomes.Refused n p) q r = q

-- one that completed or hung had a log that suffices
suffices : (graph arrays inputs : List ℕ) (l : LentToLogged) (x : LeftByLogged) → LoggedOn graph arrays inputs l x → Quiescent (outcome_in x.answer.outcome) → log_suffices l.budget (length l.log) ≡ true
suffices graph arrays inputs l x h q = go (log_suffices l.budget (length l.log)) refl
  where
    go : (b : Bool) → log_suffices l.budget (length l.log) ≡ b → b ≡ true
    go true e = refl
    go false e = absurd (not_both_lem x.answer.outcome q (logged_else graph arrays inputs l x h e).0)

-- a run of budget 2,048
ran : (graph arrays inputs : List ℕ) (l : LentToLogged) (x : LeftByLogged) → l.budget ≡ 2048 → LoggedOn graph arrays inputs l x → log_suffices l.budget (length l.log) ≡ true
    → RanOn graph arrays inputs 2048 (lent_beside_log l) (left_beside_log x)
ran graph arrays inputs l x e h enough = subst (λ (n : ℕ). RanOn graph arrays inputs n (lent_beside_log l) (left_beside_log x)) e (logged_runs_on graph arrays inputs l x h enough)

pub no_logged_exceeds : NoLoggedExceeds
no_logged_exceeds graph arrays inputs firings tokens e l x h = go (log_suffices l.budget (length l.log)) refl
  where
    go : (b : Bool) → log_suffices l.budget (length l.log) ≡ b → (x.answer.firings ≤ firings) × (x.answer.tokens ≤ tokens)
    go true f = no_run_exceeds graph arrays inputs firings tokens e l.budget (lent_beside_log l) (left_beside_log x) (logged_runs_on graph arrays inputs l x h f)
    go false f = let z = logged_else graph arrays inputs l x h f in (omega (arith, z.1), omega (arith, z.2))

pub logged_exact : LoggedExact
logged_exact graph arrays inputs firings tokens e plain l x h q =
    bounds_exact graph arrays inputs firings tokens e plain l.budget (lent_beside_log l) (left_beside_log x) (logged_runs_on graph arrays inputs l x h (suffices graph arrays inputs l x h q)) q

pub logged_enough_room : LoggedEnoughRoom
logged_enough_room graph arrays inputs l m x y bl bm enough h q picks cells fits room k =
    enough_room graph arrays inputs (lent_beside_log l) (lent_beside_log m) (left_beside_log x) (left_beside_log y) (ran graph arrays inputs l x bl h (suffices graph arrays inputs l x h q)) q picks cells fits room
    (ran graph arrays inputs m y bm k (rw bm enough))

pub logged_too_small : LoggedTooSmall
logged_too_small graph arrays inputs l m x y bl bm enough h q allowed cells less k =
    too_small graph arrays inputs (lent_beside_log l) (lent_beside_log m) (left_beside_log x) (left_beside_log y) (ran graph arrays inputs l x bl h (suffices graph arrays inputs l x h q)) q allowed cells less
    (ran graph arrays inputs m y bm k (rw bm enough))
