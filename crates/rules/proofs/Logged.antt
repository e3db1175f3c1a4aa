-- R-7: a run that writes a log keeps the promise of a run, if the log suffices (`logged_runs_on`), and is else refused before any firing (`logged_else`); one that is
-- refused in a firing has tokens (`refused_holds`). Assumes nothing.
use Rattle.std.proofs.Common.{Ok, Err}
use Prim.Native.Nat.{ℕ, ◌/◌, ◌<◌}
use mathlib.Core.Path.{◌≡◌, refl, ap, subst, sym, ◌∙◌}
use mathlib.Core.Bool.{false, true}
use mathlib.Core.List.{List}
use native.Mathlib.Omega.{arith}
use lib.ListN.{length}
use lib.IntN.{ℤ}
use Rattle.record.specs.declared.tag.Tag.{Tag}
use Rattle.record.specs.GraphRecords.{graph_of}
use Rattle.record.specs.Arrays.{arrays_of}
use Rattle.record.specs.TokensAndTags.{capacity_of}
use Rattle.record.specs.Widths.{cell_width}
use Rattle.machine.specs.Machine.{Machine, State, End, Outcome, completed, hung, budget_spent, refused, StateOf, by_picks, run}
use Rattle.machine.specs.Orders.{Says, Refused}
use Rattle.machine.specs.Sequences.{log_of}
use Rattle.machine.proofs.Enabled.{enabled_place}
use Rattle.machine.proofs.Runs.{ran}
use Rattle.machine.proofs.Orders.{by_picks_lawful}
use Rattle.rules.specs.declared.answer.Answer.{Answer}
use Rattle.rules.specs.declared.answer.Refusal.{Refusal}
use Rattle.rules.specs.declared.answer.Refusal.TheVariants.{BadStore}
use Rattle.rules.specs.Answer.{values_of}
use Rattle.rules.specs.Check.{◌and_then◌, check_graph, check_stores, check_arrays, check_inputs, Checked, fault_at}
use Rattle.rules.specs.InstructionSet.{machine_of}
use Rattle.rules.specs.Run.{first_state, picks_of, Result, answer, ledger_after, cells_after}
use Rattle.rules.specs.Log.{log_suffices, check_log_stores, check_logged, log_unless_failed, logged, InFiring}
use Rattle.rules.specs.Runs.{outcome_in, LeftByLogged, LentToLogged, LoggedOn, RanOn, left_beside_log, lent_beside_log}
use Rattle.rules.proofs.Log.{logged_runs}

-- ---- the claims

-- a log that suffices changes nothing of the run: what is claimed of `run` holds of `run_logged` too (`logged_runs_on` in proofs/Logged)
abbrev pub LoggedRunsOn : Type 0
LoggedRunsOn = (graph arrays inputs : List ℕ) (l : LentToLogged) (x : LeftByLogged) → LoggedOn graph arrays inputs l x → log_suffices l.budget (length l.log) ≡ true
    → RanOn graph arrays inputs l.budget (lent_beside_log l) (left_beside_log x)

-- and with one that does not suffice it is refused before any firing (`logged_else` in proofs/Logged)
abbrev pub LoggedElse : Type 0
LoggedElse = (graph arrays inputs : List ℕ) (l : LentToLogged) (x : LeftByLogged) → LoggedOn graph arrays inputs l x → log_suffices l.budget (length l.log) ≡ false
    → Refused (outcome_in x.answer.outcome) × (x.answer.firings ≡ 0) × (x.answer.tokens ≡ 0)

-- ---- the proofs

pub logged_runs_on : LoggedRunsOn
logged_runs_on graph arrays inputs l x h enough =
    let e = logged_runs graph arrays inputs l.picks l.budget (length l.ledger) (length l.cells) (length l.log) enough in
    record {
      answered = h.answered ∙ ap answer e;
      numbers = h.numbers ∙ ap (λ (y : Result). values_of (answer y)) e;
      ledger_left = h.ledger_left ∙ ap (λ (y : Result). ledger_after y l.ledger) e;
      cells_left = h.cells_left ∙ ap (λ (y : Result). cells_after y l.cells) e;
    }

abbrev AtOnce : Answer → Type 0
AtOnce a = Refused (outcome_in a.outcome) × (a.firings ≡ 0) × (a.tokens ≡ 0)

too_short : (graph arrays inputs picks : List ℕ) (budget ledger cells lent : ℕ) → log_suffices budget lent ≡ false → AtOnce (answer (logged graph arrays inputs picks budget ledger cells lent).result)
unfolding logged log_unless_failed check_logged check_log_stores answer
too_short graph arrays inputs picks budget ledger cells lent e =
    rw e (go (check_graph graph) (check_stores (length inputs) (length picks) ledger cells)
    (check_arrays (graph_of graph) (cells / cell_width) arrays and_then check_inputs (graph_of graph) (capacity_of ledger) inputs) _ _)
  where
    go : (g s i : Checked) (d : End Refusal Tag ℤ) (τs : List Tag) → AtOnce (answer (log_unless_failed (g and_then (s and_then Err (fault_at BadStore 0)) and_then i) d τs).result)
    go (Err fault) s i d τs = (tt, refl, refl)
    go (Ok _) (Err fault) i d τs = (tt, refl, refl)
    go (Ok _) (Ok _) i d τs = (tt, refl, refl)

pub logged_else : LoggedElse
logged_else graph arrays inputs l x h e =
    subst AtOnce (sym h.answered) (too_short graph arrays inputs l.picks l.budget (length l.ledger) (length l.cells) (length l.log) e)

-- ---- a refused firing has operands

tokens_there : (M : Machine) (o : Outcome M.Refusal) (budget n : ℕ) (x : StateOf M) → Says M o budget n x → Refused o → 0 < length x.tokens
tokens_there M completed b n x h r = absurd r
tokens_there M hung b n x h r = absurd r
tokens_there M budget_spent b n x h r = absurd r
tokens_there M (refused q p) b n x (l, a, m, i, e) r = omega (arith, enabled_place M x a m)

pub refused_holds : (graph arrays inputs picks : List ℕ) (budget ledger cells lent : ℕ) → InFiring (logged graph arrays inputs picks budget ledger cells lent).result
    → 0 < (answer (logged graph arrays inputs picks budget ledger cells lent).result).tokens
unfolding logged log_unless_failed answer
refused_holds graph arrays inputs picks budget ledger cells lent = go (check_logged graph arrays inputs picks budget ledger cells lent)
  where
    M : Machine
    M = machine_of (graph_of graph) (arrays_of arrays) (capacity_of ledger) (cells / cell_width)

    s : State Tag ℤ
    s = first_state inputs (cells / cell_width)

    e : End Refusal Tag ℤ
    e = run M budget (picks_of picks) s

    go : (c : Checked) → InFiring (log_unless_failed c e (log_of M (by_picks M) budget (picks_of picks) s)).result → 0 < (answer (log_unless_failed c e (log_of M (by_picks M) budget (picks_of picks) s)).result).tokens
    go (Err fault) h = absurd h
    go (Ok _) h = tokens_there M e.outcome budget _ e.state (ran M (by_picks M) (by_picks_lawful M) budget (picks_of picks) 0 s).says h
