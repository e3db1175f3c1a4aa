-- A run, a logged run, a replay and a profile as their callers see them: what each is lent, what it leaves, and what it promises of both; and how a run ended.
-- `run`, `run_logged` (crate engine), `replay` and `profile` promise this by name, and the claims about them in bytes are stated in the same words. Assumes nothing.
use Rattle.std.specs.Prelude.{ℕ, List, length}
use Rattle.machine.specs.Machine as Machine
use Rattle.rules.specs.declared.answer.Refusal.{Refusal}
use Rattle.rules.specs.declared.answer.Answer.{Answer}
use Rattle.rules.specs.declared.answer.Outcome.{Outcome}
use Rattle.rules.specs.declared.answer.Outcome.TheVariants as Outcomes
use Rattle.rules.specs.declared.answer.Profiled.{Profiled}
use Rattle.rules.specs.Run.{result, Ran}
use Rattle.rules.specs.Log.{logged, LogRan, replayed}
use Rattle.rules.specs.Profile.{profiled, ProfileRan}

-- ---- a run

-- what a run is lent beside graph, table of arrays and inputs
pub record LentToRun : Type 0 where
  pub picks : List ℕ
  pub ledger : List ℕ
  pub cells : List ℕ

-- what it answers, and every byte of the two buffers afterwards
pub record LeftByRun : Type 0 where
  pub answer : Answer
  pub ledger : List ℕ
  pub cells : List ℕ

-- by their parts
abbrev pub lent_to_run : (picks ledger cells : List ℕ) → LentToRun
lent_to_run picks ledger cells = record { picks = picks; ledger = ledger; cells = cells }

abbrev pub left_by_run : Answer → (ledger cells : List ℕ) → LeftByRun
left_by_run r ledger cells = record { answer = r; ledger = ledger; cells = cells }

-- the promise of `run`
abbrev pub RanOn : (graph arrays inputs : List ℕ) → (budget : ℕ) → LentToRun → LeftByRun → Type 0
RanOn graph arrays inputs budget l x = Ran (result graph arrays inputs l.picks budget (length l.ledger) (length l.cells)) x.answer l.ledger x.ledger l.cells x.cells

-- ---- a run that writes a log (02, R-7)

-- what it is lent beside graph and inputs, and its budget
pub record LentToLogged : Type 0 where
  pub picks : List ℕ
  pub budget : ℕ
  pub ledger : List ℕ
  pub cells : List ℕ
  pub log : List ℕ

-- what it answers, and every byte of the three buffers afterwards
pub record LeftByLogged : Type 0 where
  pub answer : Answer
  pub ledger : List ℕ
  pub cells : List ℕ
  pub log : List ℕ

abbrev pub lent_to_logged : (picks : List ℕ) → (budget : ℕ) → (ledger cells log : List ℕ) → LentToLogged
lent_to_logged picks budget ledger cells log = record { picks = picks; budget = budget; ledger = ledger; cells = cells; log = log }

abbrev pub left_by_logged : Answer → (ledger cells log : List ℕ) → LeftByLogged
left_by_logged r ledger cells log = record { answer = r; ledger = ledger; cells = cells; log = log }

-- the promise of `run_logged`
abbrev pub LoggedOn : (graph arrays inputs : List ℕ) → LentToLogged → LeftByLogged → Type 0
LoggedOn graph arrays inputs l x = LogRan (logged graph arrays inputs l.picks l.budget (length l.ledger) (length l.cells) (length l.log))
    x.answer l.ledger x.ledger l.cells x.cells l.log x.log

-- what a run without a log is lent and leaves of it
abbrev pub lent_beside_log : LentToLogged → LentToRun
lent_beside_log l = lent_to_run l.picks l.ledger l.cells

abbrev pub left_beside_log : LeftByLogged → LeftByRun
left_beside_log x = left_by_run x.answer x.ledger x.cells

-- the promise of `replay`
abbrev pub ReplayedOn : (graph arrays inputs log ledger cells : List ℕ) → Answer → (ledger' cells' : List ℕ) → Type 0
ReplayedOn graph arrays inputs log ledger cells r ledger' cells' = Ran (replayed graph arrays inputs log (length ledger) (length cells)) r ledger ledger' cells cells'

-- ---- a profile (02, R-1)

-- what it is lent beside graph and inputs
pub record LentToProfile : Type 0 where
  pub ledger : List ℕ
  pub cells : List ℕ
  pub profile : List ℕ

-- what it answers, and every byte of the three buffers afterwards
pub record LeftByProfile : Type 0 where
  pub answer : Profiled
  pub ledger : List ℕ
  pub cells : List ℕ
  pub profile : List ℕ

abbrev pub lent_to_profile : (ledger cells profile : List ℕ) → LentToProfile
lent_to_profile ledger cells profile = record { ledger = ledger; cells = cells; profile = profile }

abbrev pub left_by_profile : Profiled → (ledger cells profile : List ℕ) → LeftByProfile
left_by_profile r ledger cells profile = record { answer = r; ledger = ledger; cells = cells; profile = profile }

-- the promise of `profile`
abbrev pub ProfiledOn : (graph arrays inputs : List ℕ) → LentToProfile → LeftByProfile → Type 0
ProfiledOn graph arrays inputs l x =
    ProfileRan (profiled graph arrays inputs (length l.ledger) (length l.cells) (length l.profile)) x.answer
    l.ledger x.ledger l.cells x.cells l.profile x.profile

-- ---- how a run ended

-- the outcome in an answer as the machine's, of which machine/specs/Orders says that it is completed, hung, quiescent (either), spent or refused
abbrev pub outcome_in : Outcome → Machine.Outcome Refusal
outcome_in Outcomes.Completed = Machine.completed
outcome_in Outcomes.Hung = Machine.hung
outcome_in Outcomes.Spent = Machine.budget_spent
outcome_in (Outcomes.Refused r place) = Machine.refused r place
