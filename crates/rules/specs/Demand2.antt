-- Demand 2: "Every firing in the picked order does what the tagged-token rules say [..] It is refused if these rules refuse it, and only then." The rules of
-- a firing are `fire` (machine/specs/Machine) with the instruction set of specs/InstructionSet; `result` (specs/Run) fires by them, and `run` of the crate
-- engine promises `Ran` of it. What is stated here takes a run apart into its firings; it is proved in proofs/Left, and what is
-- stated of replays and profiles in proofs/Others. Assumes nothing.
use Rattle.std.specs.Prelude.{ℕ, suc, ◌-◌, ◌*◌, ◌/◌, ◌<◌, ◌≡◌, List, [], ◌∷◌, ◌++◌, length, take, drop, get_or, replicate, ℤ, Ok}
use Rattle.number.specs.Number.{Bytes}
use Rattle.record.specs.declared.tag.Tag.{Tag}
use Rattle.record.specs.GraphRecords.{graph_of}
use Rattle.record.specs.Arrays.{arrays_of}
use Rattle.record.specs.TokensAndTags.{capacity_of}
use Rattle.record.specs.Widths.{cell_width, log_width}
use Rattle.machine.specs.Machine.{Machine, State, Activity, budget_spent, enabled, pick_of, by_picks, fire, after, end, run_by}
use Rattle.rules.specs.declared.answer.Refusal.TheVariants.{NotEnabled}
use Rattle.rules.specs.declared.answer.Outcome.TheVariants as Outcomes
use Rattle.rules.specs.Check.{check}
use Rattle.rules.specs.InstructionSet.{machine_of}
use Rattle.rules.specs.Run.{picks_of, Result, ran_to, result, answer, ledger_after, cells_after}
use Rattle.rules.specs.Log.{replayed}
use Rattle.rules.specs.Profile.{check_profile, profiled}

module _ (graph arrays inputs picks ledger cells : List ℕ) where
  abbrev M : Machine
  M = machine_of (graph_of graph) (arrays_of arrays) (capacity_of (length ledger)) (length cells / cell_width)

  -- with so large a budget
  abbrev at : (budget : ℕ) → Result
  at budget = result graph arrays inputs picks budget (length ledger) (length cells)

  -- "Once picks run out, the first is taken": pick 0
  abbrev pick_at : ℕ → ℕ
  pick_at b = get_or (picks_of picks) b 0

  -- of a run that passed the checks
  pub record FiresByTheRules : Type 0 where
    -- 01: "An accepted run first sets all cells absent and writes its inputs to the ledger."
    pub starts : (ledger_after (at 0) ledger ≡ inputs ++ drop (length inputs) ledger) × (cells_after (at 0) cells ≡ replicate (length cells) 0)
    -- after b firings the run is at the state x, where a ∷ more are enabled. Of these pick number b takes one, and that one fires there: if the rules refuse
    -- it, every larger budget ends with that refusal, its place and the state x; if not, the run goes on from the state that the firing leaves
    pub fires : (b budget : ℕ) → b < budget → (x : State Tag ℤ) (a : Activity Tag) (more : List (Activity Tag)) → at b ≡ ran_to (end M budget_spent b x) → enabled M x ≡ a ∷ more
        → let chosen = pick_of M (pick_at b) a more in
        at budget ≡ ran_to (after M b x chosen (fire M x chosen.tag) (λ y. run_by M (by_picks M) (budget - suc b) (drop (suc b) (picks_of picks)) (suc b) y))

abbrev pub Demand2 : Type 0
Demand2 = (graph arrays inputs picks ledger cells : List ℕ) → Bytes inputs → check graph arrays inputs picks (length ledger) (length cells) ≡ Ok tt → FiresByTheRules graph arrays inputs picks ledger cells

-- ---- the same of a replay and a profile

-- "first sets all cells absent and writes its inputs to the ledger"
pub record InputsWritten (x : Result) (inputs ledger cells : List ℕ) : Type 0 where
  pub ledger_left : ledger_after x ledger ≡ inputs ++ drop (length inputs) ledger
  pub cells_left : cells_after x cells ≡ replicate (length cells) 0

-- 18 and 20 are refused after the checks, so that one that is refused before its first firing leaves the inputs in the ledger and all cells absent
pub record OthersStart : Type 0 where
  pub by_replay : (graph arrays inputs log ledger cells : List ℕ) → Bytes inputs → check graph arrays inputs [] (length ledger) (length cells) ≡ Ok tt
      → let x = replayed graph arrays inputs log (length ledger) (length cells) in (answer x).firings ≡ 0 → InputsWritten x inputs ledger cells
  pub by_profile : (graph arrays inputs ledger cells : List ℕ) (lent : ℕ) → Bytes inputs → check_profile graph arrays inputs (length ledger) (length cells) lent ≡ Ok tt
      → let x = (profiled graph arrays inputs (length ledger) (length cells) lent).result in (answer x).firings ≡ 0 → InputsWritten x inputs ledger cells

-- 20 stops a replay before the record at its place, the number of the firings done: ledger and cells are as a replay of the records before it leaves them
pub record StoppedBefore (x before : Result) (place : ℕ) : Type 0 where
  pub counted : (answer x).firings ≡ place
  pub ledger_left : (ledger : List ℕ) → ledger_after x ledger ≡ ledger_after before ledger
  pub cells_left : (cells : List ℕ) → cells_after x cells ≡ cells_after before cells

abbrev pub NotEnabledStops : Type 0
NotEnabledStops = (graph arrays inputs log : List ℕ) (ledger cells place : ℕ) → (answer (replayed graph arrays inputs log ledger cells)).outcome ≡ Outcomes.Refused NotEnabled place
    → StoppedBefore (replayed graph arrays inputs log ledger cells) (replayed graph arrays inputs (take (place * log_width) log) ledger cells) place
