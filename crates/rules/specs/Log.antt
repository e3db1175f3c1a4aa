-- 02, R-7, "Firing logs": the log that a run writes and the replay of a log, over bytes; and that a replay gives the run again and that logs agree, proved in
-- proofs/Log and proofs/Replay. Assumes nothing.
use Rattle.std.specs.Prelude.{ℕ, ◌+◌, ◌-◌, ◌*◌, ◌/◌, ◌%◌, ◌≡◌, Bool, ◌&&◌, ◌||◌, length, take, ℤ, eqb, leb, Ok, Err}
use Rattle.std.proofs.Math.Option.{Option}
use mathlib.Core.List.{List, [], Permᴰ}
use Rattle.record.specs.declared.tag.Tag.{Tag}
use Rattle.number.specs.Number.{Bytes}
use Rattle.buffer.specs.Rows.{rows, written_over}
use Rattle.record.specs.GraphRecords.{graph_of}
use Rattle.record.specs.Arrays.{arrays_of}
use Rattle.record.specs.TokensAndTags.{most_tokens, capacity_of}
use Rattle.record.specs.Logs.{encode_activity, name_of}
use Rattle.record.specs.Widths.{cell_width, log_width}
use Rattle.machine.specs.Machine.{End, by_picks, run}
use Rattle.machine.specs.Orders.{Quiescent, Refused}
use Rattle.machine.specs.Sequences.{Once, log_of}
use Rattle.machine.specs.Replay.{replay}
use Rattle.rules.specs.declared.answer.Refusal.{Refusal}
use Rattle.rules.specs.declared.answer.Refusal.TheVariants.{BadStore, NotEnabled}
use Rattle.rules.specs.declared.answer.Answer.{Answer}
use Rattle.rules.specs.Answer.{values_of}
use Rattle.rules.specs.Check.{demand, ◌and_then◌, check_stores, check_inputs, check, check_with, Checked}
use Rattle.rules.specs.InstructionSet.{machine_of}
use Rattle.rules.specs.Run.{first_state, picks_of, Result, refused_at_once, ran_to, unless_failed, answer, ledger_after, cells_after}
use Rattle.rules.specs.Orders.{result_outcome}

-- ---- records (`encode_activity`, `name_of`: specs/Logs of `record`)

-- what all records of a log name, with a last one that is not whole
unfoldable pub names_in : List ℕ → List (Option Tag)
names_in l = rows log_width name_of ((length l + (log_width - 1)) / log_width) l

-- ---- a run that writes a log

-- "A log lent not whole or with fewer records than the budget, or than 2,048 if that is less, is refused by 7."
abbrev pub log_suffices : (budget lent : ℕ) → Bool
log_suffices budget lent = eqb (lent % log_width) 0 && (leb budget (lent / log_width) || leb most_tokens (lent / log_width))

unfoldable pub check_log_stores : (inputs picks ledger cells budget lent : ℕ) → Checked
check_log_stores inputs picks ledger cells budget lent =
    check_stores inputs picks ledger cells and_then demand (log_suffices budget lent) BadStore 0

unfoldable pub check_logged : (graph arrays inputs picks : List ℕ) → (budget ledger cells lent : ℕ) → Checked
check_logged graph arrays inputs picks budget ledger cells lent =
    check_with graph arrays (cells / cell_width)
    (check_log_stores (length inputs) (length picks) ledger cells budget lent)
    (check_inputs (graph_of graph) (capacity_of ledger) inputs)

-- a run's result, and the tags of its firings in turn
pub record LogResult : Type 0 where
  pub result : Result
  pub log : List Tag

unfoldable pub log_unless_failed : Checked → End Refusal Tag ℤ → List Tag → LogResult
log_unless_failed (Ok _) e log = record { result = ran_to e; log = log }
log_unless_failed (Err fault) e log = record { result = refused_at_once fault.refusal fault.place; log = [] }

-- ledger, cells and log by their lengths in bytes
unfoldable pub logged : (graph arrays inputs picks : List ℕ) → (budget ledger cells lent : ℕ) → LogResult
logged graph arrays inputs picks budget ledger cells lent =
    let M = machine_of (graph_of graph) (arrays_of arrays) (capacity_of ledger) (cells / cell_width) in
    let s = first_state inputs (cells / cell_width) in
    log_unless_failed (check_logged graph arrays inputs picks budget ledger cells lent) (run M budget (picks_of picks) s) (log_of M (by_picks M) budget (picks_of picks) s)

unfoldable pub log_after : LogResult → (lent : List ℕ) → List ℕ
log_after x lent = written_over encode_activity x.log lent

-- what such a run promises: its answer, also in 01's numbers, and the end contents of ledger, cells and log
pub record LogRan (x : LogResult) (r : Answer) (ledger ledger' cells cells' log log' : List ℕ) : Type 0 where
  pub answered : r ≡ answer x.result
  pub numbers : values_of r ≡ values_of (answer x.result)
  pub ledger_left : ledger' ≡ ledger_after x.result ledger
  pub cells_left : cells' ≡ cells_after x.result cells
  pub log_left : log' ≡ log_after x log

-- ---- a replay: "takes graph, inputs, log, ledger and cells"; R-10: "Profile and replay take [the table] as a run does". Its check is that of a run without picks

unfoldable pub replayed : (graph arrays inputs log : List ℕ) → (ledger cells : ℕ) → Result
replayed graph arrays inputs log ledger cells =
    unless_failed (check graph arrays inputs [] ledger cells)
    (ran_to (replay (machine_of (graph_of graph) (arrays_of arrays) (capacity_of ledger) (cells / cell_width)) NotEnabled (names_in log) 0 (first_state inputs (cells / cell_width))))

-- ---- what is stated

abbrev pub NotBy7 : Result → Type 0
NotBy7 (refused_at_once r place) = ¬ (r ≡ BadStore)
NotBy7 (ran_to e) = Unit {0}

abbrev pub InFiring : Result → Type 0
InFiring (refused_at_once r place) = ⊥
InFiring (ran_to e) = Refused e.outcome

-- "the same ledger, cells and counts in every byte"; the answer too, unless a firing was refused
pub record AgainOfResults (x y : Result) : Type 0 where
  pub ledger_left : (lent : List ℕ) → ledger_after y lent ≡ ledger_after x lent
  pub cells_left : (lent : List ℕ) → cells_after y lent ≡ cells_after x lent
  pub firings : (answer y).firings ≡ (answer x).firings
  pub tokens : (answer y).tokens ≡ (answer x).tokens
  pub answered : ¬ (InFiring x) → answer y ≡ answer x

-- "Replaying the log of a run not refused by 7, buffers lent alike": the log of a run is its first records, as many as it has firings
abbrev pub LogReplaysOfResults : Type 0
LogReplaysOfResults = (graph arrays inputs picks : List ℕ) (budget ledger cells : ℕ) (lent : List ℕ) → Bytes graph → Bytes inputs
    → NotBy7 (logged graph arrays inputs picks budget ledger cells (length lent)).result
    → AgainOfResults (logged graph arrays inputs picks budget ledger cells (length lent)).result
    (replayed graph arrays inputs (take ((answer (logged graph arrays inputs picks budget ledger cells (length lent)).result).firings * log_width) (log_after (logged graph arrays inputs picks budget ledger cells (length lent)) lent)) ledger cells)

-- "The logs of two completed runs of one graph with equal inputs, capacity and cell count hold the same records, each once.": and of two that hang
abbrev pub LogsAgreeOfResults : Type 0
LogsAgreeOfResults = (graph arrays inputs picks picks' : List ℕ) (budget budget' ledger ledger' cells cells' lent lent' : ℕ)
    → capacity_of ledger ≡ capacity_of ledger' → cells / cell_width ≡ cells' / cell_width
    → Quiescent (result_outcome (logged graph arrays inputs picks budget ledger cells lent).result) → Quiescent (result_outcome (logged graph arrays inputs picks' budget' ledger' cells' lent').result)
    → Permᴰ (logged graph arrays inputs picks budget ledger cells lent).log (logged graph arrays inputs picks' budget' ledger' cells' lent').log × Once (logged graph arrays inputs picks budget ledger cells lent).log
