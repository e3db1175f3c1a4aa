-- 02, R-1, "Profiles for the plotter": a run by ideal steps over bytes, what it answers, and what it leaves in ledger, cells and profile; and that it ends as
-- every order does, proved in proofs/Profile. Assumes nothing.
use Rattle.std.specs.Prelude.{ℕ, ◌*◌, ◌/◌, ◌%◌, ◌≤◌, ◌≡◌, List, [], ◌++◌, length, ℤ, eqb, Ok, Err}
use Rattle.record.specs.declared.tag.Tag.{Tag}
use Rattle.number.specs.Number.{bytes16}
use Rattle.buffer.specs.Rows.{written_over}
use Rattle.record.specs.GraphRecords.{graph_of}
use Rattle.record.specs.Arrays.{arrays_of}
use Rattle.record.specs.TokensAndTags.{most_tokens, capacity_of}
use Rattle.record.specs.Widths.{cell_width, step_width}
use Rattle.machine.specs.Steps.{StepRecord, Profile, firings_in, EachFires, profile}
use Rattle.machine.specs.Orders.{Quiescent, Refused}
use Rattle.rules.specs.declared.answer.Refusal.{Refusal}
use Rattle.rules.specs.declared.answer.Refusal.TheVariants.{BadStore, ProfileFull}
use Rattle.rules.specs.declared.answer.Outcome.TheVariants as Outcomes
use Rattle.rules.specs.declared.answer.Profiled.{Profiled}
use Rattle.rules.specs.Answer.{values_of}
use Rattle.rules.specs.Check.{demand, ◌and_then◌, check_stores, check_inputs, check_with, Checked}
use Rattle.rules.specs.InstructionSet.{machine_of}
use Rattle.rules.specs.Run.{first_state, Result, refused_at_once, ran_to, result, answer, ledger_after, cells_after}
use Rattle.rules.specs.Orders.{result_outcome, AlikeResults, Allowed}

-- ---- a profile

-- "It takes no picks"; "A profile not in whole records is refused by 7."
unfoldable pub check_profile_stores : (inputs ledger cells profile : ℕ) → Checked
check_profile_stores inputs ledger cells profile = check_stores inputs 0 ledger cells and_then demand (eqb (profile % step_width) 0) BadStore 0

unfoldable pub check_profile : (graph arrays inputs : List ℕ) → (ledger cells profile : ℕ) → Checked
check_profile graph arrays inputs ledger cells profile =
    check_with graph arrays (cells / cell_width)
    (check_profile_stores (length inputs) ledger cells profile)
    (check_inputs (graph_of graph) (capacity_of ledger) inputs)

-- a result as a run has it, and the records of the whole steps
pub record ProfileResult : Type 0 where
  pub result : Result
  pub records : List StepRecord

unfoldable pub profile_unless_failed : Checked → Profile Refusal Tag ℤ → ProfileResult
profile_unless_failed (Ok _) p = record { result = ran_to p.ended; records = p.records }
profile_unless_failed (Err fault) p = record { result = refused_at_once fault.refusal fault.place; records = [] }

-- ledger, cells and profile by their lengths in bytes
unfoldable pub profiled : (graph arrays inputs : List ℕ) → (ledger cells lent : ℕ) → ProfileResult
profiled graph arrays inputs ledger cells lent =
    profile_unless_failed (check_profile graph arrays inputs ledger cells lent)
    (profile (machine_of (graph_of graph) (arrays_of arrays) (capacity_of ledger) (cells / cell_width)) ProfileFull (lent / step_width) 0 (first_state inputs (cells / cell_width)))

-- ---- what it answers and leaves

-- "the answer also gives the number of records"
unfoldable pub profile_answer : ProfileResult → Profiled
profile_answer x = record { answer = answer x.result; records = length x.records }

-- "one 4-byte record: firings in it, and live plus deferred tokens after it, 16 bits each"
unfoldable pub encode_step : StepRecord → List ℕ
encode_step r = bytes16 r.firings ++ bytes16 r.unspent

unfoldable pub profile_after : ProfileResult → (lent : List ℕ) → List ℕ
profile_after x lent = written_over encode_step x.records lent

-- what a profile promises: its answer, also in 01's numbers, and the end contents of ledger, cells and profile
pub record ProfileRan (x : ProfileResult) (r : Profiled) (ledger ledger' cells cells' profile profile' : List ℕ) : Type 0 where
  pub answered : r ≡ profile_answer x
  pub numbers : values_of r.answer ≡ values_of (answer x.result)
  pub ledger_left : ledger' ≡ ledger_after x.result ledger
  pub cells_left : cells' ≡ cells_after x.result cells
  pub profile_left : profile' ≡ profile_after x profile

-- ---- how many there can be

-- a step has one firing at least: so no more records than firings, and 2,048 at most
abbrev pub NoMoreSteps : Type 0
NoMoreSteps = (graph arrays inputs : List ℕ) (ledger cells lent : ℕ)
    → (length (profiled graph arrays inputs ledger cells lent).records ≤ (answer (profiled graph arrays inputs ledger cells lent).result).firings)
    × ((answer (profiled graph arrays inputs ledger cells lent).result).firings ≤ most_tokens)

-- 18 is given exactly where no record is left before a step: all that are lent are written, and each of their firings is done
pub record Full (x : ProfileResult) (place lent : ℕ) : Type 0 where
  pub at_none : place ≡ 0
  pub written : length x.records ≡ lent / step_width
  pub firings : (answer x.result).firings ≡ firings_in x.records

abbrev pub WhereFull : Type 0
WhereFull = (graph arrays inputs : List ℕ) (ledger cells lent place : ℕ) → (answer (profiled graph arrays inputs ledger cells lent).result).outcome ≡ Outcomes.Refused ProfileFull place
    → Full (profiled graph arrays inputs ledger cells lent) place lent

-- so 2,048 records are always enough
abbrev pub NeverFull : Type 0
NeverFull = (graph arrays inputs : List ℕ) (ledger cells lent place : ℕ) → most_tokens * step_width ≤ lent → ¬ ((answer (profiled graph arrays inputs ledger cells lent).result).outcome ≡ Outcomes.Refused ProfileFull place)

-- ---- "if it isn't refused, its end must equal every order's as demand 3 compares them"

pub record ProfileEndsAs (x : ProfileResult) (y : Result) : Type 0 where
  pub rests : Quiescent (result_outcome x.result)
  -- completed or hung
  pub outcome : (answer x.result).outcome ≡ (answer y).outcome
  pub alike : AlikeResults x.result y
  -- and its records tell its firings, each one at least
  pub firings : (answer x.result).firings ≡ firings_in x.records
  pub each_fires : EachFires x.records

abbrev pub ProfileAsEveryOrder : Type 0
ProfileAsEveryOrder = (graph arrays inputs picks : List ℕ) (ledger ledger' cells cells' lent : ℕ) → ¬ (Refused (result_outcome (profiled graph arrays inputs ledger cells lent).result))
    → Allowed picks ledger' cells' → capacity_of ledger ≡ capacity_of ledger' → cells / cell_width ≡ cells' / cell_width
    → ProfileEndsAs (profiled graph arrays inputs ledger cells lent) (result graph arrays inputs picks 2048 ledger' cells')
