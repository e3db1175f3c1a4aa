-- Working definition: no public promise cites it.
-- A profile, a step at a time, in the terms of the machine: what a step leaves, and what a profile leaves. Assumes nothing.
use Rattle.std.specs.Prelude.{ℕ, suc, ◌+◌, ◌-◌, ◌*◌, ◌≤◌, ◌<◌, ◌≡◌, List, length, get_or, drop, ℤ, Result, Ok, Err}
use Rattle.record.specs.declared.tag.Tag.{Tag}
use Rattle.record.specs.declared.array.NamedArray.{NamedArray}
use Rattle.record.specs.declared.token.Token.{Token}
use Rattle.record.specs.declared.cell.Cell.{Cell}
use Rattle.record.specs.declared.instruction.Instruction.{Instruction}
use Rattle.record.specs.Widths.{token_width}
use Rattle.buffer.specs.Rows.{written_over}
use Rattle.machine.specs.Machine.{Outcome, end}
use Rattle.machine.specs.Orders.{Lawful}
use Rattle.machine.specs.Sequences.{Fires}
use Rattle.machine.specs.Steps.{Profile, unspent_in, ends_here, after_step, profile}
use Rattle.rules.specs.declared.answer.Refusal.{Refusal}
use Rattle.rules.specs.declared.answer.Refusal.TheVariants.{ProfileFull}
use Rattle.rules.specs.declared.answer.Outcome as AnswerOutcome
use Rattle.rules.specs.declared.answer.Outcome.TheVariants as Outcomes
use Rattle.rules.specs.declared.answer.Profiled.{Profiled}
use Rattle.rules.specs.InstructionSet.{machine_of}
use Rattle.rules.specs.Run.{outcome_of}
use Rattle.rules.specs.Profile.{encode_step}
use Rattle.store_flags.specs.Flags.{places}
use Rattle.abstraction.specs.States.{state_held, OnPorts}
use Rattle.abstraction.specs.Tables.{Arities}
use Rattle.fire.specs.Running.{machine_over, state_in, Running}
use Rattle.start.specs.Ended.{EndedAt}
use Rattle.profile.specs.declared.Whole.{Whole}
use Rattle.profile.specs.declared.Ended.{Ended}

-- live plus deferred tokens
abbrev pub unspent_at : List Instruction → (tables ledger cells : List ℕ) → (used : ℕ) → ℕ
unspent_at g tables ledger cells used = unspent_in (machine_over g tables ledger cells) (state_in ledger cells used).tokens

-- the profile from a state, by the records that are left and the firings done
abbrev pub profile_from : List Instruction → (left firings : ℕ) → (tables ledger cells : List ℕ) → (used : ℕ) → Profile Refusal Tag ℤ
profile_from g left f tables ledger cells used = profile (machine_over g tables ledger cells) ProfileFull left f (state_in ledger cells used)

-- ---- a step

-- the places of the enabled activities
pub record PlacesIn (count : ℕ) (flags out : List ℕ) : Type 0 where
  pub counted : count ≡ length (places flags)
  pub written : (k : ℕ) → k < count → get_or out k 0 ≡ get_or (places flags) k 0
  pub size : length out ≡ 2048

-- what an activity that is enabled has
abbrev pub OneOrTwo : ℕ → Type 0
OneOrTwo n = (0 < n) × (n ≤ 2)

-- this number of firings led from one state of the buffers to another
pub record WentBy (g : List Instruction) (tables links flags ledger' cells' : List ℕ) (done n used : ℕ) (ledger cells : List ℕ) : Type 0 where
  pub log : List Tag
  pub fires : Fires (machine_over g tables ledger cells) (state_in ledger cells used) log (state_in ledger' cells' n)
  pub counted : length log ≡ done
  pub running : Running g tables links flags ledger' cells' n
  pub grown : used ≤ n
  pub size : length ledger' ≡ length ledger
  pub rest : drop (n * token_width) ledger' ≡ drop (n * token_width) ledger
  pub cell_size : length cells' ≡ length cells

-- a whole step gave one record
pub record SteppedWhole (g : List Instruction) (tables links flags ledger' cells' : List ℕ) (count n unspent used : ℕ) (ledger cells : List ℕ) : Type 0 where
  pub went : WentBy g tables links flags ledger' cells' count n used ledger cells
  pub unspent_left : unspent ≡ unspent_at g tables ledger' cells' n
  pub goes_on : (left f : ℕ) → profile_from g (suc left) f tables ledger cells used
      ≡ after_step (machine_over g tables ledger cells) (record { firings = count; unspent = unspent }) (profile (machine_over g tables ledger cells) ProfileFull left (f + count) (state_in ledger' cells' n))

-- a step that ended the profile gave none
pub record ProfileHalted (o : AnswerOutcome.Outcome) (g : List Instruction) (tables links flags ledger' cells' : List ℕ) (done n used : ℕ) (ledger cells : List ℕ) : Type 0 where
  pub went : WentBy g tables links flags ledger' cells' done n used ledger cells
  pub outcome : Outcome Refusal
  pub told : outcome_of outcome ≡ o
  pub ends : (left f : ℕ) → profile_from g (suc left) f tables ledger cells used ≡ ends_here (machine_over g tables ledger cells) (end (machine_over g tables ledger cells) outcome (f + done) (state_in ledger' cells' n))

-- all its activities fired: less their operands, and more what they sent, are live or deferred
pub record AllFired (g : List Instruction) (tables links flags ledger' cells' : List ℕ) (count n spent used : ℕ) (ledger cells : List ℕ) : Type 0 where
  pub went : WentBy g tables links flags ledger' cells' count n used ledger cells
  pub unspent_left : unspent_at g tables ledger' cells' n + spent ≡ unspent_at g tables ledger cells used + (n - used)
  pub goes_on : (left f : ℕ) → profile_from g (suc left) f tables ledger cells used
      ≡ after_step (machine_over g tables ledger cells) (record { firings = count; unspent = unspent_at g tables ledger' cells' n }) (profile (machine_over g tables ledger cells) ProfileFull left (f + count) (state_in ledger' cells' n))

-- or one was refused
abbrev pub FiredAs : AnswerOutcome.Outcome → List Instruction → (tables links flags ledger' cells' : List ℕ) → (count n spent used : ℕ) → (ledger cells : List ℕ) → Type 0
FiredAs (Outcomes.Refused r place) g tables links flags ledger' cells' count n spent used ledger cells =
    ProfileHalted (Outcomes.Refused r place) g tables links flags ledger' cells' count n used ledger cells
FiredAs Outcomes.Completed g tables links flags ledger' cells' count n spent used ledger cells =
    AllFired g tables links flags ledger' cells' count n spent used ledger cells
FiredAs Outcomes.Hung g tables links flags ledger' cells' count n spent used ledger cells =
    AllFired g tables links flags ledger' cells' count n spent used ledger cells
FiredAs Outcomes.Spent g tables links flags ledger' cells' count n spent used ledger cells =
    AllFired g tables links flags ledger' cells' count n spent used ledger cells

abbrev pub StepDone : Result Whole Ended → List Instruction → (tables links flags ledger' cells' : List ℕ) → (used : ℕ) → (ledger cells : List ℕ) → Type 0
StepDone (Ok whole) g tables links flags ledger' cells' used ledger cells =
    SteppedWhole g tables links flags ledger' cells' whole.firings whole.tokens whole.unspent used ledger cells
StepDone (Err end) g tables links flags ledger' cells' used ledger cells =
    ProfileHalted end.outcome g tables links flags ledger' cells' end.firings end.tokens used ledger cells

-- the outcome where no record is left, whatever firings came before
abbrev pub LastAs : AnswerOutcome.Outcome → (tables : List ℕ) → List Token → Type 0
LastAs o tables ts = (g : List Instruction) → Arities g tables → OnPorts g ts → (table : List NamedArray) (capacity count : ℕ) → Lawful (machine_of g table capacity count) → (cs : List Cell) (f : ℕ)
    → (outcome : Outcome Refusal) × (outcome_of outcome ≡ o)
    × (profile (machine_of g table capacity count) ProfileFull 0 f (state_held ts cs) ≡ ends_here (machine_of g table capacity count) (end (machine_of g table capacity count) outcome f (state_held ts cs)))

-- ---- a profile

-- what a profile of the machine answers and leaves
pub record ProfiledTo (p : Profile Refusal Tag ℤ) (r : Profiled) (ledger cells profile ledger' cells' profile' : List ℕ) : Type 0 where
  pub ended : EndedAt p.ended r.answer ledger cells ledger' cells'
  pub counted : r.records ≡ length p.records
  pub profile_left : profile' ≡ written_over encode_step p.records profile
