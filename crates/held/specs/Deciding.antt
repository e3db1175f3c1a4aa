-- Working definition: no public promise cites it.
-- 02, R-9: the flags of the activities that a bound holds back, beside those of the enabled ones. Which method decides them is left open. Assumes nothing.
use Rattle.std.specs.Prelude.{ℕ, ◌+◌, ◌≤◌, ◌<◌, ◌≡◌, Bool, true, false, ◌&&◌, List, map, eqb, leb, ltb, get_or, set, ℤ}
use Rattle.record.specs.declared.tag.Tag.{Tag}
use Rattle.record.specs.declared.token.Token as Record
use Rattle.record.specs.declared.instruction.Instruction.{Instruction}
use Rattle.record.specs.TokensAndTags.{tokens, token_at, is_spent_record}
use Rattle.machine.specs.Machine.{Token, on_option}
use Rattle.rules.specs.Check.{any, instruction_at}
use Rattle.rules.specs.Run.{token_held}
use Rattle.rules.specs.Held.{stands_in, holds_back}
use Rattle.store_flags.specs.Flags.{Under}
use Rattle.ending.specs.Endings.{proper_by}
use Rattle.held.specs.Searching.{MarkedPast}
use Rattle.store_flags.specs.Marks.{bit}

-- the rules' `held_in`, of the tokens and the tag that it looks at
unfoldable pub held_by : List Instruction → (bound : ℕ) → List (Token Tag ℤ) → Tag → Bool
held_by g k ts τ = leb 1 k && (eqb (instruction_at g τ.instruction).code 7 && any (holds_back g k τ.path (τ.iteration + 1)) ts)

-- none is raised from a place on
abbrev pub ClearFrom : (used : ℕ) → (flags : List ℕ) → Type 0
ClearFrom used flags = (i : ℕ) → used ≤ i → get_or flags i 0 ≡ 0

-- the flag of the activity at place i
abbrev pub held_at : List Instruction → (bound : ℕ) → (flags ledger : List ℕ) → (used i : ℕ) → Bool
held_at g k flags ledger used i = eqb (get_or flags i 0) 1 && held_by g k (map token_held (tokens used ledger)) (token_at ledger i).tag

-- the held activities are those of the enabled that the rules hold back
pub record HeldDecided (g : List Instruction) (k : ℕ) (flags held ledger : List ℕ) (used : ℕ) : Type 0 where
  pub right : (i : ℕ) → get_or held i 0 ≡ bit (ltb i used && held_at g k flags ledger used i)

-- ---- what is kept beside them: the records at NEXT that are not spent

unfoldable pub is_next : List Instruction → Record.Token → Bool
is_next g t = eqb (instruction_at g t.tag.instruction).code 7

-- what it would make is no iteration below k, before which none is k away
unfoldable pub is_late_next : List Instruction → (bound : ℕ) → Record.Token → Bool
is_late_next g k t = is_next g t && leb k (t.tag.iteration + 1)

-- no enabled one is missing
abbrev pub Listed : List Instruction → (bound : ℕ) → (flags nexts ledger : List ℕ) → (used : ℕ) → Type 0
Listed g k flags nexts ledger used = (i : ℕ) → i < used → get_or nexts i 0 ≡ 0 → (eqb (get_or flags i 0) 1 && is_late_next g k (token_at ledger i)) ≡ false

-- those from `used` on were added
pub record NewListed (g : List Instruction) (k : ℕ) (ledger : List ℕ) (used n : ℕ) (nexts nexts' : List ℕ) : Type 0 where
  pub same : (i : ℕ) → i < used → get_or nexts' i 0 ≡ get_or nexts i 0
  pub new : (i : ℕ) → used ≤ i → i < n → get_or nexts' i 0 ≡ bit (is_late_next g k (token_at ledger i))
  pub clear : ClearFrom n nexts'

-- the flags of a record were lowered, if it is spent
pub data Dropped (ledger : List ℕ) (place : ℕ) (nexts held nexts' held' : List ℕ) : Type 0 where
  spent_there : is_spent_record (token_at ledger place).content ≡ true → nexts' ≡ set nexts place 0 → held' ≡ set held place 0 → Dropped ledger place nexts held nexts' held'
  as_before : nexts' ≡ nexts → held' ≡ held → Dropped ledger place nexts held nexts' held'

-- an enabled activity's earliest token is not spent
abbrev pub FlagsUnspent : (flags ledger : List ℕ) → (used : ℕ) → Type 0
FlagsUnspent flags ledger used = (i : ℕ) → i < used → get_or flags i 0 ≡ 1 → is_spent_record (token_at ledger i).content ≡ false

-- ---- and the record that each search stands at

-- the activity is at NEXT, and that record stands where it holds it back, as long as it is not proper
pub record Standing (g : List Instruction) (ledger : List ℕ) (bound used : ℕ) (marks : List ℕ) (i : ℕ) : Type 0 where
  pub inside : i < used
  pub below : get_or marks i 0 < used
  pub next : is_next g (token_at ledger i) ≡ true
  pub old : on_option (stands_in (token_at ledger i).tag.path (token_at ledger (get_or marks i 0)).tag) false (λ j. leb (j + bound) ((token_at ledger i).tag.iteration + 1)) ≡ true

-- so it is with all that are held
abbrev pub AllStanding : List Instruction → (ledger : List ℕ) → (bound used : ℕ) → (held marks : List ℕ) → Type 0
AllStanding g ledger bound used held marks = (i : ℕ) → get_or held i 0 ≡ 1 → Standing g ledger bound used marks i

-- a look at one activity changed no other's mark, and its own is right if it is held
pub record LookedAt (g : List Instruction) (ledger : List ℕ) (bound used i : ℕ) (on : Bool) (marks marks' : List ℕ) : Type 0 where
  pub same : (j : ℕ) → j < 2048 → ¬ (j ≡ i) → get_or marks' j 0 ≡ get_or marks j 0
  pub stands : on ≡ true → Standing g ledger bound used marks' i

-- what the last call left, of records as they are now, and how many of them it had looked at
pub record Carried (g : List Instruction) (tables ledger : List ℕ) (bound used : ℕ) (nexts held marks : List ℕ) : Type 0 where
  pub clear : ClearFrom used nexts
  pub under : Under held nexts
  pub listed : (i : ℕ) → i < used → get_or nexts i 0 ≡ 0 → is_late_next g bound (token_at ledger i) ≡ true → is_spent_record (token_at ledger i).content ≡ true
  pub marked : MarkedPast tables ledger bound used marks
  pub standing : AllStanding g ledger bound used held marks

pub record HeldKept (g : List Instruction) (tables flags ledger : List ℕ) (bound used : ℕ) (nexts held marks : List ℕ) : Type 0 where
  pub carried : Carried g tables ledger bound used nexts held marks
  pub decided : HeldDecided g bound flags held ledger used

-- what a firing may do to a record: it keeps its tag, and a proper token stays proper, a spent one spent
pub record Later (tables ledger ledger' : List ℕ) (used : ℕ) : Type 0 where
  pub tags : (i : ℕ) → i < used → (token_at ledger' i).tag ≡ (token_at ledger i).tag
  pub proper : (i : ℕ) → i < used → proper_by tables (token_at ledger i) ≡ true → proper_by tables (token_at ledger' i) ≡ true
  pub spent : (i : ℕ) → i < used → is_spent_record (token_at ledger i).content ≡ true → is_spent_record (token_at ledger' i).content ≡ true

-- ---- after which nothing has to be done

-- none that came since has to be listed
abbrev pub NoneNew : List Instruction → (bound : ℕ) → (ledger : List ℕ) → (used n : ℕ) → Type 0
NoneNew g k ledger used n = (i : ℕ) → used ≤ i → i < n → is_late_next g k (token_at ledger i) ≡ false

-- an activity is enabled, and the record that its search stands at is not proper
pub record HeldStill (tables flags ledger marks : List ℕ) (i : ℕ) : Type 0 where
  pub raised : get_or flags i 0 ≡ 1
  pub pending : proper_by tables (token_at ledger (get_or marks i 0)) ≡ false

-- every one that is listed was held, and is
abbrev pub AllStill : (tables flags ledger nexts held marks : List ℕ) → Type 0
AllStill tables flags ledger nexts held marks = (i : ℕ) → get_or nexts i 0 ≡ 1 → (get_or held i 0 ≡ 1) × HeldStill tables flags ledger marks i
