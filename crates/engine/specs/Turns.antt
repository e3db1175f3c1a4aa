-- Working definition: no public promise cites it.
-- A run, a turn at a time, in the terms of the machine: who chooses, what a turn leaves, and what a run leaves in ledger, cells and log. Assumes nothing.
use Rattle.std.specs.Prelude.{ℕ, ◌*◌, ◌/◌, ◌≤◌, ◌<◌, ◌≡◌, true, cond, List, [], ltb, length, take, drop, ℤ, Option, IsSomeAnd, Result, Ok, Err}
use Rattle.record.specs.declared.array.NamedArray.{NamedArray}
use Rattle.record.specs.declared.tag.Tag.{Tag}
use Rattle.record.specs.declared.cell.Cell.{Cell}
use Rattle.record.specs.declared.instruction.Instruction.{Instruction}
use Rattle.record.specs.GraphRecords.{graph_of}
use Rattle.record.specs.Logs.{encode_activity}
use Rattle.record.specs.TokensAndTags.{tokens, token_at}
use Rattle.record.specs.Widths.{token_width, cell_width, log_width}
use Rattle.buffer.specs.Rows.{put_row, written_over}
use Rattle.machine.specs.Machine.{Machine, StateOf, EffectOf, Effect, Activity, Outcome, refused, not_fired, End, by_picks, commit, end}
use Rattle.machine.specs.Bounded.{by_free, run_bounded, log_bounded}
use Rattle.machine.specs.Choosers.{Chosen, takes, ends, Chooser, run_from, log_from, by_pick, by_name}
use Rattle.rules.specs.declared.answer.Refusal.{Refusal}
use Rattle.rules.specs.declared.answer.Refusal.TheVariants.{NotEnabled}
use Rattle.rules.specs.declared.answer.Outcome as AnswerOutcome
use Rattle.rules.specs.declared.answer.Answer.{Answer}
use Rattle.rules.specs.InstructionSet.{machine_of}
use Rattle.rules.specs.Run.{picks_of, outcome_of, first_state}
use Rattle.rules.specs.Held.{held_in}
use Rattle.rules.specs.Log.{names_in}
use Rattle.store_enabled.specs.Enabled.{leads_in}
use Rattle.store_flags.specs.Flags.{places, minus, Under}
use Rattle.store.specs.Matching.{Matching}
use Rattle.abstraction.specs.States.{state_held}
use Rattle.abstraction.specs.Tables.{Arities, arrays_in}
use Rattle.ending.specs.Endings.{EndsWith}
use Rattle.held.specs.Deciding.{FlagsUnspent, HeldDecided, Carried, HeldKept}
use Rattle.start.specs.Begun.{machine_lent}
use Rattle.fire.specs.Running.{machine_over, state_in, Arrived, Running, Went}
use Rattle.engine.specs.declared.choice.Order.{Order}
use Rattle.engine.specs.declared.choice.Order.TheVariants as Orders
use Rattle.engine.specs.declared.turns.Fired.{Fired}

-- ---- who chooses

-- of an order and the bytes that it goes by. Without picks the first is taken each time
abbrev pub chooser_of : Order → (source : List ℕ) → (g : List Instruction) (table : List NamedArray) (capacity count : ℕ) → Chooser (machine_of g table capacity count)
chooser_of Orders.Oldest source g table capacity count = by_pick (machine_of g table capacity count) (by_picks (machine_of g table capacity count)) []
chooser_of Orders.Picks source g table capacity count = by_pick (machine_of g table capacity count) (by_picks (machine_of g table capacity count)) (picks_of source)
chooser_of Orders.Log source g table capacity count = by_name (machine_of g table capacity count) NotEnabled (names_in source)
chooser_of (Orders.Free k) source g table capacity count = by_free (machine_of g table capacity count) (held_in g k) (by_picks (machine_of g table capacity count)) (picks_of source)

abbrev pub chooser_for : Order → (source : List ℕ) → (g : List Instruction) (tables ledger cells : List ℕ) → Chooser (machine_over g tables ledger cells)
chooser_for order source g tables ledger cells = chooser_of order source g (arrays_in tables) (length ledger / token_width) (length cells / cell_width)

-- this order goes by the picks
abbrev pub ByPicks : Order → (picks : List ℕ) → Type 0
ByPicks order picks = (g : List Instruction) (table : List NamedArray) (capacity count : ℕ)
    → chooser_of order picks g table capacity count ≡ by_pick (machine_of g table capacity count) (by_picks (machine_of g table capacity count)) (picks_of picks)

-- nothing is held back
abbrev pub Plain : Order → Type 0
Plain Orders.Oldest = Unit {0}
Plain Orders.Picks = Unit {0}
Plain Orders.Log = Unit {0}
Plain (Orders.Free k) = ⊥

-- this order goes by the picks with this bound, which is none where it is 0
abbrev pub ByBound : Order → (picks : List ℕ) → (bound : ℕ) → Type 0
ByBound Orders.Oldest picks k = (k ≡ 0) × ByPicks Orders.Oldest picks
ByBound Orders.Picks picks k = (k ≡ 0) × ByPicks Orders.Picks picks
ByBound Orders.Log picks k = (k ≡ 0) × ByPicks Orders.Log picks
ByBound (Orders.Free j) picks k = (j ≡ k) × (0 < k)

-- the bound of an order that has one is of its range
abbrev pub BoundFits : Order → Type 0
BoundFits Orders.Oldest = Unit {0}
BoundFits Orders.Picks = Unit {0}
BoundFits Orders.Log = Unit {0}
BoundFits (Orders.Free k) = (0 < k) × (k < 65536)

-- ---- what is held back, if the order looks at it

-- the flags of the held are given, and are flags of enabled ones
abbrev pub HeldBeside : Order → (flags : List ℕ) → (held : Option (List ℕ)) → Type 0
HeldBeside Orders.Oldest flags held = Unit {0}
HeldBeside Orders.Picks flags held = Unit {0}
HeldBeside Orders.Log flags held = Unit {0}
HeldBeside (Orders.Free k) flags held = IsSomeAnd held (λ l. Under l flags)

abbrev pub HeldBack : Order → List Instruction → (flags held ledger : List ℕ) → (used : ℕ) → Type 0
HeldBack Orders.Oldest g flags held ledger used = Unit {0}
HeldBack Orders.Picks g flags held ledger used = Unit {0}
HeldBack Orders.Log g flags held ledger used = Unit {0}
HeldBack (Orders.Free k) g flags held ledger used = HeldDecided g k flags held ledger used

-- what is kept of it between firings
pub record Holding (g : List Instruction) (k : ℕ) (tables flags ledger : List ℕ) (used : ℕ) (nexts held marks : List ℕ) : Type 0 where
  pub bound : (0 < k) × (k < 65536)
  pub kept : HeldKept g tables flags ledger k used nexts held marks

abbrev pub Bounding : Order → List Instruction → (tables flags ledger : List ℕ) → (used : ℕ) → (nexts held marks : List ℕ) → Type 0
Bounding Orders.Oldest g tables flags ledger used nexts held marks = Unit {0}
Bounding Orders.Picks g tables flags ledger used nexts held marks = Unit {0}
Bounding Orders.Log g tables flags ledger used nexts held marks = Unit {0}
Bounding (Orders.Free k) g tables flags ledger used nexts held marks = Holding g k tables flags ledger used nexts held marks

-- and right after one, which left n tokens where there were `used`
pub record Followed (g : List Instruction) (k : ℕ) (tables flags ledger : List ℕ) (used n : ℕ) (nexts held marks : List ℕ) : Type 0 where
  pub arities : Arities g tables
  pub grown : used ≤ n
  pub room : (n ≤ length ledger / token_width) × (n ≤ 2048)
  pub bound : (0 < k) × (k < 65536)
  pub unspent : FlagsUnspent flags ledger n
  pub carried : Carried g tables ledger k used nexts held marks

-- ---- a choice

-- what the choice goes by: the flags are those of the enabled activities
pub record Flagged (tables flags ledger : List ℕ) (used : ℕ) : Type 0 where
  pub links : List ℕ
  pub matching : Matching tables links flags ledger used

-- the chooser takes the activity at this place, which is enabled
pub record TakesPlace (place : ℕ) (chosen : Chosen Refusal Tag) (tables ledger : List ℕ) (used : ℕ) : Type 0 where
  pub taken : chosen ≡ takes (record { place = place; tag = (token_at ledger place).tag })
  pub below : place < used
  pub enabled_there : leads_in tables (tokens used ledger) place (token_at ledger place) ≡ true

-- the chooser ends the run
pub record Ends (o : AnswerOutcome.Outcome) (chosen : Chosen Refusal Tag) : Type 0 where
  pub outcome : Outcome Refusal
  pub told : outcome_of outcome ≡ o
  pub ended : chosen ≡ ends outcome

abbrev pub Chooses : Result ℕ AnswerOutcome.Outcome → Chosen Refusal Tag → (tables ledger : List ℕ) → (used : ℕ) → Type 0
Chooses (Ok place) chosen tables ledger used = TakesPlace place chosen tables ledger used
Chooses (Err o) chosen tables ledger used = Ends o chosen

-- the choice of a turn after f firings, for every graph whose tables these are and every store of cells
abbrev pub ChosenAs : Result ℕ AnswerOutcome.Outcome → Order → (source : List ℕ) → (f : ℕ) → (tables flags held ledger : List ℕ) → (used : ℕ) → Type 0
ChosenAs r order source f tables flags held ledger used = (g : List Instruction) → Arities g tables → Arrived g (tokens used ledger) → HeldBack order g flags held ledger used → (table : List NamedArray) (capacity count : ℕ) (cs : List Cell)
    → Chooses r (chooser_of order source g table capacity count f (state_held (tokens used ledger) cs)) tables ledger used

-- ---- a turn, by what was chosen, whoever chose it; `asks` is what an activity asks for

-- a turn in which the activity at a place fired left n tokens. It has its tag at its place, as before the firing
pub record Advanced (g : List Instruction) (chosen : Chosen Refusal Tag) (asks : Tag → Effect Refusal Tag ℤ) (place : ℕ) (tables links flags ledger' cells' : List ℕ) (n used : ℕ) (ledger cells : List ℕ) : Type 0 where
  pub taken : chosen ≡ takes (record { place = place; tag = (token_at ledger' place).tag })
  pub below : place < n
  pub went : Went g (token_at ledger' place).tag (asks (token_at ledger' place).tag) tables links flags ledger' cells' n used ledger cells

-- why a turn ends the run: the chooser does, or the activity that it takes is refused
pub data Stops (M : Machine) (s : StateOf M) (chosen : Chosen M.Refusal M.Tag) (asks : M.Tag → EffectOf M) (o : Outcome M.Refusal) : Type 0 where
  by_choice : chosen ≡ ends o → Stops M s chosen asks o
  by_refusal : (a : Activity M.Tag) (r : M.Refusal) → chosen ≡ takes a → commit M s a.tag (asks a.tag) ≡ not_fired r → o ≡ refused r a.place → Stops M s chosen asks o

-- a turn that ended the run left ledger and cells as it found them
pub record Halted (o : AnswerOutcome.Outcome) (g : List Instruction) (chosen : Chosen Refusal Tag) (asks : Tag → Effect Refusal Tag ℤ) (tables links flags ledger' cells' : List ℕ) (used : ℕ) (ledger cells : List ℕ) : Type 0 where
  pub outcome : Outcome Refusal
  pub told : outcome_of outcome ≡ o
  pub stops : Stops (machine_over g tables ledger cells) (state_in ledger cells used) chosen asks outcome
  pub running : Running g tables links flags ledger' cells' used
  pub same_ledger : ledger' ≡ ledger
  pub same_cells : cells' ≡ cells

abbrev pub Turned : Result Fired AnswerOutcome.Outcome → List Instruction → Chosen Refusal Tag → (asks : Tag → Effect Refusal Tag ℤ) → (tables links flags ledger' cells' : List ℕ) → (used : ℕ) → (ledger cells : List ℕ) → Type 0
Turned (Ok fired) g chosen asks tables links flags ledger' cells' used ledger cells =
    Advanced g chosen asks fired.place tables links flags ledger' cells' fired.used used ledger cells
Turned (Err o) g chosen asks tables links flags ledger' cells' used ledger cells =
    Halted o g chosen asks tables links flags ledger' cells' used ledger cells

-- ---- a run

-- the end of a run from a state, and its log
abbrev pub end_of : Order → (source : List ℕ) → List Instruction → (tables ledger cells : List ℕ) → (used budget : ℕ) → End Refusal Tag ℤ
end_of order source g tables ledger cells used budget = run_from (machine_over g tables ledger cells) (chooser_for order source g tables ledger cells) budget 0 (state_in ledger cells used)

abbrev pub fired_by : Order → (source : List ℕ) → List Instruction → (tables ledger cells : List ℕ) → (used budget : ℕ) → List Tag
fired_by order source g tables ledger cells used budget = log_from (machine_over g tables ledger cells) (chooser_for order source g tables ledger cells) budget 0 (state_in ledger cells used)

-- record i of a log, if it has room for it
unfoldable pub log_noted : (log : List ℕ) → (i : ℕ) → Tag → List ℕ
log_noted log i τ = cond (ltb i (length log / log_width)) (put_row log_width log i (encode_activity τ)) log

-- a log that took the records of these tags, as many as it has room for
unfoldable pub recorded : List Tag → (lent : List ℕ) → List ℕ
recorded τs lent = written_over encode_activity (take (length lent / log_width) τs) lent

-- a run left arrays, ledger and cells, from which another may go on, and its answer tells its end
pub record Proceeded (e : End Refusal Tag ℤ) (r : Answer) (g : List Instruction) (tables links flags ledger' cells' : List ℕ) (used : ℕ) (ledger cells : List ℕ) : Type 0 where
  pub outcome : Outcome Refusal
  pub told : outcome_of outcome ≡ r.outcome
  pub ends : e ≡ end (machine_over g tables ledger cells) outcome r.firings (state_in ledger' cells' r.tokens)
  pub running : Running g tables links flags ledger' cells' r.tokens
  pub grown : used ≤ r.tokens
  pub size : length ledger' ≡ length ledger
  pub rest : drop (r.tokens * token_width) ledger' ≡ drop (r.tokens * token_width) ledger
  pub cell_size : length cells' ≡ length cells

-- ---- with a bound (02, R-9)

-- "If only held ones remain, the answer is hung, at a used-up budget too.": the answer of the turns, and what is made of it
pub data Settled (tables flags held ledger : List ℕ) (own r : Answer) : Type 0 where
  rests_there : length (places (minus flags held)) ≡ 0 → (o : AnswerOutcome.Outcome) → EndsWith o tables (tokens own.tokens ledger)
      → r ≡ record { outcome = o; firings = own.firings; tokens = own.tokens } → Settled tables flags held ledger own r
  as_it_was : ¬ (length (places (minus flags held)) ≡ 0) → r ≡ own → Settled tables flags held ledger own r

-- the end of a run with a bound, which is none where it is 0, and its log
abbrev pub end_bounded : (bound : ℕ) → (picks : List ℕ) → List Instruction → (tables ledger cells : List ℕ) → (used budget : ℕ) → End Refusal Tag ℤ
end_bounded k picks g tables ledger cells used budget =
    let M = machine_over g tables ledger cells in
    run_bounded M (held_in g k) (by_picks M) budget (picks_of picks) 0 (state_in ledger cells used)

abbrev pub fired_bounded : (bound : ℕ) → (picks : List ℕ) → List Instruction → (tables ledger cells : List ℕ) → (used budget : ℕ) → List Tag
fired_bounded k picks g tables ledger cells used budget =
    let M = machine_over g tables ledger cells in
    log_bounded M (held_in g k) (by_picks M) budget (picks_of picks) (state_in ledger cells used)

-- the end of a run by an order, settled where the order has a bound
abbrev pub end_by : Order → (source : List ℕ) → List Instruction → (tables ledger cells : List ℕ) → (used budget : ℕ) → End Refusal Tag ℤ
end_by Orders.Oldest source g tables ledger cells used budget = end_of Orders.Oldest source g tables ledger cells used budget
end_by Orders.Picks source g tables ledger cells used budget = end_of Orders.Picks source g tables ledger cells used budget
end_by Orders.Log source g tables ledger cells used budget = end_of Orders.Log source g tables ledger cells used budget
end_by (Orders.Free k) source g tables ledger cells used budget = end_bounded k source g tables ledger cells used budget

-- from the inputs, in the words of the rules
abbrev pub end_from_inputs : (bound : ℕ) → (picks : List ℕ) → (budget : ℕ) → (graph arrays inputs ledger cells : List ℕ) → End Refusal Tag ℤ
end_from_inputs k picks budget graph arrays inputs ledger cells =
    let M = machine_lent graph arrays ledger cells in
    run_bounded M (held_in (graph_of graph) k) (by_picks M) budget (picks_of picks) 0 (first_state inputs (length cells / cell_width))

abbrev pub fired_from_inputs : (bound : ℕ) → (picks : List ℕ) → (budget : ℕ) → (graph arrays inputs ledger cells : List ℕ) → List Tag
fired_from_inputs k picks budget graph arrays inputs ledger cells =
    let M = machine_lent graph arrays ledger cells in
    log_bounded M (held_in (graph_of graph) k) (by_picks M) budget (picks_of picks) (first_state inputs (length cells / cell_width))
