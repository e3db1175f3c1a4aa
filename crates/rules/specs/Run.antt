-- 01, "Firing" and "The answer and the refusals": a run over bytes, what it answers, and what it leaves in ledger and cells. Assumes nothing.
use Rattle.std.specs.Prelude.{ℕ, ◌/◌, ◌≡◌, List, map, length, replicate, ℤ, Ok, Err}
use Rattle.record.specs.declared.tag.Tag.{Tag}
use Rattle.record.specs.declared.token.Token as Record
use Rattle.record.specs.declared.token.Content as RecordContent
use Rattle.record.specs.declared.token.Content.TheVariants.{Live, Spent, Deferred}
use Rattle.record.specs.declared.cell.Cell as RecordCell
use Rattle.record.specs.declared.cell.Cell.TheVariants.{Absent, Waiting, Present}
use Rattle.number.specs.Number.{number16}
use Rattle.buffer.specs.Rows.{all_rows, written_over}
use Rattle.record.specs.GraphRecords.{graph_of}
use Rattle.record.specs.Arrays.{arrays_of}
use Rattle.record.specs.TokensAndTags.{capacity_of, ledger_of}
use Rattle.record.specs.TokensAndTags as Tokens
use Rattle.record.specs.Cells as Cells
use Rattle.record.specs.Widths.{token_width, cell_width, pick_width}
use Rattle.machine.specs.Machine.{Content, live, spent, deferred, Token, Cell, absent, waiting, present, State, Outcome, completed, hung, budget_spent, refused, End, run}
use Rattle.rules.specs.declared.answer.Refusal.{Refusal}
use Rattle.rules.specs.declared.answer.Outcome as AnswerOutcome
use Rattle.rules.specs.declared.answer.Outcome.TheVariants as Outcomes
use Rattle.rules.specs.declared.answer.Answer.{Answer}
use Rattle.rules.specs.Answer.{values_of}
use Rattle.rules.specs.Check.{check, Checked}
use Rattle.rules.specs.InstructionSet.{machine_of}

-- ---- tokens and cells of records, and of the machine

abbrev pub content_held : RecordContent.Content → Content ℤ
content_held (Live v) = live v
content_held (Spent v) = spent v
content_held (Deferred c) = deferred c

abbrev pub content_record : Content ℤ → RecordContent.Content
content_record (live v) = Live v
content_record (spent v) = Spent v
content_record (deferred c) = Deferred c

abbrev pub token_held : Record.Token → Token Tag ℤ
token_held t = record { key = record { tag = t.tag; port = t.port }; content = content_held t.content }

abbrev pub token_record : Token Tag ℤ → Record.Token
token_record t = record { tag = t.key.tag; port = t.key.port; content = content_record t.content }

abbrev pub cell_held : RecordCell.Cell → Cell ℤ
cell_held Absent = absent
cell_held Waiting = waiting
cell_held (Present v) = present v

abbrev pub cell_record : Cell ℤ → RecordCell.Cell
cell_record absent = Absent
cell_record waiting = Waiting
cell_record (present v) = Present v

-- ---- a run

-- "An accepted run first sets all cells absent and writes its inputs to the ledger."
unfoldable pub first_state : (inputs : List ℕ) → (cells : ℕ) → State Tag ℤ
first_state inputs n = record { tokens = map token_held (all_rows token_width Tokens.decode_token inputs); cells = replicate n absent }

-- "each pick [is an] unsigned 16-bit number"
unfoldable pub picks_of : List ℕ → List ℕ
picks_of l = all_rows pick_width (λ b. number16 b 0) l

-- refused before any firing is tried, or run to an end
pub data Result : Type 0 where
  refused_at_once : Refusal → (place : ℕ) → Result
  ran_to : End Refusal Tag ℤ → Result

unfoldable pub unless_failed : Checked → Result → Result
unless_failed (Ok _) x = x
unless_failed (Err fault) x = refused_at_once fault.refusal fault.place

-- ledger and cells by their lengths in bytes
unfoldable pub result : (graph arrays inputs picks : List ℕ) → (budget ledger cells : ℕ) → Result
result graph arrays inputs picks budget ledger cells =
    unless_failed (check graph arrays inputs picks ledger cells)
    (ran_to (run (machine_of (graph_of graph) (arrays_of arrays) (capacity_of ledger) (cells / cell_width)) budget (picks_of picks) (first_state inputs (cells / cell_width))))

-- ---- what it answers

abbrev pub outcome_of : Outcome Refusal → AnswerOutcome.Outcome
outcome_of completed = Outcomes.Completed
outcome_of hung = Outcomes.Hung
outcome_of budget_spent = Outcomes.Spent
outcome_of (refused r place) = Outcomes.Refused r place

-- "All these answer 0 firings and 0 tokens"; later "Firings are those done, the refused one not counted"
unfoldable pub answer : Result → Answer
answer (refused_at_once r p) = record { outcome = Outcomes.Refused r p; firings = 0; tokens = 0 }
answer (ran_to e) = record { outcome = outcome_of e.outcome; firings = e.firings; tokens = length e.state.tokens }

-- ---- what it leaves: "bytes past what is written stay as lent"

unfoldable pub ledger_after : Result → (lent : List ℕ) → List ℕ
ledger_after (refused_at_once r p) lent = lent
ledger_after (ran_to e) lent = ledger_of (map token_record e.state.tokens) lent

unfoldable pub cells_after : Result → (lent : List ℕ) → List ℕ
cells_after (refused_at_once r p) lent = lent
cells_after (ran_to e) lent = written_over Cells.encode_cell (map cell_record e.state.cells) lent

-- what a run promises: its answer, also in 01's numbers, and the end contents of ledger and cells
pub record Ran (x : Result) (r : Answer) (ledger ledger' cells cells' : List ℕ) : Type 0 where
  pub answered : r ≡ answer x
  pub numbers : values_of r ≡ values_of (answer x)
  pub ledger_left : ledger' ≡ ledger_after x ledger
  pub cells_left : cells' ≡ cells_after x cells
