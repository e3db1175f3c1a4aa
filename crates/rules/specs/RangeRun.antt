-- 02, R-11: a range run over bytes, what it answers and what it leaves. "Here every token and cell record has a low and a high value, the high in 4 further bytes at
-- its end, the cell number in both if deferred." Without its end each is the plain record of the low value. Assumes nothing.
use Rattle.std.specs.Prelude.{ℕ, ◌/◌, ◌≡◌, Bool, not, ◌&&◌, List, ◌++◌, length, take, replicate, leb, ℤ, Ok, Err}
use Rattle.std.specs.Int.Signed.{le_z}
use Rattle.record.specs.declared.tag.Tag.{Tag}
use Rattle.record.specs.declared.token.Token as Record
use Rattle.record.specs.declared.token.Content as RecordContent
use Rattle.record.specs.declared.token.Content.TheVariants.{Live, Spent, Deferred}
use Rattle.record.specs.declared.cell.Cell.TheVariants.{Absent, Waiting, Present}
use Rattle.record.specs.declared.instruction.Instruction.{Instruction}
use Rattle.number.specs.Number.{number32, signed_of, bits_of, bytes32}
use Rattle.buffer.specs.Rows.{whole, all_rows, written_over}
use Rattle.record.specs.GraphRecords.{graph_of}
use Rattle.record.specs.Arrays.{arrays_of}
use Rattle.record.specs.TokensAndTags.{most_tokens}
use Rattle.record.specs.TokensAndTags as Tokens
use Rattle.record.specs.Cells as Cells
use Rattle.record.specs.Widths.{range_token_width, range_cell_width, token_width, value_offset, pick_width}
use Rattle.arithmetic.specs.declared.Range.{Range}
use Rattle.machine.specs.Machine.{Content, live, spent, deferred, Token, Cell, absent, waiting, present, State, End, by_picks}
use Rattle.machine.specs.Bounded.{run_bounded}
use Rattle.rules.specs.declared.answer.Refusal.{Refusal}
use Rattle.rules.specs.declared.answer.Refusal.TheVariants.{BadInput, BadStore, LedgerFull, SecondToken, Undecided}
use Rattle.rules.specs.declared.answer.Outcome.TheVariants as Outcomes
use Rattle.rules.specs.declared.answer.Answer.{Answer}
use Rattle.rules.specs.Answer.{values_of}
use Rattle.rules.specs.Check.{demand, ◌and_then◌, in_turn, good_input, second_input, most_cells, check_with, Checked}
use Rattle.rules.specs.Run.{picks_of, outcome_of}
use Rattle.rules.specs.Held.{held_in}
use Rattle.rules.specs.Bounded.{and_bound}
use Rattle.rules.specs.RangeSet.{range_machine_of}

-- ---- records

-- of the token record that l starts with
abbrev pub range_in : List ℕ → Range
range_in l = record { low = signed_of (number32 l value_offset); high = signed_of (number32 l token_width) }

abbrev pub with_high : ℤ → RecordContent.Content → Content Range
with_high high (Live low) = live (record { low = low; high = high })
with_high high (Spent low) = spent (record { low = low; high = high })
with_high high (Deferred c) = deferred c

unfoldable pub decode_range : List ℕ → Token Tag Range
decode_range l =
    let t = Tokens.decode_token l in
    record { key = record { tag = t.tag; port = t.port }; content = with_high (signed_of (number32 l token_width)) t.content }

-- the plain record of the low value
abbrev pub low_content : Content Range → RecordContent.Content
low_content (live r) = Live r.low
low_content (spent r) = Spent r.low
low_content (deferred c) = Deferred c

abbrev pub low_token : Token Tag Range → Record.Token
low_token t = record { tag = t.key.tag; port = t.key.port; content = low_content t.content }

abbrev pub high_bits : Content Range → ℕ
high_bits (live r) = bits_of r.high
high_bits (spent r) = bits_of r.high
high_bits (deferred c) = c

unfoldable pub encode_range : Token Tag Range → List ℕ
encode_range t = Tokens.encode_token (low_token t) ++ bytes32 (high_bits t.content)

-- "The value is 0 until present.", the high one too
unfoldable pub encode_range_cell : Cell Range → List ℕ
encode_range_cell absent = Cells.encode_cell Absent ++ bytes32 0
encode_range_cell waiting = Cells.encode_cell Waiting ++ bytes32 0
encode_range_cell (present r) = Cells.encode_cell (Present r.low) ++ bytes32 (bits_of r.high)

abbrev pub range_capacity_of : (length : ℕ) → ℕ
range_capacity_of n = n / range_token_width

-- ---- what is refused before any firing

unfoldable pub check_range_stores : (inputs picks ledger cells : ℕ) → Checked
check_range_stores inputs picks ledger cells =
    demand (whole range_token_width most_tokens inputs && (whole pick_width most_tokens picks && (whole range_token_width most_tokens ledger && whole range_cell_width most_cells cells))) BadStore 0

abbrev pub is_proper_range : Range → Bool
is_proper_range r = le_z r.low r.high

-- 23: "also, after 6 of all inputs, an input whose low exceeds its high"
unfoldable pub check_range_inputs : List Instruction → (capacity : ℕ) → (inputs : List ℕ) → Checked
check_range_inputs g capacity inputs =
    let ts = all_rows range_token_width Tokens.decode_token inputs in
    in_turn (λ i good. demand good BadInput i) 0 (all_rows range_token_width (good_input g) inputs)
    and_then in_turn (λ i r. demand (is_proper_range r) Undecided i) 0 (all_rows range_token_width range_in inputs)
    and_then demand (leb (length ts) capacity) LedgerFull capacity
    and_then in_turn (λ i t. demand (not (second_input (take i ts) t)) SecondToken i) 0 ts

-- 21 and 22 stand where they do for a run with a bound and a table
unfoldable pub check_ranges : (graph arrays inputs picks : List ℕ) → (bound ledger cells : ℕ) → Checked
check_ranges graph arrays inputs picks k ledger cells =
    check_with graph arrays (cells / range_cell_width)
    (and_bound (check_range_stores (length inputs) (length picks) ledger cells) k)
    (check_range_inputs (graph_of graph) (range_capacity_of ledger) inputs)

-- ---- a run

unfoldable pub first_ranges : (inputs : List ℕ) → (cells : ℕ) → State Tag Range
first_ranges inputs n = record { tokens = all_rows range_token_width decode_range inputs; cells = replicate n absent }

pub data RangeResult : Type 0 where
  refused_at_once : Refusal → (place : ℕ) → RangeResult
  ran_to : End Refusal Tag Range → RangeResult

unfoldable pub ranges_unless_failed : Checked → RangeResult → RangeResult
ranges_unless_failed (Ok _) x = x
ranges_unless_failed (Err fault) x = refused_at_once fault.refusal fault.place

-- ledger and cells by their lengths in bytes; bound 0 is none
unfoldable pub range_result : (graph arrays inputs picks : List ℕ) → (budget bound ledger cells : ℕ) → RangeResult
range_result graph arrays inputs picks budget k ledger cells =
    let M = range_machine_of (graph_of graph) (arrays_of arrays) (range_capacity_of ledger) (cells / range_cell_width) in
    ranges_unless_failed (check_ranges graph arrays inputs picks k ledger cells)
    (ran_to (run_bounded M (held_in (graph_of graph) k) (by_picks M) budget (picks_of picks) 0 (first_ranges inputs (cells / range_cell_width))))

unfoldable pub range_answer : RangeResult → Answer
range_answer (refused_at_once r p) = record { outcome = Outcomes.Refused r p; firings = 0; tokens = 0 }
range_answer (ran_to e) = record { outcome = outcome_of e.outcome; firings = e.firings; tokens = length e.state.tokens }

unfoldable pub range_ledger_after : RangeResult → (lent : List ℕ) → List ℕ
range_ledger_after (refused_at_once r p) lent = lent
range_ledger_after (ran_to e) lent = written_over encode_range e.state.tokens lent

unfoldable pub range_cells_after : RangeResult → (lent : List ℕ) → List ℕ
range_cells_after (refused_at_once r p) lent = lent
range_cells_after (ran_to e) lent = written_over encode_range_cell e.state.cells lent

-- what it promises: its answer, also in 01's numbers, and the end contents of ledger and cells
pub record RangesRan (x : RangeResult) (r : Answer) (ledger ledger' cells cells' : List ℕ) : Type 0 where
  pub answered : r ≡ range_answer x
  pub numbers : values_of r ≡ values_of (range_answer x)
  pub ledger_left : ledger' ≡ range_ledger_after x ledger
  pub cells_left : cells' ≡ range_cells_after x cells
