-- 02, R-8: "A run that gave neither 7 nor 14 answers as it did, with its inputs converted and buffers of as many records." The rules before R-8, in so far as
-- they differ, and the statements; they are proved in proofs/Before. Assumes nothing.
use Rattle.std.specs.Prelude.{ℕ, ◌*◌, ◌/◌, ◌%◌, ◌^◌, ◌≡◌, Bool, ◌&&◌, ◌||◌, not, cond, List, [], ◌∷◌, ◌++◌, map, length, take, replicate, eqb, leb, ltb, ℤ}
use Rattle.number.specs.Number.{byte_at, number16, number32, number64, bytes16, bytes32, bytes64}
use Rattle.buffer.specs.Rows.{all_rows, whole, written_over}
use Rattle.record.specs.declared.array.NamedArray.{NamedArray}
use Rattle.record.specs.declared.tag.Tag.{Tag}
use Rattle.record.specs.declared.token.Token as Record
use Rattle.record.specs.declared.instruction.Instruction.{Instruction}
use Rattle.record.specs.Paths.{path_number}
use Rattle.record.specs.Arrays.{arrays_of}
use Rattle.record.specs.GraphRecords.{graph_of}
use Rattle.record.specs.TokensAndTags.{content_of, value_field, state_of, most_tokens}
use Rattle.record.specs.Widths.{token_width, cell_width, pick_width, log_width}
use Rattle.machine.specs.Machine.{absent, refuse, State, Machine, by_picks, run}
use Rattle.machine.specs.Sequences.{log_of}
use Rattle.machine.specs.Agreement.{with_instructions}
use Rattle.rules.specs.declared.answer.Refusal.TheVariants as Refusals
use Rattle.rules.specs.declared.answer.Outcome.TheVariants.{Refused}
use Rattle.rules.specs.declared.answer.Answer.{Answer}
use Rattle.rules.specs.Check.{demand, ◌and_then◌, in_turn, instruction_at, operands_at, most_cells, second_input, check_with, Checked}
use Rattle.rules.specs.InstructionSet.{EffectHere, effect_in, arity_in, machine_of}
use Rattle.rules.specs.Run.{token_held, token_record, picks_of, Result, refused_at_once, ran_to, unless_failed, result, answer, ledger_after}
use Rattle.rules.specs.Log.{LogResult, log_unless_failed, logged, log_after}
use Rattle.convert.specs.Convert.{token_rest, log_rest, converted}

-- ---- records: "A token record has 20 bytes: path (0-7), iteration (8), port (9), instruction (10-11), signed value (12-15), state (16), zeros (17-19)."

abbrev pub old_width : ℕ
old_width = 20

unfoldable pub decode_before : List ℕ → Record.Token
decode_before l = record {
  tag = record { path = record { low = number64 l 0; high = 0 }; iteration = byte_at l 8; instruction = number16 l 10 };
  port = byte_at l 9;
  content = content_of (number32 l 12) (byte_at l 16);
}

unfoldable pub encode_before : Record.Token → List ℕ
encode_before t =
    bytes64 t.tag.path.low ++ t.tag.iteration ∷ t.port ∷ bytes16 t.tag.instruction ++ bytes32 (value_field t.content) ++ state_of t.content ∷ 0 ∷ 0 ∷ 0 ∷ []

unfoldable pub is_input_before : List ℕ → Bool
is_input_before l = eqb (number64 l 0) 0 && (eqb (byte_at l 8) 0 && eqb (number32 l 16) 0)

-- R-7: "one 12-byte record a firing: path, iteration, a zero byte, instruction"
abbrev pub old_log_width : ℕ
old_log_width = 12

unfoldable pub encode_tag_before : Tag → List ℕ
encode_tag_before τ = bytes64 τ.path.low ++ τ.iteration ∷ 0 ∷ bytes16 τ.instruction

-- ---- the checks that look at such records

unfoldable pub good_input_before : List Instruction → List ℕ → Bool
good_input_before g l = is_input_before l && ltb (byte_at l 9) (operands_at g (number16 l 10))

unfoldable pub check_stores_before : (inputs picks ledger cells : ℕ) → Checked
check_stores_before inputs picks ledger cells =
    demand (whole old_width most_tokens inputs && (whole pick_width most_tokens picks && (whole old_width most_tokens ledger && whole cell_width most_cells cells))) Refusals.BadStore 0

unfoldable pub check_inputs_before : List Instruction → (capacity : ℕ) → (inputs : List ℕ) → Checked
check_inputs_before g capacity inputs =
    let ts = all_rows old_width decode_before inputs in
    in_turn (λ i good. demand good Refusals.BadInput i) 0 (all_rows old_width (good_input_before g) inputs)
    and_then demand (leb (length ts) capacity) Refusals.LedgerFull capacity
    and_then in_turn (λ i t. demand (not (second_input (take i ts) t)) Refusals.SecondToken i) 0 ts

unfoldable pub check_before : (graph arrays inputs picks : List ℕ) → (ledger cells : ℕ) → Checked
check_before graph arrays inputs picks ledger cells =
    check_with graph arrays (cells / cell_width)
    (check_stores_before (length inputs) (length picks) ledger cells)
    (check_inputs_before (graph_of graph) (ledger / old_width) inputs)

-- ---- the machine: "Four levels at most." 14: "ENTER at four levels". ENTER has code 8, and a path of four levels or more is at least 65,536 to the third

unfoldable pub at_four_levels : List Instruction → Tag → Bool
at_four_levels g τ = eqb (instruction_at g τ.instruction).code 8 && leb (65536 ^ 3) (path_number τ.path)

unfoldable pub effect_before : List Instruction → List NamedArray → (cells : ℕ) → Tag → (a b : ℤ) → EffectHere
effect_before g table cells τ a b = cond (at_four_levels g τ) (refuse Refusals.TooDeep) (effect_in g table cells τ a b)

abbrev pub machine_before : List Instruction → List NamedArray → (capacity cells : ℕ) → Machine
machine_before g table capacity cells = with_instructions (machine_of g table capacity cells) (arity_in g) (effect_before g table cells)

-- ---- the run

unfoldable pub first_state_before : (inputs : List ℕ) → (cells : ℕ) → State Tag ℤ
first_state_before inputs n = record { tokens = map token_held (all_rows old_width decode_before inputs); cells = replicate n absent }

unfoldable pub result_before : (graph arrays inputs picks : List ℕ) → (budget ledger cells : ℕ) → Result
result_before graph arrays inputs picks budget ledger cells =
    unless_failed (check_before graph arrays inputs picks ledger cells)
    (ran_to (run (machine_before (graph_of graph) (arrays_of arrays) (ledger / old_width) (cells / cell_width)) budget (picks_of picks) (first_state_before inputs (cells / cell_width))))

unfoldable pub ledger_before : Result → (lent : List ℕ) → List ℕ
ledger_before (refused_at_once r p) lent = lent
ledger_before (ran_to e) lent = written_over encode_before (map token_record e.state.tokens) lent

-- ---- a run that writes a log

-- R-7: "A log lent not whole or with fewer records than the budget, or than 2,048 if that is less, is refused by 7."
abbrev pub log_suffices_before : (budget lent : ℕ) → Bool
log_suffices_before budget lent = eqb (lent % old_log_width) 0 && (leb budget (lent / old_log_width) || leb most_tokens (lent / old_log_width))

unfoldable pub check_log_stores_before : (inputs picks ledger cells budget lent : ℕ) → Checked
check_log_stores_before inputs picks ledger cells budget lent =
    check_stores_before inputs picks ledger cells and_then demand (log_suffices_before budget lent) Refusals.BadStore 0

unfoldable pub check_logged_before : (graph arrays inputs picks : List ℕ) → (budget ledger cells lent : ℕ) → Checked
check_logged_before graph arrays inputs picks budget ledger cells lent =
    check_with graph arrays (cells / cell_width)
    (check_log_stores_before (length inputs) (length picks) ledger cells budget lent)
    (check_inputs_before (graph_of graph) (ledger / old_width) inputs)

unfoldable pub logged_before : (graph arrays inputs picks : List ℕ) → (budget ledger cells lent : ℕ) → LogResult
logged_before graph arrays inputs picks budget ledger cells lent =
    let M = machine_before (graph_of graph) (arrays_of arrays) (ledger / old_width) (cells / cell_width) in
    let s = first_state_before inputs (cells / cell_width) in
    log_unless_failed (check_logged_before graph arrays inputs picks budget ledger cells lent) (run M budget (picks_of picks) s) (log_of M (by_picks M) budget (picks_of picks) s)

unfoldable pub log_before : LogResult → (lent : List ℕ) → List ℕ
log_before x lent = written_over encode_tag_before x.log lent

-- ---- the claims

-- "A run that gave neither 7 nor 14"
pub record Neither7Nor14 (a : Answer) : Type 0 where
  pub not7 : (place : ℕ) → ¬ (a.outcome ≡ Refused Refusals.BadStore place)
  pub not14 : (place : ℕ) → ¬ (a.outcome ≡ Refused Refusals.TooDeep place)

-- how many bytes as many new records have
abbrev pub as_many : (old : ℕ) → ℕ
as_many old = old / old_width * token_width

-- "answers as it did, with its inputs converted and buffers of as many records": its end is the same one, so that the answer and the bytes of the cells are
abbrev pub KeepsResult : Type 0
KeepsResult = (graph arrays inputs picks : List ℕ) (budget ledger cells : ℕ) → Neither7Nor14 (answer (result_before graph arrays inputs picks budget ledger cells))
    → result graph arrays (converted token_rest inputs) picks budget (as_many ledger) cells ≡ result_before graph arrays inputs picks budget ledger cells

-- and a converted token_rest ledger is left as what was left, converted, in every byte
abbrev pub KeepsLedger : Type 0
KeepsLedger = (graph arrays inputs picks : List ℕ) (budget : ℕ) (ledger : List ℕ) (cells : ℕ) → Neither7Nor14 (answer (result_before graph arrays inputs picks budget (length ledger) cells))
    → ledger_after (result graph arrays (converted token_rest inputs) picks budget (as_many (length ledger)) cells) (converted token_rest ledger)
    ≡ converted token_rest (ledger_before (result_before graph arrays inputs picks budget (length ledger) cells) ledger)

-- the same of a run that writes a log: its end and the tags of its firings are the same ones
abbrev pub as_many_logs : (old : ℕ) → ℕ
as_many_logs old = old / old_log_width * log_width

abbrev pub KeepsLogged : Type 0
KeepsLogged = (graph arrays inputs picks : List ℕ) (budget ledger cells lent : ℕ) → Neither7Nor14 (answer (logged_before graph arrays inputs picks budget ledger cells lent).result)
    → logged graph arrays (converted token_rest inputs) picks budget (as_many ledger) cells (as_many_logs lent) ≡ logged_before graph arrays inputs picks budget ledger cells lent

-- and a log is left as what was left, its records widened, in every byte
abbrev pub KeepsLog : Type 0
KeepsLog = (graph arrays inputs picks : List ℕ) (budget ledger cells : ℕ) (log : List ℕ) → Neither7Nor14 (answer (logged_before graph arrays inputs picks budget ledger cells (length log)).result)
    → log_after (logged graph arrays (converted token_rest inputs) picks budget (as_many ledger) cells (as_many_logs (length log))) (converted log_rest log)
    ≡ converted log_rest (log_before (logged_before graph arrays inputs picks budget ledger cells (length log)) log)
