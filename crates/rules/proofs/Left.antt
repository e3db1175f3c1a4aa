-- Demands 1 and 2, proved (`demand1`, `demand2`): a refusal before any firing writes nothing; a refused firing leaves ledger and cells as it found them; bytes
-- past what is written stay as lent; a run first sets all cells absent and writes its inputs, and then fires by the rules. All of it follows from `result`,
-- `answer`, `ledger_after` and `cells_after`, by which the promise of `run` is made. Assumes nothing.
use Rattle.std.proofs.Common.{Ok, Err}
use Prim.Native.Nat.{ℕ, zero, suc, ◌*◌, ◌/◌, ◌%◌, ◌<◌, ◌≤◌}
use mathlib.Core.Path.{◌≡◌, refl, sym, ap, ◌∙◌}
use mathlib.Core.Bool.{true}
use mathlib.Core.List.{List, [], ◌∷◌, ◌++◌, map, append-nil}
use native.Mathlib.Omega.{arith}
use native.Mathlib.Nat.{suc-mul, add_comm}
use native.Mathlib.Decide.{dec_le}
use borrow.Author.Tests.{eqb-true}
use lib.Dec.{eqb, ltb}
use lib.IntN.{ℤ}
use lib.ListN.{length, take, drop, replicate, length-map, length-drop, length-replicate, replicate-append-replicate, drop_of_length-le}
use lib.Seq.{get_or-take, length-take-le, drop_at, take_all}
use Rattle.record.specs.declared.tag.Tag.{Tag}
use Rattle.record.specs.declared.token.Token as Record
use Rattle.record.specs.declared.token.Content.TheVariants.{Live, Spent, Deferred}
use Rattle.record.specs.declared.token.Content as RecordContent
use Rattle.record.specs.declared.instruction.Instruction.{Instruction}
use Rattle.number.specs.Number.{Bytes, byte_at, number32}
use Rattle.buffer.specs.Rows.{rows, all_rows, joined, written_over}
use Rattle.record.specs.GraphRecords.{graph_of}
use Rattle.record.specs.Paths.{is_root}
use Rattle.record.specs.TokensAndTags.{path_in, tag_in, port_in, is_input, most_tokens, capacity_of, ledger_of}
use Rattle.record.specs.Arrays.{arrays_of}
use Rattle.record.specs.TokensAndTags as Tokens
use Rattle.record.specs.Cells as Cells
use Rattle.record.proofs.Records.{token_bytes_back, token_front, length_token}
use Rattle.record.proofs.Fitting.{bytes_drop}
use Rattle.buffer.proofs.Tables.{length_joined, rows_raw}
use Rattle.record.specs.Widths.{token_width, cell_width}
use Rattle.machine.specs.Machine.{absent, refused, Machine, State, budget_spent, End, run}
use Rattle.machine.specs.Machine as Machine
use Rattle.machine.proofs.Refused.{refused_picks, run_zero_lem}
use Rattle.machine.proofs.Parts.{next_firing}
use Rattle.rules.specs.declared.answer.Refusal.{Refusal}
use Rattle.rules.specs.declared.answer.Refusal.TheVariants as Refusals
use Rattle.rules.specs.declared.answer.Outcome.TheVariants as Outcomes
use Rattle.rules.specs.Check.{demand, in_turn, good_input, operands_at, check_stores, check_arrays, check_inputs, check, most_cells, fault_at}
use Rattle.rules.specs.InstructionSet.{machine_of}
use Rattle.rules.specs.Run.{content_held, content_record, token_held, token_record, cell_record, first_state, picks_of, Result, refused_at_once, ran_to, outcome_of, unless_failed, result, answer, ledger_after, cells_after}
use Rattle.rules.specs.Demand1.{Untouched, AsBefore, Demand1}
use Rattle.rules.specs.Demand2.{Demand2}
use Rattle.rules.proofs.Passed.{both, demand_passed, and_then_passed, get_d_past}
use Rattle.rules.proofs.Accepted.{whole_bytes, stores_whole, accepted}

-- ---- "All these answer 0 firings and 0 tokens and write no buffer."

at_once_lem : (r : Refusal) (place : ℕ) (ledger cells : List ℕ) → Untouched (refused_at_once r place) r place ledger cells
unfolding answer ledger_after cells_after
at_once_lem r place ledger cells = record { answered = refl; ledger_left = refl; cells_left = refl }

-- for a refusal that the check finds, whatever ledger and cells held
refused_before_firing_lem : (graph arrays inputs picks : List ℕ) (budget : ℕ) (ledger cells : List ℕ) (r : Refusal) (place : ℕ) → check graph arrays inputs picks (length ledger) (length cells) ≡ Err (fault_at r place) → Untouched (result graph arrays inputs picks budget (length ledger) (length cells)) r place ledger cells
unfolding result unless_failed
refused_before_firing_lem graph arrays inputs picks budget ledger cells r place failed = rw failed (at_once_lem r place ledger cells)

-- ---- "Here and in every other buffer, bytes past what is written stay as lent."

-- the used records are as many as the answer has tokens
rest_as_lent_lem : (x : Result) (ledger : List ℕ) → drop ((answer x).tokens * token_width) (ledger_after x ledger) ≡ drop ((answer x).tokens * token_width) ledger
unfolding answer ledger_after
rest_as_lent_lem (refused_at_once r p) ledger = refl
rest_as_lent_lem (ran_to e) ledger =
    let ts = map token_record e.state.tokens in
    let n : length (joined Tokens.encode_token ts) ≡ length e.state.tokens * token_width = length_joined token_width Tokens.encode_token length_token ts ∙ ap (λ (k : ℕ). k * token_width) (length-map e.state.tokens token_record) in
    drop_at (joined Tokens.encode_token ts) _ (length e.state.tokens * token_width) n ∙ ap (λ (k : ℕ). drop k ledger) n

-- ---- a refused firing

as_before_lem : (e d : End Refusal Tag ℤ) → d ≡ record { outcome = budget_spent; firings = e.firings; state = e.state } → (ledger cells : List ℕ) → AsBefore (ran_to e) (ran_to d) ledger cells
unfolding answer ledger_after cells_after
as_before_lem e d same ledger cells = rw same (record { stopped = refl; ledger_left = refl; cells_left = refl })

refused_firing_lem : (graph arrays inputs picks : List ℕ) (budget : ℕ) (ledger cells : List ℕ) → check graph arrays inputs picks (length ledger) (length cells) ≡ Ok tt → (r : Refusal) (place : ℕ)
    → (answer (result graph arrays inputs picks budget (length ledger) (length cells))).outcome ≡ Outcomes.Refused r place
    → AsBefore (result graph arrays inputs picks budget (length ledger) (length cells))
    (result graph arrays inputs picks (answer (result graph arrays inputs picks budget (length ledger) (length cells))).firings (length ledger) (length cells))
    ledger cells
unfolding result unless_failed answer
refused_firing_lem graph arrays inputs picks budget ledger cells passed r place refusing =
    let M = machine_of (graph_of graph) (arrays_of arrays) (capacity_of (length ledger)) (length cells / cell_width) in
    let s = first_state inputs (length cells / cell_width) in
    let e = run M budget (picks_of picks) s in
    rw passed (as_before_lem e (run M e.firings (picks_of picks) s) (refused_picks M s budget (picks_of picks) r place (is_refused e.outcome r place (rw passed at refusing))) ledger cells)
  where
    is_refused : (o : Machine.Outcome Refusal) (q : Refusal) (p : ℕ) → outcome_of o ≡ Outcomes.Refused q p → o ≡ refused q p
    is_refused Machine.completed q p h = let z : ◌≡◌ {A = ℕ} 0 1 = cc in absurd (omega arith)
    is_refused Machine.hung q p h = let z : ◌≡◌ {A = ℕ} 0 1 = cc in absurd (omega arith)
    is_refused Machine.budget_spent q p h = let z : ◌≡◌ {A = ℕ} 0 1 = cc in absurd (omega arith)
    is_refused (refused t n) q p h = cc

-- ---- "An accepted run first sets all cells absent and writes its inputs to the ledger."

-- the record that l starts with, written back
input_back : (l : List ℕ) → Bytes l → token_width ≤ length l → is_input l ≡ true → Tokens.encode_token (Tokens.decode_token l) ≡ take token_width l
unfolding is_input
input_back l b long good =
    let rest = (both (is_root (path_in l)) _ good).1 in
    let zeros : number32 l 24 ≡ 0 = eqb-true (number32 l 24) 0 (both (eqb (byte_at l 16) 0) _ rest).1 in
    let front : (k : ℕ) → k < token_width → byte_at (take token_width l) k ≡ byte_at l k = λ k h. get_or-take token_width l k 0 h in
    ap Tokens.encode_token (sym (token_front l))
    ∙ token_bytes_back (take token_width l) (record {
      size = length-take-le token_width l long;
      small = λ k. small k (dec_le (suc k) token_width);
      state = rw (front 24 (omega arith)) (omega arith);
      zeros = (rw (front 25 (omega arith)) (omega arith), rw (front 26 (omega arith)) (omega arith), rw (front 27 (omega arith)) (omega arith));
    })
  where
    small : (k : ℕ) → Dec (suc k ≤ token_width) → byte_at (take token_width l) k < 256
    small k (yes h) = rw (get_or-take token_width l k 0 h) (b k)
    small k (no n) = rw (get_d_past (take token_width l) k 0 (omega (arith, length-take-le token_width l long))) (omega arith)

inputs_back : (g : List Instruction) (n i : ℕ) (l : List ℕ) → Bytes l → n * token_width ≤ length l → in_turn (λ k good. demand good Refusals.BadInput k) i (rows token_width (good_input g) n l) ≡ Ok tt
    → joined Tokens.encode_token (rows token_width Tokens.decode_token n l) ≡ joined (λ (r : List ℕ). r) (rows token_width (take token_width) n l)
unfolding good_input
inputs_back g zero i l b long e = refl
inputs_back g (suc n) i l b long e =
    let parts = and_then_passed (demand (good_input g l) Refusals.BadInput i) _ e in
    let good = (both (is_input l) (ltb (port_in l) (operands_at g (tag_in l).instruction)) (demand_passed (good_input g l) Refusals.BadInput i parts.0)).0 in
    let later = inputs_back g n (suc i) (drop token_width l) (bytes_drop token_width l b) (omega (arith, length-drop token_width l, suc-mul n token_width)) parts.1 in
    λ j. input_back l b (omega (arith, suc-mul n token_width)) good j ++ later j

held_back : (ts : List Record.Token) → map token_record (map token_held ts) ≡ ts
held_back [] = refl
held_back (t ∷ ts) = λ j. record { tag = t.tag; port = t.port; content = content t.content j } ∷ held_back ts j
  where
    content : (x : RecordContent.Content) → content_record (content_held x) ≡ x
    content (Live v) = refl
    content (Spent v) = refl
    content (Deferred c) = refl

absent_bytes : (n : ℕ) → joined Cells.encode_cell (map cell_record (replicate n absent)) ≡ replicate (n * cell_width) 0
unfolding Cells.encode_cell
absent_bytes zero = refl
absent_bytes (suc n) = rw (absent_bytes n, suc-mul n 8, add_comm (n * cell_width) 8) (replicate-append-replicate 8 (n * cell_width) 0)

-- of an end in the first state, whatever comes to it
pub first_left : (g : List Instruction) (capacity : ℕ) (e : End Refusal Tag ℤ) (inputs ledger cells : List ℕ) → e.state ≡ first_state inputs (length cells / cell_width) → Bytes inputs
    → length inputs % token_width ≡ 0 → length cells % cell_width ≡ 0 → check_inputs g capacity inputs ≡ Ok tt
    → (ledger_after (ran_to e) ledger ≡ inputs ++ drop (length inputs) ledger) × (cells_after (ran_to e) cells ≡ replicate (length cells) 0)
unfolding ledger_after cells_after first_state check_inputs
first_left g capacity e inputs ledger cells state b wi wc passed =
    let n = length inputs / token_width in
    let s = first_state inputs (length cells / cell_width) in
    let good = (and_then_passed (in_turn (λ k ok. demand ok Refusals.BadInput k) 0 (all_rows token_width (good_input g) inputs)) _ passed).0 in
    let tokens : joined Tokens.encode_token (map token_record s.tokens) ≡ inputs =
    ap (joined Tokens.encode_token) (held_back (all_rows token_width Tokens.decode_token inputs)) ∙ inputs_back g n 0 inputs b (omega arith) good ∙ rows_raw token_width n inputs ∙ take_all (n * token_width) inputs (omega arith) in
    let none : List ℕ = replicate (length cells) 0 in
    let bytes : length cells / cell_width * cell_width ≡ length cells = omega arith in
    let zeros : joined Cells.encode_cell (map cell_record s.cells) ≡ none = absent_bytes (length cells / cell_width) ∙ ap (λ (k : ℕ). replicate k 0) bytes in
    let long : length cells ≤ length none = omega (arith, length-replicate {A = ℕ} (length cells) 0) in
    let rest : drop (length none) cells ≡ [] = drop_of_length-le cells long in (
      ap (λ (x : State Tag ℤ). ledger_of (map token_record x.tokens) ledger) state ∙ ap (λ (l : List ℕ). l ++ drop (length l) ledger) tokens,
      ap (λ (x : State Tag ℤ). written_over Cells.encode_cell (map cell_record x.cells) cells) state
          ∙ ap (λ (l : List ℕ). l ++ drop (length l) cells) zeros
          ∙ ap (λ (l : List ℕ). none ++ l) rest
          ∙ append-nil none,
    )

-- before the first firing the ledger has the inputs' bytes and then what it was lent with, and every byte of the cells is 0
accepted_first : (graph arrays inputs picks : List ℕ) (ledger cells : List ℕ) → Bytes inputs → check graph arrays inputs picks (length ledger) (length cells) ≡ Ok tt
    → (ledger_after (result graph arrays inputs picks 0 (length ledger) (length cells)) ledger ≡ inputs ++ drop (length inputs) ledger)
    × (cells_after (result graph arrays inputs picks 0 (length ledger) (length cells)) cells ≡ replicate (length cells) 0)
unfolding result unless_failed check
accepted_first graph arrays inputs picks ledger cells b passed =
    let (stores, (named, a)) = accepted graph inputs (capacity_of (length ledger)) (check_stores (length inputs) (length picks) (length ledger) (length cells)) (check_arrays (graph_of graph) (length cells / cell_width) arrays) passed in
    let wholes = stores_whole (length inputs) (length picks) (length ledger) (length cells) stores in
    let M = machine_of (graph_of graph) (arrays_of arrays) (capacity_of (length ledger)) (length cells / cell_width) in
    let s = first_state inputs (length cells / cell_width) in
    rw passed (first_left (graph_of graph) (capacity_of (length ledger)) (run M 0 (picks_of picks) s) inputs ledger cells (run_zero_lem M s (picks_of picks)) b
    (whole_bytes token_width most_tokens (length inputs) wholes.whole_inputs).0 (whole_bytes cell_width most_cells (length cells) wholes.whole_cells).0 a.inputs_passed)

-- ---- the demands

pub demand1 : Demand1
demand1 graph arrays inputs picks ledger cells budget = record {
  refused_before_firing = refused_before_firing_lem graph arrays inputs picks budget ledger cells;
  refused_firing = refused_firing_lem graph arrays inputs picks budget ledger cells;
  rest_as_lent = rest_as_lent_lem (result graph arrays inputs picks budget (length ledger) (length cells)) ledger;
}

ended_at : {x y : End Refusal Tag ℤ} → ran_to x ≡ ran_to y → x ≡ y
ended_at e = cc

pub demand2 : Demand2
unfolding result unless_failed
demand2 graph arrays inputs picks ledger cells b passed = record {
  starts = accepted_first graph arrays inputs picks ledger cells b passed;
  fires = λ n budget less x a more stopped some.
      rw passed
      (ap ran_to (next_firing (machine_of (graph_of graph) (arrays_of arrays) (capacity_of (length ledger)) (length cells / cell_width)) (first_state inputs (length cells / cell_width)) (picks_of picks) n budget less x a more (ended_at (rw passed at stopped)) some));
}
