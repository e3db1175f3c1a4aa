-- R-12 over the rules: with room for its tokens a run that completed or hung ends the same (`enough_room`), with less every order is refused by 8 (`too_small`).
-- Assumes nothing.
use Rattle.std.proofs.Common.{Ok, Err}
use Prim.Native.Nat.{ℕ, ◌/◌, ◌≤◌, ◌<◌}
use mathlib.Core.Path.{◌≡◌, refl, ap}
use mathlib.Core.List.{List}
use mathlib.Core.Bool.{true}
use native.Mathlib.Decide.{dec_le}
use native.Mathlib.Omega.{arith}
use borrow.Author.Tests.{le-leb, lt-leb}
use lib.ListN.{length}
use lib.IntN.{ℤ}
use lib.Dec.{leb}
use Rattle.record.specs.declared.tag.Tag.{Tag}
use Rattle.record.specs.declared.instruction.Instruction.{Instruction}
use Rattle.buffer.specs.Rows.{all_rows, whole}
use Rattle.record.specs.GraphRecords.{graph_of}
use Rattle.record.specs.Arrays.{arrays_of}
use Rattle.record.specs.TokensAndTags.{most_tokens, capacity_of}
use Rattle.record.specs.TokensAndTags as Tokens
use Rattle.record.specs.Widths.{token_width, cell_width}
use Rattle.machine.specs.Machine.{Machine, State, End, by_picks, run}
use Rattle.machine.specs.Orders.{Quiescent, RefusedBy}
use Rattle.machine.proofs.Orders.{by_picks_lawful}
use Rattle.machine.proofs.Reached.{reached_picks, reached_count}
use Rattle.machine.proofs.Capacity as Machines
use Rattle.rules.specs.declared.answer.Refusal.{Refusal}
use Rattle.rules.specs.declared.answer.Refusal.TheVariants.{BadInput, LedgerFull}
use Rattle.rules.specs.Check.{demand, in_turn, good_input, check_stores, check_arrays, check_inputs, check, Checked, fault_at}
use Rattle.rules.specs.InstructionSet.{machine_of}
use Rattle.rules.specs.Run.{first_state, picks_of, ran_to, unless_failed, result, answer}
use Rattle.rules.specs.Orders.{result_outcome, Allowed}
use Rattle.rules.proofs.Passed.{and_then_passed}
use Rattle.rules.proofs.Inputs.{tokens_first}
use Rattle.rules.proofs.Accepted.{whole_bytes, Whole, stores_whole, Accepted, accepted, law, good}

-- ---- the claims

-- a run that "completed or hung with t tokens, budget 2,048: with any capacity from t to 2,048 and equal picks the end is the same": what it answers, and what
-- it leaves in the records that it uses
abbrev pub EnoughRoomOfResults : Type 0
EnoughRoomOfResults = (graph arrays inputs picks : List ℕ) (ledger ledger' cells : ℕ) → Quiescent (result_outcome (result graph arrays inputs picks 2048 ledger cells))
    → whole token_width most_tokens ledger' ≡ true → (answer (result graph arrays inputs picks 2048 ledger cells)).tokens ≤ capacity_of ledger'
    → result graph arrays inputs picks 2048 ledger' cells ≡ result graph arrays inputs picks 2048 ledger cells

-- "with any smaller one every order is refused by 8"
abbrev pub TooSmallOfResults : Type 0
TooSmallOfResults = (graph arrays inputs picks picks' : List ℕ) (ledger ledger' cells : ℕ) → Quiescent (result_outcome (result graph arrays inputs picks 2048 ledger cells))
    → Allowed picks' ledger' cells → capacity_of ledger' < (answer (result graph arrays inputs picks 2048 ledger cells)).tokens
    → RefusedBy LedgerFull (result_outcome (result graph arrays inputs picks' 2048 ledger' cells))

-- ---- inputs and another capacity

module _ (g : List Instruction) (capacity n : ℕ) (inputs : List ℕ) (passed : check_inputs g capacity inputs ≡ Ok tt) where
  -- inputs that fit pass
  inputs_fit : length (all_rows token_width Tokens.decode_token inputs) ≤ n → check_inputs g n inputs ≡ Ok tt
  unfolding check_inputs
  inputs_fit l =
      let ts = all_rows token_width Tokens.decode_token inputs in
      let parts = and_then_passed (in_turn (λ i ok. demand ok BadInput i) 0 (all_rows token_width (good_input g) inputs)) _ passed in
      let later = and_then_passed (demand (leb (length ts) capacity) LedgerFull capacity) _ parts.1 in
      rw (parts.0, le-leb (length ts) n l) later.1

  -- and those that do not are refused by 8
  inputs_exceed : n < length (all_rows token_width Tokens.decode_token inputs) → check_inputs g n inputs ≡ Err (fault_at LedgerFull n)
  unfolding check_inputs
  inputs_exceed l =
      let ts = all_rows token_width Tokens.decode_token inputs in
      let parts = and_then_passed (in_turn (λ i ok. demand ok BadInput i) 0 (all_rows token_width (good_input g) inputs)) _ passed in
      rw (parts.0, lt-leb (length ts) n l)

-- ---- a run that completed or hung

module _ (graph arrays inputs picks : List ℕ) (ledger cells : ℕ) (rests : Quiescent (result_outcome (result graph arrays inputs picks 2048 ledger cells))) where
  abbrev M : Machine
  M = machine_of (graph_of graph) (arrays_of arrays) (capacity_of ledger) (cells / cell_width)

  abbrev s : State Tag ℤ
  s = first_state inputs (cells / cell_width)

  abbrev e : End Refusal Tag ℤ
  e = run M 2048 (picks_of picks) s

  pub passes : check graph arrays inputs picks ledger cells ≡ Ok tt
  unfolding result unless_failed
  passes = go (check graph arrays inputs picks ledger cells) refl
    where
      go : (c : Checked) → check graph arrays inputs picks ledger cells ≡ c → c ≡ Ok tt
      go (Ok _) h = refl
      go (Err fault) h = absurd (rw h at rests)

  parts : (check_stores (length inputs) (length picks) ledger cells ≡ Ok tt) × ((check_arrays (graph_of graph) (cells / cell_width) arrays ≡ Ok tt) × Accepted graph inputs (capacity_of ledger))
  unfolding check
  parts = accepted graph inputs (capacity_of ledger) (check_stores (length inputs) (length picks) ledger cells) (check_arrays (graph_of graph) (cells / cell_width) arrays) passes

  wholes : Whole (length inputs) (length picks) ledger cells
  wholes = stores_whole (length inputs) (length picks) ledger cells parts.0

  quiet : Quiescent e.outcome
  unfolding result unless_failed
  quiet = rw passes at rests

  used : (answer (result graph arrays inputs picks 2048 ledger cells)).tokens ≡ length e.state.tokens
  unfolding result unless_failed answer
  used = rw passes

  -- the inputs are among the tokens
  inputs_used : length (all_rows token_width Tokens.decode_token inputs) ≤ length e.state.tokens
  inputs_used =
      let r = reached_picks M s 2048 (picks_of picks) in
      let c = reached_count M (law graph inputs (arrays_of arrays) (capacity_of ledger) (cells / cell_width) parts.1.1) s (good graph inputs (arrays_of arrays) (capacity_of ledger) (cells / cell_width) parts.1.1) r.done r.sent e.state r.reached in
      omega (arith, c, tokens_first inputs (cells / cell_width))

  -- with a ledger that has room for the inputs too
  pub also_passes : (picks' : List ℕ) (ledger' : ℕ) → Allowed picks' ledger' cells → length (all_rows token_width Tokens.decode_token inputs) ≤ capacity_of ledger' → check graph arrays inputs picks' ledger' cells ≡ Ok tt
  unfolding check check_stores
  also_passes picks' ledger' a l =
      rw (parts.1.1.graph_passed, wholes.whole_inputs, a.allowed_picks, a.allowed_ledger, a.allowed_cells, parts.1.0) (inputs_fit (graph_of graph) (capacity_of ledger) (capacity_of ledger') inputs parts.1.1.inputs_passed l)

  pub also_exceeds : (picks' : List ℕ) (ledger' : ℕ) → Allowed picks' ledger' cells → capacity_of ledger' < length (all_rows token_width Tokens.decode_token inputs) → check graph arrays inputs picks' ledger' cells ≡ Err (fault_at LedgerFull (capacity_of ledger'))
  unfolding check check_stores
  also_exceeds picks' ledger' a l =
      rw (parts.1.1.graph_passed, wholes.whole_inputs, a.allowed_picks, a.allowed_ledger, a.allowed_cells, parts.1.0) (inputs_exceed (graph_of graph) (capacity_of ledger) (capacity_of ledger') inputs parts.1.1.inputs_passed l)

pub enough_room : EnoughRoomOfResults
unfolding result unless_failed
enough_room graph arrays inputs picks ledger ledger' cells rests fits enough =
    let w = wholes graph arrays inputs picks ledger cells rests in
    let allowed : Allowed picks ledger' cells = record { allowed_picks = w.whole_picks; allowed_ledger = fits; allowed_cells = w.whole_cells } in
    let M = machine_of (graph_of graph) (arrays_of arrays) (capacity_of ledger) (cells / cell_width) in
    rw (passes graph arrays inputs picks ledger cells rests, also_passes graph arrays inputs picks ledger cells rests picks ledger' allowed (omega (arith, inputs_used graph arrays inputs picks ledger cells rests, enough, used graph arrays inputs picks ledger cells rests)))
    (ap ran_to (Machines.enough_room M (by_picks M) (first_state inputs (cells / cell_width)) 2048 (picks_of picks) 0 (quiet graph arrays inputs picks ledger cells rests) (capacity_of ledger') (omega (arith, enough, used graph arrays inputs picks ledger cells rests))))

pub too_small : TooSmallOfResults
unfolding result unless_failed
too_small graph arrays inputs picks picks' ledger ledger' cells rests allowed less = go (dec_le (length (all_rows token_width Tokens.decode_token inputs)) (capacity_of ledger'))
  where
    go : Dec (length (all_rows token_width Tokens.decode_token inputs) ≤ capacity_of ledger') → RefusedBy LedgerFull (result_outcome (result graph arrays inputs picks' 2048 ledger' cells))
    go (no n) = rw (also_exceeds graph arrays inputs picks ledger cells rests picks' ledger' allowed (omega arith)) refl
    go (yes l) =
        let M = machine_of (graph_of graph) (arrays_of arrays) (capacity_of ledger) (cells / cell_width) in
        let s = first_state inputs (cells / cell_width) in
        let a = (parts graph arrays inputs picks ledger cells rests).1.1 in
        rw (also_passes graph arrays inputs picks ledger cells rests picks' ledger' allowed l)
        (Machines.too_small M (law graph inputs (arrays_of arrays) (capacity_of ledger) (cells / cell_width) a) (by_picks M) (by_picks M) (by_picks_lawful M) (by_picks_lawful M) s (good graph inputs (arrays_of arrays) (capacity_of ledger) (cells / cell_width) a)
        2048 2048 (picks_of picks) (picks_of picks') 0 (quiet graph arrays inputs picks ledger cells rests) (capacity_of ledger') (omega (arith, less, used graph arrays inputs picks ledger cells rests))
        (omega (arith, l, tokens_first inputs (cells / cell_width))) (whole_bytes token_width most_tokens ledger' allowed.allowed_ledger).1)
