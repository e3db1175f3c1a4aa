-- What a graph and what inputs have that passed their checks. Assumes nothing.
use Rattle.std.proofs.Common.{Ok}
use Prim.Native.Nat.{ℕ, ◌+◌, ◌*◌, ◌/◌, ◌%◌, ◌≤◌, ◌<◌}
use native.Mathlib.Omega.{arith}
use native.Mathlib.Nat.{zero-add}
use mathlib.Core.Path.{◌≡◌, refl, sym, ◌∙◌}
use mathlib.Core.Bool.{Bool, true, false, not, ◌&&◌}
use mathlib.Core.List.{List, []}
use lib.ListN.{length, get_or, take, drop}
use lib.Dec.{eqb, leb, ltb}
use borrow.Author.Tests.{eqb-true, leb-true, ltb-true, ltb-false, not-true}
use Rattle.record.specs.declared.instruction.Destination.{Destination}
use Rattle.record.specs.declared.instruction.Instruction.{Instruction}
use Rattle.record.specs.GraphRecords.{decode_instruction, is_graph_length, graph_of, destinations, operands_of}
use Rattle.number.specs.Number.{byte_at, number32}
use Rattle.buffer.specs.Rows.{whole, all_rows}
use Rattle.record.specs.Arrays.{most_arrays}
use Rattle.record.specs.Paths.{root_path, is_root}
use Rattle.record.specs.TokensAndTags.{path_in, tag_in, port_in, is_input}
use Rattle.buffer.proofs.Tables.{length_rows, get_d_rows}
use Rattle.record.specs.TokensAndTags as Tokens
use Rattle.record.specs.Widths.{token_width, state_offset, cell_width, graph_width, pick_width, array_width}
use Rattle.record.proofs.Paths.{root_words}
use Rattle.rules.specs.declared.answer.Refusal.TheVariants.{GraphLength, BadInput, SecondToken}
use Rattle.rules.specs.Check.{demand, all, instruction_at, operands_at, fan_out_allowed, unused_are_zero, good_arc, good_site, check_record, check_graph, check_stores, check_arrays, good_input, second_input, check_inputs, check}
use Rattle.check_inputs.specs.Inputs.{input_tokens}
use Rattle.check_fields.proofs.Turns.{and_true_left, and_true_right, both-passed, demanded, each_passed}
use Rattle.check_fields.proofs.Graphs.{length_graph, past}
use Rattle.check_inputs.proofs.Tokens.{length_tokens, in_tokens}

-- ---- the graph

-- a record that passed
pub record GoodRecord (g : List Instruction) (i : ℕ) (r : Instruction) : Type 0 where
  pub known : leb 1 (operands_of r.code) ≡ true
  pub fields : (fan_out_allowed r && unused_are_zero r) ≡ true
  pub arcs : all (good_arc g) (destinations r) ≡ true
  pub site : good_site (take i g) r ≡ true

pub passed_record : (g : List Instruction) (i : ℕ) (r : Instruction) → check_record g i r ≡ Ok tt → GoodRecord g i r
unfolding check_record
passed_record g i r e =
    let a = both-passed _ _ e in
    let b = both-passed _ _ a.1 in
    let c = both-passed _ _ b.1 in
    record { known = demanded _ _ _ a.0; fields = demanded _ _ _ b.0; arcs = demanded _ _ _ c.0; site = demanded _ _ _ c.1 }

module _ (l : List ℕ) (passed : check_graph l ≡ Ok tt) where
  -- 1 to 256 whole records
  pub passed_length : (1 ≤ length (graph_of l)) × (length (graph_of l) ≤ 256) × (length l ≡ length (graph_of l) * graph_width)
  unfolding check_graph
  passed_length =
      let e = demanded (is_graph_length (length l)) _ _ (both-passed _ _ passed).0 in
      let a = leb-true 1 (length l) (and_true_left (leb 1 (length l)) _ e) in
      let w = and_true_right (leb 1 (length l)) _ e in
      let b = eqb-true (length l % graph_width) 0 (and_true_left (eqb (length l % graph_width) 0) _ w) in
      let c = leb-true (length l / graph_width) 256 (and_true_right (eqb (length l % graph_width) 0) _ w) in
      let n = length_graph l in
      (omega arith, omega arith, omega arith)

  pub passed_at : (i : ℕ) → i < length (graph_of l) → GoodRecord (graph_of l) i (instruction_at (graph_of l) i)
  unfolding check_graph instruction_at
  passed_at i h =
      passed_record (graph_of l) i (get_or (graph_of l) i (decode_instruction []))
      (rw (zero-add i) at (each_passed (check_record (graph_of l)) 0 (graph_of l) (both-passed (demand (is_graph_length (length l)) GraphLength 0) _ passed).1 i h (decode_instruction [])))

-- a port below an operand count is one of an instruction in the graph
inside : (g : List Instruction) (i port : ℕ) → port < operands_at g i → i < length g
inside g i port p = go (ltb i (length g)) refl
  where
    go : (b : Bool) → ltb i (length g) ≡ b → i < length g
    go true q = ltb-true i (length g) q
    go false q = absurd (omega (arith, past g i (ltb-false i (length g) q)))

-- an arc that is good ends in the graph
pub good_arc_lem : (g : List Instruction) (d : Destination) → good_arc g d ≡ true → (d.instruction < length g) × (d.port < operands_at g d.instruction)
unfolding good_arc
good_arc_lem g d e = let p = ltb-true d.port (operands_at g d.instruction) e in (inside g d.instruction d.port p, p)

-- ---- the stores, by their lengths in bytes

pub record GoodStores (inputs picks ledger cells : ℕ) : Type 0 where
  pub input_records : (inputs % token_width ≡ 0) × (inputs / token_width ≤ 2048)
  pub pick_records : (picks % pick_width ≡ 0) × (picks / pick_width ≤ 2048)
  pub token_records : (ledger % token_width ≡ 0) × (ledger / token_width ≤ 2048)
  pub cell_records : (cells % cell_width ≡ 0) × (cells / cell_width ≤ 1024)

passed_whole : (width most n : ℕ) → whole width most n ≡ true → (n % width ≡ 0) × (n / width ≤ most)
passed_whole width most n e = (eqb-true (n % width) 0 (and_true_left (eqb (n % width) 0) _ e), leb-true (n / width) most (and_true_right (eqb (n % width) 0) _ e))

pub passed_stores : (inputs picks ledger cells : ℕ) → check_stores inputs picks ledger cells ≡ Ok tt → GoodStores inputs picks ledger cells
unfolding check_stores
passed_stores inputs picks ledger cells e =
    let a = demanded _ _ _ e in
    let b = and_true_right (whole token_width 2048 inputs) _ a in
    let c = and_true_right (whole pick_width 2048 picks) _ b in
    record {
      input_records = passed_whole token_width 2048 inputs (and_true_left (whole token_width 2048 inputs) _ a);
      pick_records = passed_whole pick_width 2048 picks (and_true_left (whole pick_width 2048 picks) _ b);
      token_records = passed_whole token_width 2048 ledger (and_true_left (whole token_width 2048 ledger) _ c);
      cell_records = passed_whole cell_width 1024 cells (and_true_right (whole token_width 2048 ledger) _ c);
    }

-- ---- the inputs

-- an input record that passed
pub record GoodInput (g : List Instruction) (l : List ℕ) : Type 0 where
  pub path : path_in l ≡ root_path
  pub iteration : (tag_in l).iteration ≡ 0
  pub state : byte_at l state_offset ≡ 0
  pub zeros : (byte_at l 25 ≡ 0) × (byte_at l 26 ≡ 0) × (byte_at l 27 ≡ 0)
  pub instruction : (tag_in l).instruction < length g
  pub port : port_in l < operands_at g (tag_in l).instruction

pub passed_input : (g : List Instruction) (l : List ℕ) → good_input g l ≡ true → GoodInput g l
unfolding good_input is_input
passed_input g l e =
    let a = and_true_left (is_input l) _ e in
    let b = and_true_right (is_root (path_in l)) _ a in
    let z = eqb-true (number32 l state_offset) 0 (and_true_right (eqb (tag_in l).iteration 0) _ b) in
    let p = ltb-true (port_in l) (operands_at g (tag_in l).instruction) (and_true_right (is_input l) _ e) in
    record {
      path = root_words (path_in l) (and_true_left (is_root (path_in l)) _ a);
      iteration = eqb-true (tag_in l).iteration 0 (and_true_left (eqb (tag_in l).iteration 0) _ b);
      state = omega arith;
      zeros = (omega arith, omega arith, omega arith);
      instruction = inside g (tag_in l).instruction (port_in l) p;
      port = p;
    }

pub record GoodInputs (g : List Instruction) (capacity : ℕ) (inputs : List ℕ) : Type 0 where
  pub fit : length (input_tokens inputs) ≤ capacity
  pub good : (i : ℕ) → i < length inputs / token_width → good_input g (drop (i * token_width) inputs) ≡ true
  pub alone : (i : ℕ) → i < length inputs / token_width → second_input (take i (input_tokens inputs)) (Tokens.token_at inputs i) ≡ false

pub passed_inputs : (g : List Instruction) (capacity : ℕ) (inputs : List ℕ) → check_inputs g capacity inputs ≡ Ok tt → GoodInputs g capacity inputs
unfolding check_inputs
passed_inputs g capacity inputs e =
    let a = both-passed _ _ e in
    let b = both-passed _ _ a.1 in
    let n = length inputs / token_width in
    record {
      fit = leb-true _ _ (demanded _ _ _ b.0);
      good = λ i h.
          sym (get_d_rows token_width (good_input g) n i inputs true h)
          ∙ demanded _ BadInput (0 + i) (each_passed (λ k x. demand x BadInput k) 0 (all_rows token_width (good_input g) inputs) a.0 i (omega (arith, length_rows token_width (good_input g) n inputs)) true);
      alone = λ i h.
          let d = Tokens.decode_token [] in
          let ts = input_tokens inputs in
          let q : not (second_input (take (0 + i) ts) (get_or ts i d)) ≡ true =
          demanded _ SecondToken (0 + i) (each_passed (λ k t. demand (not (second_input (take k ts) t)) SecondToken k) 0 ts b.1 i (omega (arith, length_tokens inputs)) d) in
          not-true _ (rw (zero-add i, in_tokens inputs i h d) at q);
    }

-- ---- all of it

-- a table that passed is short
pub passed_arrays : (g : List Instruction) (cells : ℕ) (arrays : List ℕ) → check_arrays g cells arrays ≡ Ok tt → length arrays / array_width ≤ most_arrays
unfolding check_arrays
passed_arrays g cells arrays e =
    let b = demanded _ _ _ (both-passed _ _ e).0 in
    (passed_whole array_width most_arrays (length arrays) (and_true_left (whole array_width most_arrays (length arrays)) _ b)).1

pub passed_check : (graph arrays inputs picks : List ℕ) (ledger cells : ℕ) → check graph arrays inputs picks ledger cells ≡ Ok tt
    → (check_graph graph ≡ Ok tt) × (check_stores (length inputs) (length picks) ledger cells ≡ Ok tt) × (check_inputs (graph_of graph) (ledger / token_width) inputs ≡ Ok tt)
    × (length arrays / array_width ≤ most_arrays)
unfolding check
passed_check graph arrays inputs picks ledger cells e =
    let a = both-passed (check_graph graph) _ e in
    let b = both-passed (check_stores (length inputs) (length picks) ledger cells) _ a.1 in
    let c = both-passed (check_arrays (graph_of graph) (cells / cell_width) arrays) _ b.1 in
    (a.0, b.0, c.1, passed_arrays (graph_of graph) (cells / cell_width) arrays c.0)
