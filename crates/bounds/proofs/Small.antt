-- What `bounds` answers is small: 256 firings and 2,560 tokens at most, and a place below 2,048 (`needs_small`). Assumes nothing.
use Rattle.std.proofs.Common.{Result, Ok, Err}
use Prim.Native.Nat.{ℕ, zero, suc, ◌+◌, ◌*◌, ◌/◌, ◌≤◌, ◌<◌}
use native.Mathlib.Omega.{arith}
use native.Mathlib.Nat.{suc-mul}
use mathlib.Core.Path.{◌≡◌, refl}
use mathlib.Core.Bool.{Bool, true, false, cond}
use mathlib.Core.List.{List}
use lib.Dec.{eqb}
use lib.ListN.{length, get_or}
use Rattle.record.specs.declared.token.Token.{Token}
use Rattle.record.specs.declared.instruction.Destination.{Destination}
use Rattle.record.specs.declared.instruction.Instruction.{Instruction}
use Rattle.buffer.specs.Rows.{all_rows}
use Rattle.buffer.proofs.Tables.{length_rows}
use Rattle.record.specs.GraphRecords.{graph_of, in_use}
use Rattle.record.specs.GraphRecords as Graph
use Rattle.record.specs.TokensAndTags.{most_tokens}
use Rattle.record.specs.TokensAndTags as Tokens
use Rattle.record.specs.Widths.{token_width, graph_width}
use Rattle.rules.specs.declared.answer.Refusal.TheVariants.{BadInput, NotLoopFree}
use Rattle.rules.specs.declared.answer.Fault.{Fault}
use Rattle.rules.specs.declared.answer.Needs.{Needs}
use Rattle.rules.specs.Check.{◌and_then◌, demand, in_turn, instruction_at, good_input, check_graph, check_stores, Checked}
use Rattle.rules.specs.Needs.{sum_below, rounds, firings_needed, outputs_needed, total, loop_free, check_needs, inputs_of, needs_at_most, needs}
use Rattle.rules.proofs.Passed.{and_then_passed}
use Rattle.rules.proofs.PassedGraph.{at_most}
use Rattle.rules.proofs.Accepted.{whole_bytes, stores_whole}
use Rattle.rules.proofs.Small.{Below, demand_below, then_below, turn_below, graph_below, stores_below}

abbrev pub Small : Result Needs Fault → Type 0
Small (Ok n) = (n.firings ≤ 256) × (n.tokens ≤ 2560)
Small (Err fault) = fault.place < most_tokens

-- ---- the bounds

sum_most : (k n : ℕ) (f : ℕ → ℕ) → ((i : ℕ) → f i ≤ k) → sum_below n f ≤ n * k
sum_most k zero f h = omega arith
sum_most k (suc n) f h = rw (suc-mul n k) (omega (arith, sum_most k n f h, h n))

flag_most : (k : ℕ) (b : Bool) (v : ℕ) → v ≤ k → cond b v 0 ≤ k
flag_most k true v h = h
flag_most k false v h = omega arith

total_most : (k : ℕ) (f : Instruction → ℕ) → ((r : Instruction) → f r ≤ k) → (ts : List Token) (g : List Instruction) → total ts g f ≤ length g * k
unfolding total
total_most k f h ts g = sum_most k (length g) _ (λ i. flag_most k (get_or (rounds ts g (length g)) i false) (f (instruction_at g i)) (h (instruction_at g i)))

one_firing : (r : Instruction) → firings_needed r ≤ 1
unfolding firings_needed
one_firing r = go (eqb r.code 3)
  where
    go : (b : Bool) → cond b 0 1 ≤ 1
    go true = omega arith
    go false = omega arith

in_use_lem : (n : ℕ) (d e : Destination) → length (in_use n d e) ≤ 2
in_use_lem zero d e = omega arith
in_use_lem (suc zero) d e = omega arith
in_use_lem (suc (suc n)) d e = omega arith

two_outputs : (r : Instruction) → outputs_needed r ≤ 2
unfolding outputs_needed
two_outputs r = go (eqb r.code 5)
  where
    go : (b : Bool) → cond b 1 (length (in_use r.fanout r.first r.second)) ≤ 2
    go true = omega arith
    go false = in_use_lem r.fanout r.first r.second

-- ---- the places

module _ (graph inputs : List ℕ) where
  few_records : check_graph graph ≡ Ok tt → length (graph_of graph) ≤ 256
  few_records e = omega (arith, at_most graph e, length_rows graph_width Graph.decode_instruction (length graph / graph_width) graph)

  few_inputs_lem : check_stores (length inputs) 0 0 0 ≡ Ok tt → length inputs / token_width ≤ most_tokens
  few_inputs_lem e = (whole_bytes token_width most_tokens (length inputs) (stores_whole (length inputs) 0 0 0 e).whole_inputs).1

  check_below : Below (check_needs graph inputs)
  unfolding check_needs
  check_below =
      let n = length inputs / token_width in
      let goods = all_rows token_width (good_input (graph_of graph)) inputs in
      then_below (check_graph graph) _ (graph_below graph) (λ e.
      then_below (check_stores (length inputs) 0 0 0) _ (stores_below (length inputs) 0 0 0) (λ f.
      then_below (in_turn (λ i good. demand good BadInput i) 0 goods) _
      (turn_below (λ i good. demand good BadInput i) (λ i good h. demand_below good BadInput i (λ k. h)) 0 goods (omega (arith, few_inputs_lem f, length_rows token_width (good_input (graph_of graph)) n inputs)))
      (λ k. turn_below (λ i r. demand (loop_free r) NotLoopFree i) (λ i r h. demand_below (loop_free r) NotLoopFree i (λ l. h)) 0 (graph_of graph) (omega (arith, few_records e)))))

  passed_small : check_needs graph inputs ≡ Ok tt → Small (needs_at_most (total (inputs_of inputs) (graph_of graph) firings_needed) (length (inputs_of inputs) + total (inputs_of inputs) (graph_of graph) outputs_needed))
  unfolding check_needs
  passed_small e =
      let parts = and_then_passed (check_graph graph) _ e in
      let later = and_then_passed (check_stores (length inputs) 0 0 0) _ parts.1 in
      let records = few_records parts.0 in
      let firings = total_most 1 firings_needed one_firing (inputs_of inputs) (graph_of graph) in
      let outputs = total_most 2 outputs_needed two_outputs (inputs_of inputs) (graph_of graph) in
      (omega arith, omega (arith, few_inputs_lem later.0, length_rows token_width Tokens.decode_token (length inputs / token_width) inputs))

  pub needs_small : Small (needs graph inputs)
  unfolding needs
  needs_small = go (check_needs graph inputs) refl
    where
      go : (c : Checked) → check_needs graph inputs ≡ c
          → Small (c and_then needs_at_most (total (inputs_of inputs) (graph_of graph) firings_needed) (length (inputs_of inputs) + total (inputs_of inputs) (graph_of graph) outputs_needed))
      go (Ok _) e = passed_small e
      go (Err fault) e = rw e at check_below
