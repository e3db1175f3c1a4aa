-- The answer of a run is small: firings are no more than the budget and than the tokens, tokens are 2,048 at most, and a place is below 2,048 (`answer_small`).
-- It holds whatever is lent, a run that is refused before any firing included. Assumes nothing.
use Rattle.std.proofs.Common.{Ok, Err}
use Prim.Native.Nat.{ℕ, suc, ◌+◌, ◌/◌, ◌<◌, ◌≤◌}
use mathlib.Core.Path.{◌≡◌, refl}
use mathlib.Core.Bool.{Bool, true, false, not, ◌&&◌}
use mathlib.Core.List.{List, [], ◌∷◌}
use native.Mathlib.Omega.{arith}
use borrow.Author.Tests.{leb-false}
use lib.Dec.{leb}
use lib.ListN.{length, take}
use lib.IntN.{ℤ}
use Rattle.record.specs.declared.tag.Tag.{Tag}
use Rattle.record.specs.declared.array.NamedArray.{NamedArray}
use Rattle.record.specs.declared.instruction.Instruction.{Instruction}
use Rattle.buffer.specs.Rows.{whole, all_rows}
use Rattle.buffer.proofs.Tables.{length_rows}
use Rattle.record.specs.GraphRecords.{is_graph_length, graph_of, destinations, operands_of}
use Rattle.record.specs.Arrays.{most_arrays, arrays_of}
use Rattle.record.specs.GraphRecords as Graph
use Rattle.record.specs.TokensAndTags.{most_tokens, capacity_of}
use Rattle.record.specs.TokensAndTags as Tokens
use Rattle.record.specs.Widths.{token_width, cell_width, graph_width, pick_width, array_width}
use Rattle.machine.specs.Machine.{Machine, State, completed, hung, budget_spent, refused, Ledger, run}
use Rattle.machine.specs.Machine as Machine
use Rattle.machine.proofs.Bounds.{PlaceWithin, picks_bounded, picks_firings}
use Rattle.rules.specs.declared.answer.Refusal.{Refusal}
use Rattle.rules.specs.declared.answer.Refusal.TheVariants.{GraphLength, UnknownOperation, FanOut, BadArc, BadSite, BadInput, BadStore, LedgerFull, SecondToken, BadArray}
use Rattle.rules.specs.Answer.{place_in}
use Rattle.rules.specs.Check.{demand, ◌and_then◌, all, in_turn, fan_out_allowed, unused_are_zero, good_arc, good_site, check_record, check_graph, check_stores, inside_store, names_good, check_arrays, good_input, second_input, check_inputs, check, most_cells, Checked}
use Rattle.rules.specs.InstructionSet.{machine_of}
use Rattle.rules.specs.Run.{first_state, picks_of, refused_at_once, ran_to, outcome_of, result, answer}
use Rattle.rules.specs.Small.{Small, AnswersSmall}
use Rattle.rules.proofs.Passed.{both, demand_passed, and_then_passed}
use Rattle.rules.proofs.Accepted.{whole_bytes, stores_whole, Accepted, accepted, law, good, by_check}

-- ---- a refusal before any firing: its place is below 2,048

abbrev pub Below : Checked → Type 0
Below (Ok _) = Unit {0}
Below (Err fault) = fault.place < most_tokens

pub demand_below : (b : Bool) (r : Refusal) (p : ℕ) → (b ≡ false → p < most_tokens) → Below (demand b r p)
demand_below true r p h = tt
demand_below false r p h = h refl

pub then_below : (a b : Checked) → Below a → (a ≡ Ok tt → Below b) → Below (a and_then b)
then_below (Ok _) b h k = k refl
then_below (Err fault) b h k = h

-- a demand, and what comes after it
first_below : (b : Bool) (r : Refusal) (p : ℕ) (c : Checked) → (b ≡ false → p < most_tokens) → (b ≡ true → Below c) → Below (demand b r p and_then c)
first_below true r p c h k = k refl
first_below false r p c h k = h refl

pub turn_below : {A : Type 0} (f : ℕ → A → Checked) → ((i : ℕ) (x : A) → i < most_tokens → Below (f i x)) → (i : ℕ) (xs : List A) → i + length xs ≤ most_tokens → Below (in_turn f i xs)
turn_below f h i [] k = tt
turn_below f h i (x ∷ xs) k = then_below (f i x) (in_turn f (suc i) xs) (h i x (omega arith)) (λ e. turn_below f h (suc i) xs (omega arith))

record_below : (g : List Instruction) (i : ℕ) (r : Instruction) → i < most_tokens → Below (check_record g i r)
unfolding check_record
record_below g i r h =
    first_below (leb 1 (operands_of r.code)) UnknownOperation i _ (λ e. h) (λ e.
    first_below (fan_out_allowed r && unused_are_zero r) FanOut i _ (λ f. h) (λ f.
    first_below (all (good_arc g) (destinations r)) BadArc i _ (λ k. h) (λ k.
    demand_below (good_site (take i g) r) BadSite i (λ l. h))))

graph_few : (graph : List ℕ) → is_graph_length (length graph) ≡ true → length (graph_of graph) ≤ 256
graph_few graph e =
    let size = (whole_bytes graph_width 256 (length graph) (both (leb 1 (length graph)) (whole graph_width 256 (length graph)) e).1).1 in
    omega (arith, length_rows graph_width Graph.decode_instruction (length graph / graph_width) graph)

pub graph_below : (graph : List ℕ) → Below (check_graph graph)
unfolding check_graph
graph_below graph =
    first_below (is_graph_length (length graph)) GraphLength 0 _ (λ e. omega arith) (λ e.
    turn_below (check_record (graph_of graph)) (record_below (graph_of graph)) 0 (graph_of graph) (omega (arith, graph_few graph e)))

pub arrays_below : (graph : List ℕ) (cells : ℕ) (arrays : List ℕ) → check_graph graph ≡ Ok tt → Below (check_arrays (graph_of graph) cells arrays)
unfolding check_graph check_arrays
arrays_below graph cells arrays e =
    let long = demand_passed (is_graph_length (length graph)) GraphLength 0 (and_then_passed (demand (is_graph_length (length graph)) GraphLength 0) _ e).0 in
    first_below (whole array_width most_arrays (length arrays) && all (inside_store cells) (arrays_of arrays)) BadArray 0 _ (λ f. omega arith) (λ f.
    turn_below (λ i r. demand (names_good (length (arrays_of arrays)) r) BadArray i) (λ i r h. demand_below (names_good (length (arrays_of arrays)) r) BadArray i (λ k. h)) 0 (graph_of graph) (omega (arith, graph_few graph long)))

-- the place of 8 is the capacity, and where the inputs exceed it, it is less than their number
pub inputs_below : (g : List Instruction) (capacity : ℕ) (inputs : List ℕ) → length inputs / token_width ≤ most_tokens → Below (check_inputs g capacity inputs)
unfolding check_inputs
inputs_below g capacity inputs few =
    let n = length inputs / token_width in
    let ts = all_rows token_width Tokens.decode_token inputs in
    let goods = all_rows token_width (good_input g) inputs in
    let many : length ts ≡ n = length_rows token_width Tokens.decode_token n inputs in
    then_below (in_turn (λ i good. demand good BadInput i) 0 goods) _
    (turn_below (λ i good. demand good BadInput i) (λ i good h. demand_below good BadInput i (λ e. h)) 0 goods (omega (arith, length_rows token_width (good_input g) n inputs)))
    (λ e.
    first_below (leb (length ts) capacity) LedgerFull capacity _ (λ f. let more = leb-false (length ts) capacity f in omega arith) (λ f.
    turn_below (λ i t. demand (not (second_input (take i ts) t)) SecondToken i) (λ i t h. demand_below (not (second_input (take i ts) t)) SecondToken i (λ k. h)) 0 ts (omega arith)))

pub stores_below : (inputs picks ledger cells : ℕ) → Below (check_stores inputs picks ledger cells)
unfolding check_stores
stores_below inputs picks ledger cells =
    demand_below (whole token_width most_tokens inputs && (whole pick_width most_tokens picks && (whole token_width most_tokens ledger && whole cell_width most_cells cells))) BadStore 0 (λ e. omega arith)

-- whatever else the check of the stores asks, it has that of the inputs
pub all_below_lem : (graph arrays inputs : List ℕ) (capacity cells : ℕ) (stores : Checked) → Below stores → (stores ≡ Ok tt → whole token_width most_tokens (length inputs) ≡ true)
    → Below (check_graph graph and_then stores and_then check_arrays (graph_of graph) cells arrays and_then check_inputs (graph_of graph) capacity inputs)
all_below_lem graph arrays inputs capacity cells stores low wholes =
    then_below (check_graph graph) _ (graph_below graph) (λ e.
    then_below stores _ low (λ f.
    then_below (check_arrays (graph_of graph) cells arrays) _ (arrays_below graph cells arrays e) (λ h.
    inputs_below (graph_of graph) capacity inputs (whole_bytes token_width most_tokens (length inputs) (wholes f)).1)))

pub check_below : (graph arrays inputs picks : List ℕ) (ledger cells : ℕ) → Below (check graph arrays inputs picks ledger cells)
unfolding check
check_below graph arrays inputs picks ledger cells =
    all_below_lem graph arrays inputs (capacity_of ledger) (cells / cell_width) (check_stores (length inputs) (length picks) ledger cells) (stores_below (length inputs) (length picks) ledger cells)
    (λ e. (stores_whole (length inputs) (length picks) ledger cells e).whole_inputs)

-- ---- a run from inputs that passed

module _ (graph inputs : List ℕ) (table : List NamedArray) (capacity cells : ℕ) (few : capacity ≤ most_tokens) (a : Accepted graph inputs capacity) where
  abbrev M : Machine
  M = machine_of (graph_of graph) table capacity cells

  abbrev s : State Tag ℤ
  s = first_state inputs cells

  pub place_small : (o : Machine.Outcome Refusal) (ts : Ledger M) → PlaceWithin M o ts → length ts ≤ capacity → place_in (outcome_of o) < most_tokens
  place_small completed ts h room = omega arith
  place_small hung ts h room = omega arith
  place_small budget_spent ts h room = omega arith
  place_small (refused r p) ts h room = omega arith

  run_small : (budget : ℕ) (picks : List ℕ) → Small budget (answer (ran_to (run M budget picks s)))
  unfolding answer
  run_small budget picks =
      let first = good graph inputs table capacity cells a in
      let e = run M budget picks s in
      let bounds = picks_bounded M s first.room budget picks in
      let room = bounds.tokens in
      record {
        firings = bounds.firings;
        by_tokens = picks_firings M (law graph inputs table capacity cells a) s first budget picks;
        tokens = omega arith;
        place = place_small e.outcome e.state.tokens bounds.place room;
      }

-- ---- whole runs

-- "All these answer 0 firings and 0 tokens"
pub refused_small : (budget : ℕ) (r : Refusal) (p : ℕ) → p < most_tokens → Small budget (answer (refused_at_once r p))
unfolding answer
refused_small budget r p h = record { firings = omega arith; by_tokens = omega arith; tokens = omega arith; place = h }

pub answer_small : AnswersSmall
unfolding result check
answer_small graph arrays inputs picks budget ledger cells =
    by_check (check graph arrays inputs picks ledger cells) _ (λ x. Small budget (answer x)) (λ r p e. refused_small budget r p (rw e at (check_below graph arrays inputs picks ledger cells))) (λ e.
    let (stores, (named, a)) = accepted graph inputs (capacity_of ledger) (check_stores (length inputs) (length picks) ledger cells) (check_arrays (graph_of graph) (cells / cell_width) arrays) e in
    let few = (whole_bytes token_width most_tokens ledger (stores_whole (length inputs) (length picks) ledger cells stores).whole_ledger).1 in
    run_small graph inputs (arrays_of arrays) (capacity_of ledger) (cells / cell_width) few a budget (picks_of picks))
