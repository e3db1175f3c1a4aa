-- What holds of every effect in a graph that passed its check: each key that it sends to is a port that a token can come to, and a cell that it names is
-- below the count. Assumes nothing.
use Rattle.std.proofs.Common.{Ok}
use Prim.Native.Nat.{ℕ, suc, ◌+◌, ◌≤◌, ◌<◌}
use mathlib.Core.Path.{◌≡◌, refl}
use mathlib.Core.Bool.{Bool, true, false, cond}
use mathlib.Core.List.{List, [], ◌∷◌, map}
use native.Mathlib.Omega.{arith}
use native.Mathlib.Decide.{dec_le}
use borrow.Author.Tests.{ltb-true, leb-true}
use lib.ListN.{length, get_or-eq_default}
use lib.Dec.{ltb}
use lib.IntN.{ℤ, pos, negsuc, nat_abs}
use Rattle.std.specs.Prelude.{Option, None, Some}
use Rattle.record.specs.declared.array.NamedArray.{NamedArray}
use Rattle.record.specs.declared.tag.Tag.{Tag}
use Rattle.record.specs.declared.tag.Caller.{Caller}
use Rattle.record.specs.declared.instruction.Destination.{Destination}
use Rattle.record.specs.declared.instruction.Instruction.{Instruction}
use Rattle.record.specs.declared.operation.Operation.{Operation}
use Rattle.record.specs.declared.operation.Operation.TheVariants.{Copy, Sink, Out, Const, Switch, Gate, Next, Enter, Leave, Fetch, Store, OnTwo, OnConstant, Unknown}
use Rattle.buffer.specs.Rows.{All}
use Rattle.record.specs.GraphRecords.{row_of, operation_of, graph_of, destinations}
use Rattle.record.specs.GraphRecords as Graph
use Rattle.record.specs.TokensAndTags.{to_of}
use Rattle.record.specs.Calls.{next_of, enter_of, leave_of}
use Rattle.arithmetic.specs.Arithmetic.{compute_of, eq_z}
use Rattle.machine.specs.Machine.{Key, refuse, send}
use Rattle.machine.specs.Orders.{CellsBelow}
use Rattle.rules.specs.declared.answer.Refusal.TheVariants as Refusals
use Rattle.rules.specs.Check.{all, good_arc, instruction_at, operands_at, check_graph}
use Rattle.rules.specs.InstructionSet.{EffectHere, key_under, all_under, side_of, send_computed, send_next, send_entered, send_returned, send_left, return_of, on_cell, cell_number, effect_of, effect_in}
use Rattle.fire_effect.specs.Effects.{Arrives, AllSent}
use Rattle.rules.proofs.Passed.{both}
use Rattle.rules.proofs.PassedGraph.{Good, of_graph, two_operands}
use Rattle.fire_effect.proofs.Passed.{switch_two, enter_two}

-- past the graph stands an unknown operation
past : (g : List Instruction) (i : ℕ) → length g ≤ i → instruction_at g i ≡ Graph.decode_instruction []
unfolding instruction_at
past g i h = get_or-eq_default g (Graph.decode_instruction []) h

-- a port that a token can come to is 0 or 1, of an instruction in the graph
pub arrives_port : (g : List Instruction) (k : Key Tag) → Arrives g k → k.port < 2
unfolding operands_at
arrives_port g k h = omega (arith, h, two_operands (instruction_at g k.tag.instruction).code)

pub arrives_inside : (g : List Instruction) (k : Key Tag) → Arrives g k → k.tag.instruction < length g
unfolding operands_at Graph.decode_instruction row_of
arrives_inside g k h = go (dec_le (suc k.tag.instruction) (length g))
  where
    go : Dec (suc k.tag.instruction ≤ length g) → suc k.tag.instruction ≤ length g
    go (yes p) = p
    go (no n) = absurd (omega (arith, rw (past g k.tag.instruction (omega arith)) at h))

module _ (g : List Instruction) (table : List NamedArray) (cells : ℕ) where
  -- what is shown of an effect
  abbrev Fine : EffectHere → Type 0
  Fine e = CellsBelow cells e × AllSent (Arrives g) e

  -- ---- keys

  arc : (τ : Tag) (d : Destination) → good_arc g d ≡ true → Arrives g (key_under τ d)
  unfolding good_arc
  arc τ d e = ltb-true _ _ e

  arcs : (τ : Tag) (ds : List Destination) → all (good_arc g) ds ≡ true → All (Arrives g) (map (key_under τ) ds)
  arcs τ [] e = tt
  arcs τ (d ∷ ds) e = let p = both (good_arc g d) (all (good_arc g) ds) e in (arc τ d p.0, arcs τ ds p.1)

  all_under_lem : {i : ℕ} {r : Instruction} → Good g i r → (τ : Tag) → All (Arrives g) (all_under τ r)
  all_under_lem {i} {r} good τ = arcs τ (destinations r) good.arcs

  both_under : {i : ℕ} {r : Instruction} → Good g i r → destinations r ≡ r.first ∷ r.second ∷ [] → (τ : Tag)
      → Arrives g (key_under τ r.first) × Arrives g (key_under τ r.second)
  both_under {i} {r} good e τ = let p = arcs τ (r.first ∷ r.second ∷ []) (rw e at good.arcs) in (p.0, p.1.0)

  -- ---- operations

  computed_fine : (c : Option ℤ) (keys : List (Key Tag)) → All (Arrives g) keys → Fine (send_computed c keys)
  unfolding send_computed
  computed_fine (Some v) keys h = (tt, h)
  computed_fine None keys h = (tt, tt)

  cell_fine : (a : ℤ) (f : ℕ → EffectHere) → ((c : ℕ) → c < cells → Fine (f c)) → Fine (on_cell cells a f)
  unfolding on_cell
  cell_fine (pos c) f h = go (ltb c cells) refl
    where
      go : (t : Bool) → ltb c cells ≡ t → Fine (cond t (f c) (refuse Refusals.NoSuchCell))
      go true e = h c (ltb-true c cells e)
      go false e = (tt, tt)
  cell_fine (negsuc c) f h = (tt, tt)

  side_fine : (control : ℤ) (τ : Tag) (r : Instruction) → Arrives g (key_under τ r.first) × Arrives g (key_under τ r.second) → Arrives g (key_under τ (side_of control r))
  unfolding side_of
  side_fine control τ r h = go (eq_z control (pos 0))
    where
      go : (t : Bool) → Arrives g (key_under τ (cond t r.second r.first))
      go true = h.1
      go false = h.0

  next_fine : (n : Option Tag) (r : Instruction) (v : ℤ) → ((τ : Tag) → All (Arrives g) (all_under τ r)) → Fine (send_next n r v)
  unfolding send_next
  next_fine (Some τ) r v h = (tt, h τ)
  next_fine None r v h = (tt, tt)

  entered_fine : (n : Option Tag) (r : Instruction) (v : ℤ) → ((τ : Tag) → Arrives g (key_under τ r.first)) → Fine (send_entered n r v)
  unfolding send_entered
  entered_fine (Some τ) r v h = (tt, (h τ, tt))
  entered_fine None r v h = (tt, tt)

  returned_fine : ((i : ℕ) → i < length g → 0 < operands_at g i) → (i k : ℕ) (τ : Tag) (v : ℤ) → Fine (send_returned g i k τ v)
  unfolding send_returned
  returned_fine h i k τ v = go (ltb (i + k) (length g)) refl
    where
      go : (t : Bool) → ltb (i + k) (length g) ≡ t → Fine (cond t (send v (record { tag = to_of τ (i + k); port = 0 } ∷ [])) (refuse Refusals.NoReturn))
      go true e = (tt, (h (i + k) (ltb-true _ _ e), tt))
      go false e = (tt, tt)

  left_fine : ((i : ℕ) → i < length g → 0 < operands_at g i) → (n : Option Caller) (r : Instruction) (v : ℤ) → Fine (send_left g n r v)
  unfolding send_left
  left_fine h (Some c) r v = returned_fine h (return_of c.site g) (nat_abs r.constant) c.tag v
  left_fine h None r v = (tt, tt)

  operation_fine : ((i : ℕ) → i < length g → 0 < operands_at g i) → (τ : Tag) (r : Instruction) {i : ℕ} → Good g i r
      → (o : Operation) → operation_of r.code ≡ o → (a b : ℤ) → Fine (effect_of o g table cells τ r a b (all_under τ r))
  unfolding effect_of
  operation_fine known τ r good Copy e a b = (tt, all_under_lem good τ)
  operation_fine known τ r good Sink e a b = (tt, tt)
  operation_fine known τ r good Out e a b = (tt, tt)
  operation_fine known τ r good Const e a b = (tt, all_under_lem good τ)
  operation_fine known τ r good Switch e a b = (tt, (side_fine b τ r (both_under good (switch_two good e) τ), tt))
  operation_fine known τ r good Gate e a b = (tt, all_under_lem good τ)
  operation_fine known τ r good Next e a b = next_fine (next_of τ) r a (all_under_lem good)
  operation_fine known τ r good Enter e a b = entered_fine (enter_of τ _) r a (λ υ. (both_under good (enter_two good e) υ).0)
  operation_fine known τ r good Leave e a b = left_fine known (leave_of τ) r a
  operation_fine known τ r good Fetch e a b = cell_fine (cell_number table r.constant a) _ (λ c h. (h, all_under_lem good τ))
  operation_fine known τ r good Store e a b = cell_fine (cell_number table r.constant a) _ (λ c h. (h, all_under_lem good τ))
  operation_fine known τ r good (OnTwo o) e a b = computed_fine (compute_of o a b) _ (all_under_lem good τ)
  operation_fine known τ r good (OnConstant o) e a b = computed_fine (compute_of o a r.constant) _ (all_under_lem good τ)
  operation_fine known τ r good Unknown e a b = (tt, tt)

-- ---- in a graph that passed

module _ (graph : List ℕ) (passed : check_graph graph ≡ Ok tt) (table : List NamedArray) (cells : ℕ) (τ : Tag) (a b : ℤ) where
  known : (i : ℕ) → i < length (graph_of graph) → 0 < operands_at (graph_of graph) i
  unfolding operands_at
  known i h = leb-true 1 _ (of_graph graph passed i h).known

  absent_fine : (r : Instruction) → r ≡ Graph.decode_instruction [] → Fine (graph_of graph) table cells (effect_of (operation_of r.code) (graph_of graph) table cells τ r a b (all_under τ r))
  unfolding effect_of Graph.decode_instruction row_of
  absent_fine r e = rw e (tt, tt)

  fine : Fine (graph_of graph) table cells (effect_in (graph_of graph) table cells τ a b)
  unfolding effect_in
  fine = go (dec_le (suc τ.instruction) (length (graph_of graph)))
    where
      go : Dec (suc τ.instruction ≤ length (graph_of graph)) → Fine (graph_of graph) table cells (effect_in (graph_of graph) table cells τ a b)
      go (yes h) = operation_fine (graph_of graph) table cells known τ _ (of_graph graph passed τ.instruction h) _ refl a b
      go (no n) = absent_fine _ (past (graph_of graph) τ.instruction (omega arith))

  pub cells_below_lem : CellsBelow cells (effect_in (graph_of graph) table cells τ a b)
  cells_below_lem = fine.0

  pub all_arrive : AllSent (Arrives (graph_of graph)) (effect_in (graph_of graph) table cells τ a b)
  all_arrive = fine.1
