-- A run with nothing enabled is completed exactly if every live token is at a result and none is deferred (`completed_exactly`). Every token stands at a port
-- of an instruction of the graph, so that none but a result waits for no operand. Assumes nothing.
use Rattle.std.proofs.Common.{Ok}
use Prim.Native.Nat.{ℕ, suc, ◌/◌, ◌≤◌, ◌<◌}
use mathlib.Core.Path.{◌≡◌, refl}
use mathlib.Core.Bool.{Bool, true, false, cond}
use mathlib.Core.Logic.{◌↔◌}
use mathlib.Core.List.{List, [], ◌∷◌, map}
use native.Mathlib.Decide.{dec_le}
use native.Mathlib.Omega.{arith}
use borrow.Author.Tests.{ltb-true, leb-true}
use lib.ListN.{length}
use lib.IntN.{ℤ, nat_abs}
use lib.Dec.{eqb, leb}
use Rattle.record.specs.declared.tag.Tag.{Tag}
use Rattle.record.specs.declared.array.NamedArray.{NamedArray}
use Rattle.record.specs.declared.instruction.Destination.{Destination}
use Rattle.record.specs.declared.instruction.Instruction.{Instruction}
use Rattle.buffer.specs.Rows.{All}
use Rattle.record.specs.GraphRecords.{destinations, operands_of, row_of, graph_of}
use Rattle.record.specs.Arrays.{arrays_of}
use Rattle.record.specs.Calls.{entered}
use Rattle.record.specs.TokensAndTags.{capacity_of}
use Rattle.record.specs.Widths.{cell_width}
use Rattle.machine.specs.Machine.{Key, Content, live, spent, deferred, Token, Machine, State, Outcome, completed, hung, budget_spent, refused, run}
use Rattle.machine.specs.Orders.{AllProper, ProperContentAt, Says, Completed, Quiescent}
use Rattle.machine.proofs.View.{false_true}
use Rattle.machine.proofs.Kept.{Each, OfToken, Keeps, reached_keeps}
use Rattle.machine.proofs.Reached.{reached_picks}
use Rattle.rules.specs.declared.answer.Refusal.{Refusal}
use Rattle.rules.specs.Check.{all, instruction_at, operands_at, good_arc, check_graph, check_stores, check_arrays, check}
use Rattle.rules.specs.InstructionSet.{key_under, all_under, is_result, arity_in, machine_of}
use Rattle.rules.specs.Run.{content_record, token_record, first_state, picks_of, result}
use Rattle.rules.specs.Orders.{result_outcome, result_tokens}
use Rattle.rules.specs.Proper.{ProperContent, ProperToken, CompletedExactly}
use Rattle.rules.proofs.Passed.{both}
use Rattle.rules.proofs.PassedGraph.{of_graph, past_operands, said_of, least_fan_out_lem}
use Rattle.rules.proofs.Effects.{later, both_sides, Asked, keeps_asked}
use Rattle.rules.proofs.Inputs.{start_keys}
use Rattle.rules.proofs.Accepted.{accepted, by_check}

-- ---- every token stands at a port of the graph

module _ (g : List Instruction) where
  abbrev pub AtPort : Key Tag → Type 0
  AtPort k = k.port < operands_at g k.tag.instruction

  arcs_in : (τ : Tag) (ds : List Destination) → all (good_arc g) ds ≡ true → Each AtPort (map (key_under τ) ds)
  unfolding good_arc
  arcs_in τ [] e = tt
  arcs_in τ (d ∷ ds) e = let p = both (good_arc g d) (all (good_arc g) ds) e in (ltb-true _ _ p.0, arcs_in τ ds p.1)

module _ (graph : List ℕ) (passed : check_graph graph ≡ Ok tt) (table : List NamedArray) (capacity cells : ℕ) where
  abbrev g : List Instruction
  g = graph_of graph

  abbrev M : Machine
  M = machine_of g table capacity cells

  abbrev Any : {A : Type 0} → A → Type 0
  Any x = Unit {0}

  -- an activity with an operand at a port is of an instruction of the graph
  inside : (i p : ℕ) → p < operands_at g i → i < length g
  inside i p l = go (dec_le (suc i) (length g))
    where
      go : Dec (suc i ≤ length g) → i < length g
      go (yes h) = h
      go (no n) = absurd (omega (arith, past_operands g i (omega arith)))

  has_port : (i : ℕ) → i < length g → 0 < operands_at g i
  unfolding operands_at
  has_port i l = leb-true 1 (operands_of (instruction_at g i).code) (of_graph graph passed i l).known

  asked : (τ : Tag) → τ.instruction < length g → Asked g table capacity cells (AtPort g) Any Any τ (instruction_at g τ.instruction)
  asked τ l =
      let r = instruction_at g τ.instruction in
      let good = of_graph graph passed τ.instruction l in
      let arcs : (σ : Tag) → Each (AtPort g) (all_under σ r) = λ σ. arcs_in g σ (destinations r) good.arcs in
      let two : (σ : Tag) → 2 ≤ (row_of r.code).least_fan_out → AtPort g (key_under σ r.first) × AtPort g (key_under σ r.second) =
      λ σ k. both_sides (AtPort g) σ r.fanout r.first r.second (omega (arith, k, least_fan_out_lem good)) (arcs σ) in
      record {
        all = arcs τ;
        sides = λ o. two τ (leb-true 2 (row_of r.code).least_fan_out (said_of good o));
        next = λ o h. arcs (later τ);
        enter = λ o h. (two (entered τ (nat_abs r.constant)) (leb-true 2 (row_of r.code).least_fan_out (both (eqb r.code 8) (leb 2 (row_of r.code).least_fan_out) (said_of good o)).1)).0;
        leave = λ o site caller h i k. has_port i k;
        fetch = λ o c h. tt;
        constant = tt;
        computed = λ o a b v e. tt;
      }

  pub keeps : Keeps M (AtPort g) Any Any
  keeps = keeps_asked g table capacity cells (AtPort g) Any Any (λ τ (waits, keys). asked τ (inside τ.instruction 0 (keys 0 waits))) tt

  -- ---- what is proper for the machine is proper

  abbrev Held : Token Tag ℤ → Type 0
  Held t = OfToken M (AtPort g) Any Any t

  arity_none : (τ : Tag) → 0 < operands_at g τ.instruction → (arity_in g τ ≡ 0) ↔ (is_result (instruction_at g τ.instruction) τ ≡ true)
  unfolding arity_in operands_at
  arity_none τ l = go (is_result (instruction_at g τ.instruction) τ) (operands_of (instruction_at g τ.instruction).code) l
    where
      go : (b : Bool) (n : ℕ) → 0 < n → (cond b 0 n ≡ 0) ↔ (b ≡ true)
      go true n k = (λ e. refl, λ e. refl)
      go false n k = (λ e. absurd (omega arith), λ e. false_true e)

  one : (τ : Tag) → 0 < operands_at g τ.instruction → (x : Content ℤ) → ProperContentAt M (arity_in g τ) x ↔ ProperContent (is_result (instruction_at g τ.instruction) τ) (content_record x)
  one τ l (live v) = arity_none τ l
  one τ l (spent v) = (λ h. h, λ h. h)
  one τ l (deferred c) = (λ h. h, λ h. h)

  properly : (ts : List (Token Tag ℤ)) → Each Held ts → AllProper M ts ↔ All (ProperToken g) (map token_record ts)
  properly [] h = (λ p. p, λ p. p)
  properly (t ∷ ts) (k, h) =
      let (to, fro) = one t.key.tag (let z = k.0 in omega arith) t.content in
      let (tos, fros) = properly ts h in
      (λ (p, q). (to p, tos q), λ (p, q). (fro p, fros q))

  -- ---- the outcome

  by_outcome : (o : Outcome Refusal) (budget n : ℕ) (x : State Tag ℤ) → Quiescent o → Says M o budget n x → Completed o ↔ AllProper M x.tokens
  by_outcome completed b n x q (e, h) = (λ c. h, λ k. tt)
  by_outcome hung b n x q (e, h) = (λ c. absurd c, λ k. h k)
  by_outcome budget_spent b n x q h = absurd q
  by_outcome (refused r p) b n x q h = absurd q

pub completed_exactly : CompletedExactly
unfolding result check
completed_exactly graph arrays inputs picks budget ledger cells =
    by_check (check graph arrays inputs picks ledger cells) _ (λ x. Quiescent (result_outcome x) → Completed (result_outcome x) ↔ All (ProperToken (graph_of graph)) (result_tokens x)) (λ r p e q. absurd q) (λ h q.
    let a = (accepted graph inputs (capacity_of ledger) (check_stores (length inputs) (length picks) ledger cells) (check_arrays (graph_of graph) (cells / cell_width) arrays) h).1.1 in
    let M = machine_of (graph_of graph) (arrays_of arrays) (capacity_of ledger) (cells / cell_width) in
    let s = first_state inputs (cells / cell_width) in
    let e = run M budget (picks_of picks) s in
    let r = reached_picks M s budget (picks_of picks) in
    let first = start_keys (graph_of graph) (arrays_of arrays) (capacity_of ledger) (cells / cell_width) (AtPort (graph_of graph)) (λ c. Unit {0}) inputs (λ t root port own. port) a.inputs_passed in
    let held = (reached_keeps M (AtPort (graph_of graph)) (λ v. Unit {0}) (λ c. Unit {0}) (keeps graph a.graph_passed (arrays_of arrays) (capacity_of ledger) (cells / cell_width)) s first r.done r.sent e.state r.reached).tokens in
    let (to, fro) = by_outcome graph a.graph_passed (arrays_of arrays) (capacity_of ledger) (cells / cell_width) e.outcome budget r.done e.state q r.says in
    let (tos, fros) = properly graph a.graph_passed (arrays_of arrays) (capacity_of ledger) (cells / cell_width) e.state.tokens held in
    (λ c. tos (to c), λ k. fro (fros k)))
