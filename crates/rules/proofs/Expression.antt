-- R-14, proved: in every order of firing OUT receives the expression's value, if each operation in it is in range and no divisor is 0, and otherwise the run is
-- refused by 12; by any choice (`expressions_evaluate_by`), and over bytes for any picks (`expressions_evaluate`). Assumes nothing.
use Rattle.std.proofs.Common.{Ok}
use Prim.Native.Nat.{ℕ, zero, suc, ◌+◌, ◌/◌, ◌%◌, ◌≤◌, ◌<◌}
use mathlib.Core.Path.{◌≡◌, refl, sym, ap, ◌∙◌, subst}
use mathlib.Core.Bool.{Bool, true, false}
use mathlib.Core.List.{List, [], ◌∷◌, map}
use mathlib.Core.Option.{none, some}
use mathlib.Core.Option as maybe
use native.Mathlib.Decide.{dec_le}
use native.Mathlib.Omega.{arith}
use native.Mathlib.Nat.{zero-add, add-zero, add-suc, suc-add}
use lib.ListN.{length, get_or, length-map}
use lib.IntN.{ℤ, pos}
use lib.Dec.{ltb}
use borrow.Author.Tests.{lt-ltb, le-ltb, le-leb, eq-eqb}
use Rattle.std.specs.Prelude.{Option, None, Some}
use Rattle.record.specs.declared.tag.Tag.{Tag}
use Rattle.record.specs.declared.instruction.Instruction.{Instruction}
use Rattle.buffer.specs.Rows.{whole}
use Rattle.record.specs.TokensAndTags.{root_of, most_tokens, capacity_of}
use Rattle.record.specs.declared.term.Term.{Term}
use Rattle.record.specs.ExpressionRecords.{decode_term, expression_of}
use Rattle.record.specs.Widths.{token_width, cell_width}
use Rattle.machine.specs.Machine.{Key, Content, live, Token, Machine, State, Choice, at, find, look, same_key, when, by_picks, run, run_by}
use Rattle.machine.specs.Orders.{LawfulChoice}
use Rattle.machine.proofs.View.{when_yes, when_no, none_some}
use Rattle.machine.proofs.Orders.{by_picks_lawful}
use Rattle.machine.proofs.Trees.{trees_evaluate, first, Fed}
use Rattle.machine.proofs.Trees as Trees
use Rattle.rules.specs.Check.{check_stores, check}
use Rattle.rules.specs.InstructionSet.{machine_of}
use Rattle.rules.specs.Run.{token_held, first_state, picks_of, ran_to, unless_failed, result}
use Rattle.rules.specs.Orders.{Allowed}
use Rattle.rules.specs.Expression.{term_at, is_variable, count, variable_number, expression_value, out_for, graph_for, graph_bytes, inputs_for, input_bytes, ValuesFor, expression_machine, EvaluatesExpression, ExpressionsEvaluateBy, ExpressionsEvaluate}
use Rattle.rules.proofs.Inputs.{start}
use Rattle.rules.proofs.ExpressionPassed.{Proper, passed}
use Rattle.rules.proofs.ExpressionGraph.{counted, count_both, variable_number_lem, operation_number, variable_low}
use Rattle.rules.proofs.ExpressionTree.{optional, number, ports_of, source_of, tree, is_tree}
use Rattle.rules.proofs.ExpressionAccepted.{graph_back, graph_passes, arrays_pass, length_inputs, few_values, length_input_bytes, inputs_back, inputs_pass}

-- ---- the inputs by key

module _ (g : List Instruction) (capacity cells : ℕ) where
  abbrev M : Machine
  M = machine_of g [] capacity cells

  abbrev held : (i : ℕ) → List ℤ → List (Token Tag ℤ)
  held i values = map token_held (inputs_for i values)

  -- a variable's value stands at its COPY
  found : (i : ℕ) (values : List ℤ) (k : ℕ) → k < length values → find M (at M (root_of (i + k)) 0) (held i values) ≡ some (live (get_or values k (pos 0)))
  found i [] k l = absurd (omega arith)
  found i (v ∷ values) zero l = when_yes (same_key M (at M (root_of (i + 0)) 0) (at M (root_of i) 0)) _ _ (ap (λ (m : ℕ). at M (root_of m) 0) (add-zero i))
  found i (v ∷ values) (suc k) l =
      when_no (same_key M (at M (root_of (i + suc k)) 0) (at M (root_of i) 0)) _ _ (λ q. let z = ap (λ (j : Key Tag). j.tag.instruction) q in omega arith)
      ∙ subst (λ (m : ℕ). find M (at M (root_of m) 0) (held (suc i) values) ≡ some (live (get_or values k (pos 0)))) (suc-add i k ∙ sym (add-suc i k)) (found (suc i) values k (omega arith))

  -- and nothing else stands anywhere
  found_only : (i : ℕ) (values : List ℤ) (k : Key Tag) (x : Content ℤ) → find M k (held i values) ≡ some x → (m : ℕ) × (m < length values) × (k ≡ at M (root_of (i + m)) 0)
  found_only i [] k x e = none_some e
  found_only i (v ∷ values) k x e = go (same_key M k (at M (root_of i) 0)) e (λ f. found_only (suc i) values k x f)
    where
      go : (d : Dec (k ≡ at M (root_of i) 0)) → when d (some (live v)) (find M k (held (suc i) values)) ≡ some x
          → (find M k (held (suc i) values) ≡ some x → (m : ℕ) × (m < length values) × (k ≡ at M (root_of (suc i + m)) 0)) → (m : ℕ) × (m < suc (length values)) × (k ≡ at M (root_of (i + m)) 0)
      go (yes q) f rest = (0, omega arith, q ∙ ap (λ (m : ℕ). at M (root_of m) 0) (sym (add-zero i)))
      go (no q) f rest = let (m, l, h) = rest f in (suc m, omega arith, h ∙ ap (λ (j : ℕ). at M (root_of j) 0) (suc-add i m ∙ sym (add-suc i m)))

-- ---- the tree is fed

module _ (ts : List Term) (ok : Proper ts) (values : List ℤ) (fit : ValuesFor ts values) (capacity cells : ℕ) (room : count is_variable ts + length ts ≤ capacity) where
  abbrev T : Machine
  T = machine_of (graph_for ts) [] capacity cells

  abbrev s : State Tag ℤ
  s = first_state (input_bytes values) cells

  tokens_first : s.tokens ≡ map token_held (inputs_for 0 values)
  unfolding first_state
  tokens_first = ap (map token_held) (inputs_back ts ok values fit)

  -- where a port is not that of a variable, nothing stands
  nothing : (i p : ℕ) → count is_variable ts ≤ number ts i → look T s (at T (root_of (number ts i)) p) ≡ none
  nothing i p l = rw tokens_first (go (find T (at T (root_of (number ts i)) p) (map token_held (inputs_for 0 values))) refl)
    where
      go : (x : maybe.Option (Content ℤ)) → find T (at T (root_of (number ts i)) p) (map token_held (inputs_for 0 values)) ≡ x → x ≡ none
      go none e = refl
      go (some x) e =
          let (m, low, k) = found_only (graph_for ts) capacity cells 0 values (at T (root_of (number ts i)) p) x e in
          let same = ap (λ (j : Key Tag). j.tag.instruction) k in
          let many = fit.number in
          absurd (omega arith)

  inputs_there : (i p : ℕ) → i ≤ length ts → p < ports_of ts i → look T s (at T (root_of (number ts i)) p) ≡ first (source_of ts values i p)
  inputs_there i p l lp = go (dec_le (suc i) (length ts))
    where
      of_record : i < length ts → (b : Bool) → is_variable (term_at ts i) ≡ b → look T s (at T (root_of (number ts i)) p) ≡ first (source_of ts values i p)
      of_record low true v =
          let inside : ltb i (length ts) ≡ true = lt-ltb i (length ts) low in
          let one : p < 1 = rw (inside, v) at lp in
          let port : p ≡ 0 = omega arith in
          let z = variable_low ts i low v in
          let n = variable_number_lem ts i v in
          let many = fit.number in
          rw (tokens_first, inside, v, n, port)
          (subst (λ (m : ℕ). find T (at T (root_of m) 0) (map token_held (inputs_for 0 values)) ≡ some (live (get_or values (variable_number ts i) (pos 0)))) (zero-add (variable_number ts i))
          (found (graph_for ts) capacity cells 0 values (variable_number ts i) (omega arith)))
      of_record low false v =
          let inside : ltb i (length ts) ≡ true = lt-ltb i (length ts) low in
          nothing i p (rw inside (let n = operation_number ts i v in omega arith)) ∙ rw (inside, v)

      go : Dec (suc i ≤ length ts) → look T s (at T (root_of (number ts i)) p) ≡ first (source_of ts values i p)
      go (yes low) = of_record low (is_variable (term_at ts i)) refl
      go (no h) = let past : ltb i (length ts) ≡ false = le-ltb i (length ts) (omega arith) in nothing i p (rw past (omega (arith, count_both ts))) ∙ rw past

  only_inputs : (k : Key Tag) (x : Content ℤ) → look T s k ≡ some x → (i : ℕ) × (p : ℕ) × (i ≤ length ts) × (p < ports_of ts i) × (k ≡ at T (root_of (number ts i)) p)
  unfolding term_at
  only_inputs k x e =
      let (m, low, q) = found_only (graph_for ts) capacity cells 0 values k x (rw tokens_first at e) in
      let many = fit.number in
      let (i, li, v, c) = counted is_variable (decode_term []) ts m (omega arith) in
      let inside : ltb i (length ts) ≡ true = lt-ltb i (length ts) li in
      let same : number ts i ≡ 0 + m = rw inside (variable_number_lem ts i v ∙ c ∙ sym (zero-add m)) in
      (i, 0, omega arith, rw (inside, v) (omega arith), q ∙ ap (λ (j : ℕ). at T (root_of j) 0) (sym same))

  fed : Fed T (tree ts ok values capacity cells) s
  fed = record {
    distinct = (start (graph_for ts) [] capacity cells (input_bytes values) (inputs_pass ts ok values fit capacity (let many = fit.number in omega arith))).distinct;
    inputs = inputs_there;
    only = only_inputs;
    room = rw (tokens_first, length-map (inputs_for 0 values) token_held, length_inputs 0 values, fit.number) room;
  }

  -- ---- every order

  -- the value of the tree is that of the expression
  value_same : Trees.tree_value T (tree ts ok values capacity cells) ≡ optional (expression_value ts values)
  value_same = rw (le-ltb (length ts) (length ts) (omega arith))

  out_number : number ts (length ts) ≡ out_for ts
  out_number = rw (le-ltb (length ts) (length ts) (omega arith))

  pub evaluates : (c : Choice T) → LawfulChoice T c → (budget : ℕ) → length ts ≤ budget → (picks : List ℕ) → EvaluatesExpression ts capacity cells (expression_value ts values) (run_by T c budget picks 0 s)
  evaluates c lawful budget enough picks =
      go (expression_value ts values) (rw value_same at (trees_evaluate T (tree ts ok values capacity cells) (is_tree ts ok values capacity cells) s fed c lawful budget enough picks 0))
    where
      go : (v : Option ℤ) → Trees.EvaluatesTree T (tree ts ok values capacity cells) s 0 (optional v) (run_by T c budget picks 0 s) → EvaluatesExpression ts capacity cells v (run_by T c budget picks 0 s)
      go None h = h
      go (Some v) h = record {
        outcome = h.outcome;
        received = subst (λ (m : ℕ). look T (run_by T c budget picks 0 s).state (at T (root_of m) 0) ≡ some (live v)) out_number h.result;
        firings = h.firings ∙ zero-add (length ts);
        tokens = h.tokens ∙ rw (tokens_first, length-map (inputs_for 0 values) token_held, length_inputs 0 values, fit.number);
      }

pub expressions_evaluate_by : ExpressionsEvaluateBy
expressions_evaluate_by expression e values fit capacity cells room = evaluates (expression_of expression) (passed expression e) values fit capacity cells room

-- ---- whole runs

-- what is lent has the allowed lengths
stores_pass : (inputs picks : List ℕ) (ledger cells : ℕ) → whole token_width most_tokens (length inputs) ≡ true → Allowed picks ledger cells → check_stores (length inputs) (length picks) ledger cells ≡ Ok tt
unfolding check_stores
stores_pass inputs picks ledger cells w a = rw (w, a.allowed_picks, a.allowed_ledger, a.allowed_cells)

pub expressions_evaluate : ExpressionsEvaluate
unfolding result check unless_failed
expressions_evaluate expression e values fit picks ledger cells allowed enough =
    (run T 2048 (picks_of picks) (first_state (input_bytes values) (cells / cell_width)), ran, evaluates ts ok values fit capacity (cells / cell_width) room (by_picks T) (by_picks_lawful T) 2048 (let few = ok.few in omega arith) (picks_of picks))
  where
    ts : List Term
    ts = expression_of expression

    capacity : ℕ
    capacity = capacity_of ledger

    T : Machine
    T = expression_machine ts capacity (cells / cell_width)

    ok : Proper ts
    ok = passed expression e

    room : count is_variable ts + length ts ≤ capacity
    room = let few = ok.few in omega (arith, count_both ts)

    whole_inputs_lem : whole token_width most_tokens (length (input_bytes values)) ≡ true
    whole_inputs_lem =
        let few = few_values ts ok values fit in
        let bytes = length_input_bytes ts ok values fit in
        rw (eq-eqb (length (input_bytes values) % token_width) 0 (omega arith), le-leb (length (input_bytes values) / token_width) most_tokens (omega arith))

    ran : result (graph_bytes ts) [] (input_bytes values) picks 2048 ledger cells ≡ ran_to (run T 2048 (picks_of picks) (first_state (input_bytes values) (cells / cell_width)))
    ran =
        rw (
          graph_passes ts ok,
          stores_pass (input_bytes values) picks ledger cells whole_inputs_lem allowed,
          graph_back ts ok,
          arrays_pass ts ok (cells / cell_width),
          inputs_pass ts ok values fit capacity (let few = few_values ts ok values fit in omega arith),
        )
