-- 02, R-3: without NEXT, ENTER and LEAVE every tag is at the root, so that an instruction fires once at most: the firings, and the outputs, are sums over the
-- instructions that have fired (`tally`). Those are reached (`within`); and where nothing is enabled and no SWITCH or FETCH is reached, all that is reached and can
-- fire has fired (`at_rest`). Assumes nothing.
use Rattle.std.proofs.Common.{Ok}
use Prim.Native.Nat.{ℕ, zero, suc, ◌+◌, ◌≤◌, ◌<◌}
use mathlib.Core.Path.{◌≡◌, refl, sym, ap, subst, ◌∙◌}
use mathlib.Core.Logic.{◌⊎◌, inl, inr}
use mathlib.Core.Bool.{Bool, true, false, ◌&&◌, ◌||◌, cond}
use mathlib.Core.List.{List, []}
use mathlib.Core.Option.{some}
use native.Mathlib.Omega.{arith}
use native.Mathlib.Decide.{dec_le}
use borrow.Author.Tests.{eqb-true, leb-true}
use lib.ListN.{length}
use lib.Dec.{eqb}
use lib.IntN.{ℤ}
use Rattle.record.specs.declared.tag.Tag.{Tag}
use Rattle.record.specs.declared.array.NamedArray.{NamedArray}
use Rattle.record.specs.declared.token.Token.{Token}
use Rattle.record.specs.declared.instruction.Instruction.{Instruction}
use Rattle.record.specs.declared.operation.Operation.TheVariants.{Fetch}
use Rattle.record.specs.Paths.{root_path}
use Rattle.record.specs.TokensAndTags.{root_of, stands_at}
use Rattle.record.specs.GraphRecords.{destinations, operation_of, operands_of, row_of, graph_of}
use Rattle.record.specs.GraphRecords as Graph
use Rattle.record.proofs.Paths.{is_root_lem}
use Rattle.machine.specs.Machine.{Key, Content, spent, deferred, Machine, State, is_there, at, look, enabled}
use Rattle.machine.specs.Orders.{Lawful, SpentContent, Start, Reached, Invariants, outputs}
use Rattle.machine.proofs.View.{false_true}
use Rattle.machine.proofs.Orders.{start_good}
use Rattle.machine.proofs.Reached.{reached_good, reached_invariants}
use Rattle.machine.proofs.Kept.{Each, each_map, OfState, OfOperands, Keeps, found, reached_keeps}
use Rattle.machine.proofs.Fired.{has_fired, spent_is, Marked, marked, start_none, fired_sent, there_stays_lem, fired_or_enabled}
use Rattle.rules.specs.declared.answer.Refusal.TheVariants as Refusals
use Rattle.rules.specs.Check.{demand, any, in_turn, instruction_at, operands_at, check_graph, check_inputs}
use Rattle.rules.specs.InstructionSet.{key_under, all_under, effect_in, is_result, arity_in, machine_of}
use Rattle.rules.specs.Run.{token_held, first_state}
use Rattle.rules.specs.Needs.{any_below, sum_below, sends_to, port_reached, all_reached, reached, firings_needed, outputs_needed, total, loop_free, inputs_of, NoSwitchOrFetch}
use Rattle.rules.proofs.Passed.{both, demand_passed, turn_passed}
use Rattle.rules.proofs.PassedGraph.{Good, past_operands, of_graph, coded, said_of, least_fan_out_lem}
use Rattle.rules.proofs.Lawful.{lawful}
use Rattle.rules.proofs.Inputs.{start_keys, start}
use Rattle.rules.proofs.Lists.{neither, either, or_left, or_right}
use Rattle.rules.proofs.Effects.{both_sides, Asked, keeps_asked}
use Rattle.rules.proofs.Below.{any_below_lem, one_below, each_below, all_below_lem, sum_least, sum_same, sum_none, sum_more}
use Rattle.rules.proofs.Rounds.{all_more, reached_least, reached_inside, Closed}
use Rattle.rules.proofs.LoopFree.{no_loop, no_destinations, keys_sent, not_switch, outputs_counted}
use Rattle.rules.proofs.RootTokens.{sends_own, input_there, port_among}

-- ---- a graph and inputs that passed

module _ (graph inputs : List ℕ) (table : List NamedArray) (capacity cells : ℕ) (passed : check_graph graph ≡ Ok tt)
    (free : in_turn (λ i r. demand (loop_free r) Refusals.NotLoopFree i) 0 (graph_of graph) ≡ Ok tt) (accepted : check_inputs (graph_of graph) capacity inputs ≡ Ok tt) where
  abbrev g : List Instruction
  g = graph_of graph

  abbrev ts : List Token
  ts = inputs_of inputs

  abbrev M : Machine
  M = machine_of g table capacity cells

  abbrev s : State Tag ℤ
  s = first_state inputs cells

  -- what is reached
  abbrev S : ℕ → Bool
  S = reached ts g

  pub begun : Start M s
  begun = start g table capacity cells inputs accepted

  law : Lawful M
  law = lawful graph passed table capacity cells

  good_at : (i : ℕ) → i < length g → Good g i (instruction_at g i)
  good_at i h = of_graph graph passed i h

  free_at : (i : ℕ) → i < length g → loop_free (instruction_at g i) ≡ true
  unfolding instruction_at
  free_at i h = demand_passed _ Refusals.NotLoopFree (0 + i) (turn_passed (λ i r. demand (loop_free r) Refusals.NotLoopFree i) (Graph.decode_instruction []) 0 g free i h)

  -- ---- the operands that an activity waits for

  record Waits (i : ℕ) : Type 0 where
    inside : i < length g
    fires : eqb (instruction_at g i).code 3 ≡ false
    ports : arity_in g (root_of i) ≡ operands_at g i

  -- a LEAVE is not loop-free, so that OUT is the only result
  no_result : (i : ℕ) → is_result (instruction_at g i) (root_of i) ≡ false → eqb (instruction_at g i).code 3 ≡ false
  unfolding is_result
  no_result i e = (neither (eqb (instruction_at g i).code 3) _ e).0

  one_result : (i : ℕ) → i < length g → eqb (instruction_at g i).code 3 ≡ false → is_result (instruction_at g i) (root_of i) ≡ false
  unfolding is_result
  one_result i l e = rw (e, is_root_lem root_path refl) (go (eqb (instruction_at g i).code 9) refl)
    where
      go : (b : Bool) → eqb (instruction_at g i).code 9 ≡ b → b && true ≡ false
      go false h = refl
      go true h = absurd (no_loop (instruction_at g i) (free_at i l) 9 h (omega arith) (omega arith))

  waits_of : (i : ℕ) → 0 < arity_in g (root_of i) → Waits i
  unfolding arity_in operands_at
  waits_of i h = go (is_result (instruction_at g i) (root_of i)) refl h (dec_le (suc i) (length g))
    where
      go : (b : Bool) → is_result (instruction_at g i) (root_of i) ≡ b → 0 < cond b 0 (operands_of (instruction_at g i).code) → Dec (suc i ≤ length g) → Waits i
      go true e l d = absurd (omega arith)
      go false e l (no n) = absurd (omega (arith, past_operands g i (omega arith)))
      go false e l (yes m) = record { inside = m; fires = no_result i e; ports = rw e }

  fires_waits : (i : ℕ) → i < length g → eqb (instruction_at g i).code 3 ≡ false → 0 < arity_in g (root_of i)
  unfolding arity_in
  fires_waits i l e = rw (one_result i l e) (leb-true 1 _ (good_at i l).known)

  -- ---- every tag is at the root, and every port that has a token is reached

  abbrev P : Key Tag → Type 0
  P k = (k.tag ≡ root_of k.tag.instruction) × (port_reached ts g S k.tag.instruction k.port ≡ true)

  -- an instruction all of whose operands have such keys is reached
  reaches : (i : ℕ) → 0 < arity_in g (root_of i) → ((p : ℕ) → p < arity_in g (root_of i) → port_reached ts g S i p ≡ true) → S i ≡ true
  unfolding all_reached
  reaches i w ports =
      let h = waits_of i w in
      (reached_least ts g).closed i h.inside (all_below_lem (operands_at g i) (port_reached ts g S i) (λ p l. ports p (rw h.ports l)))

  -- and what it sends to is reached
  sends : (i : ℕ) → S i ≡ true → Each P (all_under (root_of i) (instruction_at g i))
  unfolding port_reached
  sends i e =
      let r = instruction_at g i in
      each_map (λ d. sends_to d.instruction d.port r ≡ true) P (key_under (root_of i))
      (λ d h. (
        refl,
        or_right (any (stands_at (root_of d.instruction) d.port) ts) _
            (any_below_lem (length g) (λ j. S j && sends_to d.instruction d.port (instruction_at g j)) i (reached_inside ts g i e) (rw e h)),
      ))
      (destinations r) (sends_own r)

  -- R: what is read, if a FETCH is reached
  module _ (R : ℕ → Type 0) (reads : (i : ℕ) → S i ≡ true → operation_of (instruction_at g i).code ≡ Fetch → (c : ℕ) → R c) where
    abbrev Any : ℤ → Type 0
    Any v = Unit {0}

    asked : (i : ℕ) → S i ≡ true → Asked g table capacity cells P Any R (root_of i) (instruction_at g i)
    asked i e =
        let r = instruction_at g i in
        let inside = reached_inside ts g i e in
        let good = good_at i inside in
        record {
          all = sends i e;
          sides = λ o. both_sides P (root_of i) r.fanout r.first r.second (omega (arith, leb-true 2 (row_of r.code).least_fan_out (said_of good o), least_fan_out_lem good)) (sends i e);
          next = λ o h. absurd (no_loop r (free_at i inside) 7 (coded r.code o) (omega arith) (omega arith));
          enter = λ o h. absurd (no_loop r (free_at i inside) 8 (coded r.code o) (omega arith) (omega arith));
          leave = λ o site caller h j l. absurd (no_loop r (free_at i inside) 9 (coded r.code o) (omega arith) (omega arith));
          fetch = λ o c h. reads i e o c;
          constant = tt;
          computed = λ o a b v h. tt;
        }

    asked_of : (τ : Tag) → OfOperands M P Any R τ → Asked g table capacity cells P Any R τ (instruction_at g τ.instruction)
    asked_of τ (waits, keys) =
        let i = τ.instruction in
        let root : τ ≡ root_of i = (keys 0 waits).0 in
        let e = reaches i (rw (← root) waits) (λ p l. (keys p (rw root l)).1) in
        subst (λ (x : Tag). Asked g table capacity cells P Any R x (instruction_at g i)) (sym root) (asked i e)

    keeps : Keeps M P Any R
    keeps = keeps_asked g table capacity cells P Any R asked_of tt

    first : OfState M P Any R s
    unfolding port_reached
    first = start_keys g table capacity cells P R inputs here accepted
      where
        here : (t : Token) → t.tag ≡ root_of t.tag.instruction → t.port < operands_at g t.tag.instruction → any (stands_at t.tag t.port) ts ≡ true → P (token_held t).key
        here t e l h = (e, or_left _ _ (subst (λ (x : Tag). any (stands_at x t.port) ts ≡ true) e h))

    kept : (f o : ℕ) (x : State Tag ℤ) → Reached M s f o x → OfState M P Any R x
    kept f o x r = reached_keeps M P Any R keeps s first f o x r

  -- ---- which instructions have fired

  abbrev Fired : State Tag ℤ → ℕ → Bool
  Fired x i = has_fired M x (root_of i)

  -- the key of a token that a run has put into its ledger
  key_of : (f o : ℕ) (x : State Tag ℤ) → Reached M s f o x → (k : Key Tag) (c : Content ℤ) → look M x k ≡ some c → P k
  key_of f o x r k c e = (found M P (λ v. Unit {0}) (λ c. Unit {0}) k x.tokens c (kept (λ c. Unit {0}) (λ i h q c. tt) f o x r).tokens e).0

  -- what has fired is reached, and can fire
  record FiredAt (i : ℕ) : Type 0 where
    is_reached : S i ≡ true
    fires : eqb (instruction_at g i).code 3 ≡ false

  fired_reached : (f o : ℕ) (x : State Tag ℤ) → Reached M s f o x → (i : ℕ) → Fired x i ≡ true → FiredAt i
  fired_reached f o x r i e = go (dec_le 1 (M.arity (root_of i)))
    where
      inv : Invariants M s f o x
      inv = reached_invariants M law s begun f o x r

      first_spent_lem : SpentContent (look M x (at M (root_of i) 0))
      first_spent_lem = spent_is _ e

      spent_port : 0 < M.arity (root_of i) → (p : ℕ) → p < M.arity (root_of i) → port_reached ts g S i p ≡ true
      spent_port w p l =
          let (v, h) = inv.spent_together (root_of i) 0 p w l first_spent_lem in
          (key_of f o x r (at M (root_of i) p) (spent v) h).1

      go : Dec (1 ≤ M.arity (root_of i)) → FiredAt i
      go (yes w) = record { is_reached = reaches i w (spent_port w); fires = (waits_of i w).fires }
      go (no n) = absurd (inv.others_unspent (root_of i) 0 (omega arith) first_spent_lem)

  -- ---- the tally

  -- over the instructions that have fired
  abbrev done : State Tag ℤ → (ℕ → ℕ) → ℕ
  done x w = sum_below (length g) (λ i. cond (Fired x i) (w i) 0)

  other_root : (i j : ℕ) → ¬ (i ≡ j) → ¬ (root_of i ≡ root_of j)
  other_root i j n e = n (ap (λ (τ : Tag). τ.instruction) e)

  -- a firing adds its instruction
  done_more : (y x : State Tag ℤ) (i : ℕ) → i < length g → Marked M y (root_of i) x → (w : ℕ → ℕ) → done x w ≡ done y w + w i
  done_more y x i l now w = sum_more (length g) (λ j. cond (Fired y j) (w j) 0) (λ j. cond (Fired x j) (w j) 0) i (w i) l here others
    where
      here : cond (Fired x i) (w i) 0 ≡ cond (Fired y i) (w i) 0 + w i
      here = rw (now.after, now.before) (omega arith)

      others : (j : ℕ) → ¬ (i ≡ j) → cond (Fired x j) (w j) 0 ≡ cond (Fired y j) (w j) 0
      others j n = ap (λ (b : Bool). cond b (w j) 0) (now.others (root_of j) (other_root i j n))

  record Tally (x : State Tag ℤ) (f o : ℕ) : Type 0 where
    firings : f ≡ done x (λ i. 1)
    outputs : o ≡ done x (λ i. outputs_needed (instruction_at g i))

  sent_counted : (y x : State Tag ℤ) (τ : Tag) → τ.instruction < length g → Marked M y τ x → outputs M y τ ≡ outputs_needed (instruction_at g τ.instruction)
  unfolding effect_in
  sent_counted y x τ l now =
      let i = τ.instruction in
      now.sent ∙ outputs_counted g table capacity cells (good_at i l) (free_at i l) τ now.left now.right now.done

  none_done : (w : ℕ → ℕ) → done s w ≡ 0
  none_done w = sum_none (length g) (λ i. cond (Fired s i) (w i) 0) (λ i. ap (λ (b : Bool). cond b (w i) 0) (start_none M law s begun (root_of i)))

  tally : (f o : ℕ) (x : State Tag ℤ) → Reached M s f o x → Tally x f o
  tally zero o x (e, q) = rw q (record { firings = sym (none_done (λ i. 1)); outputs = e ∙ sym (none_done (λ i. outputs_needed (instruction_at g i))) })
  tally (suc f) o x (y, n, τ, r, e, q) = next (tally f n y r)
    where
      now : Marked M y τ x
      now = marked M law y x τ (reached_good M law s (start_good M s begun) f n y r) e

      i : ℕ
      i = τ.instruction

      reach : Reached M s (suc f) o x
      reach = (y, n, τ, r, e, q)

      -- its operand is now spent, so that its tag is at the root and its instruction reached
      root : τ ≡ root_of i
      root =
          let (v, h) = spent_is (look M x (at M τ 0)) now.after in
          (key_of (suc f) o x reach (at M τ 0) (spent v) h).0

      inside : i < length g
      inside = reached_inside ts g i (fired_reached (suc f) o x reach i (rw (← root) now.after)).is_reached

      next : Tally y f n → Tally x (suc f) o
      next t =
          let here : Marked M y (root_of i) x = subst (λ (σ : Tag). Marked M y σ x) root now in
          let a = done_more y x i inside here (λ j. 1) in
          let b = done_more y x i inside here (λ j. outputs_needed (instruction_at g j)) in
          record { firings = omega (arith, t.firings); outputs = omega (arith, q, t.outputs, sent_counted y x τ inside now) }

  -- ---- no state exceeds the bounds

  -- what the bounds count is what is reached and can fire
  counted : (w : Instruction → ℕ) → total ts g w ≡ sum_below (length g) (λ i. cond (S i) (w (instruction_at g i)) 0)
  unfolding total reached
  counted w = refl

  pub within : (f o : ℕ) (x : State Tag ℤ) → Reached M s f o x → (f ≤ total ts g firings_needed) × (o ≤ total ts g outputs_needed)
  unfolding firings_needed
  within f o x r =
      let t = tally f o x r in (
        rw (counted firings_needed) (omega (arith, t.firings, sum_least (length g) _ (λ i. cond (S i) (firings_needed (instruction_at g i)) 0) (λ i l. less i 1 (firings_needed (instruction_at g i)) (λ h. rw h.fires (omega arith))))),
        rw (counted outputs_needed) (omega (arith, t.outputs, sum_least (length g) _ (λ i. cond (S i) (outputs_needed (instruction_at g i)) 0) (λ i l. less i (outputs_needed (instruction_at g i)) (outputs_needed (instruction_at g i)) (λ h. omega arith)))),
      )
    where
      less : (i m n : ℕ) → (FiredAt i → m ≤ n) → cond (Fired x i) m 0 ≤ cond (S i) n 0
      less i m n k = go (Fired x i) refl
        where
          go : (b : Bool) → Fired x i ≡ b → cond b m 0 ≤ cond (S i) n 0
          go false e = omega arith
          go true e = let h = fired_reached f o x r i e in rw h.is_reached (k h)

  -- ---- nothing is enabled, and no SWITCH or FETCH is reached

  module _ (plain : NoSwitchOrFetch graph inputs) (f o : ℕ) (x : State Tag ℤ) (r : Reached M s f o x) (rest : enabled M x ≡ []) where
    no_fetch : (i : ℕ) → S i ≡ true → operation_of (instruction_at g i).code ≡ Fetch → (c : ℕ) → ⊥
    no_fetch i e q c = let code = (instruction_at g i).code in false_true (sym (neither (eqb code 5) (eqb code 10) (plain i e)).1 ∙ coded code q)

    undeferred : (k : Key Tag) (c : ℕ) → ¬ (look M x k ≡ some (deferred c))
    undeferred k c h = (found M P (λ v. Unit {0}) (λ c. ⊥) k x.tokens (deferred c) (kept (λ c. ⊥) no_fetch f o x r).tokens h).1

    abbrev is_out : ℕ → Bool
    is_out i = eqb (instruction_at g i).code 3

    -- reached, and fired if it can fire
    T : ℕ → Bool
    T i = S i && (Fired x i || is_out i)

    nothing_sent : (i : ℕ) → i < length g → is_out i ≡ true → destinations (instruction_at g i) ≡ []
    unfolding row_of
    nothing_sent i l e = no_destinations (good_at i l) (rw (eqb-true (instruction_at g i).code 3 e))

    sent_there : (j i p : ℕ) → T j ≡ true → sends_to i p (instruction_at g j) ≡ true → is_there (look M x (at M (root_of i) p)) ≡ true
    unfolding T sends_to effect_in
    sent_there j i p t h = go (either (Fired x j) (is_out j) parts.1)
      where
        parts : (S j ≡ true) × (Fired x j || is_out j ≡ true)
        parts = both (S j) (Fired x j || is_out j) t

        inside : j < length g
        inside = reached_inside ts g j parts.0

        go : (Fired x j ≡ true) ⊎ (is_out j ≡ true) → is_there (look M x (at M (root_of i) p)) ≡ true
        go (inr e) = false_true (rw (nothing_sent j inside e) at h)
        go (inl e) =
            let sent = fired_sent M law s begun f o x r (root_of j) e in
            let code = (instruction_at g j).code in
            let keys = keys_sent g table capacity cells (good_at j inside) (free_at j inside) (root_of j) (operation_of code) refl (not_switch code (neither (eqb code 5) _ (plain j parts.0)).0)
            sent.left sent.right sent.done in
            sent.there (at M (root_of i) p) (rw keys (port_among g table capacity cells i p j (destinations (instruction_at g j)) h))

    port_there : (i p : ℕ) → port_reached ts g T i p ≡ true → is_there (look M x (at M (root_of i) p)) ≡ true
    unfolding port_reached first_state
    port_there i p h = go (either (any (stands_at (root_of i) p) ts) _ h)
      where
        go : (any (stands_at (root_of i) p) ts ≡ true) ⊎ (any_below (length g) (λ j. T j && sends_to i p (instruction_at g j)) ≡ true) → is_there (look M x (at M (root_of i) p)) ≡ true
        go (inl k) = there_stays_lem M law s begun f o x r (at M (root_of i) p) (input_there g table capacity cells i p ts k)
        go (inr k) =
            let (j, l, m) = one_below (length g) (λ j. T j && sends_to i p (instruction_at g j)) k in
            let q = both (T j) (sends_to i p (instruction_at g j)) m in
            sent_there j i p q.0 q.1

    T-closed : Closed ts g T
    unfolding T all_reached
    T-closed i l e = rw here (go (is_out i) refl)
      where
        here : S i ≡ true
        here = (reached_least ts g).closed i l (all_more ts g T S (λ j h. (both (S j) _ h).0) i e)

        go : (b : Bool) → is_out i ≡ b → Fired x i || is_out i ≡ true
        go true h = or_right (Fired x i) (is_out i) h
        go false h = or_left (Fired x i) (is_out i) (fired_or_enabled M x rest (root_of i) waits (inv.spent_together (root_of i)) there (λ p c. undeferred (at M (root_of i) p) c))
          where
            inv : Invariants M s f o x
            inv = reached_invariants M law s begun f o x r

            waits : 0 < M.arity (root_of i)
            waits = fires_waits i l h

            there : (p : ℕ) → p < M.arity (root_of i) → is_there (look M x (at M (root_of i) p)) ≡ true
            there p m = port_there i p (each_below (operands_at g i) (port_reached ts g T i) e p (rw (← (waits_of i waits).ports) m))

    -- all that is reached and can fire has fired
    all_fired : (i : ℕ) → S i ≡ true → Fired x i || is_out i ≡ true
    unfolding T
    all_fired i e = (both (S i) _ ((reached_least ts g).least T T-closed i e)).1

    -- an OUT adds nothing to either bound
    same : (i m n : ℕ) → (FiredAt i → m ≡ n) → (S i ≡ true → is_out i ≡ true → n ≡ 0) → cond (Fired x i) m 0 ≡ cond (S i) n 0
    same i m n k z = go (Fired x i) (S i) refl refl
      where
        go : (a b : Bool) → Fired x i ≡ a → S i ≡ b → cond a m 0 ≡ cond b n 0
        go true b e h = let p = fired_reached f o x r i e in rw (sym h ∙ p.is_reached) (k p)
        go false false e h = refl
        go false true e h = sym (z h (rw e at (all_fired i h)))

    out_fires : (i : ℕ) → is_out i ≡ true → firings_needed (instruction_at g i) ≡ 0
    unfolding firings_needed
    out_fires i e = rw e

    out_sends : (i : ℕ) → i < length g → is_out i ≡ true → outputs_needed (instruction_at g i) ≡ 0
    unfolding outputs_needed
    out_sends i l e = rw (nothing_sent i l e, eqb-true (instruction_at g i).code 3 e)

    pub at_rest : (f ≡ total ts g firings_needed) × (o ≡ total ts g outputs_needed)
    unfolding firings_needed
    at_rest =
        let t = tally f o x r in (
          t.firings ∙ sum_same (length g) _ _ (λ i l. same i 1 (firings_needed (instruction_at g i)) (λ h. rw h.fires) (λ e h. out_fires i h)) ∙ sym (counted firings_needed),
          t.outputs ∙ sum_same (length g) _ _ (λ i l. same i (outputs_needed (instruction_at g i)) (outputs_needed (instruction_at g i)) (λ h. refl) (λ e h. out_sends i l h)) ∙ sym (counted outputs_needed),
        )
