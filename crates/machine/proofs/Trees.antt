-- In every order a tree of activities gives its value to the result, or the run is refused (`trees_evaluate`). By an invariant of every state: at a port stands a
-- token exactly if its source has fired, with the source's value, and it is spent exactly if its activity has fired (`Holds`). Assumes nothing.
use mathlib.Core.Path.{◌≡◌, refl, sym, ap, subst, ◌∙◌}
use mathlib.Core.List.Memᴰ
use mathlib.Core.List.{List, [], ◌∷◌, ◌++◌, map}
use mathlib.Core.Option.{Option, none, some}
use mathlib.Core.Bool.{Bool, true, false, cond}
use Prim.Native.Nat.{ℕ, zero, suc, ◌+◌, ◌≤◌, ◌<◌}
use native.Mathlib.Decide.{ℕ_discrete}
use native.Mathlib.Omega.{arith}
use lib.ListN.{length, length-append, length-map}
use borrow.Author.Tests.{le-ltb}
use Rattle.machine.specs.Machine.{Key, Content, live, spent, refuse, send, Machine, fired, not_fired, Outcome, completed, hung, budget_spent, refused, Operands, Choice}
use Rattle.machine.specs.Machine.{when, on_option, changed, output, two_values, Ledger, StateOf, FiredOf, same_key, at, find, look, is_operand_of, live_at, all_live, operands, spend_at, among, admit, commit, fire, end, run_by}
use Rattle.machine.specs.Orders.{Distinct, ProperContentAt, AllProper, Says, LawfulChoice}
use Rattle.machine.specs.Sequences.{Fires, NothingEnabled, log_of}
use Rattle.machine.specs.Machine.{EndOf}
use Rattle.machine.proofs.Sets.{with, with_own, with_other, with_keeps, with_back, count_below, none_below, fewer, all_count, one_more}
use Rattle.machine.proofs.View.{when_yes, when_no, none_some, false_true, omap, or_else, given, live_of, below_all_lem, both_parts, two_kept, Ready, operand_key, operand_at, operand_live, operand_zero, operands_there, operands_all}
use Rattle.machine.proofs.Store.{find_append, find_changed, find_outputs, find_head, distinct_append, view}
use Rattle.machine.proofs.Enabled.{enabled_ready, ready_enabled}
use Rattle.machine.proofs.Sequences.{fired_same, never_fired, fired_ready}
use Rattle.machine.proofs.Runs.{ran}

-- ---- the claims

-- where the token at a port comes from
pub data Source (W : Type 0) : Type 0 where
  input : W → Source W
  from : (activity : ℕ) → Source W

-- the value that comes to a port, if its activity has one
abbrev pub comes : {W : Type 0} → (ℕ → Option W) → Source W → Option W
comes value (input v) = some v
comes value (from j) = value j

-- what is there before any firing
abbrev pub first : {W : Type 0} → Source W → Option (Content W)
first (input v) = some (live v)
first (from j) = none

module _ (M : Machine) where
  -- activities are numbered below the size; the number after them is that of the result, which never fires
  pub record Tree : Type 0 where
    pub size : ℕ
    pub tag : ℕ → M.Tag
    pub ports : ℕ → ℕ
    pub source : (activity port : ℕ) → Source M.Value
    -- where an activity sends to, and its value, which it sends: an activity without a value is refused
    pub out : ℕ → Key M.Tag
    pub value : ℕ → Option M.Value
    pub refusal : M.Refusal

  pub record IsTree (t : Tree) : Type 0 where
    pub apart : (i j : ℕ) → i ≤ t.size → j ≤ t.size → t.tag i ≡ t.tag j → i ≡ j
    pub positive : (i : ℕ) → i < t.size → 0 < t.ports i
    pub waits : (i : ℕ) → i < t.size → M.arity (t.tag i) ≡ t.ports i
    -- the result has one port and waits for nothing
    pub one : t.ports t.size ≡ 1
    pub rests : M.arity (t.tag t.size) ≡ 0
    -- each activity feeds a port, the one that it sends to and no other, and this is a port of a later one
    pub feeds : (j : ℕ) → j < t.size → (i : ℕ) × (p : ℕ) × (i ≤ t.size) × (p < t.ports i) × (t.source i p ≡ from j)
    pub once : (i p j : ℕ) → i ≤ t.size → p < t.ports i → t.source i p ≡ from j → (j < i) × (t.out j ≡ at M (t.tag i) p)
    -- the value goes by the values that come
    pub effect : (i : ℕ) → i < t.size → (o : Operands M.Value) → two_values (t.ports i) (comes t.value (t.source i 0)) (comes t.value (t.source i 1)) ≡ some o
        → M.effect (t.tag i) o.left o.right ≡ on_option (t.value i) (refuse t.refusal) (λ v. send v (t.out i ∷ []))
    pub strict : (i p : ℕ) → i < t.size → p < t.ports i → comes t.value (t.source i p) ≡ none → t.value i ≡ none

  -- the inputs stand at their ports, and no other token is there; the ledger has room for one token of each activity
  pub record Fed (t : Tree) (s : StateOf M) : Type 0 where
    pub distinct : Distinct M s.tokens
    pub inputs : (i p : ℕ) → i ≤ t.size → p < t.ports i → look M s (at M (t.tag i) p) ≡ first (t.source i p)
    pub only : (k : Key M.Tag) (x : Content M.Value) → look M s k ≡ some x → (i : ℕ) × (p : ℕ) × (i ≤ t.size) × (p < t.ports i) × (k ≡ at M (t.tag i) p)
    pub room : length s.tokens + t.size ≤ M.capacity

  abbrev pub tree_value : Tree → Option M.Value
  tree_value t = comes t.value (t.source t.size 0)

  -- from s, after f firings: each activity has fired once, and the result has the value v
  pub record Evaluated (t : Tree) (s : StateOf M) (f : ℕ) (v : M.Value) (e : EndOf M) : Type 0 where
    pub outcome : e.outcome ≡ completed
    pub result : look M e.state (at M (t.tag t.size) 0) ≡ some (live v)
    pub firings : e.firings ≡ f + t.size
    pub tokens : length e.state.tokens ≡ length s.tokens + t.size

  abbrev pub EvaluatesTree : (t : Tree) (s : StateOf M) (f : ℕ) → Option M.Value → EndOf M → Type 0
  EvaluatesTree t s f none e = (place : ℕ) × (e.outcome ≡ refused t.refusal place)
  EvaluatesTree t s f (some v) e = Evaluated t s f v e

  -- in every order, with a budget for one firing of each activity
  abbrev pub TreesEvaluate : Type 0
  TreesEvaluate = (t : Tree) → IsTree t → (s : StateOf M) → Fed t s → (c : Choice M) → LawfulChoice M c → (budget : ℕ) → t.size ≤ budget → (picks : List ℕ) (f : ℕ)
      → EvaluatesTree t s f (tree_value t) (run_by M c budget picks f s)

-- ---- what stands at a port

abbrev token : {W : Type 0} → (is_spent : Bool) → W → Content W
token true v = spent v
token false v = live v

-- by its source, the activities that have fired and their values
abbrev there : {W : Type 0} → (ℕ → Bool) → (ℕ → Option W) → Source W → (is_spent : Bool) → Option (Content W)
there done value (input v) b = some (token b v)
there done value (from j) b = cond (done j) (omap (token b) (value j)) none

module _ {W : Type 0} (done : ℕ → Bool) (value : ℕ → Option W) where
  there_token : (x : Source W) (b : Bool) (y : Content W) → there done value x b ≡ some y → (v : W) × (y ≡ token b v) × (comes value x ≡ some v)
  there_token (input v) b y e = (v, cc, refl)
  there_token (from j) b y e = go (done j) (value j) e
    where
      go : (d : Bool) (q : Option W) → cond d (omap (token b) q) none ≡ some y → (v : W) × (y ≡ token b v) × (q ≡ some v)
      go true (some v) g = (v, cc, refl)
      go true none g = none_some g
      go false q g = none_some g

  there_live : (x : Source W) (b : Bool) (v : W) → there done value x b ≡ some (live v) → (b ≡ false) × (comes value x ≡ some v)
  there_live x b v e = let (u, f, g) = there_token x b (live v) e in go b f g
    where
      go : (c : Bool) {u : W} → live v ≡ token c u → comes value x ≡ some u → (c ≡ false) × (comes value x ≡ some v)
      go true f g = absurd (let z : ◌≡◌ {A = ℕ} 0 1 = cc in omega arith)
      go false f g = (refl, cc)

  -- a port's activity fires
  there_spent : (i : ℕ) (x : Source W) (v : W) → ¬ (x ≡ from i) → there done value x false ≡ some (live v) → there (with done i) value x true ≡ some (spent v)
  there_spent i (input u) v n e = cc
  there_spent i (from j) v n e = rw (with_other done i j (λ p. n (ap from p))) (go (done j) (value j) e)
    where
      go : (d : Bool) (q : Option W) → cond d (omap (token false) q) none ≡ some (live v) → cond d (omap (token true) q) none ≡ some (spent v)
      go true (some u) g = cc
      go true none g = none_some g
      go false q g = none_some g

-- ---- the invariant

module _ (M : Machine) (t : Tree M) (law : IsTree M t) where
  abbrev key : (i p : ℕ) → Key M.Tag
  key i p = at M (t.tag i) p

  -- of a state, of the activities that have fired, and of the number of inputs
  record Holds (inputs : ℕ) (done : ℕ → Bool) (s : StateOf M) : Type 0 where
    distinct : Distinct M s.tokens
    ports : (i p : ℕ) → i ≤ t.size → p < t.ports i → look M s (key i p) ≡ there done t.value (t.source i p) (done i)
    only : (k : Key M.Tag) (x : Content M.Value) → look M s k ≡ some x → (i : ℕ) × (p : ℕ) × (i ≤ t.size) × (p < t.ports i) × (k ≡ key i p)
    -- an activity that has fired has a value, and so have its sources
    valued : (i : ℕ) → done i ≡ true → (i < t.size) × (v : M.Value) × (t.value i ≡ some v)
    before : (i p j : ℕ) → i ≤ t.size → p < t.ports i → t.source i p ≡ from j → done i ≡ true → done j ≡ true
    used : length s.tokens ≡ inputs + count_below done t.size
    room : inputs + t.size ≤ M.capacity

  starts : (s : StateOf M) → Fed M t s → Holds (length s.tokens) (λ i. false) s
  starts s h = record {
    distinct = h.distinct;
    ports = λ i p li lp. h.inputs i p li lp ∙ same (t.source i p);
    only = h.only;
    valued = λ i e. false_true e;
    before = λ i p j li lp e f. f;
    used = omega (arith, none_below t.size);
    room = h.room;
  }
    where
      same : (x : Source M.Value) → first x ≡ there (λ i. false) t.value x false
      same (input v) = refl
      same (from j) = refl

  -- two ports are one if their keys are
  same_keys : (i j p q : ℕ) → i ≤ t.size → j ≤ t.size → key i p ≡ key j q → (i ≡ j) × (p ≡ q)
  same_keys i j p q li lj e = (law.apart i j li lj (ap (λ (k : Key M.Tag). k.tag) e), ap (λ (k : Key M.Tag). k.port) e)

  same_from : (i j : ℕ) → ◌≡◌ {A = Source M.Value} (from i) (from j) → i ≡ j
  same_from i j e = cc

  module _ {n : ℕ} {done : ℕ → Bool} {s : StateOf M} (h : Holds n done s) where
    -- ---- an enabled activity is one of the tree that has not fired, and the values of its sources have come

    record Can (i : ℕ) : Type 0 where
      low : i < t.size
      free : done i ≡ false
      ops : Operands M.Value
      given : operands M (look M s) (t.tag i) ≡ some ops
      known : two_values (t.ports i) (comes t.value (t.source i 0)) (comes t.value (t.source i 1)) ≡ some ops
      came : (p : ℕ) → p < t.ports i → (v : M.Value) × (there done t.value (t.source i p) false ≡ some (live v))

    -- the result is never done
    resting : done t.size ≡ false
    resting = go (done t.size) refl
      where
        go : (b : Bool) → done t.size ≡ b → done t.size ≡ false
        go true e = let (l, v, f) = h.valued t.size e in absurd (omega arith)
        go false e = e

    can : (i : ℕ) → i ≤ t.size → (o : Operands M.Value) → operands M (look M s) (t.tag i) ≡ some o → Can i
    can i li o e = record { low = low; free = free; ops = o; given = e; known = known; came = λ p l. let (v, f) = alive p l in (v, subst (λ b. there done t.value (t.source i p) b ≡ some (live v)) free f) }
      where
        low : i < t.size
        low = go (ℕ_discrete i t.size)
          where
            go : Dec (i ≡ t.size) → i < t.size
            go (yes p) = let z : 0 < M.arity (t.tag i) = (operands_all M (look M s) (t.tag i) o e).0 in absurd (let y : M.arity (t.tag i) ≡ 0 = ap (λ (k : ℕ). M.arity (t.tag k)) p ∙ law.rests in omega arith)
            go (no p) = omega arith

        alive : (p : ℕ) → p < t.ports i → (v : M.Value) × (there done t.value (t.source i p) (done i) ≡ some (live v))
        alive p l =
            let (v, f) = operand_live M (look M s) (t.tag i) o (key i p) e (operand_at M (t.tag i) p (rw (law.waits i low) l)) in
            (v, sym (h.ports i p li l) ∙ f)

        free : done i ≡ false
        free = let (v, f) = alive 0 (law.positive i low) in (there_live done t.value (t.source i 0) (done i) v f).0

        comes_at : (p : ℕ) → p < M.arity (t.tag i) → (v : M.Value) → live_at M (look M s) (t.tag i) p ≡ some v → comes t.value (t.source i p) ≡ some v
        comes_at p l v f =
            (there_live done t.value (t.source i p) (done i) v (sym (h.ports i p li (rw (law.waits i low) at l)) ∙ live_of (look M s (key i p)) v f)).1

        known : two_values (t.ports i) (comes t.value (t.source i 0)) (comes t.value (t.source i 1)) ≡ some o
        known = rw (← law.waits i low) (two_kept (M.arity (t.tag i)) _ _ _ _ (both_parts (all_live M (look M s) (t.tag i)) _ e).1 (comes_at 0) (comes_at 1))

    ready : (τ : M.Tag) → Ready M (view M s) τ → (i : ℕ) × (τ ≡ t.tag i) × Can i
    ready τ (o, e) =
        let (u, f) = operand_live M (look M s) τ o (at M τ 0) e (operand_zero M (look M s) τ o e) in
        let (i, p, li, lp, k) = h.only (at M τ 0) (live u) f in
        let q : τ ≡ t.tag i = ap (λ (k : Key M.Tag). k.tag) k in
        (i, q, can i li o (subst (λ σ. operands M (look M s) σ ≡ some o) q e))

    -- ---- its firing

    abbrev next : (i : ℕ) → M.Value → StateOf M
    next i v = record { tokens = map (changed (spend_at M (t.tag i))) s.tokens ++ map (output (live v)) (t.out i ∷ []); cells = s.cells }

    out_free : (i : ℕ) → i < t.size → done i ≡ false → look M s (t.out i) ≡ none
    out_free i l e =
        let (j, p, lj, lp, f) = law.feeds i l in
        rw ((law.once j p i lj lp f).1, h.ports j p lj lp, f, e)

    fires : (i : ℕ) → Can i → fire M s (t.tag i) ≡ on_option (t.value i) (not_fired t.refusal) (λ v. fired (next i v))
    unfolding fire commit admit
    fires i c = rw (c.given, law.effect i c.low c.ops c.known) (go (t.value i))
      where
        room : length s.tokens + 1 ≤ M.capacity
        room = let u = h.used in let r = h.room in omega (arith, fewer done t.size i c.low c.free)

        go : (q : Option M.Value) → commit M s (t.tag i) (on_option q (refuse t.refusal) (λ v. send v (t.out i ∷ []))) ≡ on_option q (not_fired t.refusal) (λ v. fired (next i v))
        go none = refl
        go (some v) = rw (le-ltb M.capacity (length s.tokens + 1) room, out_free i c.low c.free)

    module _ (i : ℕ) (c : Can i) (v : M.Value) (valued : t.value i ≡ some v) where
      abbrev done' : ℕ → Bool
      done' = with done i

      -- by key: the operands are spent, and the output is there
      seen : (k : Key M.Tag) → look M (next i v) k ≡ or_else (omap (spend_at M (t.tag i) k) (look M s k)) (given (among M k (t.out i ∷ [])) (live v))
      seen k = rw (find_append, find_changed) (ap (or_else (omap (spend_at M (t.tag i) k) (look M s k))) (find_outputs M (live v) k (t.out i ∷ [])))

      own : (p : ℕ) → p < t.ports i → look M (next i v) (key i p) ≡ there done' t.value (t.source i p) (done' i)
      own p l =
          let (u, e) = c.came p l in
          let at_port_lem : look M s (key i p) ≡ some (live u) = h.ports i p (let z = c.low in omega arith) l ∙ ap (there done t.value (t.source i p)) c.free ∙ e in
          rw (seen (key i p), at_port_lem, operand_at M (t.tag i) p (rw (law.waits i c.low) l), with_own done i)
          (sym (there_spent done t.value i (t.source i p) u (λ f. let z = (law.once i p i (let y = c.low in omega arith) l f).0 in omega arith) e))

      -- a port of another activity is not spent
      module _ (j p : ℕ) (lj : j ≤ t.size) (lp : p < t.ports j) (other : ¬ (j ≡ i)) where
        not_operand : is_operand_of M (t.tag i) (key j p) ≡ false
        not_operand = go (is_operand_of M (t.tag i) (key j p)) refl
          where
            go : (b : Bool) → is_operand_of M (t.tag i) (key j p) ≡ b → is_operand_of M (t.tag i) (key j p) ≡ false
            go true e = absurd (other (law.apart j i lj (let z = c.low in omega arith) (sym (operand_key M (t.tag i) (key j p) e).0)))
            go false e = e

        kept : (x : Option (Content M.Value)) → omap (spend_at M (t.tag i) (key j p)) x ≡ x
        kept none = refl
        kept (some x) = rw not_operand

        stays : look M (next i v) (key j p) ≡ or_else (look M s (key j p)) (given (among M (key j p) (t.out i ∷ [])) (live v))
        stays = seen (key j p) ∙ ap (λ x. or_else x (given (among M (key j p) (t.out i ∷ [])) (live v))) (kept (look M s (key j p)))

        -- a port with another source has no new token
        elsewhere : ¬ (t.source j p ≡ from i) → among M (key j p) (t.out i ∷ []) ≡ false
        elsewhere n = when_no (same_key M (key j p) (t.out i)) true false (λ e.
            let (m, q, lm, lq, f) = law.feeds i c.low in
            let (a, b) = same_keys j m p q lj lm (e ∙ (law.once m q i lm lq f).1) in
            n (subst (λ (k : ℕ). t.source k p ≡ from i) (sym a) (subst (λ (k : ℕ). t.source m k ≡ from i) (sym b) f)))

        unfed : (x : Source M.Value) → t.source j p ≡ x → ¬ (x ≡ from i) → look M (next i v) (key j p) ≡ there done t.value x (done j)
        unfed x e n = stays ∙ rw (elsewhere (λ f. n (sym e ∙ f))) (go (look M s (key j p))) ∙ h.ports j p lj lp ∙ ap (λ y. there done t.value y (done j)) e
          where
            go : (y : Option (Content M.Value)) → or_else y none ≡ y
            go none = refl
            go (some y) = refl

        fed : t.source j p ≡ from i → look M (next i v) (key j p) ≡ some (token (done j) v)
        fed e =
            let empty : look M s (key j p) ≡ none = rw (h.ports j p lj lp, e, c.free) in
            let there : among M (key j p) (t.out i ∷ []) ≡ true = when_yes (same_key M (key j p) (t.out i)) true false (sym (law.once j p i lj lp e).1) in
            stays ∙ rw (empty, there, waiting (done j) refl)
          where
            waiting : (b : Bool) → done j ≡ b → done j ≡ false
            waiting true f = false_true (sym c.free ∙ h.before j p i lj lp e f)
            waiting false f = f

        others : look M (next i v) (key j p) ≡ there done' t.value (t.source j p) (done' j)
        others = rw (with_other done i j other) (go (t.source j p) refl)
          where
            from_other : (m : ℕ) → t.source j p ≡ from m → Dec (m ≡ i) → look M (next i v) (key j p) ≡ there done' t.value (from m) (done j)
            from_other m e (yes q) = fed (e ∙ ap from q) ∙ sym (rw (q, with_own done i, valued))
            from_other m e (no n) = unfed (from m) e (λ f. n (same_from m i f)) ∙ sym (rw (with_other done i m n))

            go : (x : Source M.Value) → t.source j p ≡ x → look M (next i v) (key j p) ≡ there done' t.value x (done j)
            go (input u) e = unfed (input u) e (λ f. let z : ◌≡◌ {A = ℕ} 0 1 = cc in omega arith)
            go (from m) e = from_other m e (ℕ_discrete m i)

      holds : Holds n done' (next i v)
      holds = record {
        distinct = distinct_append M (spend_at M (t.tag i)) (live v) s.tokens (t.out i ∷ []) h.distinct (out_free i c.low c.free, refl, tt);
        ports = λ j p lj lp. at_port_lem j p lj lp (ℕ_discrete j i);
        only = only;
        valued = λ j e. has j e (ℕ_discrete j i);
        before = λ j p m lj lp e f. earlier j p m lj lp e f (ℕ_discrete j i);
        used = simp (length-append, length-map) (let u = h.used in omega (arith, one_more done i t.size c.low c.free));
        room = h.room;
      }
        where
          at_port_lem : (j p : ℕ) → j ≤ t.size → p < t.ports j → Dec (j ≡ i) → look M (next i v) (key j p) ≡ there done' t.value (t.source j p) (done' j)
          at_port_lem j p lj lp (yes e) = subst (λ (m : ℕ). look M (next i v) (key m p) ≡ there done' t.value (t.source m p) (done' m)) (sym e) (own p (subst (λ (m : ℕ). p < t.ports m) e lp))
          at_port_lem j p lj lp (no n) = others j p lj lp n

          only : (k : Key M.Tag) (x : Content M.Value) → look M (next i v) k ≡ some x → (j : ℕ) × (p : ℕ) × (j ≤ t.size) × (p < t.ports j) × (k ≡ key j p)
          only k x e = go (look M s k) refl (same_key M k (t.out i)) (sym (seen k) ∙ e)
            where
              go : (y : Option (Content M.Value)) → look M s k ≡ y → (d : Dec (k ≡ t.out i)) → or_else (omap (spend_at M (t.tag i) k) y) (given (when d true false) (live v)) ≡ some x
                  → (j : ℕ) × (p : ℕ) × (j ≤ t.size) × (p < t.ports j) × (k ≡ key j p)
              go (some y) f d g = h.only k y f
              go none f (yes q) g = let (m, p, lm, lp, r) = law.feeds i c.low in (m, p, lm, lp, q ∙ (law.once m p i lm lp r).1)
              go none f (no q) g = none_some g

          has : (j : ℕ) → done' j ≡ true → Dec (j ≡ i) → (j < t.size) × (u : M.Value) × (t.value j ≡ some u)
          has j e (yes q) = rw q (c.low, v, valued)
          has j e (no q) = h.valued j (with_back done i j q e)

          earlier : (j p m : ℕ) → j ≤ t.size → p < t.ports j → t.source j p ≡ from m → done' j ≡ true → Dec (j ≡ i) → done' m ≡ true
          earlier j p m lj lp e f (no q) = with_keeps done i m (h.before j p m lj lp e (with_back done i j q f))
          earlier j p m lj lp e f (yes q) =
              let (u, g) = c.came p (subst (λ (a : ℕ). p < t.ports a) q lp) in
              with_keeps done i m (fired_from (done m) refl (subst (λ x. there done t.value x false ≡ some (live u)) (subst (λ (a : ℕ). t.source a p ≡ from m) q e) g))
            where
              fired_from : {u : M.Value} (b : Bool) → done m ≡ b → there done t.value (from m) false ≡ some (live u) → done m ≡ true
              fired_from true k g = k
              fired_from false k g = none_some (rw k at g)

  -- ---- firing sequences

  record Reaches (n : ℕ) (done : ℕ → Bool) (firings : ℕ) (x : StateOf M) : Type 0 where
    now : ℕ → Bool
    holds : Holds n now x
    count : count_below now t.size ≡ count_below done t.size + firings

  -- what is fired has a value
  reaches : (n : ℕ) (done : ℕ → Bool) (τs : List M.Tag) (s x : StateOf M) → Holds n done s → Fires M s τs x → Reaches n done (length τs) x
  reaches n done [] s x h e = record { now = done; holds = subst (Holds n done) e h; count = omega arith }
  reaches n done (τ ∷ τs) s x h (y, e, rest) =
      let (i, q, c) = ready h τ (fired_ready M s y τ e) in
      go i c (t.value i) refl (sym (subst (λ σ. fire M s σ ≡ fired y) q e) ∙ fires h i c) (λ done g. reaches n done τs y x g rest)
    where
      go : (i : ℕ) → Can h i → (r : Option M.Value) → t.value i ≡ r → ◌≡◌ {A = FiredOf M} (fired y) (on_option r (not_fired t.refusal) (λ v. fired (next h i v)))
          → ((done : ℕ → Bool) → Holds n done y → Reaches n done (length τs) x) → Reaches n done (suc (length τs)) x
      go i c none f g later = never_fired M t.refusal y (sym g)
      go i c (some v) f g later =
          let r = later (with done i) (subst (Holds n (with done i)) (sym (fired_same M y (next h i v) g)) (holds h i c v f)) in
          record { now = r.now; holds = r.holds; count = let z = r.count in omega (arith, one_more done i t.size c.low c.free) }

  -- ---- where nothing is enabled, all have fired

  module _ {n : ℕ} {done : ℕ → Bool} {x : StateOf M} (h : Holds n done x) (rest : NothingEnabled M x) where
    all_done : (bound i : ℕ) → i < bound → i < t.size → done i ≡ true
    all_done zero i l low = absurd (omega arith)
    all_done (suc bound) i l low = go (done i) refl (λ j lj k. all_done bound j lj k)
      where
        -- the sources of an activity have come, if those before it have fired
        came : done i ≡ false → ((j : ℕ) → j < bound → j < t.size → done j ≡ true) → (p : ℕ) → p < t.ports i → (v : M.Value) × (look M x (key i p) ≡ some (live v))
        came f earlier p lp = let (v, e) = by_source (t.source i p) refl in (v, h.ports i p (omega arith) lp ∙ rw f e)
          where
            by_source : (y : Source M.Value) → t.source i p ≡ y → (v : M.Value) × (there done t.value y false ≡ some (live v))
            by_source (input v) e = (v, refl)
            by_source (from j) e =
                let lj = (law.once i p j (omega arith) lp e).0 in
                let d = earlier j (omega arith) (omega arith) in
                let (k, v, g) = h.valued j d in
                (v, rw (d, g))

        go : (b : Bool) → done i ≡ b → ((j : ℕ) → j < bound → j < t.size → done j ≡ true) → done i ≡ true
        go true f earlier = f
        go false f earlier =
            let waits = law.waits i low in
            let Live-Below = below_all_lem (live_at M (look M x) (t.tag i)) (M.arity (t.tag i)) (λ p lp. let (v, e) = came f earlier p (rw waits at lp) in (v, rw e)) in
            let (o, e) = operands_there M (look M x) (t.tag i) (rw waits (law.positive i low)) Live-Below in
            absurd (Memᴰ.not-nil (rw rest at (ready_enabled M x (t.tag i) (o, e))))

    done_all : (i : ℕ) → i < t.size → done i ≡ true
    done_all i l = all_done (suc i) i (omega arith) l

    -- every token is spent but that of the result
    proper : (k : Key M.Tag) (y : Content M.Value) → look M x k ≡ some y → ProperContentAt M (M.arity k.tag) y
    proper k y e =
        let (i, p, li, lp, q) = h.only k y e in
        let f : there done t.value (t.source i p) (done i) ≡ some y = sym (h.ports i p li lp) ∙ ap (look M x) (sym q) ∙ e in
        let (v, g, w) = there_token done t.value (t.source i p) (done i) y f in
        subst (λ (j : Key M.Tag). ProperContentAt M (M.arity j.tag) y) (sym q) (subst (ProperContentAt M (M.arity (t.tag i))) (sym g) (go i v li (ℕ_discrete i t.size)))
      where
        go : (i : ℕ) (v : M.Value) → i ≤ t.size → Dec (i ≡ t.size) → ProperContentAt M (M.arity (t.tag i)) (token (done i) v)
        go i v li (yes q) = rw (q, resting h) law.rests
        go i v li (no q) = rw (done_all i (omega arith)) tt

    result_there : (v : M.Value) → tree_value M t ≡ some v → look M x (key t.size 0) ≡ some (live v)
    result_there v e = h.ports t.size 0 (omega arith) (rw law.one (omega arith)) ∙ rw (resting h) (go (t.source t.size 0) refl e)
      where
        go : (y : Source M.Value) → t.source t.size 0 ≡ y → comes t.value y ≡ some v → there done t.value y false ≡ some (live v)
        go (input u) f g = cc
        go (from j) f g = rw (done_all j (law.once t.size 0 j (omega arith) (rw law.one (omega arith)) f).0, g)

    -- so it has a value
    result_valued : (v : M.Value) × (tree_value M t ≡ some v)
    result_valued = go (t.source t.size 0) refl
      where
        go : (y : Source M.Value) → t.source t.size 0 ≡ y → (v : M.Value) × (comes t.value y ≡ some v)
        go (input u) f = (u, refl)
        go (from j) f = let (l, v, g) = h.valued j (done_all j (law.once t.size 0 j (omega arith) (rw law.one (omega arith)) f).0) in (v, g)

  -- ---- an activity without a value leaves the result without one

  pub climbs : (bound j : ℕ) → t.size ≤ j + bound → j < t.size → t.value j ≡ none → tree_value M t ≡ none
  climbs zero j b l e = absurd (omega arith)
  climbs (suc bound) j b l e =
      let (i, p, li, lp, f) = law.feeds j l in
      let later = (law.once i p j li lp f).0 in
      go i p li lp f later (ℕ_discrete i t.size) (λ low g. climbs bound i (omega arith) low g)
    where
      go : (i p : ℕ) → i ≤ t.size → p < t.ports i → t.source i p ≡ from j → j < i → Dec (i ≡ t.size) → (i < t.size → t.value i ≡ none → tree_value M t ≡ none) → tree_value M t ≡ none
      go i p li lp f later (no q) up = up (omega arith) (law.strict i p (omega arith) lp (rw f e))
      go i p li lp f later (yes q) up =
          let ports : p < t.ports t.size = subst (λ (k : ℕ). p < t.ports k) q lp in
          let last : p ≡ 0 = let z = law.one in omega arith in
          rw (← q, subst (λ (k : ℕ). t.source i k ≡ from j) last f) e

  -- ---- runs

  proper_all : (ts : Ledger M) → Distinct M ts → ((k : Key M.Tag) (y : Content M.Value) → find M k ts ≡ some y → ProperContentAt M (M.arity k.tag) y) → AllProper M ts
  proper_all [] d h = tt
  proper_all (u ∷ us) d h = (h u.key u.content (find_head M u us), proper_all us d.1 (λ k y e. h k y (later k y e)))
    where
      later : (k : Key M.Tag) (y : Content M.Value) → find M k us ≡ some y → find M k (u ∷ us) ≡ some y
      later k y e = when_no (same_key M k u.key) (some u.content) (find M k us) (λ q. none_some (sym d.0 ∙ ap (λ j. find M j us) (sym q) ∙ e)) ∙ e

  module _ (s : StateOf M) (fed : Fed M t s) (budget f : ℕ) (enough : t.size ≤ budget) where
    ends : (o : Outcome M.Refusal) (x : StateOf M) (firings n : ℕ) → Says M o budget n x → Reaches (length s.tokens) (λ i. false) n x → firings ≡ f + n → EvaluatesTree M t s f (tree_value M t) (end M o firings x)
    ends completed x m n (rest, all) r e =
        let (v, g) = result_valued r.holds rest in
        let z = r.holds.used in
        let none_yet = (starts s fed).used in
        let full = all_count r.now t.size (done_all r.holds rest) in
        let c = r.count in
        rw g (record { outcome = refl; result = result_there r.holds rest v g; firings = omega arith; tokens = omega arith })
    ends hung x m n (rest, not-all) r e = absurd (not-all (proper_all x.tokens r.holds.distinct (proper r.holds rest)))
    ends budget_spent x m n (q, a, i) r e =
        let (j, p, c) = ready r.holds a.tag (enabled_ready M x a i) in
        let z = r.count in
        absurd (omega (arith, fewer r.now t.size j c.low c.free))
    ends (refused why place) x m n (q, a, i, p, g) r e =
        let (j, k, c) = ready r.holds a.tag (enabled_ready M x a i) in
        go j c (t.value j) refl (sym (subst (λ σ. fire M x σ ≡ not_fired why) k g) ∙ fires r.holds j c)
      where
        go : (j : ℕ) → Can r.holds j → (y : Option M.Value) → t.value j ≡ y → ◌≡◌ {A = FiredOf M} (not_fired why) (on_option y (not_fired t.refusal) (λ v. fired (next r.holds j v)))
            → EvaluatesTree M t s f (tree_value M t) (end M (refused why place) m x)
        go j c none b w =
            let same : why ≡ t.refusal = cc in
            rw (climbs t.size j (omega arith) c.low b) (place, ap (λ y. refused y place) same)
        go j c (some v) b w = never_fired M why (next r.holds j v) w

pub trees_evaluate : (M : Machine) → TreesEvaluate M
trees_evaluate M t law s start c ok budget enough picks f =
    let e = run_by M c budget picks f s in
    let log = log_of M c budget picks s in
    let h = ran M c ok budget picks f s in
    ends M t law s start budget f enough e.outcome e.state e.firings (length log) h.says (reaches M t law (length s.tokens) (λ i. false) log s e.state (starts M t law s start) h.logged.fires) h.logged.firings
