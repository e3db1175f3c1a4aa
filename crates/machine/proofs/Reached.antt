-- What holds of every state that is reached from the inputs (`reached_invariants`), and that a run ends in a state that is
-- reached by its firings (`reached_run`, and for a list of picks `reached_picks`). Assumes nothing. The first takes the machine
-- and that its instruction set is lawful.
use mathlib.Core.Path.{◌≡◌, refl, sym, ap, subst, ◌∙◌}
use mathlib.Core.List.{List, [], ◌∷◌}
use mathlib.Core.Option.{Option, none, some}
use mathlib.Core.Bool.{Bool, true, false, cond}
use Prim.Native.Nat.{ℕ, zero, suc, ◌+◌, ◌≤◌, ◌<◌}
use native.Mathlib.Decide.{ℕ_discrete}
use native.Mathlib.Omega.{arith}
use lib.ListN.{length, get_or, replicate}
use Rattle.machine.specs.Machine.{Key, Content, live, spent, deferred, Cell, absent, waiting, present, refuse, send, read, write, Machine, fired, Choice, EndOf}
use Rattle.machine.specs.Machine.{when, on_option, spend, cell_at, content_read, Operands}
use Rattle.machine.specs.Machine.{Ledger, StateOf, EffectOf, same_key, at, find, look, is_operand_of, operands, spend_at, among, fire, by_picks, run_by, run}
use Rattle.machine.specs.Orders.{ReadsForSome, Lawful, Live, SpentContent, AllLive, Good, Start, effect_keys, outputs, Reached, Invariants, LawfulChoice, Says}
use Rattle.machine.specs.Sequences.{Fires, spent_tags, log_of}
use Rattle.machine.proofs.Lists.{perm_length}
use Rattle.machine.proofs.View.{when_yes, none_some, false_true, omap, or_else, given, Source, value, fetched, resolve, settle, only_at, cell_step, cell_after}
use Rattle.machine.proofs.View.{View, DeltaOf, delta_of, Allowed, change, apply, fresh_get, operand_key, operand_at, operand_live}
use Rattle.machine.proofs.Store.{view}
use Rattle.machine.proofs.Tags.{tags_length}
use Rattle.machine.proofs.Sequences.{firing}
use Rattle.machine.proofs.Runs.{ran}
use Rattle.machine.proofs.Orders.{by_picks_lawful, start_good}

-- ---- the claims

module _ (M : Machine) where
  abbrev pub ReachedInvariants : Type 0
  ReachedInvariants = (s : StateOf M) → Start M s → (f o : ℕ) (x : StateOf M) → Reached M s f o x → Invariants M s f o x

  -- after n firings of its own it is in a state that is reached by n firings
  pub record Ended (s : StateOf M) (budget f : ℕ) (e : EndOf M) : Type 0 where
    pub done : ℕ
    pub sent : ℕ
    pub firings : e.firings ≡ f + done
    pub reached : Reached M s done sent e.state
    pub says : Says M e.outcome budget done e.state

  abbrev pub RunsEnd : Type 0
  RunsEnd = (c : Choice M) → LawfulChoice M c → (s : StateOf M) (budget : ℕ) (picks : List ℕ) (f : ℕ) → Ended s budget f (run_by M c budget picks f s)

-- ---- contents and cells

live_deferred {ℓ} : {W : Type 0} {B : Type ℓ} {v : W} {c : ℕ} → live v ≡ deferred c → B
live_deferred p = absurd (let z : ◌≡◌ {A = ℕ} 0 1 = cc in omega arith)

spent_deferred {ℓ} : {W : Type 0} {B : Type ℓ} {v : W} {c : ℕ} → spent v ≡ deferred c → B
spent_deferred p = absurd (let z : ◌≡◌ {A = ℕ} 0 1 = cc in omega arith)

live_spent {ℓ} : {W : Type 0} {B : Type ℓ} {u v : W} → live u ≡ spent v → B
live_spent p = absurd (let z : ◌≡◌ {A = ℕ} 0 1 = cc in omega arith)

deferred_spent {ℓ} : {W : Type 0} {B : Type ℓ} {c : ℕ} {v : W} → deferred c ≡ spent v → B
deferred_spent p = absurd (let z : ◌≡◌ {A = ℕ} 0 1 = cc in omega arith)

pub absent_waiting {ℓ} : {W : Type 0} {B : Type ℓ} → ◌≡◌ {A = Cell W} absent waiting → B
absent_waiting p = absurd (let z : ◌≡◌ {A = ℕ} 0 1 = cc in omega arith)

pub present_waiting {ℓ} : {W : Type 0} {B : Type ℓ} {v : W} → present v ≡ waiting → B
present_waiting p = absurd (let z : ◌≡◌ {A = ℕ} 0 1 = cc in omega arith)

module _ {W : Type 0} where
  some_same_lem : (x y : Content W) → some x ≡ some y → x ≡ y
  some_same_lem x y e = cc

  spend_deferred : (b : Bool) (y : Content W) (c : ℕ) → cond b (spend y) y ≡ deferred c → y ≡ deferred c
  spend_deferred false y c e = e
  spend_deferred true (live v) c e = spent_deferred e
  spend_deferred true (spent v) c e = spent_deferred e
  spend_deferred true (deferred i) c e = e

  -- what is deferred after the writes was so before, and its cell is not written
  settle_deferred : (f : ℕ → Option W) (y : Content W) (c : ℕ) → settle f y ≡ deferred c → (y ≡ deferred c) × (f c ≡ none)
  settle_deferred f (live v) c e = live_deferred e
  settle_deferred f (spent v) c e = spent_deferred e
  settle_deferred f (deferred i) c e = go (f i) refl e
    where
      go : (q : Option W) → f i ≡ q → on_option q (deferred i) live ≡ deferred c → (◌≡◌ {A = Content W} (deferred i) (deferred c)) × (f c ≡ none)
      go none h g = (g, let z : i ≡ c = cc in rw z at h)
      go (some v) h g = live_deferred g

  settle_spent : (f : ℕ → Option W) (y : Content W) (v : W) → settle f y ≡ spent v → y ≡ spent v
  settle_spent f (live u) v e = live_spent e
  settle_spent f (spent u) v e = e
  settle_spent f (deferred i) v e = go (f i) e
    where
      go : (q : Option W) → on_option q (deferred i) live ≡ spent v → deferred i ≡ spent v
      go none g = g
      go (some u) g = live_spent g

  spend_spent : (b : Bool) (v : W) → cond b (spend (spent v)) (spent v) ≡ spent v
  spend_spent true v = refl
  spend_spent false v = refl

  spend_kept : (b : Bool) (c : ℕ) → cond b (spend {W = W} (deferred c)) (deferred c) ≡ deferred c
  spend_kept true c = refl
  spend_kept false c = refl

  -- no output is spent
  resolve_spent : (cell : ℕ → Cell W) (o : Source W) (v : W) → ¬ (resolve cell o ≡ spent v)
  resolve_spent cell (value u) v e = live_spent e
  resolve_spent cell (fetched c) v e = go (cell c) e
    where
      go : (x : Cell W) → content_read c x ≡ spent v → ⊥
      go absent g = deferred_spent g
      go waiting g = deferred_spent g
      go (present u) g = live_spent g

  still_waiting : (b : Bool) (x : Cell W) → x ≡ waiting → cell_step none b x ≡ waiting
  still_waiting true x e = rw e
  still_waiting false x e = e

  -- an output that is deferred on c comes from c, which the read leaves waiting
  read_waiting : (f : Option W) (i c : ℕ) (x : Cell W) → content_read i (cell_step f true x) ≡ deferred c → (i ≡ c) × (cell_step f true x ≡ waiting)
  read_waiting (some v) i c x e = live_deferred e
  read_waiting none i c absent e = (cc, refl)
  read_waiting none i c waiting e = (cc, refl)
  read_waiting none i c (present v) e = live_deferred e

  absent_cell : (n c : ℕ) → ◌≡◌ {A = Cell W} (get_or (replicate n absent) c absent) absent
  absent_cell zero c = refl
  absent_cell (suc n) zero = refl
  absent_cell (suc n) (suc c) = absent_cell n c

module _ (M : Machine) where
  -- ---- effects

  -- what is fetched is read, and what is read is fetched, for a key at least
  record Shape (d : DeltaOf M) : Type 0 where
    is_read : (c : ℕ) → d.source ≡ fetched c → d.reads c ≡ true
    is_fetched : (c : ℕ) → d.reads c ≡ true → (d.source ≡ fetched c) × (k : Key M.Tag) × (among M k d.keys ≡ true)

  fetched_only : {W : Type 0} {v : W} {c : ℕ} → ¬ (value v ≡ fetched c)
  fetched_only p = let z : ◌≡◌ {A = ℕ} 0 1 = cc in omega arith

  first_among : (ks : List (Key M.Tag)) → 0 < length ks → (k : Key M.Tag) × (among M k ks ≡ true)
  first_among [] h = absurd (omega arith)
  first_among (k ∷ ks) h = (k, when_yes (same_key M k k) _ _ refl)

  same_delta : (x d : DeltaOf M) → some x ≡ some d → x ≡ d
  same_delta x d e = cc

  shape_of : (e : EffectOf M) (d : DeltaOf M) → ReadsForSome e → delta_of M e ≡ some d → Shape d
  shape_of (refuse r) d h e = none_some e
  shape_of (send v keys) d h e = subst Shape (same_delta _ d e) (record { is_read = λ c g. absurd (fetched_only g); is_fetched = λ c g. false_true g })
  shape_of (write c v keys) d h e = subst Shape (same_delta _ d e) (record { is_read = λ c g. absurd (fetched_only g); is_fetched = λ c g. false_true g })
  shape_of (read c keys) d h e = subst Shape (same_delta _ d e) shape
    where
      only : (i : ℕ) (q : Dec (i ≡ c)) → when q true false ≡ true → ◌≡◌ {A = Source M.Value} (fetched c) (fetched i)
      only i (yes p) g = ap fetched (sym p)
      only i (no n) g = false_true g

      shape : Shape (record { keys = keys; source = fetched c; writes = λ i. none; reads = only_at c true false })
      shape = record {
        is_read = λ i g. let z : i ≡ c = cc in when_yes (ℕ_discrete i c) true false z;
        is_fetched = λ i g. let (k, a) = first_among keys h in (only i (ℕ_discrete i c) g, k, a);
      }

  pub keys_known : (e : EffectOf M) (d : DeltaOf M) → delta_of M e ≡ some d → effect_keys M e ≡ d.keys
  keys_known (refuse r) d e = none_some e
  keys_known (send v keys) d e = cc
  keys_known (read c keys) d e = cc
  keys_known (write c v keys) d e = cc

  -- ---- what a firing keeps, over the view

  pub record HoldsIn (v : View M) : Type 0 where
    pub deferred_waits : (k : Key M.Tag) (c : ℕ) → v.tok k ≡ some (deferred c) → v.cell c ≡ waiting
    pub waiting_defers : (c : ℕ) → v.cell c ≡ waiting → (k : Key M.Tag) × (v.tok k ≡ some (deferred c))
    pub spent_together : (τ : M.Tag) (p q : ℕ) → p < M.arity τ → q < M.arity τ → SpentContent (v.tok (at M τ p)) → SpentContent (v.tok (at M τ q))
    pub others_unspent : (τ : M.Tag) (p : ℕ) → M.arity τ ≤ p → ¬ (SpentContent (v.tok (at M τ p)))

  module _ (v : View M) (τ : M.Tag) (d : DeltaOf M) (shape : Shape d) (al : Allowed M v d) (ready : (k : Key M.Tag) → is_operand_of M τ k ≡ true → Live (v.tok k)) (old : HoldsIn v) where
    kept_deferred : (k : Key M.Tag) (c : ℕ) → (apply M τ d v).tok k ≡ some (deferred c) → cell_after d v.cell c ≡ waiting
    kept_deferred k c = go (v.tok k) (among M k d.keys) refl
      where
        here : (y : Content M.Value) → v.tok k ≡ some y → change M τ d k y ≡ deferred c → cell_after d v.cell c ≡ waiting
        here y f g =
            let (h, w) = settle_deferred d.writes (spend_at M τ k y) c g in
            let z = spend_deferred (is_operand_of M τ k) y c h in
            rw w (still_waiting (d.reads c) (v.cell c) (old.deferred_waits k c (f ∙ ap some z)))

        output : (o : Source M.Value) → d.source ≡ o → resolve (cell_after d v.cell) o ≡ deferred c → cell_after d v.cell c ≡ waiting
        output (value u) f g = live_deferred g
        output (fetched i) f g =
            let r = shape.is_read i f in
            let (z, w) = read_waiting (d.writes i) i c (v.cell i) (rw r at g) in
            subst (λ j. cell_after d v.cell j ≡ waiting) z (rw r w)

        go : (x : Option (Content M.Value)) (b : Bool) → v.tok k ≡ x → or_else (omap (change M τ d k) x) (given b (resolve (cell_after d v.cell) d.source)) ≡ some (deferred c) → cell_after d v.cell c ≡ waiting
        go (some y) b f g = here y f (some_same_lem _ _ g)
        go none true f g = output d.source refl (some_same_lem _ _ g)
        go none false f g = none_some g

    kept_waiting : (c : ℕ) → cell_after d v.cell c ≡ waiting → (k : Key M.Tag) × ((apply M τ d v).tok k ≡ some (deferred c))
    kept_waiting c e = go (d.writes c) (d.reads c) refl refl e
      where
        before : d.writes c ≡ none → v.cell c ≡ waiting → (k : Key M.Tag) × ((apply M τ d v).tok k ≡ some (deferred c))
        before w h =
            let (k, f) = old.waiting_defers c h in
            (k, rw (f, spend_kept (is_operand_of M τ k) c, w))

        read_now : d.reads c ≡ true → (k : Key M.Tag) × ((apply M τ d v).tok k ≡ some (deferred c))
        read_now r =
            let (f, k, a) = shape.is_fetched c r in
            (k, rw (fresh_get M v.tok d.keys k al.fresh a, a, f, e))

        go : (f : Option M.Value) (b : Bool) → d.writes c ≡ f → d.reads c ≡ b → cell_step f b (v.cell c) ≡ waiting → (k : Key M.Tag) × ((apply M τ d v).tok k ≡ some (deferred c))
        go (some u) b w r h = present_waiting h
        go none true w r h = read_now r
        go none false w r h = before w h

    spent_kept : (k : Key M.Tag) → SpentContent (v.tok k) → SpentContent ((apply M τ d v).tok k)
    spent_kept k (u, e) = (u, rw (e, spend_spent (is_operand_of M τ k) u))

    spent_before : (k : Key M.Tag) → is_operand_of M τ k ≡ false → SpentContent ((apply M τ d v).tok k) → SpentContent (v.tok k)
    spent_before k o (u, e) = go (v.tok k) (among M k d.keys) refl e
      where
        here : (y : Content M.Value) → v.tok k ≡ some y → change M τ d k y ≡ spent u → SpentContent (v.tok k)
        here y f g = (u, f ∙ ap some (settle_spent d.writes y u (rw o at g)))

        go : (x : Option (Content M.Value)) (b : Bool) → v.tok k ≡ x → or_else (omap (change M τ d k) x) (given b (resolve (cell_after d v.cell) d.source)) ≡ some (spent u) → SpentContent (v.tok k)
        go (some y) b f g = here y f (some_same_lem _ _ g)
        go none true f g = absurd (resolve_spent (cell_after d v.cell) d.source u (some_same_lem _ _ g))
        go none false f g = none_some g

    not_operand : (k : Key M.Tag) → ¬ ((τ ≡ k.tag) × (k.port < M.arity τ)) → is_operand_of M τ k ≡ false
    not_operand k n = go (is_operand_of M τ k) refl
      where
        go : (b : Bool) → is_operand_of M τ k ≡ b → is_operand_of M τ k ≡ false
        go true f = absurd (n (operand_key M τ k f))
        go false f = f

    -- the firing's own operands were live, and are all spent
    own_spent : (q : ℕ) → q < M.arity τ → SpentContent ((apply M τ d v).tok (at M τ q))
    own_spent q h =
        let o = operand_at M τ q h in
        let (u, e) = ready (at M τ q) o in
        (u, rw (e, o))

    together : (σ : M.Tag) (p q : ℕ) → p < M.arity σ → q < M.arity σ → SpentContent ((apply M τ d v).tok (at M σ p)) → SpentContent ((apply M τ d v).tok (at M σ q))
    together σ p q hp hq s = go (M.same τ σ)
      where
        go : Dec (τ ≡ σ) → SpentContent ((apply M τ d v).tok (at M σ q))
        go (yes e) = subst (λ x. SpentContent ((apply M τ d v).tok (at M x q))) e (own_spent q (subst (λ x. q < M.arity x) (sym e) hq))
        go (no n) = spent_kept (at M σ q) (old.spent_together σ p q hp hq (spent_before (at M σ p) (not_operand (at M σ p) (λ z. n z.0)) s))

    unspent : (σ : M.Tag) (p : ℕ) → M.arity σ ≤ p → ¬ (SpentContent ((apply M τ d v).tok (at M σ p)))
    unspent σ p h s = old.others_unspent σ p h (spent_before (at M σ p) (not_operand (at M σ p) no_operand) s)
      where
        no_operand : ¬ ((τ ≡ σ) × (p < M.arity τ))
        no_operand (e, l) = let z : p < M.arity σ = subst (λ x. p < M.arity x) e l in omega arith

    kept_after : HoldsIn (apply M τ d v)
    kept_after = record { deferred_waits = kept_deferred; waiting_defers = kept_waiting; spent_together = together; others_unspent = unspent }

  -- ---- at the start

  pub start_live : (ts : Ledger M) → AllLive M ts → (k : Key M.Tag) (y : Content M.Value) → find M k ts ≡ some y → (u : M.Value) × (y ≡ live u)
  start_live [] h k y e = none_some e
  start_live (t ∷ ts) h k y e = go (same_key M k t.key) (λ f. start_live ts h.1 k y f) e
    where
      go : (q : Dec (k ≡ t.key)) → (find M k ts ≡ some y → (u : M.Value) × (y ≡ live u)) → when q (some t.content) (find M k ts) ≡ some y → (u : M.Value) × (y ≡ live u)
      go (yes p) rec f = let (u, g) = h.0 in (u, some_same_lem _ _ (sym f ∙ g))
      go (no n) rec f = rec f

  pub kept_start : (s : StateOf M) → Start M s → HoldsIn (view M s)
  kept_start s h = record {
    deferred_waits = λ k c e. let (u, f) = start_live s.tokens h.all_live k (deferred c) e in live_deferred (sym f);
    waiting_defers = λ c e. absent_waiting (sym (absent_cell M.cell_count c) ∙ ap (λ l. cell_at l c) (sym h.absent_cells) ∙ e);
    spent_together = λ τ p q hp hq (w, e). let (u, f) = start_live s.tokens h.all_live (at M τ p) (spent w) e in live_spent (sym f);
    others_unspent = λ τ p hp (w, e). let (u, f) = start_live s.tokens h.all_live (at M τ p) (spent w) e in live_spent (sym f);
  }

  -- ---- a firing

  pub outputs_known : (s : StateOf M) (τ : M.Tag) (p : Operands M.Value) (d : DeltaOf M) → operands M (look M s) τ ≡ some p → delta_of M (M.effect τ p.left p.right) ≡ some d
      → outputs M s τ ≡ length d.keys
  outputs_known s τ p d e f = rw e (ap length (keys_known (M.effect τ p.left p.right) d f))

  module _ (law : Lawful M) where
    -- what a state that is reached keeps of the state s that it is reached from
    pub record Carried (s : StateOf M) (f o : ℕ) (x : StateOf M) : Type 0 where
      pub good : Good M x
      pub count : length x.tokens ≡ length s.tokens + o
      pub spending : length (spent_tags M x.tokens) ≡ length (spent_tags M s.tokens) + f
      pub kept : HoldsIn (view M s) → HoldsIn (view M x)

    pub carried : (s : StateOf M) → Good M s → (f o : ℕ) (x : StateOf M) → Reached M s f o x → Carried s f o x
    carried s g zero o x (e, q) = subst (Carried s 0 o) (sym q) (record { good = g; count = omega arith; spending = omega arith; kept = λ h. h })
    carried s g (suc f) o x (y, n, τ, r, e, q) = next (carried s g f n y r)
      where
        next : Carried s f n y → Carried s (suc f) o x
        next h =
            let fr = firing M law y x τ h.good e in
            let st = fr.step in
            let more = perm_length fr.tags in
            let c : length y.tokens + length st.delta.keys ≡ length x.tokens = ap (λ v. v.used) st.result in
            let p = outputs_known y τ st.ops st.delta st.given st.known in
            let hc = h.count in
            let hs = h.spending in
            record {
              good = fr.good;
              count = omega arith;
              spending = omega arith;
              kept = λ z. subst HoldsIn st.result (kept_after (view M y) τ st.delta
                  (shape_of (M.effect τ st.ops.left st.ops.right) st.delta (law.reads_for_some τ st.ops.left st.ops.right) st.known)
                  st.allowed (λ k. operand_live M (look M y) τ st.ops k st.given) (h.kept z));
            }

    pub reached_good : (s : StateOf M) → Good M s → (f o : ℕ) (x : StateOf M) → Reached M s f o x → Good M x
    reached_good s g f o x r = (carried s g f o x r).good

    pub reached_count : (s : StateOf M) → Good M s → (f o : ℕ) (x : StateOf M) → Reached M s f o x → length x.tokens ≡ length s.tokens + o
    reached_count s g f o x r = (carried s g f o x r).count

    pub reached_firings : (s : StateOf M) → Good M s → (f o : ℕ) (x : StateOf M) → Reached M s f o x → f ≤ length x.tokens
    reached_firings s g f o x r = let h = (carried s g f o x r).spending in let l = tags_length M x.tokens in omega arith

    pub reached_invariants : ReachedInvariants M
    reached_invariants s st f o x r = record {
      distinct = h.good.distinct;
      room = h.good.room;
      cell_count = h.good.cell_count;
      firings = reached_firings s g f o x r;
      count = h.count;
      deferred_waits = k.deferred_waits;
      waiting_defers = k.waiting_defers;
      spent_together = k.spent_together;
      others_unspent = k.others_unspent;
    }
      where
        g : Good M s
        g = start_good M s st

        h : Carried s f o x
        h = carried s g f o x r

        k : HoldsIn (view M x)
        k = h.kept (kept_start s st)

  -- ---- how a run ends

  prepend : (s x : StateOf M) (τ : M.Tag) → fire M s τ ≡ fired x → (f o : ℕ) (y : StateOf M) → Reached M x f o y → Reached M s (suc f) (outputs M s τ + o) y
  prepend s x τ e zero o y (h, q) = (s, 0, τ, (refl, refl), e ∙ ap fired (sym q), omega arith)
  prepend s x τ e (suc f) o y (z, n, σ, r, g, q) = (z, outputs M s τ + n, σ, prepend s x τ e f n z r, g, omega arith)

  -- a sequence reaches its end
  pub sequence_reaches : (τs : List M.Tag) (s x : StateOf M) → Fires M s τs x → (sent : ℕ) × Reached M s (length τs) sent x
  sequence_reaches [] s x p = (0, (refl, sym p))
  sequence_reaches (τ ∷ τs) s x (y, e, p) = let (o, r) = sequence_reaches τs y x p in (outputs M s τ + o, prepend s y τ e (length τs) o x r)

  pub reached_run : RunsEnd M
  reached_run c ok s b ps f =
      let h = ran M c ok b ps f s in
      let (o, r) = sequence_reaches (log_of M c b ps s) s (run_by M c b ps f s).state h.logged.fires in
      record { done = length (log_of M c b ps s); sent = o; firings = h.logged.firings; reached = r; says = h.says }

  -- a run by picks
  pub reached_picks : (s : StateOf M) (budget : ℕ) (picks : List ℕ) → Ended M s budget 0 (run M budget picks s)
  reached_picks s b ps = reached_run (by_picks M) (by_picks_lawful M) s b ps 0
