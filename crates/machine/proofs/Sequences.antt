-- Firing sequences over the view: any two that end with nothing enabled have the same firings, each once, and end alike
-- (`sequences`, `fires_once`); where one ends so, no other meets a refusal (`none_refused`). The ledger tells what has fired (`ledger_tells`).
-- Assumes nothing. What is said of sequences takes that the instruction set is lawful, and of the state that it is well-formed.
use mathlib.Core.Path.{◌≡◌, refl, sym, ap, subst, ◌∙◌}
use mathlib.Core.List.Memᴰ
use mathlib.Core.List.Permᴰ
use mathlib.Core.List.{List, [], ◌∷◌, ◌++◌, Memᴰ, Permᴰ}
use mathlib.Core.Option.{Option, none, some}
use Prim.Native.Nat.{ℕ, ◌+◌, ◌-◌, ◌≤◌, ◌<◌}
use native.Mathlib.Omega.{arith}
use lib.ListN.{length, length-append}
use lib.Seq.{ext_get_or}
use Rattle.machine.specs.Machine.{absent, Machine, Activity, fired, not_fired, on_option, Operands}
use Rattle.machine.specs.Machine.{StateOf, FiredOf, at, look, operands, place_of, enabled, commit, fire}
use Rattle.machine.specs.Orders.{Lawful, Good}
use Rattle.machine.specs.Sequences.{AlikeStates, spent_tags, Fires, NothingEnabled, AnyTwoSequences, NoneRefused, Once}
use Rattle.machine.proofs.Lists.{perm_length, perm_once, once_front}
use Rattle.machine.proofs.Swap.{Final, Run, goes_on, unique}
use Rattle.machine.proofs.View.{none_some, View, DeltaOf, delta_of, Allowed, Ready, Step, operand_live, operand_zero, laws}
use Rattle.machine.proofs.Store.{view, After, placed, Answer, commit_result}
use Rattle.machine.proofs.Tags.{tags_length, tags_live, tags_once, tags_after}
use Rattle.machine.proofs.Unspent.{unspent_after}
use Rattle.machine.specs.Steps.{unspent_in}
use Rattle.machine.proofs.Perm.{perm_of}
use Rattle.machine.proofs.Enabled.{enabled_ready, ready_enabled, enabled_in, enabled_place}

-- ---- the claims

module _ (M : Machine) where
  -- each is enabled when it fires
  abbrev pub FiredEnabled : Type 0
  FiredEnabled = (s x : StateOf M) (τ : M.Tag) → fire M s τ ≡ fired x → (a : Activity M.Tag) × Memᴰ a (enabled M s) × (a.tag ≡ τ)

  -- and an enabled activity stays enabled, at its place, while another fires
  abbrev pub StaysEnabled : Type 0
  StaysEnabled = (s : StateOf M) → Good M s → (x : StateOf M) (τ : M.Tag) (a : Activity M.Tag) → fire M s τ ≡ fired x → ¬ (τ ≡ a.tag) → Memᴰ a (enabled M s) → Memᴰ a (enabled M x)

  abbrev pub Joined : Type 0
  Joined = (τs υs : List M.Tag) (s x y : StateOf M) → Fires M s τs x → Fires M x υs y → Fires M s (τs ++ υs) y

  -- the ledger tells which activities have fired
  abbrev pub LedgerTells : Type 0
  LedgerTells = (s : StateOf M) → Good M s → (τs : List M.Tag) (x : StateOf M) → Fires M s τs x → Permᴰ (spent_tags M x.tokens) (τs ++ spent_tags M s.tokens)

  -- none fires twice
  abbrev pub FiresOnce : Type 0
  FiresOnce = (s : StateOf M) → Good M s → (τs : List M.Tag) (x : StateOf M) → Fires M s τs x → Once τs

  -- "Firings never exceed tokens.", which never exceed the capacity
  abbrev pub NoLonger : Type 0
  NoLonger = (s : StateOf M) → Good M s → (τs : List M.Tag) (x : StateOf M) → Fires M s τs x → (length τs ≤ length x.tokens) × (length x.tokens ≤ M.capacity)

-- ---- the proofs

module _ (M : Machine) where
  abbrev Steps : List M.Tag → View M → View M → Type 0
  Steps = Run (View M) M.Tag (Ready M) (Step M)

  abbrev Ended : View M → Type 0
  Ended = Final (View M) M.Tag (Ready M) (Step M)

  -- ---- a firing

  pub fired_same : (x y : StateOf M) → ◌≡◌ {A = FiredOf M} (fired x) (fired y) → x ≡ y
  fired_same x y e = cc

  pub never_fired {ℓ} : {B : Type ℓ} (r : M.Refusal) (x : StateOf M) → ◌≡◌ {A = FiredOf M} (not_fired r) (fired x) → B
  never_fired r x e = absurd (let z : ◌≡◌ {A = ℕ} 0 1 = cc in omega arith)

  -- what is fired was enabled
  pub fired_ready : (s x : StateOf M) (τ : M.Tag) → fire M s τ ≡ fired x → Ready M (view M s) τ
  unfolding fire
  fired_ready s x τ e = go (operands M (look M s) τ) refl e
    where
      go : (q : Option (Operands M.Value)) → operands M (look M s) τ ≡ q
          → ◌≡◌ {A = FiredOf M} (on_option q (not_fired M.second_token) (λ p. commit M s τ (M.effect τ p.left p.right))) (fired x) → Ready M (view M s) τ
      go none f g = never_fired M.second_token x g
      go (some p) f g = (p, f)

  pub fired_enabled : FiredEnabled M
  fired_enabled s x τ e = (record { place = place_of M τ s.tokens; tag = τ }, ready_enabled M s τ (fired_ready s x τ e), refl)

  -- what the firing of an enabled activity does, over the view
  pub record Firing (s : StateOf M) (τ : M.Tag) (x : StateOf M) : Type 0 where
    pub step : Step M (view M s) τ (view M x)
    pub good : Good M x
    -- it spends its operands
    pub tags : Permᴰ (spent_tags M x.tokens) (τ ∷ spent_tags M s.tokens)
    -- and adds its outputs
    pub grown : length s.tokens ≤ length x.tokens
    pub unspent : unspent_in M x.tokens + M.arity τ ≡ unspent_in M s.tokens + (length x.tokens - length s.tokens)
    -- an activity with an operand in the ledger keeps its place
    pub places : (σ : M.Tag) → place_of M σ s.tokens < length s.tokens → place_of M σ x.tokens ≡ place_of M σ s.tokens

  abbrev Tried : StateOf M → M.Tag → FiredOf M → Type 0
  Tried s τ (not_fired r) = (y : View M) → ¬ (Step M (view M s) τ y)
  Tried s τ (fired x) = Firing s τ x

  -- ---- sequences

  pub joined : Joined M
  joined [] υs s x y p q = subst (λ z. Fires M z υs y) (sym p) q
  joined (τ ∷ τs) υs s x y (u, e, p) q = (u, e, joined τs υs u x y p q)

  pub none_ready : (x : StateOf M) → NothingEnabled M x → Ended (view M x)
  none_ready x e τ r = Memᴰ.not-nil (rw e at (ready_enabled M x τ r))

  -- states that are seen alike: the same cells, and the same tokens up to their order
  pub seen_alike : (x y : StateOf M) → Good M x → Good M y → view M x ≡ view M y → AlikeStates x y
  seen_alike x y gx gy e = record {
    count = ap (λ v. v.used) e;
    cells = ext_get_or absent x.cells y.cells (gx.cell_count ∙ sym gy.cell_count) (λ i h. ap (λ v. v.cell i) e);
    tokens = perm_of M x.tokens y.tokens gx.distinct gy.distinct (λ k. ap (λ v. v.tok k) e);
  }

  module _ (law : Lawful M) where
    pub fire_result : (s : StateOf M) (τ : M.Tag) → Good M s → Ready M (view M s) τ → Tried s τ (fire M s τ)
    unfolding fire
    fire_result s τ g (p, e) = rw e (go (delta_of M (M.effect τ p.left p.right)) (commit M s τ (M.effect τ p.left p.right)) refl
        (commit_result M s τ (M.effect τ p.left p.right) g.distinct (rw g.cell_count (law.cells_below τ p.left p.right))))
      where
        same_ops : (y : View M) (st : Step M (view M s) τ y) → p ≡ st.ops
        same_ops y st = cc

        same_delta : (d : DeltaOf M) (y : View M) → delta_of M (M.effect τ p.left p.right) ≡ some d → (st : Step M (view M s) τ y) → st.delta ≡ d
        same_delta d y f st = cc (same_ops y st)

        good_after : (d : DeltaOf M) (x : StateOf M) → After M s τ d x → Good M x
        good_after d x a = record {
          distinct = a.distinct;
          room =
              let r : length s.tokens + length d.keys ≤ M.capacity = a.allowed.room in
              let q : length s.tokens + length d.keys ≡ length x.tokens = ap (λ v. v.used) a.seen in
              omega arith;
          cell_count = a.cell_count ∙ g.cell_count;
        }

        go : (q : Option (DeltaOf M)) (y : FiredOf M) → delta_of M (M.effect τ p.left p.right) ≡ q → Answer M s τ q y → Tried s τ y
        go none (not_fired r) f a = λ y st. none_some (sym f ∙ ap (λ o. delta_of M (M.effect τ o.left o.right)) (same_ops y st) ∙ st.known)
        go none (fired x) f a = absurd a
        go (some d) (not_fired r) f a = λ y st. a (subst (Allowed M (view M s)) (same_delta d y f st) st.allowed)
        go (some d) (fired x) f a = record {
          step = record { ops = p; given = e; delta = d; known = f; allowed = a.allowed; result = a.seen };
          good = good_after d x a;
          tags = tags_after M s τ d x p g.distinct e a;
          grown = let q : length s.tokens + length d.keys ≡ length x.tokens = ap (λ v. v.used) a.seen in omega arith;
          unspent =
              let q : length s.tokens + length d.keys ≡ length x.tokens = ap (λ v. v.used) a.seen in
              omega (arith, unspent_after M s τ d x p g.distinct e a);
          places = placed M s τ d x a;
        }

    pub firing : (s x : StateOf M) (τ : M.Tag) → Good M s → fire M s τ ≡ fired x → Firing s τ x
    firing s x τ g e = rw e at (fire_result s τ g (fired_ready s x τ e))

    pub stays_enabled : StaysEnabled M
    stays_enabled s g x τ b e ne m =
        let f = firing s x τ g e in
        let p : place_of M b.tag x.tokens ≡ b.place = f.places b.tag (rw (sym (enabled_in M s b m).2) (enabled_place M s b m)) ∙ sym (enabled_in M s b m).2 in
        subst (λ a. Memᴰ a (enabled M x)) (λ i. record { place = p i; tag = b.tag })
        (ready_enabled M x b.tag ((laws M).persist ne f.step (enabled_ready M s b m)))

    -- ---- a sequence, over the view

    record Seen (s : StateOf M) (τs : List M.Tag) (x : StateOf M) : Type 0 where
      steps : Steps τs (view M s) (view M x)
      good : Good M x
      tags : Permᴰ (spent_tags M x.tokens) (τs ++ spent_tags M s.tokens)

    seen : (τs : List M.Tag) (s x : StateOf M) → Good M s → Fires M s τs x → Seen s τs x
    seen [] s x g p = subst (Seen s []) p (record { steps = refl; good = g; tags = Permᴰ.refl (spent_tags M s.tokens) })
    seen (τ ∷ τs) s x g (y, e, p) =
        let f = firing s y τ g e in
        let h = seen τs y x f.good p in
        record {
          steps = (view M y, f.step, h.steps);
          good = h.good;
          tags = Permᴰ.trans h.tags (Permᴰ.trans (Permᴰ.append_left τs f.tags) (Permᴰ.middle τ τs (spent_tags M s.tokens)));
        }

    pub fires_good : (s : StateOf M) → Good M s → (τs : List M.Tag) (x : StateOf M) → Fires M s τs x → Good M x
    fires_good s g τs x p = (seen τs s x g p).good

    -- and back: what is enabled over the view fires
    fires : (τs : List M.Tag) (s : StateOf M) (v : View M) → Good M s → Steps τs (view M s) v → (x : StateOf M) × Fires M s τs x × (view M x ≡ v)
    fires [] s v g r = (s, refl, r)
    fires (τ ∷ τs) s v g (u, st, r) = go (fire M s τ) refl (fire_result s τ g ((laws M).enabled st)) (λ y h q. fires τs y v h (subst (λ z. Steps τs z v) ((laws M).only st q) r))
      where
        go : (q : FiredOf M) → fire M s τ ≡ q → Tried s τ q
            → ((y : StateOf M) → Good M y → Step M (view M s) τ (view M y) → (x : StateOf M) × Fires M y τs x × (view M x ≡ v))
            → (x : StateOf M) × Fires M s (τ ∷ τs) x × (view M x ≡ v)
        go (not_fired a) e h rec = absurd (h u st)
        go (fired y) e h rec = let (x, p, q) = rec y h.good h.step in (x, (y, e, p), q)

    -- ---- the theorems

    pub ledger_tells : LedgerTells M
    ledger_tells s g τs x p = (seen τs s x g p).tags

    pub fires_once : FiresOnce M
    fires_once s g τs x p = let h = seen τs s x g p in once_front τs (spent_tags M s.tokens) (perm_once h.tags (tags_once M x.tokens h.good.distinct))

    -- a firing spends at least one token more
    count : (s : StateOf M) → Good M s → (τs : List M.Tag) (x : StateOf M) → Fires M s τs x → length τs ≤ length (spent_tags M x.tokens)
    count s g τs x p = omega (arith, perm_length (ledger_tells s g τs x p), length-append τs (spent_tags M s.tokens))

    pub no_longer : NoLonger M
    no_longer s g τs x p = (omega (arith, count s g τs x p, tags_length M x.tokens), (fires_good s g τs x p).room)

    -- where something is enabled, a token is not spent: so the sequence is shorter still
    pub shorter : (s : StateOf M) → Good M s → (τs : List M.Tag) (x : StateOf M) → Fires M s τs x → (a : Activity M.Tag) → Memᴰ a (enabled M x) → length τs < M.capacity
    shorter s g τs x p a m =
        let (q, e) = enabled_ready M x a m in
        let (u, l) = operand_live M (look M x) a.tag q (at M a.tag 0) e (operand_zero M (look M x) a.tag q e) in
        omega (arith, count s g τs x p, tags_live M (at M a.tag 0) u x.tokens l, (fires_good s g τs x p).room)

    pub sequences : AnyTwoSequences M
    sequences s g τs υs x y p ex q ey =
        let h = seen τs s x g p in
        let i = seen υs s y g q in
        let (r, e) = unique (View M) M.Tag (Ready M) (Step M) (laws M) υs τs (view M s) (view M x) (view M y) (none_ready x ex) h.steps (none_ready y ey) i.steps in
        record { same = r; alike = seen_alike x y h.good i.good e }

    pub none_refused : NoneRefused M
    none_refused s g τs υs x y p ex q a m =
        let h = seen τs s x g p in
        let i = seen υs s y g q in
        let (ρs, v, r, st, rest) = goes_on (View M) M.Tag (Ready M) (Step M) (laws M) υs τs (view M s) (view M x) (view M y) a.tag (none_ready x ex) h.steps i.steps (enabled_ready M y a m) in
        let (z, (w, e, t), k) = fires (a.tag ∷ []) y v i.good (v, st, refl) in
        (omega (arith, perm_length r, length-append υs (a.tag ∷ ρs)), w, e)
