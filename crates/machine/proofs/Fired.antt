-- Which activities have fired: those whose port 0 is spent (`has_fired`). A firing marks its own activity and no other, its outputs come to the ledger, and what
-- was there stays (`marked`); so the outputs of all that has fired are there (`fired_sent`). Where nothing is enabled, an activity whose operands are all there
-- and none of them deferred has fired (`fired_or_enabled`). Assumes nothing.
use mathlib.Core.Path.{◌≡◌, refl, sym, ap, subst, ◌∙◌}
use mathlib.Core.List.Memᴰ
use mathlib.Core.List.{[]}
use mathlib.Core.Option.{Option, none, some}
use mathlib.Core.Bool.{Bool, true, false}
use Prim.Native.Nat.{ℕ, zero, suc, ◌<◌}
use native.Mathlib.Omega.{arith}
use lib.ListN.{length}
use Rattle.machine.specs.Machine.{Key, Content, live, spent, deferred, refuse, send, read, write, Machine, fired}
use Rattle.machine.specs.Machine.{on_option, live_value, is_there, all_there, StateOf, EffectOf, at, look, is_operand_of, live_at, all_live, place_of, among, enabled, fire}
use Rattle.machine.specs.Orders.{Lawful, Live, SpentContent, Good, Start, effect_keys, outputs, Reached}
use Rattle.machine.specs.Sequences.{is_spent_there}
use Rattle.machine.proofs.View.{none_some, false_true, omap, or_else, given, resolve, cell_after}
use Rattle.machine.proofs.View.{View, DeltaOf, delta_of, change, apply, operand_key, operand_live, operand_zero}
use Rattle.machine.proofs.Store.{view}
use Rattle.machine.proofs.Enabled.{in_enabled}
use Rattle.machine.proofs.Tags.{settle_unspent, source_unspent}
use Rattle.machine.proofs.Sequences.{firing}
use Rattle.machine.proofs.Orders.{start_good}
use Rattle.machine.proofs.Reached.{keys_known, start_live, outputs_known, reached_good}

-- ---- contents

module _ {W : Type 0} where
  pub spent_is : (x : Option (Content W)) → is_spent_there x ≡ true → SpentContent x
  spent_is none e = false_true e
  spent_is (some (live v)) e = false_true e
  spent_is (some (spent v)) e = (v, refl)
  spent_is (some (deferred c)) e = false_true e

  pub is_spent_lem : (x : Option (Content W)) → SpentContent x → is_spent_there x ≡ true
  is_spent_lem x (v, e) = rw e

  -- what is there and not deferred, and not live, is spent
  neither : (x : Option (Content W)) → is_there x ≡ true → ((c : ℕ) → ¬ (x ≡ some (deferred c))) → live_value x ≡ none → SpentContent x
  neither none t d e = false_true t
  neither (some (live v)) t d e = none_some (sym e)
  neither (some (spent v)) t d e = (v, refl)
  neither (some (deferred c)) t d e = absurd (d c refl)

  one_missing : (f : ℕ → Option W) (n : ℕ) → all_there f n ≡ false → (p : ℕ) × (p < n) × (f p ≡ none)
  one_missing f zero e = false_true (sym e)
  one_missing f (suc n) e = go (f n) refl e (λ h. one_missing f n h)
    where
      go : (q : Option W) → f n ≡ q → on_option q false (λ v. all_there f n) ≡ false → (all_there f n ≡ false → (p : ℕ) × (p < n) × (f p ≡ none)) → (p : ℕ) × (p < suc n) × (f p ≡ none)
      go none h g rest = (n, omega arith, h)
      go (some v) h g rest = let (p, l, k) = rest g in (p, omega arith, k)

module _ (M : Machine) where
  abbrev pub has_fired : StateOf M → M.Tag → Bool
  has_fired s τ = is_spent_there (look M s (at M τ 0))

  -- the effect is no refusal
  abbrev pub Done : EffectOf M → Type 0
  Done (refuse r) = ⊥
  Done (send v keys) = Unit {0}
  Done (read c keys) = Unit {0}
  Done (write c v keys) = Unit {0}

  -- ---- over the view

  module _ (v : View M) (τ : M.Tag) (d : DeltaOf M) where
    spent_other : (k : Key M.Tag) → is_operand_of M τ k ≡ false → is_spent_there ((apply M τ d v).tok k) ≡ is_spent_there (v.tok k)
    spent_other k o = go (v.tok k) (among M k d.keys)
      where
        go : (x : Option (Content M.Value)) (b : Bool) → is_spent_there (or_else (omap (change M τ d k) x) (given b (resolve (cell_after d v.cell) d.source))) ≡ is_spent_there x
        go (some y) b = rw o (settle_unspent d.writes y)
        go none true = source_unspent (cell_after d v.cell) d.source
        go none false = refl

    spent_own : (k : Key M.Tag) → is_operand_of M τ k ≡ true → Live (v.tok k) → is_spent_there ((apply M τ d v).tok k) ≡ true
    spent_own k o (u, e) = rw (e, o)

    there_stays : (k : Key M.Tag) → is_there (v.tok k) ≡ true → is_there ((apply M τ d v).tok k) ≡ true
    there_stays k = go (v.tok k)
      where
        go : (x : Option (Content M.Value)) → is_there x ≡ true → is_there (or_else (omap (change M τ d k) x) (given (among M k d.keys) (resolve (cell_after d v.cell) d.source))) ≡ true
        go (some y) e = refl
        go none e = false_true e

    there_sent : (k : Key M.Tag) → among M k d.keys ≡ true → is_there ((apply M τ d v).tok k) ≡ true
    there_sent k e = go (v.tok k)
      where
        go : (x : Option (Content M.Value)) → is_there (or_else (omap (change M τ d k) x) (given (among M k d.keys) (resolve (cell_after d v.cell) d.source))) ≡ true
        go (some y) = refl
        go none = rw e

  known_done : (e : EffectOf M) (d : DeltaOf M) → delta_of M e ≡ some d → Done e
  known_done (refuse r) d h = none_some h
  known_done (send v keys) d h = tt
  known_done (read c keys) d h = tt
  known_done (write c v keys) d h = tt

  -- ---- a firing

  -- x is what the firing of τ leaves of y
  pub record Marked (y : StateOf M) (τ : M.Tag) (x : StateOf M) : Type 0 where
    pub left : M.Value
    pub right : M.Value
    pub done : Done (M.effect τ left right)
    pub sent : outputs M y τ ≡ length (effect_keys M (M.effect τ left right))
    pub there : (k : Key M.Tag) → among M k (effect_keys M (M.effect τ left right)) ≡ true → is_there (look M x k) ≡ true
    pub stays : (k : Key M.Tag) → is_there (look M y k) ≡ true → is_there (look M x k) ≡ true
    pub before : has_fired y τ ≡ false
    pub after : has_fired x τ ≡ true
    pub others : (σ : M.Tag) → ¬ (τ ≡ σ) → has_fired x σ ≡ has_fired y σ

  not_operand : (τ σ : M.Tag) → ¬ (τ ≡ σ) → is_operand_of M τ (at M σ 0) ≡ false
  not_operand τ σ n = go (is_operand_of M τ (at M σ 0)) refl
    where
      go : (b : Bool) → is_operand_of M τ (at M σ 0) ≡ b → is_operand_of M τ (at M σ 0) ≡ false
      go true f = absurd (n (operand_key M τ (at M σ 0) f).0)
      go false f = f

  module _ (law : Lawful M) where
    pub marked : (y x : StateOf M) (τ : M.Tag) → Good M y → fire M y τ ≡ fired x → Marked y τ x
    marked y x τ good e =
        let st = (firing M law y x τ good e).step in
        let d = st.delta in
        let effect = M.effect τ st.ops.left st.ops.right in
        let keys : effect_keys M effect ≡ d.keys = keys_known M effect d st.known in
        let seen : (k : Key M.Tag) → (apply M τ d (view M y)).tok k ≡ look M x k = λ k. ap (λ v. v.tok k) st.result in
        let o = operand_zero M (look M y) τ st.ops st.given in
        let first = operand_live M (look M y) τ st.ops (at M τ 0) st.given o in
        record {
          left = st.ops.left;
          right = st.ops.right;
          done = known_done effect d st.known;
          sent = outputs_known M y τ st.ops d st.given st.known ∙ ap length (sym keys);
          there = λ k h. rw (← seen k) (there_sent (view M y) τ d k (rw keys at h));
          stays = λ k h. rw (← seen k) (there_stays (view M y) τ d k h);
          before = live_unspent (look M y (at M τ 0)) first;
          after = rw (← seen (at M τ 0)) (spent_own (view M y) τ d (at M τ 0) o first);
          others = λ σ n. rw (← seen (at M σ 0)) (spent_other (view M y) τ d (at M σ 0) (not_operand τ σ n));
        }
      where
        live_unspent : (z : Option (Content M.Value)) → Live z → is_spent_there z ≡ false
        live_unspent z (u, h) = rw h

    -- ---- what has fired has sent

    pub record Sent (x : StateOf M) (τ : M.Tag) : Type 0 where
      pub left : M.Value
      pub right : M.Value
      pub done : Done (M.effect τ left right)
      pub there : (k : Key M.Tag) → among M k (effect_keys M (M.effect τ left right)) ≡ true → is_there (look M x k) ≡ true

    pub start_none : (s : StateOf M) → Start M s → (τ : M.Tag) → has_fired s τ ≡ false
    start_none s st τ = go (look M s (at M τ 0)) refl
      where
        go : (z : Option (Content M.Value)) → look M s (at M τ 0) ≡ z → is_spent_there z ≡ false
        go none e = refl
        go (some y) e = let (u, h) = start_live M s.tokens st.all_live (at M τ 0) y e in rw h

    pub fired_sent : (s : StateOf M) → Start M s → (f o : ℕ) (x : StateOf M) → Reached M s f o x → (τ : M.Tag) → has_fired x τ ≡ true → Sent x τ
    fired_sent s st zero o x (e, q) τ h = false_true (sym (rw q (start_none s st τ)) ∙ h)
    fired_sent s st (suc f) o x (y, n, σ, r, e, q) τ h = go (M.same σ τ) (fired_sent s st f n y r τ)
      where
        now : Marked y σ x
        now = marked y x σ (reached_good M law s (start_good M s st) f n y r) e

        go : Dec (σ ≡ τ) → (has_fired y τ ≡ true → Sent y τ) → Sent x τ
        go (yes p) rest = subst (Sent x) p (record { left = now.left; right = now.right; done = now.done; there = now.there })
        go (no n) rest =
            let old = rest (sym (now.others τ n) ∙ h) in
            record { left = old.left; right = old.right; done = old.done; there = λ k i. now.stays k (old.there k i) }

    pub there_stays_lem : (s : StateOf M) → Start M s → (f o : ℕ) (x : StateOf M) → Reached M s f o x → (k : Key M.Tag) → is_there (look M s k) ≡ true → is_there (look M x k) ≡ true
    there_stays_lem s st zero o x (e, q) k h = rw q h
    there_stays_lem s st (suc f) o x (y, n, σ, r, e, q) k h =
        (marked y x σ (reached_good M law s (start_good M s st) f n y r) e).stays k (there_stays_lem s st f n y r k h)

  -- ---- nothing is enabled

  pub fired_or_enabled : (x : StateOf M) → enabled M x ≡ [] → (τ : M.Tag) → 0 < M.arity τ
      → ((p q : ℕ) → p < M.arity τ → q < M.arity τ → SpentContent (look M x (at M τ p)) → SpentContent (look M x (at M τ q)))
      → ((p : ℕ) → p < M.arity τ → is_there (look M x (at M τ p)) ≡ true) → ((p c : ℕ) → ¬ (look M x (at M τ p) ≡ some (deferred c))) → has_fired x τ ≡ true
  fired_or_enabled x idle τ waits together there undeferred = go (all_live M (look M x) τ) refl
    where
      go : (b : Bool) → all_live M (look M x) τ ≡ b → has_fired x τ ≡ true
      go true e = absurd (Memᴰ.not-nil (rw idle at (in_enabled M x (record { place = place_of M τ x.tokens; tag = τ }) (waits, e, refl))))
      go false e =
          let (p, l, m) = one_missing (live_at M (look M x) τ) (M.arity τ) e in
          is_spent_lem _ (together p 0 l waits (neither (look M x (at M τ p)) (there p l) (undeferred p) m))
