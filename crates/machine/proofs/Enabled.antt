-- What the list of the enabled holds: exactly the activities whose operands are all live, in order of place, each once
-- (`enabled_once`). Assumes nothing.
use mathlib.Core.Path.{◌≡◌, refl, sym, ap, subst, ◌∙◌}
use mathlib.Core.List.Memᴰ
use mathlib.Core.List.{List, [], ◌∷◌, Memᴰ}
use mathlib.Core.Option.{some}
use mathlib.Core.Logic.{◌⊎◌, inl, inr, ◌↔◌}
use mathlib.Core.Bool.{Bool, true, false, ◌&&◌, cond}
use Prim.Native.Nat.{ℕ, suc, ◌+◌, ◌≤◌, ◌<◌}
use native.Mathlib.Omega.{arith}
use lib.Dec.{eqb}
use lib.ListN.{length}
use borrow.Author.Tests.{eqb-true, eq-eqb}
use Rattle.machine.specs.Machine.{Key, Content, live, Token, Machine, Activity, when, is_live, Ledger, StateOf, same_key, at, find, look, is_operand_of, all_live, place_of, is_place, enabled_from, enabled}
use Rattle.machine.specs.Orders.{Live}
use Rattle.machine.proofs.View.{when_no, none_some, false_true, Ready, operand_key, operand_at, operand_live, operands_there, operands_all}
use Rattle.machine.proofs.Store.{find_head, view}

-- ---- the claims

module _ (M : Machine) where
  -- in order of place, each place once: the places from n on
  abbrev pub InOrder : (n : ℕ) → List (Activity M.Tag) → Type 0
  InOrder n [] = Unit {0}
  InOrder n (a ∷ more) = (n ≤ a.place) × InOrder (suc a.place) more

  -- all operands of its tag are live, and there is one; its place is that of its earliest operand
  abbrev pub Enabled : StateOf M → Activity M.Tag → Type 0
  Enabled s a = (0 < M.arity a.tag) × (all_live M (look M s) a.tag ≡ true) × (a.place ≡ place_of M a.tag s.tokens)

  -- the list of the enabled holds exactly these, each once: two of one tag would have one place
  pub record EnabledOnce (s : StateOf M) : Type 0 where
    pub exactly : (a : Activity M.Tag) → Memᴰ a (enabled M s) ↔ Enabled s a
    pub in_order : InOrder 0 (enabled M s)

-- ---- the proofs

all_true_lem : (a b c d : Bool) → a && b && c && d ≡ true → (a ≡ true) × (b ≡ true) × (c ≡ true) × (d ≡ true)
all_true_lem true true true d e = (refl, refl, refl, e)
all_true_lem true true false d e = false_true e
all_true_lem true false c d e = false_true e
all_true_lem false b c d e = false_true e

module _ (M : Machine) where
  abbrev act : ℕ → M.Tag → Activity M.Tag
  act i τ = record { place = i; tag = τ }

  -- ---- each in the list is enabled

  place_enabled : (s : StateOf M) (i : ℕ) (t : Token M.Tag M.Value) → is_place M s i t ≡ true → Enabled M s (act i t.key.tag)
  place_enabled s i t e =
      let (w, o, l, p) = all_true_lem (is_live t.content) (is_operand_of M t.key.tag t.key) (all_live M (look M s) t.key.tag) (eqb (place_of M t.key.tag s.tokens) i) e in
      let (q, h) = operand_key M t.key.tag t.key o in
      (omega arith, l, sym (eqb-true (place_of M t.key.tag s.tokens) i p))

  from_enabled : (s : StateOf M) (i : ℕ) (ts : Ledger M) (a : Activity M.Tag) → Memᴰ a (enabled_from M s i ts) → Enabled M s a
  from_enabled s i [] a m = absurd (Memᴰ.not-nil m)
  from_enabled s i (t ∷ ts) a m = go (is_place M s i t) refl (λ h. from_enabled s (suc i) ts a h) m
    where
      step : is_place M s i t ≡ true → (Memᴰ a (enabled_from M s (suc i) ts) → Enabled M s a) → (a ≡ act i t.key.tag) ⊎ Memᴰ a (enabled_from M s (suc i) ts) → Enabled M s a
      step e rec (inl h) = subst (Enabled M s) (sym h) (place_enabled s i t e)
      step e rec (inr h) = rec h

      go : (b : Bool) → is_place M s i t ≡ b → (Memᴰ a (enabled_from M s (suc i) ts) → Enabled M s a)
          → Memᴰ a (cond b (act i t.key.tag ∷ enabled_from M s (suc i) ts) (enabled_from M s (suc i) ts)) → Enabled M s a
      go true e rec h = step e rec (Memᴰ.cases_cons h)
      go false e rec h = rec h

  -- ---- each enabled is in the list

  -- an operand stands at the tag's place
  place_there : (τ : M.Tag) (k : Key M.Tag) (y : Content M.Value) (ts : Ledger M) → is_operand_of M τ k ≡ true → find M k ts ≡ some y → place_of M τ ts < length ts
  place_there τ k y [] o e = none_some e
  place_there τ k y (t ∷ ts) o e = go (is_operand_of M τ t.key) refl (same_key M k t.key) (λ h. place_there τ k y ts o h) e
    where
      go : (b : Bool) → is_operand_of M τ t.key ≡ b → (d : Dec (k ≡ t.key)) → (find M k ts ≡ some y → place_of M τ ts < length ts) → when d (some t.content) (find M k ts) ≡ some y
          → cond b 0 (suc (place_of M τ ts)) < suc (length ts)
      go true f d rec h = omega arith
      go false f (yes p) rec h = false_true (sym f ∙ ap (is_operand_of M τ) (sym p) ∙ o)
      go false f (no n) rec h = let z = rec h in omega arith

  -- the tokens before ts are no operands of the tag
  module _ (s : StateOf M) (τ : M.Tag) (l : all_live M (look M s) τ ≡ true) (ready : (k : Key M.Tag) → is_operand_of M τ k ≡ true → Live (look M s k)) where
    enabled_at : (i : ℕ) (ts : Ledger M) → place_of M τ s.tokens ≡ i + place_of M τ ts → ((k : Key M.Tag) → is_operand_of M τ k ≡ true → look M s k ≡ find M k ts) → place_of M τ ts < length ts
        → Memᴰ (act (place_of M τ s.tokens) τ) (enabled_from M s i ts)
    enabled_at i [] e k h = absurd (omega arith)
    enabled_at i (t ∷ ts) e k h = go (is_operand_of M τ t.key) refl e h (λ f n g. enabled_at (suc i) ts f n g)
      where
        -- the earliest operand is found by its key
        live_here : is_operand_of M τ t.key ≡ true → is_live t.content ≡ true
        live_here o =
            let (u, f) = ready t.key o in
            let g : some t.content ≡ some (live u) = sym (k t.key o ∙ find_head M t ts) ∙ f in
            let c : t.content ≡ live u = cc in
            rw c

        here : is_operand_of M τ t.key ≡ true → place_of M τ s.tokens ≡ i → is_place M s i t ≡ true
        here o p =
            let (q, n) = operand_key M τ t.key o in
            let a : is_operand_of M t.key.tag t.key ≡ true = subst (λ x. is_operand_of M x t.key ≡ true) q o in
            let b : all_live M (look M s) t.key.tag ≡ true = subst (λ x. all_live M (look M s) x ≡ true) q l in
            let c : eqb (place_of M t.key.tag s.tokens) i ≡ true = eq-eqb _ _ (ap (λ x. place_of M x s.tokens) (sym q) ∙ p) in
            rw (live_here o, a, b) c

        skip : (b : Bool) (a : Activity M.Tag) → Memᴰ a (enabled_from M s (suc i) ts) → Memᴰ a (cond b (act i t.key.tag ∷ enabled_from M s (suc i) ts) (enabled_from M s (suc i) ts))
        skip true a m = Memᴰ.tail m
        skip false a m = m

        same : is_operand_of M τ t.key ≡ true → place_of M τ s.tokens ≡ i → act (place_of M τ s.tokens) τ ≡ act i t.key.tag
        same o p = λ j. record { place = p j; tag = (operand_key M τ t.key o).0 j }

        after : is_operand_of M τ t.key ≡ false → (j : Key M.Tag) → is_operand_of M τ j ≡ true → look M s j ≡ find M j ts
        after f j o = k j o ∙ when_no (same_key M j t.key) _ _ (λ q. false_true (sym f ∙ ap (is_operand_of M τ) (sym q) ∙ o))

        go : (b : Bool) → is_operand_of M τ t.key ≡ b → place_of M τ s.tokens ≡ i + cond b 0 (suc (place_of M τ ts)) → cond b 0 (suc (place_of M τ ts)) < suc (length ts)
            → (place_of M τ s.tokens ≡ suc i + place_of M τ ts → ((j : Key M.Tag) → is_operand_of M τ j ≡ true → look M s j ≡ find M j ts) → place_of M τ ts < length ts
            → Memᴰ (act (place_of M τ s.tokens) τ) (enabled_from M s (suc i) ts))
            → Memᴰ (act (place_of M τ s.tokens) τ) (enabled_from M s i (t ∷ ts))
        go true o f g rec = let p : place_of M τ s.tokens ≡ i = omega arith in rw (here o p) (Memᴰ.head (same o p))
        go false o f g rec = skip (is_place M s i t) (act (place_of M τ s.tokens) τ) (rec (omega arith) (after o) (omega arith))

  -- ---- the order of the places

  later : (m n : ℕ) (l : List (Activity M.Tag)) → m ≤ n → InOrder M n l → InOrder M m l
  later m n [] h o = tt
  later m n (a ∷ more) h o = let q = o.0 in (omega arith, o.1)

  from_in_order : (s : StateOf M) (i : ℕ) (ts : Ledger M) → InOrder M i (enabled_from M s i ts)
  from_in_order s i [] = tt
  from_in_order s i (t ∷ ts) = go (is_place M s i t) (from_in_order s (suc i) ts)
    where
      go : (b : Bool) → InOrder M (suc i) (enabled_from M s (suc i) ts) → InOrder M i (cond b (act i t.key.tag ∷ enabled_from M s (suc i) ts) (enabled_from M s (suc i) ts))
      go true h = (omega arith, h)
      go false h = later i (suc i) (enabled_from M s (suc i) ts) (omega arith) h

  -- ---- the list of the enabled

  pub enabled_in : (s : StateOf M) (a : Activity M.Tag) → Memᴰ a (enabled M s) → Enabled M s a
  unfolding enabled
  enabled_in s a m = from_enabled s 0 s.tokens a m

  pub in_enabled : (s : StateOf M) (a : Activity M.Tag) → Enabled M s a → Memᴰ a (enabled M s)
  unfolding enabled
  in_enabled s a (n, l, p) =
      let (q, e) = operands_there M (look M s) a.tag n l in
      let o = operand_at M a.tag 0 n in
      let (v, f) = operand_live M (look M s) a.tag q (at M a.tag 0) e o in
      Memᴰ.cast (λ i. record { place = p i; tag = a.tag }) (enabled_at s a.tag l (λ k. operand_live M (look M s) a.tag q k e) 0 s.tokens (omega arith) (λ k h. refl) (place_there a.tag (at M a.tag 0) (live v) s.tokens o f))

  pub enabled_once : (s : StateOf M) → EnabledOnce M s
  unfolding enabled
  enabled_once s = record { exactly = λ a. (enabled_in s a, in_enabled s a); in_order = from_in_order s 0 s.tokens }

  -- a place is a position of the ledger, and no more are enabled than there are tokens
  pub enabled_place : (s : StateOf M) (a : Activity M.Tag) → Memᴰ a (enabled M s) → a.place < length s.tokens
  enabled_place s a m =
      let (n, l, p) = enabled_in s a m in
      let (q, e) = operands_there M (look M s) a.tag n l in
      let o = operand_at M a.tag 0 n in
      let (v, f) = operand_live M (look M s) a.tag q (at M a.tag 0) e o in
      let h = place_there a.tag (at M a.tag 0) (live v) s.tokens o f in
      omega arith

  -- ---- and over the view

  pub enabled_ready : (s : StateOf M) (a : Activity M.Tag) → Memᴰ a (enabled M s) → Ready M (view M s) a.tag
  enabled_ready s a m = let (n, l, p) = enabled_in s a m in operands_there M (look M s) a.tag n l

  pub ready_enabled : (s : StateOf M) (τ : M.Tag) → Ready M (view M s) τ → Memᴰ (act (place_of M τ s.tokens) τ) (enabled M s)
  ready_enabled s τ (p, e) = let (n, l) = operands_all M (look M s) τ p e in in_enabled s (act (place_of M τ s.tokens) τ) (n, l, refl)
