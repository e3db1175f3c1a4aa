-- What an instruction set keeps of keys, of values and of the cells that it reads, a run keeps in every token and every cell. Over any property of each.
-- Assumes nothing; takes a machine whose effects keep the three (`Keeps`).
use mathlib.Core.Path.{◌≡◌, refl, sym, subst}
use mathlib.Core.List.{List, [], ◌∷◌, ◌++◌, map}
use mathlib.Core.Option.{Option, none, some}
use mathlib.Core.Bool.{Bool, true, false, cond}
use Prim.Native.Nat.{ℕ, zero, suc, ◌<◌}
use native.Mathlib.Decide.{ℕ_discrete}
use lib.ListN.{get_or, set}
use Rattle.machine.specs.Machine.{Key, Content, live, spent, deferred, Token, Cell, absent, waiting, present, refuse, send, read, write, Machine, fired, not_fired}
use Rattle.machine.specs.Machine.{when, on_option, live_value, spend, fill, cell_at, cell_read, content_read, if_present, changed, output, Operands, two_values}
use Rattle.machine.specs.Machine.{Ledger, StateOf, EffectOf, FiredOf, same_key, at, find, look, is_operand_of, live_at, all_live, operands, spend_at, any_taken, exceeds, admit, commit, fire, run}
use Rattle.machine.specs.Orders.{Reached}
use Rattle.machine.proofs.View.{none_some, operand_at, operand_live, operands_all}
use Rattle.machine.proofs.Sequences.{fired_same, never_fired}
use Rattle.machine.proofs.Reached.{reached_picks}
use Rattle.machine.proofs.Reached.{reached_picks}

-- ---- lists

module _ {A : Type 0} (P : A → Type 0) where
  abbrev pub Each : List A → Type 0
  Each [] = Unit {0}
  Each (x ∷ xs) = P x × Each xs

  each_append : (xs ys : List A) → Each xs → Each ys → Each (xs ++ ys)
  each_append [] ys h k = k
  each_append (x ∷ xs) ys h k = (h.0, each_append xs ys h.1 k)

  each_set : (xs : List A) (i : ℕ) (y : A) → Each xs → P y → Each (set xs i y)
  each_set [] i y h k = tt
  each_set (x ∷ xs) zero y h k = (k, h.1)
  each_set (x ∷ xs) (suc i) y h k = (h.0, each_set xs i y h.1 k)

  each_get_d : (xs : List A) (i : ℕ) (d : A) → Each xs → P d → P (get_or xs i d)
  each_get_d [] i d h k = k
  each_get_d (x ∷ xs) zero d h k = h.0
  each_get_d (x ∷ xs) (suc i) d h k = each_get_d xs i d h.1 k

pub each_map : {A B : Type 0} (P : A → Type 0) (Q : B → Type 0) (f : A → B) → ((x : A) → P x → Q (f x)) → (xs : List A) → Each P xs → Each Q (map f xs)
each_map P Q f h [] k = tt
each_map P Q f h (x ∷ xs) k = (h x k.0, each_map P Q f h xs k.1)

-- ---- what is kept

module _ (M : Machine) (OfKey : Key M.Tag → Type 0) (OfValue : M.Value → Type 0) (OfRead : (cell : ℕ) → Type 0) where
  abbrev pub OfContent : Content M.Value → Type 0
  OfContent (live v) = OfValue v
  OfContent (spent v) = OfValue v
  OfContent (deferred c) = OfRead c

  abbrev pub OfCell : Cell M.Value → Type 0
  OfCell absent = Unit {0}
  OfCell waiting = Unit {0}
  OfCell (present v) = OfValue v

  abbrev pub OfToken : Token M.Tag M.Value → Type 0
  OfToken t = OfKey t.key × OfContent t.content

  pub record OfState (s : StateOf M) : Type 0 where
    pub tokens : Each OfToken s.tokens
    pub cells : Each OfCell s.cells

  abbrev pub OfEffect : EffectOf M → Type 0
  OfEffect (refuse r) = Unit {0}
  OfEffect (send v keys) = OfValue v × Each OfKey keys
  OfEffect (read c keys) = OfRead c × Each OfKey keys
  OfEffect (write c v keys) = OfValue v × Each OfKey keys

  -- an activity waits for one operand at least, and the keys of all have the property
  abbrev pub OfOperands : M.Tag → Type 0
  OfOperands τ = (0 < M.arity τ) × ((p : ℕ) → p < M.arity τ → OfKey (at M τ p))

  -- of an activity whose operands have the properties the effect has them, and the signal has
  pub record Keeps : Type 0 where
    pub effect : (τ : M.Tag) (v w : M.Value) → OfOperands τ → OfValue v → OfValue w → OfEffect (M.effect τ v w)
    pub signal : OfValue M.signal

  -- ---- the operands

  some_same_lem : {A : Type 0} (x y : A) → some x ≡ some y → x ≡ y
  some_same_lem x y e = cc

  pub found : (k : Key M.Tag) (ts : Ledger M) (x : Content M.Value) → Each OfToken ts → find M k ts ≡ some x → OfKey k × OfContent x
  found k [] x h e = none_some e
  found k (t ∷ ts) x h e = go (same_key M k t.key) (λ f. found k ts x h.1 f) e
    where
      go : (q : Dec (k ≡ t.key)) → (find M k ts ≡ some x → OfKey k × OfContent x) → when q (some t.content) (find M k ts) ≡ some x → OfKey k × OfContent x
      go (yes p) rest f = (subst OfKey (sym p) h.0.0, subst OfContent (some_same_lem _ _ f) h.0.1)
      go (no n) rest f = rest f

  is_live_value : (x : Option (Content M.Value)) (v : M.Value) → live_value x ≡ some v → x ≡ some (live v)
  is_live_value none v e = none_some e
  is_live_value (some (live w)) v e = cc
  is_live_value (some (spent w)) v e = none_some e
  is_live_value (some (deferred c)) v e = none_some e

  value_found : (s : StateOf M) (τ : M.Tag) (p : ℕ) (v : M.Value) → Each OfToken s.tokens → live_at M (look M s) τ p ≡ some v → OfValue v
  value_found s τ p v h e = (found (at M τ p) s.tokens (live v) h (is_live_value (look M s (at M τ p)) v e)).1

  -- what the two operands are made of
  both_found : (n : ℕ) (x y : Option M.Value) (o : Operands M.Value) → two_values n x y ≡ some o
      → ((v : M.Value) → x ≡ some v → OfValue v) → ((v : M.Value) → y ≡ some v → OfValue v) → OfValue o.left × OfValue o.right
  both_found zero x y o e f g = none_some e
  both_found (suc zero) none y o e f g = none_some e
  both_found (suc zero) (some v) y o e f g = subst (λ (q : Operands M.Value). OfValue q.left × OfValue q.right) (some_same_lem _ _ e) (f v refl, f v refl)
  both_found (suc (suc n)) none y o e f g = none_some e
  both_found (suc (suc n)) (some v) none o e f g = none_some e
  both_found (suc (suc n)) (some v) (some w) o e f g = subst (λ (q : Operands M.Value). OfValue q.left × OfValue q.right) (some_same_lem _ _ e) (f v refl, g w refl)

  values_found : (s : StateOf M) (τ : M.Tag) (o : Operands M.Value) → Each OfToken s.tokens → operands M (look M s) τ ≡ some o → OfValue o.left × OfValue o.right
  values_found s τ o h e = go (all_live M (look M s) τ) e
    where
      go : (b : Bool) → cond b (two_values (M.arity τ) (live_at M (look M s) τ 0) (live_at M (look M s) τ 1)) none ≡ some o → OfValue o.left × OfValue o.right
      go false f = none_some f
      go true f = both_found (M.arity τ) _ _ o f (λ v g. value_found s τ 0 v h g) (λ v g. value_found s τ 1 v h g)

  keys_found : (s : StateOf M) (τ : M.Tag) (o : Operands M.Value) → Each OfToken s.tokens → operands M (look M s) τ ≡ some o → OfOperands τ
  keys_found s τ o h e = (
    (operands_all M (look M s) τ o e).0,
    λ p l. let (v, f) = operand_live M (look M s) τ o (at M τ p) e (operand_at M τ p l) in (found (at M τ p) s.tokens (live v) h f).0,
  )

  -- ---- a firing

  spent_stays : (b : Bool) (x : Content M.Value) → OfContent x → OfContent (cond b (spend x) x)
  spent_stays false x h = h
  spent_stays true (live v) h = h
  spent_stays true (spent v) h = h
  spent_stays true (deferred c) h = h

  filled_stays : (c : ℕ) (v : M.Value) → OfValue v → (x : Content M.Value) → OfContent x → OfContent (fill c v x)
  filled_stays c v k (live w) h = h
  filled_stays c v k (spent w) h = h
  filled_stays c v k (deferred d) h = go (ℕ_discrete d c)
    where
      go : (q : Dec (d ≡ c)) → OfContent (when q (live v) (deferred d))
      go (yes p) = k
      go (no n) = h

  read_cell : (x : Cell M.Value) → OfCell x → OfCell (cell_read x)
  read_cell absent h = tt
  read_cell waiting h = tt
  read_cell (present v) h = h

  read_content : (c : ℕ) (x : Cell M.Value) → OfRead c → OfCell x → OfContent (content_read c x)
  read_content c absent k h = k
  read_content c waiting k h = k
  read_content c (present v) k h = h

  admitted : (s : StateOf M) (left : Ledger M) (cells : List (Cell M.Value)) (c : Content M.Value) (keys : List (Key M.Tag)) (x : StateOf M)
      → Each OfToken left → Each OfCell cells → OfContent c → Each OfKey keys → admit M s left cells c keys ≡ fired x → OfState x
  unfolding admit
  admitted s left cells c keys x hl hc h hk e = go (exceeds M s.tokens keys) (any_taken M s.tokens keys) e
    where
      go : (p q : Bool) → cond p (not_fired M.ledger_full) (cond q (not_fired M.second_token) (fired (record { tokens = left ++ map (output c) keys; cells = cells }))) ≡ fired x → OfState x
      go true q f = never_fired M _ x f
      go false true f = never_fired M _ x f
      go false false f =
          subst OfState (fired_same M _ x f)
          (record { tokens = each_append OfToken left (map (output c) keys) hl (each_map OfKey OfToken (output c) (λ k g. (g, h)) keys hk); cells = hc })

  committed : (s : StateOf M) (τ : M.Tag) (e : EffectOf M) (x : StateOf M) → OfValue M.signal → OfState s → OfEffect e → commit M s τ e ≡ fired x → OfState x
  unfolding commit
  committed s τ (refuse r) x sig h g e = never_fired M r x e
  committed s τ (send v keys) x sig h g e =
      admitted s _ s.cells (live v) keys x
      (each_map OfToken OfToken (changed (spend_at M τ)) (λ t k. (k.0, spent_stays (is_operand_of M τ t.key) t.content k.1)) s.tokens h.tokens)
      h.cells g.0 g.1 e
  committed s τ (read c keys) x sig h g e =
      let cell = each_get_d OfCell s.cells c absent h.cells tt in
      admitted s _ _ (content_read c (cell_at s.cells c)) keys x
      (each_map OfToken OfToken (changed (spend_at M τ)) (λ t k. (k.0, spent_stays (is_operand_of M τ t.key) t.content k.1)) s.tokens h.tokens)
      (each_set OfCell s.cells c _ h.cells (read_cell (cell_at s.cells c) cell)) (read_content c (cell_at s.cells c) g.0 cell) g.1 e
  committed s τ (write c v keys) x sig h g e = go (cell_at s.cells c) e
    where
      written : admit M s (map (changed (λ k z. fill c v (spend_at M τ k z))) s.tokens) (set s.cells c (present v)) (live M.signal) keys ≡ fired x → OfState x
      written f =
          admitted s _ _ (live M.signal) keys x
          (each_map OfToken OfToken (changed (λ k z. fill c v (spend_at M τ k z))) (λ t k. (k.0, filled_stays c v g.0 (spend_at M τ t.key t.content) (spent_stays (is_operand_of M τ t.key) t.content k.1))) s.tokens h.tokens)
          (each_set OfCell s.cells c (present v) h.cells g.0) sig g.1 f

      go : (y : Cell M.Value)
          → if_present y (not_fired M.second_write) (admit M s (map (changed (λ k z. fill c v (spend_at M τ k z))) s.tokens) (set s.cells c (present v)) (live M.signal) keys) ≡ fired x → OfState x
      go absent f = written f
      go waiting f = written f
      go (present w) f = never_fired M _ x f

  module _ (keeps : Keeps) where
    pub fired_keeps : (s : StateOf M) (τ : M.Tag) (x : StateOf M) → OfState s → fire M s τ ≡ fired x → OfState x
    unfolding fire
    fired_keeps s τ x h e = go (operands M (look M s) τ) refl e
      where
        go : (q : Option (Operands M.Value)) → operands M (look M s) τ ≡ q
            → ◌≡◌ {A = FiredOf M} (on_option q (not_fired M.second_token) (λ p. commit M s τ (M.effect τ p.left p.right))) (fired x) → OfState x
        go none f g = never_fired M _ x g
        go (some o) f g =
            let (v, w) = values_found s τ o h.tokens f in
            committed s τ (M.effect τ o.left o.right) x keeps.signal h (keeps.effect τ o.left o.right (keys_found s τ o h.tokens f) v w) g

    pub reached_keeps : (s : StateOf M) → OfState s → (f o : ℕ) (x : StateOf M) → Reached M s f o x → OfState x
    reached_keeps s h zero o x (e, q) = subst OfState (sym q) h
    reached_keeps s h (suc f) o x (y, n, τ, r, e, q) = fired_keeps y τ x (reached_keeps s h f n y r) e

    -- a run by picks
    pub run_keeps : (s : StateOf M) → OfState s → (budget : ℕ) (picks : List ℕ) → OfState (run M budget picks s).state
    run_keeps s h budget picks = let e = reached_picks M s budget picks in reached_keeps s h e.done e.sent _ e.reached
