-- Live and deferred tokens: a firing has as many less as its tag has operands, and as many more as it sends (`unspent_after`). Assumes nothing.
use mathlib.Core.Path.{◌≡◌, refl, sym, ap, ◌∙◌}
use mathlib.Core.List.{List, [], ◌∷◌, ◌++◌, map}
use mathlib.Core.Option.{Option, none, some}
use mathlib.Core.Bool.{Bool, true, false, cond}
use Prim.Native.Nat.{ℕ, zero, suc, ◌+◌, ◌<◌}
use native.Mathlib.Omega.{arith}
use lib.Dec.{ltb}
use lib.ListN.{length}
use borrow.Author.Tests.{ltb-true, lt-ltb, le-ltb, ltb-false}
use Rattle.machine.specs.Machine.{Key, Content, live, spent, deferred, Token, Cell, absent, waiting, present, Machine, when, on_option, cell_at, content_read, changed, output, spend, Operands}
use Rattle.machine.specs.Machine.{Ledger, StateOf, same_key, at, find, look, is_operand_of, operands}
use Rattle.machine.specs.Orders.{Distinct}
use Rattle.machine.specs.Steps.{is_unspent, unspent_in}
use Rattle.machine.proofs.View.{when_no, none_some, key_path, Source, value, fetched, resolve, settle, cell_after}
use Rattle.machine.proofs.View.{DeltaOf, change, operand_live, operand_at}
use Rattle.machine.proofs.Store.{After, find_head}

module _ {W : Type 0} where
  -- a write wakes deferred tokens, which were unspent before
  unspent_settled : (f : ℕ → Option W) (y : Content W) → is_unspent (settle f y) ≡ is_unspent y
  unspent_settled f (live v) = refl
  unspent_settled f (spent v) = refl
  unspent_settled f (deferred c) = go (f c)
    where
      go : (q : Option W) → is_unspent (on_option q (deferred c) live) ≡ 1
      go none = refl
      go (some v) = refl

  unspent_source : (cell : ℕ → Cell W) (o : Source W) → is_unspent (resolve cell o) ≡ 1
  unspent_source cell (value v) = refl
  unspent_source cell (fetched c) = go (cell c)
    where
      go : (x : Cell W) → is_unspent (content_read c x) ≡ 1
      go absent = refl
      go waiting = refl
      go (present v) = refl

module _ (M : Machine) where
  unspent_append : (l m : Ledger M) → unspent_in M (l ++ m) ≡ unspent_in M l + unspent_in M m
  unspent_append [] m = omega arith
  unspent_append (t ∷ ts) m = omega (arith, unspent_append ts m)

  unspent_outputs : (y : Content M.Value) → is_unspent y ≡ 1 → (ks : List (Key M.Tag)) → unspent_in M (map (output y) ks) ≡ length ks
  unspent_outputs y h [] = refl
  unspent_outputs y h (k ∷ ks) = omega (arith, h, unspent_outputs y h ks)

  -- ---- how many tokens stand on the ports of a tag

  -- on those below n
  abbrev pub below : M.Tag → (n : ℕ) → Key M.Tag → Bool
  below τ n k = when (M.same τ k.tag) (ltb k.port n) false

  abbrev pub count_below : M.Tag → (n : ℕ) → Ledger M → ℕ
  count_below τ n [] = 0
  count_below τ n (t ∷ ts) = cond (below τ n t.key) 1 0 + count_below τ n ts

  abbrev count_at_lem : Key M.Tag → Ledger M → ℕ
  count_at_lem k [] = 0
  count_at_lem k (t ∷ ts) = when (same_key M k t.key) 1 0 + count_at_lem k ts

  none_at : (k : Key M.Tag) (ts : Ledger M) → find M k ts ≡ none → count_at_lem k ts ≡ 0
  none_at k [] e = refl
  none_at k (t ∷ ts) e = go (same_key M k t.key) e (none_at k ts)
    where
      go : (d : Dec (k ≡ t.key)) → when d (some t.content) (find M k ts) ≡ none → (find M k ts ≡ none → count_at_lem k ts ≡ 0) → when d 1 0 + count_at_lem k ts ≡ 0
      go (yes p) f rec = none_some (sym f)
      go (no n) f rec = omega (arith, rec f)

  one_at : (k : Key M.Tag) (y : Content M.Value) (ts : Ledger M) → Distinct M ts → find M k ts ≡ some y → count_at_lem k ts ≡ 1
  one_at k y [] ds e = none_some e
  one_at k y (t ∷ ts) ds e = go (same_key M k t.key) e (one_at k y ts ds.1)
    where
      go : (d : Dec (k ≡ t.key)) → when d (some t.content) (find M k ts) ≡ some y → (find M k ts ≡ some y → count_at_lem k ts ≡ 1) → when d 1 0 + count_at_lem k ts ≡ 1
      go (yes p) f rec = omega (arith, none_at k ts (rw p ds.0))
      go (no n) f rec = omega (arith, rec f)

  -- a port more
  port_more : (τ : M.Tag) (n : ℕ) (k : Key M.Tag) → cond (below τ (suc n) k) 1 0 ≡ when (same_key M (at M τ n) k) 1 0 + cond (below τ n k) 1 0
  port_more τ n k = go (M.same τ k.tag) (same_key M (at M τ n) k)
    where
      here : at M τ n ≡ k → n ≡ k.port
      here q = ap (λ j. j.port) q

      bit : (b c : Bool) → (b ≡ c) → cond b 1 0 ≡ 0 + cond c 1 0
      bit b c e = omega (arith, ap {B = ℕ} (λ (x : Bool). cond x 1 0) e)

      apart : ¬ (at M τ n ≡ k) → τ ≡ k.tag → ltb k.port (suc n) ≡ ltb k.port n
      apart m p = test (ltb k.port n) refl
        where
          test : (b : Bool) → ltb k.port n ≡ b → ltb k.port (suc n) ≡ ltb k.port n
          test true f = lt-ltb k.port (suc n) (let z = ltb-true k.port n f in omega arith) ∙ sym f
          test false f =
              let ne : k.port ≡ n → ⊥ = λ e. m (key_path p (sym e)) in
              let z = ltb-false k.port n f in
              le-ltb k.port (suc n) (omega arith) ∙ sym f

      go : (d : Dec (τ ≡ k.tag)) (e : Dec (at M τ n ≡ k)) → cond (when d (ltb k.port (suc n)) false) 1 0 ≡ when e 1 0 + cond (when d (ltb k.port n) false) 1 0
      go (yes p) (yes q) = rw (lt-ltb k.port (suc n) (let z = here q in omega arith), le-ltb k.port n (let z = here q in omega arith))
      go (yes p) (no m) = bit _ _ (apart m p)
      go (no m) (yes q) = absurd (m (ap (λ j. j.tag) q))
      go (no m) (no m') = refl

  count_more : (τ : M.Tag) (n : ℕ) (ts : Ledger M) → count_below τ (suc n) ts ≡ count_at_lem (at M τ n) ts + count_below τ n ts
  count_more τ n [] = refl
  count_more τ n (t ∷ ts) = omega (arith, port_more τ n t.key, count_more τ n ts)

  pub count_all : (τ : M.Tag) (ts : Ledger M) → Distinct M ts → (n : ℕ) → ((q : ℕ) → q < n → (y : Content M.Value) × (find M (at M τ q) ts ≡ some y)) → count_below τ n ts ≡ n
  count_all τ ts ds zero there = none_below ts
    where
      none_below : (us : Ledger M) → count_below τ 0 us ≡ 0
      none_below [] = refl
      none_below (u ∷ us) = go (M.same τ u.key.tag) (none_below us)
        where
          go : (d : Dec (τ ≡ u.key.tag)) → count_below τ 0 us ≡ 0 → cond (when d (ltb u.key.port 0) false) 1 0 + count_below τ 0 us ≡ 0
          go (yes p) h = rw (le-ltb u.key.port 0 (omega arith)) (omega (arith, h))
          go (no m) h = omega (arith, h)
  count_all τ ts ds (suc n) there =
      let (y, e) = there n (omega arith) in
      omega (arith, count_more τ n ts, one_at (at M τ n) y ts ds e, count_all τ ts ds n (λ q h. there q (omega arith)))

  -- ---- a firing

  module _ (τ : M.Tag) (d : DeltaOf M) where
    -- every operand is live
    abbrev pub OperandsLive : Ledger M → Type 0
    OperandsLive ts = (k : Key M.Tag) → is_operand_of M τ k ≡ true → (y : Content M.Value) → find M k ts ≡ some y → (v : M.Value) × (y ≡ live v)

    spent_one : (t : Token M.Tag M.Value) (ts : Ledger M) → OperandsLive (t ∷ ts) → is_unspent (change M τ d t.key t.content) + cond (is_operand_of M τ t.key) 1 0 ≡ is_unspent t.content
    spent_one t ts lives = go (is_operand_of M τ t.key) refl
      where
        go : (b : Bool) → is_operand_of M τ t.key ≡ b → is_unspent (settle d.writes (cond b (spend t.content) t.content)) + cond b 1 0 ≡ is_unspent t.content
        go true e = let (v, l) = lives t.key e t.content (find_head M t ts) in rw l
        go false e = omega (arith, unspent_settled d.writes t.content)

    spent_all : (ts : Ledger M) → Distinct M ts → OperandsLive ts → unspent_in M (map (changed (change M τ d)) ts) + count_below τ (M.arity τ) ts ≡ unspent_in M ts
    spent_all [] ds lives = refl
    spent_all (t ∷ ts) ds lives = omega (arith, spent_one t ts lives, spent_all ts ds.1 later)
      where
        later : OperandsLive ts
        later k o y e = lives k o y (when_no (same_key M k t.key) _ _ (λ q. none_some (sym ds.0 ∙ ap (λ j. find M j ts) (sym q) ∙ e)) ∙ e)

  pub unspent_after : (s : StateOf M) (τ : M.Tag) (d : DeltaOf M) (x : StateOf M) (p : Operands M.Value) → Distinct M s.tokens → operands M (look M s) τ ≡ some p → After M s τ d x
      → unspent_in M x.tokens + M.arity τ ≡ unspent_in M s.tokens + length d.keys
  unspent_after s τ d x p ds e a =
      omega (
        arith,
        ap (unspent_in M) a.listed,
        unspent_append (map (changed (change M τ d)) s.tokens) (map (output a.sent) d.keys),
        unspent_outputs a.sent (rw a.sent_from (unspent_source (cell_after d (cell_at s.cells)) d.source)) d.keys,
        spent_all τ d s.tokens ds lives,
        count_all τ s.tokens ds (M.arity τ) there,
      )
    where
      some_same : {A : Type 0} {y z : A} → some y ≡ some z → y ≡ z
      some_same h = cc

      lives : OperandsLive τ d s.tokens
      lives k o y f = let (v, l) = operand_live M (look M s) τ p k e o in (v, some_same (sym f ∙ l))

      there : (q : ℕ) → q < M.arity τ → (y : Content M.Value) × (find M (at M τ q) s.tokens ≡ some y)
      there q h = let (v, l) = operand_live M (look M s) τ p (at M τ q) e (operand_at M τ q h) in (live v, l)
