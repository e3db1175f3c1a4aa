-- The tags with spent operands: a firing adds its own (`tags_after`), and each is there once (`tags_once`, `tags_once_lem`). Assumes nothing.
use mathlib.Core.Path.{◌≡◌, refl, sym, ap, ◌∙◌}
use mathlib.Core.List.Memᴰ
use mathlib.Core.List.{List, [], ◌∷◌, ◌++◌, map, append-nil, Memᴰ}
use mathlib.Core.List.Permᴰ
use mathlib.Core.List.{Permᴰ}
use mathlib.Core.Option.{Option, none, some}
use mathlib.Core.Logic.{◌⊎◌, inl, inr, ◌↔◌}
use mathlib.Core.Bool.{Bool, true, false, ◌&&◌, cond}
use Prim.Native.Nat.{ℕ, suc, ◌≤◌, ◌<◌}
use native.Mathlib.Decide.{dec_lt}
use native.Mathlib.Omega.{arith}
use lib.Dec.{eqb, ltb}
use lib.ListN.{length}
use borrow.Author.Tests.{eqb-true}
use Rattle.machine.specs.Machine.{Key, Content, live, spent, deferred, Token, Cell, absent, waiting, present, Machine, when, on_option, cell_at, content_read, changed, output, Operands}
use Rattle.machine.specs.Machine.{Ledger, StateOf, same_key, at, find, look, is_operand_of, operands}
use Rattle.machine.specs.Orders.{SpentContent, Distinct, AllLive}
use Rattle.machine.specs.Sequences.{Once, is_spent, is_spent_first, spent_tags}
use Rattle.machine.proofs.View.{when_yes, when_no, none_some, false_true, key_path, Source, value, fetched, resolve, settle, cell_after}
use Rattle.machine.proofs.View.{DeltaOf, change, operand_live, operand_zero}
use Rattle.machine.proofs.Store.{After}

-- ---- the claims

module _ (M : Machine) where
  -- its firings are counted by the right tags: exactly those that have a spent operand, each once
  pub record SpentTagsOnce (ts : Ledger M) : Type 0 where
    pub exactly : (τ : M.Tag) → Memᴰ τ (spent_tags M ts) ↔ ((p : ℕ) × SpentContent (find M (at M τ p) ts))
    pub once : Once (spent_tags M ts)

-- ---- contents

and_false : (b : Bool) → b && false ≡ false
and_false true = refl
and_false false = refl

module _ {W : Type 0} where
  pub settle_unspent : (f : ℕ → Option W) (y : Content W) → is_spent (settle f y) ≡ is_spent y
  settle_unspent f (live v) = refl
  settle_unspent f (spent v) = refl
  settle_unspent f (deferred c) = go (f c)
    where
      go : (q : Option W) → is_spent (on_option q (deferred c) live) ≡ false
      go none = refl
      go (some v) = refl

  -- no output is spent
  pub source_unspent : (cell : ℕ → Cell W) (o : Source W) → is_spent (resolve cell o) ≡ false
  source_unspent cell (value v) = refl
  source_unspent cell (fetched c) = go (cell c)
    where
      go : (x : Cell W) → is_spent (content_read c x) ≡ false
      go absent = refl
      go waiting = refl
      go (present v) = refl

  first_of : {T : Type 0} (t : Token T W) → is_spent_first t ≡ true → (t.key.port ≡ 0) × (v : W) × (t.content ≡ spent v)
  first_of t e = go (eqb t.key.port 0) t.content refl e
    where
      go : (b : Bool) (x : Content W) → eqb t.key.port 0 ≡ b → b && is_spent x ≡ true → (t.key.port ≡ 0) × (v : W) × (x ≡ spent v)
      go true (spent v) f g = (eqb-true t.key.port 0 f, v, refl)
      go true (live v) f g = false_true g
      go true (deferred c) f g = false_true g
      go false x f g = false_true g

module _ (M : Machine) where
  -- ---- lists of tokens

  tags_append : (l m : Ledger M) → spent_tags M (l ++ m) ≡ spent_tags M l ++ spent_tags M m
  tags_append [] m = refl
  tags_append (x ∷ xs) m = go (is_spent_first x) (tags_append xs m)
    where
      go : (b : Bool) → spent_tags M (xs ++ m) ≡ spent_tags M xs ++ spent_tags M m
          → cond b (x.key.tag ∷ spent_tags M (xs ++ m)) (spent_tags M (xs ++ m)) ≡ cond b (x.key.tag ∷ spent_tags M xs) (spent_tags M xs) ++ spent_tags M m
      go true h = ap (λ l. x.key.tag ∷ l) h
      go false h = h

  tags_outputs : (y : Content M.Value) → is_spent y ≡ false → (ks : List (Key M.Tag)) → spent_tags M (map (output y) ks) ≡ []
  tags_outputs y h [] = refl
  tags_outputs y h (k ∷ ks) = rw (h, and_false) (tags_outputs y h ks)

  pub tags_length : (l : Ledger M) → length (spent_tags M l) ≤ length l
  tags_length [] = omega arith
  tags_length (x ∷ xs) = go (is_spent_first x) (tags_length xs)
    where
      go : (b : Bool) → length (spent_tags M xs) ≤ length xs → length (cond b (x.key.tag ∷ spent_tags M xs) (spent_tags M xs)) ≤ suc (length xs)
      go true h = omega arith
      go false h = omega arith

  -- a live token is not spent
  pub tags_live : (k : Key M.Tag) (u : M.Value) (l : Ledger M) → find M k l ≡ some (live u) → length (spent_tags M l) < length l
  tags_live k u [] e = none_some e
  tags_live k u (x ∷ xs) e = go (same_key M k x.key) (is_spent_first x) refl (λ h. tags_live k u xs h) e
    where
      unspent : x.content ≡ live u → is_spent_first x ≡ false
      unspent e = rw (e, and_false)

      go : (d : Dec (k ≡ x.key)) (b : Bool) → is_spent_first x ≡ b → (find M k xs ≡ some (live u) → length (spent_tags M xs) < length xs) → when d (some x.content) (find M k xs) ≡ some (live u)
          → length (cond b (x.key.tag ∷ spent_tags M xs) (spent_tags M xs)) < suc (length xs)
      go (yes p) true f rec h = false_true (sym (unspent (cc)) ∙ f)
      go (yes p) false f rec h = omega (arith, tags_length xs)
      go (no n) true f rec h = let z = rec h in omega arith
      go (no n) false f rec h = let z = rec h in omega arith

  -- ---- each once

  first_spent : (τ : M.Tag) (ts : Ledger M) → Distinct M ts → Memᴰ τ (spent_tags M ts) → SpentContent (find M (at M τ 0) ts)
  first_spent τ [] ds m = absurd (Memᴰ.not-nil m)
  first_spent τ (t ∷ ts) ds m = go (is_spent_first t) refl (λ h. first_spent τ ts ds.1 h) m
    where
      here : is_spent_first t ≡ true → τ ≡ t.key.tag → SpentContent (find M (at M τ 0) (t ∷ ts))
      here e q =
          let (z, v, c) = first_of t e in
          (v, when_yes (same_key M (at M τ 0) t.key) _ _ (key_path q (sym z)) ∙ ap some c)

      later : SpentContent (find M (at M τ 0) ts) → SpentContent (find M (at M τ 0) (t ∷ ts))
      later (v, e) = (v, when_no (same_key M (at M τ 0) t.key) _ _ (λ q. none_some (sym ds.0 ∙ ap (λ k. find M k ts) (sym q) ∙ e)) ∙ e)

      go : (b : Bool) → is_spent_first t ≡ b → (Memᴰ τ (spent_tags M ts) → SpentContent (find M (at M τ 0) ts))
          → Memᴰ τ (cond b (t.key.tag ∷ spent_tags M ts) (spent_tags M ts)) → SpentContent (find M (at M τ 0) (t ∷ ts))
      go true e rec h = either (Memᴰ.cases_cons h)
        where
          either : (τ ≡ t.key.tag) ⊎ Memᴰ τ (spent_tags M ts) → SpentContent (find M (at M τ 0) (t ∷ ts))
          either (inl q) = here e q
          either (inr n) = later (rec n)
      go false e rec h = later (rec h)

  spent_first : (τ : M.Tag) (ts : Ledger M) → SpentContent (find M (at M τ 0) ts) → Memᴰ τ (spent_tags M ts)
  spent_first τ [] (v, e) = none_some e
  spent_first τ (t ∷ ts) (v, e) = go (same_key M (at M τ 0) t.key) (λ h. spent_first τ ts (v, h)) e
    where
      own : (k : Key M.Tag) (x : Content M.Value) → at M τ 0 ≡ k → x ≡ spent v → eqb k.port 0 && is_spent x ≡ true
      own k x p h = rw (h, ← p)

      skip : (b : Bool) → Memᴰ τ (spent_tags M ts) → Memᴰ τ (cond b (t.key.tag ∷ spent_tags M ts) (spent_tags M ts))
      skip true m = Memᴰ.tail m
      skip false m = m

      go : (q : Dec (at M τ 0 ≡ t.key)) → (find M (at M τ 0) ts ≡ some (spent v) → Memᴰ τ (spent_tags M ts)) → when q (some t.content) (find M (at M τ 0) ts) ≡ some (spent v)
          → Memᴰ τ (spent_tags M (t ∷ ts))
      go (yes p) rec h = rw (own t.key t.content p (cc)) (Memᴰ.head (ap (λ k. k.tag) p))
      go (no n) rec h = skip (is_spent_first t) (rec h)

  pub tags_once : (ts : Ledger M) → Distinct M ts → Once (spent_tags M ts)
  tags_once [] ds = tt
  tags_once (t ∷ ts) ds = go (is_spent_first t) refl (tags_once ts ds.1)
    where
      not_later : is_spent_first t ≡ true → ¬ (Memᴰ t.key.tag (spent_tags M ts))
      not_later e m =
          let (v, f) = first_spent t.key.tag ts ds.1 m in
          let (z, w, c) = first_of t e in
          none_some (sym ds.0 ∙ ap (λ k. find M k ts) (key_path refl z) ∙ f)

      go : (b : Bool) → is_spent_first t ≡ b → Once (spent_tags M ts) → Once (cond b (t.key.tag ∷ spent_tags M ts) (spent_tags M ts))
      go true e h = (not_later e, h)
      go false e h = h

  pub tags_once_lem : (ts : Ledger M) → Distinct M ts → ((τ : M.Tag) (p q : ℕ) → p < M.arity τ → q < M.arity τ → SpentContent (find M (at M τ p) ts) → SpentContent (find M (at M τ q) ts))
      → ((τ : M.Tag) (p : ℕ) → M.arity τ ≤ p → ¬ (SpentContent (find M (at M τ p) ts))) → SpentTagsOnce M ts
  tags_once_lem ts ds together others = record {
    exactly = λ τ. (λ m. (0, first_spent τ ts ds m), λ (p, w). spent_first τ ts (on_zero τ p w));
    once = tags_once ts ds;
  }
    where
      on_zero : (τ : M.Tag) (p : ℕ) → SpentContent (find M (at M τ p) ts) → SpentContent (find M (at M τ 0) ts)
      on_zero τ p w = go (dec_lt p (M.arity τ))
        where
          go : Dec (p < M.arity τ) → SpentContent (find M (at M τ 0) ts)
          go (yes l) = together τ p 0 l (omega arith) w
          go (no n) = absurd (others τ p (omega arith) w)

  -- none at the start
  pub start_unspent : (ts : Ledger M) → AllLive M ts → spent_tags M ts ≡ []
  start_unspent [] h = refl
  start_unspent (t ∷ ts) ((v, e), h) =
      let c : t.content ≡ live v = cc in
      rw (c, and_false) (start_unspent ts h)

  -- ---- a firing

  module _ (t : M.Tag) (d : DeltaOf M) where
    abbrev after : Ledger M → Ledger M
    after l = map (changed (change M t d)) l

    -- of the tokens on port 0 it spends its own
    first_kept : (x : Token M.Tag M.Value) → ¬ (at M t 0 ≡ x.key) → is_spent_first (changed (change M t d) x) ≡ is_spent_first x
    first_kept x ne = go (eqb x.key.port 0) refl
      where
        go : (b : Bool) → eqb x.key.port 0 ≡ b → b && is_spent (change M t d x.key x.content) ≡ b && is_spent x.content
        go true e = rw (when_no (M.same t x.key.tag) (ltb x.key.port (M.arity t)) false (λ p. ne (key_path p (sym (eqb-true x.key.port 0 e))))) (settle_unspent d.writes x.content)
        go false e = refl

    tags_kept : (l : Ledger M) → find M (at M t 0) l ≡ none → spent_tags M (after l) ≡ spent_tags M l
    tags_kept [] e = refl
    tags_kept (x ∷ xs) e = go (same_key M (at M t 0) x.key) (λ h. tags_kept xs h) e
      where
        go : (q : Dec (at M t 0 ≡ x.key)) → (find M (at M t 0) xs ≡ none → spent_tags M (after xs) ≡ spent_tags M xs) → when q (some x.content) (find M (at M t 0) xs) ≡ none
            → spent_tags M (after (x ∷ xs)) ≡ spent_tags M (x ∷ xs)
        go (yes p) rec h = none_some (sym h)
        go (no n) rec h = rw (first_kept x n, rec h)

    tags_more : (u : M.Value) (l : Ledger M) → is_operand_of M t (at M t 0) ≡ true → Distinct M l → find M (at M t 0) l ≡ some (live u) → Permᴰ (spent_tags M (after l)) (t ∷ spent_tags M l)
    tags_more u [] o ds e = none_some e
    tags_more u (x ∷ xs) o ds e = go (same_key M (at M t 0) x.key) (λ h. tags_more u xs o ds.1 h) e
      where
        before : at M t 0 ≡ x.key → x.content ≡ live u → is_spent_first x ≡ false
        before p h = rw (h, ← p)

        own : at M t 0 ≡ x.key → x.content ≡ live u → is_spent_first (changed (change M t d) x) ≡ true
        own p h = rw (h, ← p, o)

        -- a tag of another token stays in front
        behind : (b : Bool) → Permᴰ (spent_tags M (after xs)) (t ∷ spent_tags M xs)
            → Permᴰ (cond b (x.key.tag ∷ spent_tags M (after xs)) (spent_tags M (after xs))) (t ∷ cond b (x.key.tag ∷ spent_tags M xs) (spent_tags M xs))
        behind true h = Permᴰ.trans (Permᴰ.cons refl h) (Permᴰ.swap refl refl)
        behind false h = h

        go : (q : Dec (at M t 0 ≡ x.key)) → (find M (at M t 0) xs ≡ some (live u) → Permᴰ (spent_tags M (after xs)) (t ∷ spent_tags M xs))
            → when q (some x.content) (find M (at M t 0) xs) ≡ some (live u) → Permᴰ (spent_tags M (after (x ∷ xs))) (t ∷ spent_tags M (x ∷ xs))
        go (yes p) rec h =
            let c : x.content ≡ live u = cc in
            rw (before p c, own p c, tags_kept xs (rw p ds.0)) (Permᴰ.cons (ap (λ k. k.tag) (sym p)) (Permᴰ.refl (spent_tags M xs)))
        go (no n) rec h = rw (first_kept x n) (behind (is_spent_first x) (rec h))

  pub tags_after : (s : StateOf M) (τ : M.Tag) (d : DeltaOf M) (x : StateOf M) (p : Operands M.Value) → Distinct M s.tokens → operands M (look M s) τ ≡ some p → After M s τ d x
      → Permᴰ (spent_tags M x.tokens) (τ ∷ spent_tags M s.tokens)
  tags_after s τ d x p ds e a =
      let o = operand_zero M (look M s) τ p e in
      let (u, l) = operand_live M (look M s) τ p (at M τ 0) e o in
      rw (a.listed, tags_append (after τ d s.tokens) (map (output a.sent) d.keys), tags_outputs a.sent (rw a.sent_from (source_unspent (cell_after d (cell_at s.cells)) d.source)) d.keys, append-nil)
      (tags_more τ d u s.tokens o ds l)
