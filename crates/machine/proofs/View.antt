-- A state seen by key and by cell number, so that the order of arrival disappears; what a firing does to it; and that the
-- firings of two enabled activities commute. `laws` is what `Swap` asks for. Assumes nothing.
use mathlib.Core.Path.{◌≡◌, refl, sym, ap, subst, ◌∙◌, fun_ext}
use mathlib.Core.List.{List, [], ◌∷◌}
use mathlib.Core.Option.{Option, none, some}
use mathlib.Core.Bool.{Bool, true, false}
use Prim.Native.Nat.{ℕ, ◌+◌, ◌≤◌, ◌<◌}
use native.Mathlib.Omega.{arith}
use lib.ListN.{length}
use lib.Dec.{ltb}
use borrow.Author.Tests.{ltb-true, lt-ltb}
use Rattle.machine.specs.Machine.{Key, Content, live, Cell, refuse, send, read, write, Machine}
use Rattle.machine.specs.Machine.{when, live_value, Operands, two_values}
use Rattle.machine.specs.Machine.{EffectOf, Contents, same_key, at, is_operand_of, live_at, all_live, operands, spend_at, among}
use Rattle.machine.specs.Orders.{Live}
use Rattle.machine.proofs.Swap.{Laws}
use Rattle.machine.proofs.Deltas.{both_none, Delta, cell_swap, not_before, not_after, later, settle_swap, below_at, positive, two_there}
pub use Rattle.machine.proofs.Deltas.{when_yes, when_no, none_some, false_true, omap, or_else, given, key_path, Source, value, fetched, resolve, settle, only_at, cell_step, NotPresent, Unwritten, cell_after, live_of, both_parts, below_all_lem, two_kept}

-- ---- the view and its steps

module _ (M : Machine) where
  pub record View : Type 0 where
    pub tok : Contents M
    pub cell : ℕ → Cell M.Value
    pub used : ℕ

  abbrev pub DeltaOf : Type 0
  DeltaOf = Delta M.Tag M.Value

  abbrev pub delta_of : EffectOf M → Option DeltaOf
  delta_of (refuse r) = none
  delta_of (send v keys) = some (record { keys = keys; source = value v; writes = λ c. none; reads = λ c. false })
  delta_of (read c keys) = some (record { keys = keys; source = fetched c; writes = λ i. none; reads = only_at c true false })
  delta_of (write c v keys) = some (record { keys = keys; source = value M.signal; writes = only_at c (some v) none; reads = λ i. false })

  -- no output's key is taken, by a token or by another output
  abbrev pub Fresh : Contents M → List (Key M.Tag) → Type 0
  Fresh tok [] = Unit {0}
  Fresh tok (k ∷ ks) = (tok k ≡ none) × (among M k ks ≡ false) × Fresh tok ks

  -- what the store asks of a firing
  pub record Allowed (s : View) (d : DeltaOf) : Type 0 where
    pub room : s.used + length d.keys ≤ M.capacity
    pub fresh : Fresh s.tok d.keys
    pub unwritten : Unwritten s.cell d.writes

  abbrev pub change : M.Tag → DeltaOf → Key M.Tag → Content M.Value → Content M.Value
  change τ d k x = settle d.writes (spend_at M τ k x)

  abbrev pub apply : M.Tag → DeltaOf → View → View
  apply τ d s = record {
    tok = λ k. or_else (omap (change τ d k) (s.tok k)) (given (among M k d.keys) (resolve (cell_after d s.cell) d.source));
    cell = cell_after d s.cell;
    used = s.used + length d.keys;
  }

  -- the operands are there: the activity is enabled
  abbrev pub Ready : View → M.Tag → Type 0
  Ready s τ = (p : Operands M.Value) × (operands M s.tok τ ≡ some p)

  pub record Step (s : View) (τ : M.Tag) (x : View) : Type 0 where
    pub ops : Operands M.Value
    pub given : operands M s.tok τ ≡ some ops
    pub delta : DeltaOf
    pub known : delta_of (M.effect τ ops.left ops.right) ≡ some delta
    pub allowed : Allowed s delta
    pub result : apply τ delta s ≡ x

  only_one : {s x y : View} {a : M.Tag} → Step s a x → Step s a y → x ≡ y
  only_one {s} {x} {y} {a} p q = cc

  -- ---- keys of outputs

  pub fresh_get : (tok : Contents M) (ks : List (Key M.Tag)) (k : Key M.Tag) → Fresh tok ks → among M k ks ≡ true → tok k ≡ none
  fresh_get tok [] k f e = false_true e
  fresh_get tok (j ∷ js) k f e = go (same_key M k j) (λ h. fresh_get tok js k f.2 h) e
    where
      go : (d : Dec (k ≡ j)) → (among M k js ≡ true → tok k ≡ none) → when d true (among M k js) ≡ true → tok k ≡ none
      go (yes p) rec h = rw p f.0
      go (no n) rec h = rec h

  pub fresh_change : (tok tok' : Contents M) (ks : List (Key M.Tag)) → ((k : Key M.Tag) → among M k ks ≡ true → tok k ≡ none → tok' k ≡ none) → Fresh tok ks → Fresh tok' ks
  fresh_change tok tok' [] h f = tt
  fresh_change tok tok' (j ∷ js) h f = (h j (when_yes (same_key M j j) _ _ refl) f.0, f.1, fresh_change tok tok' js (λ k e. h k (more k (same_key M k j) e)) f.2)
    where
      more : (k : Key M.Tag) (d : Dec (k ≡ j)) → among M k js ≡ true → when d true (among M k js) ≡ true
      more k (yes p) e = refl
      more k (no n) e = e

  -- ---- operands of a tag

  not_both : (a b : M.Tag) (k : Key M.Tag) → ¬ (a ≡ b) → is_operand_of M a k ≡ true → is_operand_of M b k ≡ false
  not_both a b k ne = go (M.same a k.tag) (M.same b k.tag) (ltb k.port (M.arity a)) (ltb k.port (M.arity b))
    where
      go : (d : Dec (a ≡ k.tag)) (e : Dec (b ≡ k.tag)) (m n : Bool) → when d m false ≡ true → when e n false ≡ false
      go (yes p) (yes q) m n h = absurd (ne (p ∙ sym q))
      go (yes p) (no q) m n h = refl
      go (no p) e m n h = false_true h

  pub operand_key : (a : M.Tag) (k : Key M.Tag) → is_operand_of M a k ≡ true → (a ≡ k.tag) × (k.port < M.arity a)
  operand_key a k = go (M.same a k.tag)
    where
      go : (d : Dec (a ≡ k.tag)) → when d (ltb k.port (M.arity a)) false ≡ true → (a ≡ k.tag) × (k.port < M.arity a)
      go (yes p) h = (p, ltb-true k.port (M.arity a) h)
      go (no n) h = false_true h

  pub operand_at : (a : M.Tag) (q : ℕ) → q < M.arity a → is_operand_of M a (at M a q) ≡ true
  operand_at a q h = when_yes (M.same a a) _ _ refl ∙ lt-ltb q (M.arity a) h

  pub operand_live : (tok : Contents M) (a : M.Tag) (p : Operands M.Value) (k : Key M.Tag) → operands M tok a ≡ some p → is_operand_of M a k ≡ true → Live (tok k)
  operand_live tok a p k e h =
      let (t, l) = operand_key a k h in
      let (v, f) = below_at (live_at M tok a) (M.arity a) k.port (both_parts (all_live M tok a) _ e).0 l in
      (v, subst (λ j. tok j ≡ some (live v)) (key_path t refl) (live_of (tok (at M a k.port)) v f))

  pub operand_kept : (tok tok' : Contents M) (a : M.Tag) (p : Operands M.Value) → operands M tok a ≡ some p
      → ((k : Key M.Tag) (u : M.Value) → is_operand_of M a k ≡ true → tok k ≡ some (live u) → tok' k ≡ some (live u)) → operands M tok' a ≡ some p
  operand_kept tok tok' a p e h = rw all' (two_kept (M.arity a) (live_at M tok a 0) (live_at M tok a 1) (live_at M tok' a 0) (live_at M tok' a 1) parts.1 (kept 0) (kept 1))
    where
      parts : (all_live M tok a ≡ true) × (two_values (M.arity a) (live_at M tok a 0) (live_at M tok a 1) ≡ some p)
      parts = both_parts (all_live M tok a) _ e

      kept : (q : ℕ) → q < M.arity a → (v : M.Value) → live_at M tok a q ≡ some v → live_at M tok' a q ≡ some v
      kept q l v f = ap live_value (h (at M a q) v (operand_at a q l) (live_of (tok (at M a q)) v f))

      all' : all_live M tok' a ≡ true
      all' = below_all_lem (live_at M tok' a) (M.arity a) (λ q l. let (v, f) = below_at (live_at M tok a) (M.arity a) q parts.0 l in (v, kept q l v f))

  pub operand_zero : (tok : Contents M) (a : M.Tag) (p : Operands M.Value) → operands M tok a ≡ some p → is_operand_of M a (at M a 0) ≡ true
  operand_zero tok a p e = operand_at a 0 (positive (M.arity a) _ _ (both_parts (all_live M tok a) _ e).1)

  -- all operands are live, and there is one at least
  pub operands_there : (tok : Contents M) (a : M.Tag) → 0 < M.arity a → all_live M tok a ≡ true → (p : Operands M.Value) × (operands M tok a ≡ some p)
  operands_there tok a l e = let (p, f) = two_there (M.arity a) (live_at M tok a) l (λ q h. below_at (live_at M tok a) (M.arity a) q e h) in (p, rw e f)

  pub operands_all : (tok : Contents M) (a : M.Tag) (p : Operands M.Value) → operands M tok a ≡ some p → (0 < M.arity a) × (all_live M tok a ≡ true)
  operands_all tok a p e = let (l, f) = both_parts (all_live M tok a) _ e in (positive (M.arity a) _ _ f, l)

  -- what a firing leaves of another's operands
  kept_by : (a b : M.Tag) (d : DeltaOf) (s : View) (k : Key M.Tag) (u : M.Value) → ¬ (a ≡ b) → is_operand_of M b k ≡ true → s.tok k ≡ some (live u) → (apply a d s).tok k ≡ some (live u)
  kept_by a b d s k u ne h e = rw (e, not_both b a k (λ q. ne (sym q)) h)

  persists : {s x : View} {a b : M.Tag} → ¬ (a ≡ b) → Step s a x → Ready s b → Ready x b
  persists {s} {x} {a} {b} ne st (p, e) = (
    p,
    subst (λ (z : View). operands M z.tok b ≡ some p) st.result
        (operand_kept s.tok (apply a st.delta s).tok b p e (λ k u. kept_by a b st.delta s k u ne)),
  )

  -- ---- the square: a fires, then b; b could have fired first

  module _ (s : View) (a b : M.Tag) (da db : DeltaOf) (ne : ¬ (a ≡ b))
      (live_a : (k : Key M.Tag) → is_operand_of M a k ≡ true → Live (s.tok k)) (live_b : (k : Key M.Tag) → is_operand_of M b k ≡ true → Live (s.tok k))
      (pa : Allowed s da) (pb : Allowed (apply a da s) db) where
    cells_swap : (c : ℕ) → cell_after db (cell_after da s.cell) c ≡ cell_after da (cell_after db s.cell) c
    cells_swap c = cell_swap (da.writes c) (db.writes c) (da.reads c) (db.reads c) (s.cell c) (pb.unwritten c)

    unwritten_b : Unwritten s.cell db.writes
    unwritten_b c v e = not_before (da.writes c) (da.reads c) (s.cell c) (pb.unwritten c v e)

    unwritten_a : Unwritten (cell_after db s.cell) da.writes
    unwritten_a c v e = not_after (da.writes c) (db.writes c) (da.reads c) (db.reads c) (s.cell c) v e (pa.unwritten c v e) (pb.unwritten c)

    apart : (c : ℕ) (v w : M.Value) → da.writes c ≡ some v → db.writes c ≡ some w → ⊥
    apart c v w e f = subst (λ x. NotPresent (cell_step x (da.reads c) (s.cell c))) e (pb.unwritten c w f)

    free_of : (k : Key M.Tag) → among M k db.keys ≡ true → (s.tok k ≡ none) × (among M k da.keys ≡ false)
    free_of k e = both_none (change a da k) (s.tok k) (among M k da.keys) (resolve (cell_after da s.cell) da.source) (fresh_get (apply a da s).tok db.keys k pb.fresh e)

    fresh_b : Fresh s.tok db.keys
    fresh_b = fresh_change (apply a da s).tok s.tok db.keys (λ k e h. (free_of k e).0) pb.fresh

    fresh_a : Fresh (apply b db s).tok da.keys
    fresh_a = fresh_change s.tok (apply b db s).tok da.keys still pa.fresh
      where
        still : (k : Key M.Tag) → among M k da.keys ≡ true → s.tok k ≡ none → (apply b db s).tok k ≡ none
        still k e h = go (among M k db.keys) refl
          where
            go : (q : Bool) → among M k db.keys ≡ q → (apply b db s).tok k ≡ none
            go false f = rw (h, f)
            go true f = false_true (sym (free_of k f).1 ∙ e)

    allowed_b : Allowed s db
    allowed_b = record { room = let h : s.used + length da.keys + length db.keys ≤ M.capacity = pb.room in omega arith; fresh = fresh_b; unwritten = unwritten_b }

    allowed_a : Allowed (apply b db s) da
    allowed_a = record { room = let h : s.used + length da.keys + length db.keys ≤ M.capacity = pb.room in omega arith; fresh = fresh_a; unwritten = unwritten_a }

    idle : (t : M.Tag) → ((k : Key M.Tag) → is_operand_of M t k ≡ true → Live (s.tok k)) → (k : Key M.Tag) → s.tok k ≡ none → is_operand_of M t k ≡ false
    idle t l k e = go (is_operand_of M t k) refl
      where
        go : (q : Bool) → is_operand_of M t k ≡ q → is_operand_of M t k ≡ false
        go true f = none_some (sym e ∙ (l k f).1)
        go false f = f

    same_live : (k : Key M.Tag) (y : Content M.Value) → s.tok k ≡ some y → Live (s.tok k) → (u : M.Value) × (y ≡ live u)
    same_live k y e (u, f) = (u, cc)

    content_swap : (k : Key M.Tag) (y : Content M.Value) → s.tok k ≡ some y → change b db k (change a da k y) ≡ change a da k (change b db k y)
    content_swap k y e = go (is_operand_of M a k) (is_operand_of M b k) refl refl
      where
        go : (p q : Bool) → is_operand_of M a k ≡ p → is_operand_of M b k ≡ q → change b db k (change a da k y) ≡ change a da k (change b db k y)
        go true true f g = false_true (sym (not_both a b k ne f) ∙ g)
        go true false f g = let (u, h) = same_live k y e (live_a k f) in rw (f, g, h)
        go false true f g = let (u, h) = same_live k y e (live_b k g) in rw (f, g, h)
        go false false f g = rw (f, g) (settle_swap da.writes db.writes y apart)

    tok_swap_at : (k : Key M.Tag) (x : Option (Content M.Value)) (p q : Bool) → s.tok k ≡ x → among M k da.keys ≡ p → among M k db.keys ≡ q
        → or_else (omap (change b db k) (or_else (omap (change a da k) x) (given p (resolve (cell_after da s.cell) da.source)))) (given q (resolve (cell_after db (cell_after da s.cell)) db.source))
        ≡ or_else (omap (change a da k) (or_else (omap (change b db k) x) (given q (resolve (cell_after db s.cell) db.source)))) (given p (resolve (cell_after da (cell_after db s.cell)) da.source))
    tok_swap_at k (some y) p q e f g = ap some (content_swap k y e)
    tok_swap_at k none false false e f g = refl
    tok_swap_at k none true true e f g = false_true (sym (free_of k g).1 ∙ f)
    tok_swap_at k none true false e f g = rw (idle b live_b k e) (ap some (later db (cell_after da s.cell) pb.unwritten da.source ∙ ap (λ c. resolve c da.source) (fun_ext cells_swap)))
    tok_swap_at k none false true e f g = rw (idle a live_a k e) (ap some (ap (λ c. resolve c db.source) (fun_ext cells_swap) ∙ sym (later da (cell_after db s.cell) unwritten_a db.source)))

    view_swap : apply a da (apply b db s) ≡ apply b db (apply a da s)
    view_swap = λ i. record {
      tok = λ k. sym (tok_swap_at k (s.tok k) (among M k da.keys) (among M k db.keys) refl refl refl) i;
      cell = λ c. sym (cells_swap c) i;
      used = used_swap i;
    }
      where
        used_swap : s.used + length db.keys + length da.keys ≡ s.used + length da.keys + length db.keys
        used_swap = omega arith

  swaps : {s x z : View} {a b : M.Tag} → ¬ (a ≡ b) → Ready s b → Step s a x → Step x b z → (y : View) × Step s b y × Step y a z
  swaps {s} {x} {z} {a} {b} ne (p, e) sa st = (apply b moved.delta s, first, second)
    where
      da : DeltaOf
      da = sa.delta

      moved : Step (apply a da s) b z
      moved = subst (λ v. Step v b z) (sym sa.result) st

      mb : DeltaOf
      mb = moved.delta

      live_a : (k : Key M.Tag) → is_operand_of M a k ≡ true → Live (s.tok k)
      live_a k = operand_live s.tok a sa.ops k sa.given

      live_b : (k : Key M.Tag) → is_operand_of M b k ≡ true → Live (s.tok k)
      live_b k = operand_live s.tok b p k e

      kept : operands M (apply a da s).tok b ≡ some p
      kept = operand_kept s.tok (apply a da s).tok b p e (λ k u. kept_by a b da s k u ne)

      same_ops : p ≡ moved.ops
      same_ops = cc (kept, moved.given)

      first : Step s b (apply b mb s)
      first = record {
        ops = moved.ops;
        given = e ∙ ap some same_ops;
        delta = mb;
        known = moved.known;
        allowed = allowed_b s a b da mb ne live_a live_b sa.allowed moved.allowed;
        result = refl;
      }

      second : Step (apply b mb s) a z
      second = record {
        ops = sa.ops;
        given = operand_kept s.tok (apply b mb s).tok a sa.ops sa.given (λ k u. kept_by b a mb s k u (λ q. ne (sym q)));
        delta = da;
        known = sa.known;
        allowed = allowed_a s a b da mb ne live_a live_b sa.allowed moved.allowed;
        result = view_swap s a b da mb ne live_a live_b sa.allowed moved.allowed ∙ moved.result;
      }

  pub laws : Laws View M.Tag Ready Step
  laws = record {
    same = M.same;
    enabled = λ st. (st.ops, st.given);
    only = only_one;
    persist = persists;
    swap = swaps;
  }
