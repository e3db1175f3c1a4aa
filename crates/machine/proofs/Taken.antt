-- R-13: the test of a saved state says what `Saved` says (`taken_exactly`). Assumes nothing.
use mathlib.Core.Path.{◌≡◌, refl, sym, ap, ◌∙◌}
use mathlib.Core.List.{[], ◌∷◌}
use mathlib.Core.Option.{Option, none, some}
use mathlib.Core.Bool.{Bool, true, false, ◌||◌, not, cond}
use Prim.Native.Nat.{ℕ, zero, suc, ◌≤◌, ◌<◌}
use native.Mathlib.Decide.{ℕ_discrete, dec_lt}
use native.Mathlib.Omega.{arith}
use lib.Dec.{eqb, leb}
use lib.ListN.{length}
use borrow.Author.Tests.{eqb-true, eq-eqb, leb-true, le-leb, ltb-true, lt-ltb}
use Rattle.machine.specs.Machine.{Key, Content, live, spent, deferred, Token, Cell, absent, waiting, present, Machine, when, is_there, cell_at, Ledger, StateOf, same_key, at, find, key_taken}
use Rattle.machine.specs.Orders.{Distinct}
use Rattle.machine.specs.Sequences.{is_spent_there, spent_tags}
use Rattle.machine.specs.Saved.{is_deferred_on, is_waiting, all_up_to, Saved, never_twice, all_tokens, together, operand_if_spent, names_cell, any_deferred, waits_right, is_saved, TakenExactlyOfMachine}
use Rattle.machine.proofs.View.{when_no, none_some, false_true, operand_key, operand_at}
use Rattle.machine.proofs.Store.{find_head}
use Rattle.machine.proofs.Ending.{both_true}
use Rattle.machine.proofs.Fired.{spent_is, is_spent_lem}
use Rattle.machine.proofs.Reached.{absent_waiting, present_waiting}
use Rattle.machine.proofs.Saved.{in_store}

-- ---- tests

pub up_to : (test : ℕ → Bool) (n q : ℕ) → all_up_to test n ≡ true → q < n → test q ≡ true
up_to test zero q e h = absurd (omega arith)
up_to test (suc n) q e h = go (ℕ_discrete q n) (λ r. up_to test n q (both_true (test n) (all_up_to test n) e).1 r)
  where
    go : Dec (q ≡ n) → (q < n → test q ≡ true) → test q ≡ true
    go (yes p) rec = rw p (both_true (test n) (all_up_to test n) e).0
    go (no ne) rec = rec (omega arith)

pub all_of : (test : ℕ → Bool) (n : ℕ) → ((q : ℕ) → q < n → test q ≡ true) → all_up_to test n ≡ true
all_of test zero h = refl
all_of test (suc n) h = rw (h n (omega arith)) (all_of test n (λ q l. h q (omega arith)))

module _ {W : Type 0} where
  is_waits : (x : Cell W) → is_waiting x ≡ true → x ≡ waiting
  is_waits absent e = false_true e
  is_waits waiting e = refl
  is_waits (present v) e = false_true e

  deferred_on : (c : ℕ) (x : Content W) → is_deferred_on c x ≡ true → x ≡ deferred c
  deferred_on c (live v) e = false_true e
  deferred_on c (spent v) e = false_true e
  deferred_on c (deferred d) e = ap deferred (eqb-true d c e)

  untaken : (x : Option (Content W)) → not (is_there x) ≡ true → x ≡ none
  untaken none e = refl
  untaken (some y) e = false_true e

module _ (M : Machine) where
  -- ---- what is found stays found behind a token of another key

  found_later : (k : Key M.Tag) (x : Content M.Value) (t : Token M.Tag M.Value) (ts : Ledger M) → find M t.key ts ≡ none → find M k ts ≡ some x → find M k (t ∷ ts) ≡ some x
  found_later k x t ts d e = when_no (same_key M k t.key) _ _ (λ q. none_some (sym d ∙ ap (λ j. find M j ts) (sym q) ∙ e)) ∙ e

  deferred_found : (c : ℕ) (ts : Ledger M) → Distinct M ts → any_deferred M c ts ≡ true → (k : Key M.Tag) × (find M k ts ≡ some (deferred c))
  deferred_found c [] ds e = false_true e
  deferred_found c (t ∷ ts) ds e = go (is_deferred_on c t.content) refl e (λ h. deferred_found c ts ds.1 h)
    where
      go : (b : Bool) → is_deferred_on c t.content ≡ b → b || any_deferred M c ts ≡ true → (any_deferred M c ts ≡ true → (k : Key M.Tag) × (find M k ts ≡ some (deferred c)))
          → (k : Key M.Tag) × (find M k (t ∷ ts) ≡ some (deferred c))
      go true f h rec = (t.key, find_head M t ts ∙ ap some (deferred_on c t.content f))
      go false f h rec = let (k, z) = rec h in (k, found_later k (deferred c) t ts ds.0 z)

  found_deferred : (k : Key M.Tag) (c : ℕ) (ts : Ledger M) → find M k ts ≡ some (deferred c) → any_deferred M c ts ≡ true
  found_deferred k c [] e = none_some e
  found_deferred k c (t ∷ ts) e = go (same_key M k t.key) e (λ h. found_deferred k c ts h)
    where
      here : t.content ≡ deferred c → is_deferred_on c t.content ≡ true
      here z = rw z (eq-eqb c c refl)

      later : (b : Bool) → any_deferred M c ts ≡ true → b || any_deferred M c ts ≡ true
      later true h = refl
      later false h = h

      go : (q : Dec (k ≡ t.key)) → when q (some t.content) (find M k ts) ≡ some (deferred c) → (find M k ts ≡ some (deferred c) → any_deferred M c ts ≡ true) → any_deferred M c (t ∷ ts) ≡ true
      go (yes p) h rec = rw (here (cc))
      go (no n) h rec = later (is_deferred_on c t.content) (rec h)

  -- ---- of each token

  pub distinct_of : (ts : Ledger M) → never_twice M ts ≡ true → Distinct M ts
  distinct_of [] e = tt
  distinct_of (t ∷ ts) e =
      let (u, r) = both_true (not (key_taken M t.key ts)) (never_twice M ts) e in
      (untaken (find M t.key ts) u, distinct_of ts r)

  pub of_distinct : (ts : Ledger M) → Distinct M ts → never_twice M ts ≡ true
  of_distinct [] ds = refl
  of_distinct (t ∷ ts) ds = rw ds.0 (of_distinct ts ds.1)

  module _ (test : Key M.Tag → Content M.Value → Bool) where
    found_passes : (k : Key M.Tag) (x : Content M.Value) (ts : Ledger M) → all_tokens M test ts ≡ true → find M k ts ≡ some x → test k x ≡ true
    found_passes k x [] e f = none_some f
    found_passes k x (t ∷ ts) e f =
        let (here, later) = both_true (test t.key t.content) (all_tokens M test ts) e in
        go here (same_key M k t.key) f (λ h. found_passes k x ts later h)
      where
        go : test t.key t.content ≡ true → (q : Dec (k ≡ t.key)) → when q (some t.content) (find M k ts) ≡ some x → (find M k ts ≡ some x → test k x ≡ true) → test k x ≡ true
        go here (yes p) h rec = let z : t.content ≡ x = cc in rw (p, ← z) here
        go here (no n) h rec = rec h

    all_pass : (ts : Ledger M) → Distinct M ts → ((k : Key M.Tag) (x : Content M.Value) → find M k ts ≡ some x → test k x ≡ true) → all_tokens M test ts ≡ true
    all_pass [] ds h = refl
    all_pass (t ∷ ts) ds h = rw (h t.key t.content (find_head M t ts)) (all_pass ts ds.1 (λ k x e. h k x (found_later k x t ts ds.0 e)))

  -- ---- the test and what it says

  pub record Tests (f : ℕ) (s : StateOf M) : Type 0 where
    pub twice : never_twice M s.tokens ≡ true
    pub spent : all_tokens M (together M s.tokens) s.tokens ≡ true
    pub operands : all_tokens M (operand_if_spent M) s.tokens ≡ true
    pub named : all_tokens M (names_cell M) s.tokens ≡ true
    pub waits : all_up_to (waits_right M s) M.cell_count ≡ true
    pub room : length s.tokens ≤ M.capacity
    pub cells : length s.cells ≡ M.cell_count
    pub firings : f ≡ length (spent_tags M s.tokens)

  pub tested : (f : ℕ) (s : StateOf M) → is_saved M f s ≡ true → Tests f s
  unfolding is_saved
  tested f s e =
      let (a, e1) = both_true (never_twice M s.tokens) _ e in
      let (b, e2) = both_true (all_tokens M (together M s.tokens) s.tokens) _ e1 in
      let (c, e3) = both_true (all_tokens M (operand_if_spent M) s.tokens) _ e2 in
      let (d, e4) = both_true (all_tokens M (names_cell M) s.tokens) _ e3 in
      let (w, e5) = both_true (all_up_to (waits_right M s) M.cell_count) _ e4 in
      let (r, e6) = both_true (leb (length s.tokens) M.capacity) _ e5 in
      let (n, fs) = both_true (eqb (length s.cells) M.cell_count) _ e6 in
      record { twice = a; spent = b; operands = c; named = d; waits = w; room = leb-true _ _ r; cells = eqb-true _ _ n; firings = eqb-true _ _ fs }

  pub passed : (f : ℕ) (s : StateOf M) → Tests f s → is_saved M f s ≡ true
  unfolding is_saved
  passed f s h = rw (h.twice, h.spent, h.operands, h.named, h.waits, le-leb _ _ h.room, eq-eqb _ _ h.cells) (eq-eqb _ _ h.firings)

  saved : (f : ℕ) (s : StateOf M) → Tests f s → Saved M f s
  saved f s h = record {
    good = record { distinct = distinct; room = h.room; cell_count = h.cells };
    spent_together = λ τ p q hp hq (v, e). spent_is _ (up_to (λ i. is_spent_there (find M (at M τ i) s.tokens)) (M.arity τ) q (found_passes (together M s.tokens) (at M τ p) (spent v) s.tokens h.spent e) hq);
    others_unspent = λ τ p hp (v, e). let z = (operand_key M τ (at M τ p) (found_passes (operand_if_spent M) (at M τ p) (spent v) s.tokens h.operands e)).1 in omega arith;
    cell_named = named;
    waits_exactly = λ c. (λ w. deferred_found c s.tokens distinct (found c w), λ (k, e). is_waits (cell_at s.cells c) (waited c k e));
    firings = h.firings;
  }
    where
      distinct : Distinct M s.tokens
      distinct = distinct_of s.tokens h.twice

      named : (k : Key M.Tag) (c : ℕ) → find M k s.tokens ≡ some (deferred c) → c < M.cell_count
      named k c e = ltb-true c M.cell_count (found_passes (names_cell M) k (deferred c) s.tokens h.named e)

      right : (c : ℕ) → c < M.cell_count → waits_right M s c ≡ true
      right c l = up_to (waits_right M s) M.cell_count c h.waits l

      found : (c : ℕ) → cell_at s.cells c ≡ waiting → any_deferred M c s.tokens ≡ true
      found c w = let z = in_store M s c w in let n = h.cells in rw w at (right c (omega arith))

      waited : (c : ℕ) (k : Key M.Tag) → find M k s.tokens ≡ some (deferred c) → is_waiting (cell_at s.cells c) ≡ true
      waited c k e = go (is_waiting (cell_at s.cells c)) (rw (found_deferred k c s.tokens e) at (right c (named k c e)))
        where
          go : (b : Bool) → cond b true false ≡ true → b ≡ true
          go true f = refl
          go false f = f

  -- a saved state passes
  tests : (f : ℕ) (s : StateOf M) → Saved M f s → Tests f s
  tests f s h = record {
    twice = of_distinct s.tokens h.good.distinct;
    spent = all_pass (together M s.tokens) s.tokens h.good.distinct spends;
    operands = all_pass (operand_if_spent M) s.tokens h.good.distinct operates;
    named = all_pass (names_cell M) s.tokens h.good.distinct names;
    waits = all_of (waits_right M s) M.cell_count (λ c l. cell c (cell_at s.cells c) refl (any_deferred M c s.tokens) refl);
    room = h.good.room;
    cells = h.good.cell_count;
    firings = h.firings;
  }
    where
      port : (k : Key M.Tag) (v : M.Value) → find M k s.tokens ≡ some (spent v) → k.port < M.arity k.tag
      port k v e = go (dec_lt k.port (M.arity k.tag))
        where
          go : Dec (k.port < M.arity k.tag) → k.port < M.arity k.tag
          go (yes l) = l
          go (no n) = absurd (h.others_unspent k.tag k.port (omega arith) (v, e))

      spends : (k : Key M.Tag) (x : Content M.Value) → find M k s.tokens ≡ some x → together M s.tokens k x ≡ true
      spends k (live v) e = refl
      spends k (spent v) e = all_of _ (M.arity k.tag) (λ q m. is_spent_lem _ (h.spent_together k.tag k.port q (port k v e) m (v, e)))
      spends k (deferred c) e = refl

      operates : (k : Key M.Tag) (x : Content M.Value) → find M k s.tokens ≡ some x → operand_if_spent M k x ≡ true
      operates k (live v) e = refl
      operates k (spent v) e = operand_at M k.tag k.port (port k v e)
      operates k (deferred c) e = refl

      names : (k : Key M.Tag) (x : Content M.Value) → find M k s.tokens ≡ some x → names_cell M k x ≡ true
      names k (live v) e = refl
      names k (spent v) e = refl
      names k (deferred c) e = lt-ltb c M.cell_count (h.cell_named k c e)

      -- where a token is deferred, the cell waits
      none : (c : ℕ) (x : Cell M.Value) → cell_at s.cells c ≡ x → ¬ (x ≡ waiting) → any_deferred M c s.tokens ≡ true → ⊥
      none c x e n d = n (sym e ∙ (h.waits_exactly c).1 (deferred_found c s.tokens h.good.distinct d))

      cell : (c : ℕ) (x : Cell M.Value) → cell_at s.cells c ≡ x → (b : Bool) → any_deferred M c s.tokens ≡ b → waits_right M s c ≡ true
      cell c waiting e b f = let (k, d) = (h.waits_exactly c).0 e in rw (e, found_deferred k c s.tokens d)
      cell c absent e false f = rw (e, f)
      cell c (present v) e false f = rw (e, f)
      cell c absent e true f = absurd (none c absent e (λ q. absent_waiting q) f)
      cell c (present v) e true f = absurd (none c (present v) e (λ q. present_waiting q) f)

  pub taken_exactly : TakenExactlyOfMachine M
  taken_exactly f s = (λ e. saved f s (tested f s e), λ h. passed f s (tests f s h))
