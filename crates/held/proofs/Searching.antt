-- Laws of the search for a token that holds an activity back. Assumes nothing.
use Prim.Native.Nat.{ℕ, zero, suc, ◌+◌, ◌-◌, ◌≤◌, ◌<◌}
use mathlib.Core.Path.{◌≡◌, refl, ap, ◌∙◌}
use mathlib.Core.Bool.{Bool, true, false, not, ◌||◌, cond}
use mathlib.Core.List.{List, [], ◌∷◌, map}
use native.Mathlib.Omega.{arith}
use lib.ListN.{length, get_or, set, length-set}
use lib.Seq.{get_or-set_same, get_or-set_other}
use lib.IntN.{ℤ}
use lib.Dec.{eqb, leb, ltb}
use borrow.Author.Tests.{eqb-true, eqb-false, leb-false, ltb-true, ltb-false}
use Rattle.record.specs.declared.instruction.Instruction.{Instruction}
use Rattle.record.specs.declared.tag.Path.{Path}
use Rattle.record.specs.declared.tag.Tag.{Tag}
use Rattle.record.specs.declared.token.Token as Record
use Rattle.record.specs.TokensAndTags.{tokens, token_at, decode_token}
use Rattle.record.specs.Widths.{token_width}
use Rattle.buffer.proofs.Tables.{length_rows, get_d_rows}
use Rattle.machine.specs.Machine.{Token, on_option}
use Rattle.rules.specs.Check.{any}
use Rattle.rules.specs.Run.{token_held}
use Rattle.rules.specs.Held.{stands_in, is_pending, holds_back}
use Rattle.store_chains.proofs.Index.{and_right}
use Rattle.abstraction.specs.States.{no_token}
use Rattle.abstraction.specs.Tables.{Arities}
use Rattle.ending.specs.Endings.{proper_by}
use Rattle.held.specs.Searching.{later_of, Skips, PendingFrom, holds_by, HolderFrom, Skipped, MarkedPast}

-- ---- one record

module _ (tables : List ℕ) (k : ℕ) (p : Path) (m : ℕ) (t : Record.Token) where
  pub as_rules : (g : List Instruction) → Arities g tables → holds_back g k p m (token_held t) ≡ holds_by tables k p m t
  unfolding holds_back is_pending holds_by
  as_rules g right = rw (right t.tag)

  pub proper_none : proper_by tables t ≡ true → holds_by tables k p m t ≡ false
  unfolding holds_by
  proper_none e = rw e

  pub pending_by : proper_by tables t ≡ false → holds_by tables k p m t ≡ on_option (stands_in p t.tag) false (λ j. leb (j + k) m)
  unfolding holds_by
  pending_by e = rw e

  pub holds_old : holds_by tables k p m t ≡ true → on_option (stands_in p t.tag) false (λ j. leb (j + k) m) ≡ true
  unfolding holds_by
  holds_old e = and_right (not (proper_by tables t)) _ e

  pub still_holds : proper_by tables t ≡ false → on_option (stands_in p t.tag) false (λ j. leb (j + k) m) ≡ true → holds_by tables k p m t ≡ true
  still_holds e f = pending_by e ∙ f

-- ---- the first that is not proper

module _ (tables ledger : List ℕ) (used from : ℕ) where
  -- those before `at` are
  pub record ProperTo (at : ℕ) : Type 0 where
    pub low : from ≤ at
    pub high : at ≤ used
    pub none : (i : ℕ) → from ≤ i → i < at → proper_by tables (token_at ledger i) ≡ true

  pub all_proper_lem : (at : ℕ) → ProperTo at → used ≤ at → PendingFrom tables ledger used from at
  all_proper_lem at p h = record { low = p.low; high = p.high; none = p.none; one = λ l. absurd (omega arith) }

  pub passed_over : (marks : List ℕ) → Skips tables ledger used marks → (at : ℕ) → ProperTo at → at < used → proper_by tables (token_at ledger at) ≡ true
      → (r : ℕ) → r ≡ later_of at (get_or marks (at + 2048) 0) → (at < r) × ProperTo r
  passed_over marks skips at p h e r f = go (leb (get_or marks (at + 2048) 0) at) refl f
    where
      skip : ℕ
      skip = get_or marks (at + 2048) 0

      here : (i : ℕ) → from ≤ i → i < at + 1 → (b : Bool) → eqb i at ≡ b → proper_by tables (token_at ledger i) ≡ true
      here i l u true q = rw (eqb-true i at q) e
      here i l u false q = p.none i l (let z = eqb-false i at q in omega arith)

      over : at < skip → (i : ℕ) → from ≤ i → i < skip → (b : Bool) → ltb i at ≡ b → proper_by tables (token_at ledger i) ≡ true
      over k i l u true q = p.none i l (ltb-true i at q)
      over k i l u false q = (skips at i (ltb-false i at q) u).1

      last : at < skip → skip ≤ used
      last k = let z = (skips at (skip - 1) (omega arith) (omega arith)).0 in omega arith

      go : (b : Bool) → leb skip at ≡ b → r ≡ cond b (at + 1) skip → (at < r) × ProperTo r
      go true q g = (omega arith, record { low = omega (arith, p.low); high = omega arith; none = λ i l u. here i l (omega arith) (eqb i at) refl })
      go false q g =
          let k : at < skip = leb-false skip at q in
          (omega arith, record { low = omega (arith, p.low); high = omega (arith, last k); none = λ i l u. over k i l (omega arith) (ltb i at) refl })

-- ---- marks

module _ (tables ledger : List ℕ) (used : ℕ) (marks₀ : List ℕ) where
  pub skipped_on : (marks : List ℕ) → Skipped tables ledger used marks₀ marks → used ≤ 2048 → (at r : ℕ) → at < used → PendingFrom tables ledger used at r
      → (marks' : List ℕ) → marks' ≡ set marks (at + 2048) r → length marks' ≡ 4096 → Skipped tables ledger used marks₀ marks'
  skipped_on marks s few at r low p marks' e size = record {
    size = rw e (length-set marks (at + 2048) r) ∙ s.size;
    same = λ i h. rw e (get_or-set_other marks (at + 2048) i r 0 (λ q. omega arith)) ∙ s.same i h;
    skips = λ j i l u. go j i l u (eqb j at) refl;
  }
    where
      inside : at + 2048 < length marks
      inside = omega (arith, length-set marks (at + 2048) r, ap length e, size)

      go : (j i : ℕ) → j ≤ i → i < get_or marks' (j + 2048) 0 → (b : Bool) → eqb j at ≡ b → (i < used) × (proper_by tables (token_at ledger i) ≡ true)
      go j i l u true q =
          let same = eqb-true j at q in
          let mine : get_or marks' (j + 2048) 0 ≡ r = rw (e, same) (get_or-set_same marks (at + 2048) r 0 inside) in
          let low : i < r = omega arith in
          (omega (arith, p.high), p.none i (omega arith) low)
      go j i l u false q =
          let other = eqb-false j at q in
          let mine : get_or marks' (j + 2048) 0 ≡ get_or marks (j + 2048) 0 = rw e (get_or-set_other marks (at + 2048) (j + 2048) r 0 (λ z. other (omega arith))) in
          s.skips j i l (omega arith)

-- ---- the first that holds back

module _ (tables ledger : List ℕ) (used : ℕ) (path : Path) (k m from : ℕ) where
  abbrev holds : ℕ → Bool
  holds i = holds_by tables k path m (token_at ledger i)

  pub record FreeTo (at : ℕ) : Type 0 where
    pub low : from ≤ at
    pub high : at ≤ used
    pub none : (i : ℕ) → from ≤ i → i < at → holds i ≡ false

  pub none_free : from ≤ used → FreeTo from
  none_free h = record { low = omega arith; high = h; none = λ i l u. absurd (omega arith) }

  module _ (at : ℕ) (f : FreeTo at) (r : ℕ) (p : PendingFrom tables ledger used at r) where
    -- those before the one that was found
    before : (i : ℕ) → from ≤ i → i < r → holds i ≡ false
    before i l u = go (ltb i at) refl
      where
        go : (b : Bool) → ltb i at ≡ b → holds i ≡ false
        go true q = f.none i l (ltb-true i at q)
        go false q = proper_none tables k path m (token_at ledger i) (p.none i (ltb-false i at q) u)

    pub none_holds : r ≡ used → HolderFrom tables ledger used path k m from used
    none_holds e = record { low = omega (arith, f.low, p.low); high = omega arith; none = λ i l u. before i l (omega arith); one = λ h. absurd (omega arith) }

    pub this_holds : ¬ (r ≡ used) → on_option (stands_in path (token_at ledger r).tag) false (λ j. leb (j + k) m) ≡ true → HolderFrom tables ledger used path k m from r
    this_holds n e = record {
      low = omega (arith, f.low, p.low);
      high = p.high;
      none = before;
      one = λ h. pending_by tables k path m (token_at ledger r) (p.one h) ∙ e;
    }

    pub passes_on : ¬ (r ≡ used) → on_option (stands_in path (token_at ledger r).tag) false (λ j. leb (j + k) m) ≡ false → FreeTo (r + 1)
    passes_on n e = record { low = omega (arith, f.low, p.low); high = omega (arith, p.high, n); none = λ i l u. go i l u (eqb i r) refl }
      where
        go : (i : ℕ) → from ≤ i → i < r + 1 → (b : Bool) → eqb i r ≡ b → holds i ≡ false
        go i l u true q = rw (eqb-true i r q) (pending_by tables k path m (token_at ledger r) (p.one (omega (arith, p.high, n))) ∙ e)
        go i l u false q = before i l (let z = eqb-false i r q in omega arith)

  pub all_free_lem : (at : ℕ) → FreeTo at → used ≤ at → HolderFrom tables ledger used path k m from used
  all_free_lem at f h = record { low = omega (arith, f.low, f.high); high = omega arith; none = λ i l u. f.none i l (omega arith); one = λ l. absurd (omega arith) }

-- ---- all records

module _ (f : Token Tag ℤ → Bool) where
  any_none : (ts : List Record.Token) → ((j : ℕ) → j < length ts → f (token_held (get_or ts j no_token)) ≡ false) → any f (map token_held ts) ≡ false
  any_none [] h = refl
  any_none (t ∷ ts) h = rw (h 0 (omega arith)) (any_none ts (λ j l. h (suc j) (omega arith)))

  or_true : (a b : Bool) → b ≡ true → (a || b) ≡ true
  or_true true b e = refl
  or_true false b e = e

  any_one : (ts : List Record.Token) (j : ℕ) → j < length ts → f (token_held (get_or ts j no_token)) ≡ true → any f (map token_held ts) ≡ true
  any_one [] j h e = absurd (omega arith)
  any_one (t ∷ ts) zero h e = rw e
  any_one (t ∷ ts) (suc j) h e = or_true (f (token_held t)) (any f (map token_held ts)) (any_one ts j (omega arith) e)

module _ (g : List Instruction) (tables ledger : List ℕ) (right : Arities g tables) (used : ℕ) (path : Path) (k m : ℕ) where
  there : (j : ℕ) → j < used → holds_back g k path m (token_held (get_or (tokens used ledger) j no_token)) ≡ holds_by tables k path m (token_at ledger j)
  there j h = as_rules tables k path m (get_or (tokens used ledger) j no_token) g right ∙ ap (holds_by tables k path m) (get_d_rows token_width decode_token used j ledger no_token h)

  pub any_by_one : (r : ℕ) → r < used → holds_by tables k path m (token_at ledger r) ≡ true → any (holds_back g k path m) (map token_held (tokens used ledger)) ≡ true
  any_by_one r low one = any_one (holds_back g k path m) (tokens used ledger) r (omega (arith, length_rows token_width decode_token used ledger)) (there r low ∙ one)

  pub any_by_first : (r : ℕ) → r ≤ used → ((j : ℕ) → j < r → holds_by tables k path m (token_at ledger j) ≡ false) → (r < used → holds_by tables k path m (token_at ledger r) ≡ true)
      → any (holds_back g k path m) (map token_held (tokens used ledger)) ≡ ltb r used
  any_by_first r high none one = go (ltb r used) refl
    where
      size : length (tokens used ledger) ≡ used
      size = length_rows token_width decode_token used ledger

      go : (b : Bool) → ltb r used ≡ b → any (holds_back g k path m) (map token_held (tokens used ledger)) ≡ b
      go true e = let low = ltb-true r used e in any_one (holds_back g k path m) (tokens used ledger) r (omega (arith, size)) (there r low ∙ one low)
      go false e = let past = ltb-false r used e in any_none (holds_back g k path m) (tokens used ledger) (λ j h. there j (omega (arith, size)) ∙ none j (omega (arith, size)))

-- ---- the marks of a record that was looked at

pub marked_on : (tables ledger : List ℕ) (k used : ℕ) (marks₀ marks : List ℕ) → MarkedPast tables ledger k used marks₀ → used ≤ 2048 → Skipped tables ledger used marks₀ marks
    → (i : ℕ) → i < used → (r : ℕ) → HolderFrom tables ledger used (token_at ledger i).tag.path k ((token_at ledger i).tag.iteration + 1) (get_or marks₀ i 0) r
    → (marks' : List ℕ) → marks' ≡ set marks i r → MarkedPast tables ledger k used marks'
marked_on tables ledger k used marks₀ marks m few s i low r h marks' e = record {
  size = rw e (length-set marks i r) ∙ s.size ∙ m.size;
  past = λ a j l u. go a j l u (eqb a i) refl;
  skips = λ j a l u.
      let mine : get_or marks' (j + 2048) 0 ≡ get_or marks (j + 2048) 0 = rw e (get_or-set_other marks i (j + 2048) r 0 (λ q. omega arith)) in
      s.skips j a l (omega arith);
}
  where
    Past : (a j : ℕ) → Type 0
    Past a j = (a < used) × (j < used) × (holds_by tables k (token_at ledger a).tag.path ((token_at ledger a).tag.iteration + 1) (token_at ledger j) ≡ false)

    own : (j : ℕ) → j < r → (b : Bool) → ltb j (get_or marks₀ i 0) ≡ b → Past i j
    own j u true q = m.past i j (omega arith) (ltb-true j (get_or marks₀ i 0) q)
    own j u false q = (low, omega (arith, h.high), h.none j (ltb-false j (get_or marks₀ i 0) q) u)

    go : (a j : ℕ) → a < 2048 → j < get_or marks' a 0 → (b : Bool) → eqb a i ≡ b → Past a j
    go a j l u true q =
        let same = eqb-true a i q in
        let mine : get_or marks' a 0 ≡ r = rw (e, same) (get_or-set_same marks i r 0 (omega (arith, s.size, m.size))) in
        rw same (own j (omega arith) (ltb j (get_or marks₀ i 0)) refl)
    go a j l u false q =
        let other = eqb-false a i q in
        let mine : get_or marks' a 0 ≡ get_or marks₀ a 0 = rw e (get_or-set_other marks i a r 0 other) ∙ s.same a l in
        m.past a j l (omega arith)
