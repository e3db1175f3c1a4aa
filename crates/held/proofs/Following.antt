-- From firing to firing: what was kept is right of the records as they are then, and the new ones are listed. Assumes nothing.
use Prim.Native.Nat.{ℕ, zero, suc, ◌+◌, ◌≤◌, ◌<◌}
use mathlib.Core.Path.{◌≡◌, refl, sym, ap, ◌∙◌}
use mathlib.Core.Bool.{Bool, true, false, not, ◌&&◌}
use mathlib.Core.List.{List, [], ◌∷◌}
use native.Mathlib.Omega.{arith}
use lib.Dec.{eqb, leb, ltb}
use lib.ListN.{get_or, set, replicate, length-replicate}
use lib.Seq.{get_or-set_other}
use borrow.Author.Tests.{eqb-true, eqb-false, ltb-true, ltb-false}
use Rattle.record.specs.declared.tag.Path.{Path}
use Rattle.record.specs.declared.tag.Tag.{Tag}
use Rattle.record.specs.declared.instruction.Instruction.{Instruction}
use Rattle.record.specs.TokensAndTags.{token_at, is_spent_record}
use Rattle.machine.specs.Machine.{on_option}
use Rattle.rules.specs.Check.{instruction_at}
use Rattle.rules.specs.Held.{stands_in}
use Rattle.store_flags.specs.Flags.{Under}
use Rattle.store_flags.specs.Marks.{bit}
use Rattle.store_flags.proofs.Laws.{zero_at}
use Rattle.ending.specs.Endings.{proper_by}
use Rattle.held.specs.Searching.{holds_by, MarkedPast}
use Rattle.held.specs.Deciding.{ClearFrom, is_next, is_late_next, Listed, NewListed, Dropped, spent_there, as_before, FlagsUnspent, Standing, AllStanding, Later, Carried}

set_zero : (l : List ℕ) (i : ℕ) → get_or (set l i 0) i 0 ≡ 0
set_zero [] i = refl
set_zero (x ∷ l) zero = refl
set_zero (x ∷ l) (suc i) = set_zero l i

-- ---- more records

pub marked_more : (tables ledger : List ℕ) (k used n : ℕ) (marks : List ℕ) → used ≤ n → MarkedPast tables ledger k used marks → MarkedPast tables ledger k n marks
marked_more tables ledger k used n marks h m = record {
  size = m.size;
  past = λ i j l u. let p = m.past i j l u in (omega (arith, p.0), omega (arith, p.1), p.2);
  skips = λ j i l u. let p = m.skips j i l u in (omega (arith, p.0), p.1);
}

pub standing_more : (g : List Instruction) (ledger : List ℕ) (k used n : ℕ) (held marks : List ℕ) → used ≤ n → AllStanding g ledger k used held marks → AllStanding g ledger k n held marks
standing_more g ledger k used n held marks h all i one =
    let was = all i one in
    record { inside = omega (arith, was.inside); below = omega (arith, was.below); next = was.next; old = was.old }

module _ (g : List Instruction) (k : ℕ) (ledger : List ℕ) (used n : ℕ) (nexts held nexts' : List ℕ) (new : NewListed g k ledger used n nexts nexts') where
  pub under_new : ClearFrom used nexts → Under held nexts → Under held nexts'
  under_new clear under i = go (ltb i used) refl
    where
      go : (b : Bool) → ltb i used ≡ b → get_or held i 0 ≤ get_or nexts' i 0
      go true e = omega (arith, new.same i (ltb-true i used e), under i)
      go false e = omega (arith, clear i (ltb-false i used e), under i)

  abbrev Right : (l : List ℕ) → (u : ℕ) → Type 0
  Right l u = (i : ℕ) → i < u → get_or l i 0 ≡ 0 → is_late_next g k (token_at ledger i) ≡ true → is_spent_record (token_at ledger i).content ≡ true

  pub listed_new : Right nexts used → Right nexts' n
  listed_new old i low none next = go (ltb i used) refl
    where
      go : (b : Bool) → ltb i used ≡ b → is_spent_record (token_at ledger i).content ≡ true
      go true e = let l = ltb-true i used e in old i l (sym (new.same i l) ∙ none) next
      go false e = let z : ◌≡◌ {A = ℕ} 0 1 = sym none ∙ new.new i (ltb-false i used e) low ∙ ap bit next in absurd (omega arith)

  module _ (place : ℕ) (nexts'' held'' : List ℕ) where
    pub clear_dropped : Dropped ledger place nexts' held nexts'' held'' → ClearFrom n nexts' → ClearFrom n nexts''
    clear_dropped (as_before e f) c i l = rw e (c i l)
    clear_dropped (spent_there s e f) c i l = rw e (zeroed nexts' i (c i l))
      where
        zeroed : (l : List ℕ) (i : ℕ) → get_or l i 0 ≡ 0 → get_or (set l place 0) i 0 ≡ 0
        zeroed l i z = go (eqb i place) refl
          where
            go : (b : Bool) → eqb i place ≡ b → get_or (set l place 0) i 0 ≡ 0
            go true q = rw (eqb-true i place q) (set_zero l place)
            go false q = get_or-set_other l place i 0 0 (eqb-false i place q) ∙ z

    pub under_dropped : Dropped ledger place nexts' held nexts'' held'' → Under held nexts' → Under held'' nexts''
    under_dropped (as_before e f) u i = rw (e, f) (u i)
    under_dropped (spent_there s e f) u i = rw (e, f) (go (eqb i place) refl)
      where
        go : (b : Bool) → eqb i place ≡ b → get_or (set held place 0) i 0 ≤ get_or (set nexts' place 0) i 0
        go true q = let z : get_or (set held place 0) i 0 ≡ 0 = rw (eqb-true i place q) (set_zero held place) in omega arith
        go false q = let z = eqb-false i place q in omega (arith, get_or-set_other held place i 0 0 z, get_or-set_other nexts' place i 0 0 z, u i)

    pub listed_dropped : Dropped ledger place nexts' held nexts'' held'' → Right nexts' n → Right nexts'' n
    listed_dropped (as_before e f) r i low none next = r i low (rw (← e) none) next
    listed_dropped (spent_there s e f) r i low none next = go (eqb i place) refl
      where
        go : (b : Bool) → eqb i place ≡ b → is_spent_record (token_at ledger i).content ≡ true
        go true q = rw (eqb-true i place q) s
        go false q = r i low (sym (get_or-set_other nexts' place i 0 0 (eqb-false i place q)) ∙ ap (λ (l : List ℕ). get_or l i 0) (sym e) ∙ none) next

    pub standing_dropped : Dropped ledger place nexts' held nexts'' held'' → (marks : List ℕ) → AllStanding g ledger k n held marks → AllStanding g ledger k n held'' marks
    standing_dropped (as_before e f) marks all i one = all i (rw (← f) one)
    standing_dropped (spent_there s e f) marks all i one = all i (go (eqb i place) refl)
      where
        go : (b : Bool) → eqb i place ≡ b → get_or held i 0 ≡ 1
        go true q = let z : get_or held'' i 0 ≡ 0 = rw (f, eqb-true i place q) (set_zero held place) in absurd (omega arith)
        go false q = sym (rw f (get_or-set_other held place i 0 0 (eqb-false i place q))) ∙ one

-- no enabled one is missing
pub listed_all : (g : List Instruction) (k : ℕ) (flags nexts ledger : List ℕ) (n : ℕ) → FlagsUnspent flags ledger n
    → ((i : ℕ) → i < n → get_or nexts i 0 ≡ 0 → is_late_next g k (token_at ledger i) ≡ true → is_spent_record (token_at ledger i).content ≡ true) → Listed g k flags nexts ledger n
listed_all g k flags nexts ledger n unspent right i low none = go (eqb (get_or flags i 0) 1) (is_late_next g k (token_at ledger i)) refl refl
  where
    go : (a b : Bool) → eqb (get_or flags i 0) 1 ≡ a → is_late_next g k (token_at ledger i) ≡ b → (a && b) ≡ false
    go false b e f = refl
    go true false e f = refl
    go true true e f =
        let z : ◌≡◌ {A = ℕ} 0 1 = ap bit (sym (unspent i low (eqb-true (get_or flags i 0) 1 e)) ∙ right i low none f) in
        absurd (omega arith)

-- ---- after a firing

module _ (g : List Instruction) (tables ledger ledger' : List ℕ) (k used : ℕ) (later : Later tables ledger ledger' used) where
  still_none : (p : Path) (m j : ℕ) → j < used → holds_by tables k p m (token_at ledger j) ≡ false → holds_by tables k p m (token_at ledger' j) ≡ false
  unfolding holds_by
  still_none p m j low e = go (proper_by tables (token_at ledger j)) (proper_by tables (token_at ledger' j)) refl refl e
    where
      old : Tag → Bool
      old τ = on_option (stands_in p τ) false (λ i. leb (i + k) m)

      go : (a b : Bool) → proper_by tables (token_at ledger j) ≡ a → proper_by tables (token_at ledger' j) ≡ b → (not a && old (token_at ledger j).tag) ≡ false → (not b && old (token_at ledger' j).tag) ≡ false
      go a true x y f = refl
      go false false x y f = ap old (later.tags j low) ∙ f
      go true false x y f = let z : ◌≡◌ {A = ℕ} 0 1 = ap bit (sym y ∙ later.proper j low x) in absurd (omega arith)

  standing_later : (marks : List ℕ) (i : ℕ) → Standing g ledger k used marks i → Standing g ledger' k used marks i
  unfolding is_next
  standing_later marks i was =
      let own = later.tags i was.inside in
      let there = later.tags (get_or marks i 0) was.below in
      record {
        inside = was.inside;
        below = was.below;
        next = ap (λ (τ : Tag). eqb (instruction_at g τ.instruction).code 7) own ∙ was.next;
        old = (λ x. on_option (stands_in (own x).path (there x)) false (λ j. leb (j + k) ((own x).iteration + 1))) ∙ was.old;
      }

  pub carried_later : (nexts held marks : List ℕ) → Carried g tables ledger k used nexts held marks → Carried g tables ledger' k used nexts held marks
  unfolding is_next is_late_next
  carried_later nexts held marks c = record {
    clear = c.clear;
    under = c.under;
    listed = λ i low none next. later.spent i low (c.listed i low none (ap (λ (τ : Tag). eqb (instruction_at g τ.instruction).code 7 && leb k (τ.iteration + 1)) (sym (later.tags i low)) ∙ next));
    marked = record {
      size = c.marked.size;
      past = λ i j l u.
          let q = c.marked.past i j l u in
          (q.0, q.1, ap (λ (τ : Tag). holds_by tables k τ.path (τ.iteration + 1) (token_at ledger' j)) (later.tags i q.0) ∙ still_none (token_at ledger i).tag.path ((token_at ledger i).tag.iteration + 1) j q.1 q.2);
      skips = λ j i l u. let q = c.marked.skips j i l u in (q.0, later.proper i q.0 q.1);
    };
    standing = λ i one. standing_later marks i (c.standing i one);
  }

-- ---- before the first

pub carried_none : (g : List Instruction) (tables ledger : List ℕ) (k : ℕ) → Carried g tables ledger k 0 (replicate 2048 0) (replicate 2048 0) (replicate 4096 0)
carried_none g tables ledger k = record {
  clear = λ i l. none i;
  under = λ i. omega arith;
  listed = λ i low. absurd (omega arith);
  marked = record {
    size = length-replicate {A = ℕ} 4096 0;
    past = λ i j l u. absurd (omega (arith, zero_at 4096 i));
    skips = λ j i l u. absurd (omega (arith, zero_at 4096 (j + 2048)));
  };
  standing = λ i one. absurd (omega (arith, none i));
}
  where
    none : (i : ℕ) → get_or (replicate {A = ℕ} 2048 0) i 0 ≡ 0
    none i = zero_at 2048 i
