-- The activities of the listed records, each in turn: those that are held back have their flags raised. Assumes nothing.
use Prim.Native.Nat.{ℕ, zero, suc, ◌+◌, ◌≤◌, ◌<◌}
use mathlib.Core.Path.{◌≡◌, refl, sym, ap, subst, ◌∙◌}
use mathlib.Core.Bool.{Bool, true, false, ◌&&◌}
use mathlib.Core.List.{List, [], ◌∷◌, map}
use native.Mathlib.Omega.{arith}
use lib.Dec.{eqb, leb, ltb}
use lib.ListN.{length, get_or, set}
use lib.Seq.{get_or-set_same, get_or-set_other}
use borrow.Author.Tests.{eqb-true, eqb-false, ltb-true, ltb-false}
use Rattle.record.specs.declared.tag.Tag.{Tag}
use Rattle.record.specs.declared.token.Token.{Token}
use Rattle.record.specs.declared.instruction.Instruction.{Instruction}
use Rattle.record.specs.TokensAndTags.{tokens, token_at}
use lib.IntN.{ℤ}
use Rattle.machine.specs.Machine as Rules
use Rattle.rules.specs.Check.{instruction_at}
use Rattle.rules.specs.Run.{token_held}
use Rattle.store_flags.specs.Flags.{ones, place, places, places_from, Under}
use Rattle.store_flags.specs.Marks.{bit}
use Rattle.store_flags.proofs.Laws.{Binary, ones_places, place_places, place_one}
use Rattle.abstraction.specs.Tables.{Arities}
use Rattle.held.specs.Searching.{holds_by, HolderFrom, Skipped, MarkedPast}
use Rattle.held.specs.Deciding.{held_by, ClearFrom, held_at, is_next, is_late_next, Listed, Standing, AllStanding, LookedAt}
use Rattle.held.proofs.Searching.{holds_old, any_by_first}
use Rattle.held.proofs.Laws.{and_false_lem, other_free, early_free, next_held}

-- ---- one

module _ (g : List Instruction) (tables ledger : List ℕ) (k used : ℕ) (flags marks : List ℕ) (i : ℕ) where
  pub other_free_at : (t : Token) → t ≡ token_at ledger i → eqb (instruction_at g t.tag.instruction).code 7 ≡ false → false ≡ held_at g k flags ledger used i
  other_free_at t same e =
      sym (and_false_lem (eqb (get_or flags i 0) 1) _ (ap (λ (u : Token). held_by g k (map token_held (tokens used ledger)) u.tag) (sym same) ∙ other_free g k (map token_held (tokens used ledger)) t.tag e))

  module _ (m : MarkedPast tables ledger k used marks) (few : used ≤ 2048) (low : i < used) where
    pub mark_low : get_or marks i 0 ≤ used
    mark_low = go (ltb used (get_or marks i 0)) refl
      where
        go : (b : Bool) → ltb used (get_or marks i 0) ≡ b → get_or marks i 0 ≤ used
        go true e = let z = (m.past i used (omega arith) (ltb-true used (get_or marks i 0) e)).1 in absurd (omega arith)
        go false e = ltb-false used (get_or marks i 0) e

    -- the search by the fields of its token and its mark
    pub holder_here : (t : Token) → t ≡ token_at ledger i → (iteration from r : ℕ) → iteration ≡ t.tag.iteration → from ≡ get_or marks i 0
        → HolderFrom tables ledger used t.tag.path k (iteration + 1) from r → HolderFrom tables ledger used (token_at ledger i).tag.path k ((token_at ledger i).tag.iteration + 1) (get_or marks i 0) r
    holder_here t same iteration from r e f h =
        subst (λ (u : Token). HolderFrom tables ledger used u.tag.path k (u.tag.iteration + 1) (get_or marks i 0) r) same
        (subst (λ (n : ℕ). HolderFrom tables ledger used t.tag.path k (n + 1) (get_or marks i 0) r) e
        (subst (λ (n : ℕ). HolderFrom tables ledger used t.tag.path k (iteration + 1) n r) f h))

    pub held_now : Arities g tables → 0 < k → eqb (get_or flags i 0) 1 ≡ true → (t : Token) → t ≡ token_at ledger i → eqb (instruction_at g t.tag.instruction).code 7 ≡ true
        → (r : ℕ) → HolderFrom tables ledger used (token_at ledger i).tag.path k ((token_at ledger i).tag.iteration + 1) (get_or marks i 0) r → ltb r used ≡ held_at g k flags ledger used i
    held_now right pos on t same next r h =
        rw on (sym (next_held g k (map token_held (tokens used ledger)) (token_at ledger i).tag pos (ap (λ (u : Token). eqb (instruction_at g u.tag.instruction).code 7) (sym same) ∙ next)
        ∙ any_by_first g tables ledger right used (token_at ledger i).tag.path k ((token_at ledger i).tag.iteration + 1) r h.high none h.one))
      where
        none : (j : ℕ) → j < r → holds_by tables k (token_at ledger i).tag.path ((token_at ledger i).tag.iteration + 1) (token_at ledger j) ≡ false
        none j u = go (ltb j (get_or marks i 0)) refl
          where
            go : (b : Bool) → ltb j (get_or marks i 0) ≡ b → holds_by tables k (token_at ledger i).tag.path ((token_at ledger i).tag.iteration + 1) (token_at ledger j) ≡ false
            go true e = (m.past i j (omega arith) (ltb-true j (get_or marks i 0) e)).2
            go false e = h.none j (ltb-false j (get_or marks i 0) e) u

-- ---- places of flags

pub places_one : (l : List ℕ) (k : ℕ) → Binary l → k < length (places l) → get_or l (get_or (places l) k 0) 0 ≡ 1
places_one l k b h =
    let few : k < ones l = omega (arith, ones_places 0 l b) in
    let at : get_or (places l) k 0 ≡ place k l = omega (arith, place_places 0 k l b few) in
    rw at (place_one k l b few)

pub listed_below : (l : List ℕ) (k used : ℕ) → Binary l → ClearFrom used l → k < length (places l) → (i : ℕ) → i ≡ get_or (places l) k 0 → i < used
listed_below l k used b clear h i e = go (ltb i used) refl
  where
    go : (x : Bool) → ltb i used ≡ x → i < used
    go true q = ltb-true i used q
    go false q = let one = places_one l k b h in let none = clear i (ltb-false i used q) in absurd (omega (arith, rw (← e) at one, none))

pub among : (i k : ℕ) (l : List ℕ) → 0 < get_or l k 0 → (j : ℕ) × (j < length (places_from i l)) × (i + k ≡ get_or (places_from i l) j 0)
among i k [] h = absurd (omega arith)
among i zero (zero ∷ l) h = absurd (omega arith)
among i zero (suc x ∷ l) h = (0, omega arith, omega arith)
among i (suc k) (zero ∷ l) h = let (j, lt, e) = among (suc i) k l h in (j, lt, omega arith)
among i (suc k) (suc x ∷ l) h = let (j, lt, e) = among (suc i) k l h in (suc j, omega arith, omega arith)

-- ---- each in turn

module _ (f : ℕ → Bool) (nexts : List ℕ) where
  -- the first k of the listed were looked at
  pub record LookedTo (held : List ℕ) (k : ℕ) : Type 0 where
    pub under : Under held nexts
    pub done : (j : ℕ) → j < k → get_or held (get_or (places nexts) j 0) 0 ≡ bit (f (get_or (places nexts) j 0))

  pub one_looked : (held : List ℕ) (k : ℕ) → LookedTo held k → Binary nexts → k < length (places nexts) → (i : ℕ) → i ≡ get_or (places nexts) k 0 → i < length held
      → (on : Bool) → on ≡ f i → (held' : List ℕ) → held' ≡ set held i (bit on) → LookedTo held' (k + 1)
  one_looked held k l b low i here inside on e held' h = record { under = λ j. under_go j (eqb j i) refl; done = λ j u. done_go (get_or (places nexts) j 0) (eqb (get_or (places nexts) j 0) i) refl (λ n. l.done j (before j u n)) }
    where
      mine : get_or held' i 0 ≡ bit on
      mine = rw h (get_or-set_same held i (bit on) 0 inside)

      other : (j : ℕ) → ¬ (j ≡ i) → get_or held' j 0 ≡ get_or held j 0
      other j z = rw h (get_or-set_other held i j (bit on) 0 z)

      bit_small : (x : Bool) → bit x ≤ 1
      bit_small true = omega arith
      bit_small false = omega arith

      under_go : (j : ℕ) (x : Bool) → eqb j i ≡ x → get_or held' j 0 ≤ get_or nexts j 0
      under_go j true q = let same = eqb-true j i q in rw same (omega (arith, mine, bit_small on, rw (← here) at (places_one nexts k b low)))
      under_go j false q = omega (arith, other j (eqb-false j i q), l.under j)

      before : (j : ℕ) → j < k + 1 → ¬ (get_or (places nexts) j 0 ≡ i) → j < k
      before j u n = go (eqb j k) refl
        where
          go : (x : Bool) → eqb j k ≡ x → j < k
          go true q = absurd (n (rw (eqb-true j k q) (sym here)))
          go false q = let z = eqb-false j k q in omega arith

      done_go : (p : ℕ) (x : Bool) → eqb p i ≡ x → (¬ (p ≡ i) → get_or held p 0 ≡ bit (f p)) → get_or held' p 0 ≡ bit (f p)
      done_go p true q r = rw (eqb-true p i q) (mine ∙ ap bit e)
      done_go p false q r = other p (eqb-false p i q) ∙ r (eqb-false p i q)

  pub all_looked : (held : List ℕ) (k used : ℕ) → LookedTo held k → length (places nexts) ≤ k → Binary nexts → ClearFrom used nexts → ((i : ℕ) → i < used → get_or nexts i 0 ≡ 0 → f i ≡ false)
      → (i : ℕ) → get_or held i 0 ≡ bit (ltb i used && f i)
  all_looked held k used l h b clear rest i = go (eqb (get_or nexts i 0) 0) refl
    where
      listed : 0 < get_or nexts i 0 → get_or held i 0 ≡ bit (f i)
      listed u = let (j, lt, e) = among 0 i nexts u in let same : i ≡ get_or (places nexts) j 0 = omega arith in rw same (l.done j (omega arith))

      go : (x : Bool) → eqb (get_or nexts i 0) 0 ≡ x → get_or held i 0 ≡ bit (ltb i used && f i)
      go true q = low (ltb i used) refl
        where
          none : get_or held i 0 ≡ 0
          none = omega (arith, l.under i, eqb-true (get_or nexts i 0) 0 q)

          low : (y : Bool) → ltb i used ≡ y → get_or held i 0 ≡ bit (y && f i)
          low true e = none ∙ sym (ap bit (rest i (ltb-true i used e) (eqb-true (get_or nexts i 0) 0 q)))
          low false e = none
      go false q = low (ltb i used) refl
        where
          low : (y : Bool) → ltb i used ≡ y → get_or held i 0 ≡ bit (y && f i)
          low true e = listed (let z = eqb-false (get_or nexts i 0) 0 q in omega arith)
          low false e = absurd (eqb-false (get_or nexts i 0) 0 q (clear i (ltb-false i used e)))

pub listed_free : (g : List Instruction) (k : ℕ) (flags nexts ledger : List ℕ) (used : ℕ) → Listed g k flags nexts ledger used → (i : ℕ) → i < used → get_or nexts i 0 ≡ 0 → held_at g k flags ledger used i ≡ false
unfolding is_next is_late_next
listed_free g k flags nexts ledger used l i low none =
    go (eqb (get_or flags i 0) 1) (eqb (instruction_at g (token_at ledger i).tag.instruction).code 7) (leb k ((token_at ledger i).tag.iteration + 1)) refl refl (l i low none)
  where
    ts : List (Rules.Token Tag ℤ)
    ts = map token_held (tokens used ledger)

    go : (a n y : Bool) → eqb (instruction_at g (token_at ledger i).tag.instruction).code 7 ≡ n → leb k ((token_at ledger i).tag.iteration + 1) ≡ y → (a && (n && y)) ≡ false
        → (a && held_by g k ts (token_at ledger i).tag) ≡ false
    go false n y e q f = refl
    go true false y e q f = other_free g k ts (token_at ledger i).tag e
    go true true false e q f = early_free g k ts (token_at ledger i).tag q
    go true true true e q f = let z : ◌≡◌ {A = ℕ} 0 1 = ap (λ (x : Bool). bit x) (sym f) in absurd (omega arith)

-- ---- the record that a search stands at

module _ (g : List Instruction) (ledger : List ℕ) (k used i : ℕ) where
  pub looked_none : (marks : List ℕ) → LookedAt g ledger k used i false marks marks
  looked_none marks = record { same = λ j h n. refl; stands = λ e. let z : ◌≡◌ {A = ℕ} 0 1 = ap bit e in absurd (omega arith) }

  pub looked_on : (tables marks₀ marks : List ℕ) → length marks₀ ≡ 4096 → used ≤ 2048 → Skipped tables ledger used marks₀ marks → i < used → (t : Token) → t ≡ token_at ledger i
      → eqb (instruction_at g t.tag.instruction).code 7 ≡ true
      → (r : ℕ) → HolderFrom tables ledger used (token_at ledger i).tag.path k ((token_at ledger i).tag.iteration + 1) (get_or marks₀ i 0) r
      → (marks' : List ℕ) → marks' ≡ set marks i r → LookedAt g ledger k used i (ltb r used) marks₀ marks'
  unfolding is_next
  looked_on tables marks₀ marks size few s low t same next r h marks' e = record {
    same = λ j l n. rw e (get_or-set_other marks i j r 0 n) ∙ s.same j l;
    stands = λ o.
        let below : r < used = ltb-true r used o in
        let old = holds_old tables k (token_at ledger i).tag.path ((token_at ledger i).tag.iteration + 1) (token_at ledger r) (h.one below) in
        record {
          inside = low;
          below = omega (arith, mine, below);
          next = ap (λ (u : Token). eqb (instruction_at g u.tag.instruction).code 7) (sym same) ∙ next;
          old = rw mine old;
        };
  }
    where
      mine : get_or marks' i 0 ≡ r
      mine = rw e (get_or-set_same marks i r 0 (omega (arith, s.size)))

  -- a look at one, and its flag
  pub one_standing : (held marks : List ℕ) → used ≤ 2048 → AllStanding g ledger k used held marks → i < length held → (on : Bool) (marks' : List ℕ) → LookedAt g ledger k used i on marks marks'
      → (held' : List ℕ) → held' ≡ set held i (bit on) → AllStanding g ledger k used held' marks'
  one_standing held marks few all inside on marks' l held' e j one = go (eqb j i) refl
    where
      on_true : (b : Bool) → bit b ≡ 1 → b ≡ true
      on_true true h = refl
      on_true false h = absurd (omega arith)

      go : (b : Bool) → eqb j i ≡ b → Standing g ledger k used marks' j
      go true q =
          let same = eqb-true j i q in
          let mine : bit on ≡ 1 = sym (rw (e, same) (get_or-set_same held i (bit on) 0 inside)) ∙ one in
          rw same (l.stands (on_true on mine))
      go false q =
          let other = eqb-false j i q in
          let was = all j (sym (rw e (get_or-set_other held i j (bit on) 0 other)) ∙ one) in
          let mark = l.same j (omega (arith, was.inside)) other in
          record { inside = was.inside; below = omega (arith, mark, was.below); next = was.next; old = rw mark was.old }
