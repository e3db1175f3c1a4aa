-- R-12: a run that is not spent ends the same with more budget (`more_budget`); one that completes or hangs with t tokens ends the same with any
-- capacity from t up (`enough_room`), and with any smaller one every order is refused by ledger_full (`too_small`). Assumes nothing.
use mathlib.Core.Path.{◌≡◌, refl, subst, ◌∙◌}
use mathlib.Core.List.{List, ◌∷◌, ◌++◌, map}
use mathlib.Core.Option.{Option, none, some}
use mathlib.Core.Bool.{Bool, true, false}
use Prim.Native.Nat.{ℕ, suc, ◌+◌, ◌-◌, ◌≤◌, ◌<◌}
use native.Mathlib.Nat.{suc-add}
use native.Mathlib.Decide.{dec_le}
use native.Mathlib.Omega.{arith}
use lib.ListN.{length, length-append, length-map}
use borrow.Author.Tests.{lt-ltb, le-ltb}
use Rattle.machine.specs.Machine.{Key, Content, live, Cell, absent, waiting, present, refuse, send, read, write, Machine, Activity, fired, not_fired}
use Rattle.machine.specs.Machine.{Outcome, completed, hung, budget_spent, refused, on_option, fill, cell_at, content_read, if_present, changed, output, Operands, first_pick, later_picks}
use Rattle.machine.specs.Machine.{Ledger, StateOf, EffectOf, FiredOf, EndOf, look, operands, spend_at, any_taken, exceeds, enabled, admit, commit, fire, Choice, ending, run_by}
use Rattle.machine.specs.Orders.{Lawful, Good, Quiescent, Spent, RefusedBy, LawfulChoice}
use Rattle.machine.specs.Agreement.{machine_with}
use Rattle.machine.proofs.Runs.{along, run_empty, run_fired, run_refused}
use Rattle.machine.proofs.Orders.{orders_by, never_spent_by}

-- ---- the claims

abbrev pub with_capacity : Machine → ℕ → Machine
with_capacity M n = machine_with M M.arity M.effect n

module _ (M : Machine) where
  -- "Tokens used"
  abbrev pub tokens_used : EndOf M → ℕ
  tokens_used e = length e.state.tokens

  -- of a run that "completed or hung with t tokens": "with any capacity from t [..] and equal picks the end is the same"
  abbrev pub EnoughRoomOfMachine : Type 0
  EnoughRoomOfMachine = (c : Choice M) (s : StateOf M) (budget : ℕ) (picks : List ℕ) (f : ℕ) → Quiescent (run_by M c budget picks f s).outcome
      → (n : ℕ) → tokens_used (run_by M c budget picks f s) ≤ n → run_by (with_capacity M n) c budget picks f s ≡ run_by M c budget picks f s

  -- "with any smaller one every order is refused by 8", where the start fits and the budget is no less than the capacity
  abbrev pub TooSmallOfMachine : Type 0
  TooSmallOfMachine = (c d : Choice M) → LawfulChoice M c → LawfulChoice M d → (s : StateOf M) → Good M s → (budget budget' : ℕ) (picks picks' : List ℕ) (f : ℕ)
      → Quiescent (run_by M c budget picks f s).outcome → (n : ℕ) → n < tokens_used (run_by M c budget picks f s) → length s.tokens ≤ n → n ≤ budget'
      → RefusedBy M.ledger_full (run_by (with_capacity M n) d budget' picks' f s).outcome

  -- a run that is not spent has done what it can: with more budget it ends the same
  abbrev pub MoreBudget : Type 0
  MoreBudget = (c : Choice M) (a b : ℕ) (picks : List ℕ) (f : ℕ) (s : StateOf M) → a ≤ b → ¬ (Spent (run_by M c a picks f s).outcome) → run_by M c b picks f s ≡ run_by M c a picks f s

-- ---- more budget

module _ (M : Machine) where
  pub more_budget : MoreBudget M
  more_budget c a b ps f s l h = subst (λ (n : ℕ). run_by M c n ps f s ≡ run_by M c a ps f s) (omega arith) (with (b - a) a ps f s h)
    where
      with : (k a : ℕ) (ps : List ℕ) (f : ℕ) (s : StateOf M) → ¬ (Spent (run_by M c a ps f s).outcome) → run_by M c (a + k) ps f s ≡ run_by M c a ps f s
      with k = along M c (λ a ps f s e. ¬ (Spent e.outcome) → run_by M c (a + k) ps f s ≡ e) (record {
        rests = λ a ps f s e h. run_empty M c (a + k) ps f s e;
        stops = λ ps f s x more e h. absurd (h tt);
        refuses = λ a ps f s x more r e g h. rw (suc-add a k) (run_refused M c (a + k) ps f s x more r e g);
        fires = λ a ps f s y x more z e g rest h. rw (suc-add a k) (run_fired M c (a + k) ps f s y x more e g ∙ rest h);
      })

-- ---- another capacity

module _ (M : Machine) (n : ℕ) where
  abbrev M' : Machine
  M' = with_capacity M n

  -- ---- a firing

  -- what a firing of s with the capacity n is, by what it is with the machine's own. No refusal but ledger_full looks at the capacity: the effect's own and
  -- second_write come before it, second_token comes after it
  abbrev Resized : StateOf M → FiredOf M → FiredOf M → Type 0
  Resized s (fired x) y = (length s.tokens ≤ length x.tokens) × (length x.tokens ≤ n → y ≡ fired x) × (n < length x.tokens → y ≡ not_fired M.ledger_full)
  Resized s (not_fired r) y = Unit {0}

  admitted : (s : StateOf M) (left : Ledger M) (cells : List (Cell M.Value)) (x : Content M.Value) (keys : List (Key M.Tag)) → length left ≡ length s.tokens
      → Resized s (admit M s left cells x keys) (admit M' s left cells x keys)
  unfolding admit
  admitted s left cells x keys h = go (exceeds M s.tokens keys) (any_taken M s.tokens keys) refl refl
    where
      count : length (left ++ map (output {T = M.Tag} x) keys) ≡ length s.tokens + length keys
      count = simp (length-append, length-map, h)

      go : (p q : Bool) → exceeds M s.tokens keys ≡ p → any_taken M s.tokens keys ≡ q → Resized s (admit M s left cells x keys) (admit M' s left cells x keys)
      go true q e f = rw e tt
      go false true e f = rw (e, f) tt
      go false false e f = rw (e, f) (
        omega (arith, count),
        λ l. rw (le-ltb n (length s.tokens + length keys) (omega (arith, count))),
        λ l. rw (lt-ltb n (length s.tokens + length keys) (omega (arith, count))),
      )

  unless_present : (s : StateOf M) (x : Cell M.Value) (r : M.Refusal) (y z : FiredOf M) → Resized s y z → Resized s (if_present x (not_fired r) y) (if_present x (not_fired r) z)
  unless_present s absent r y z h = h
  unless_present s waiting r y z h = h
  unless_present s (present v) r y z h = tt

  committed : (s : StateOf M) (τ : M.Tag) (e : EffectOf M) → Resized s (commit M s τ e) (commit M' s τ e)
  unfolding commit
  committed s τ (refuse r) = tt
  committed s τ (send v keys) = admitted s _ s.cells (live v) keys (length-map s.tokens (changed (spend_at M τ)))
  committed s τ (read c keys) = admitted s _ _ (content_read c (cell_at s.cells c)) keys (length-map s.tokens (changed (spend_at M τ)))
  committed s τ (write c v keys) = unless_present s (cell_at s.cells c) M.second_write _ _
      (admitted s _ _ (live M.signal) keys (length-map s.tokens (changed (λ k x. fill c v (spend_at M τ k x)))))

  fire_resized : (s : StateOf M) (τ : M.Tag) → Resized s (fire M s τ) (fire M' s τ)
  unfolding fire
  fire_resized s τ = go (operands M (look M s) τ)
    where
      go : (q : Option (Operands M.Value)) → Resized s (on_option q (not_fired M.second_token) (λ p. commit M s τ (M.effect τ p.left p.right)))
          (on_option q (not_fired M.second_token) (λ p. commit M' s τ (M.effect τ p.left p.right)))
      go none = tt
      go (some p) = committed s τ (M.effect τ p.left p.right)

  -- ---- a run

  -- what a run with the capacity n does, by the end e of a run with the machine's own
  record Compared (c : Choice M) (b : ℕ) (ps : List ℕ) (f : ℕ) (s : StateOf M) (e : EndOf M) : Type 0 where
    grows : length s.tokens ≤ tokens_used M e
    fits : tokens_used M e ≤ n → run_by M' c b ps f s ≡ e
    full : n < tokens_used M e → length s.tokens ≤ n → RefusedBy M.ledger_full (run_by M' c b ps f s).outcome

  compared : (c : Choice M) (b : ℕ) (ps : List ℕ) (f : ℕ) (s : StateOf M) → Quiescent (run_by M c b ps f s).outcome → Compared c b ps f s (run_by M c b ps f s)
  unfolding enabled ending
  compared c = along M c (λ b ps f s e. Quiescent e.outcome → Compared c b ps f s e) (record {
    rests = λ b ps f s e q. record { grows = omega arith; fits = λ l. run_empty M' c b ps f s e; full = λ l m. absurd (omega arith) };
    stops = λ ps f s a more e q. absurd q;
    refuses = λ b ps f s a more r e g q. absurd q;
    fires = λ b ps f s x a more z e g rest q.
        let (up, same, over) = rw g at (fire_resized s (c s (first_pick ps) a more).tag) in
        let h = rest q in
        let grown = h.grows in
        record {
          grows = omega arith;
          fits = λ l. run_fired M' c b ps f s x a more e (same (omega arith)) ∙ h.fits l;
          full = λ l m. within b ps f s x a more e same over (h.full l) (dec_le (length x.tokens) n);
        };
  })
    where
      within : (b : ℕ) (ps : List ℕ) (f : ℕ) (s x : StateOf M) (a : Activity M.Tag) (more : List (Activity M.Tag)) → enabled M s ≡ a ∷ more
          → (length x.tokens ≤ n → fire M' s (c s (first_pick ps) a more).tag ≡ fired x) → (n < length x.tokens → fire M' s (c s (first_pick ps) a more).tag ≡ not_fired M.ledger_full)
          → (length x.tokens ≤ n → RefusedBy M.ledger_full (run_by M' c b (later_picks ps) (suc f) x).outcome) → Dec (length x.tokens ≤ n)
          → RefusedBy M.ledger_full (run_by M' c (suc b) ps f s).outcome
      within b ps f s x a more e same over later (yes l) = rw (run_fired M' c b ps f s x a more e (same l)) (later l)
      within b ps f s x a more e same over later (no k) = rw (run_refused M' c b ps f s a more M.ledger_full e (over (omega arith))) refl

module _ (M : Machine) where
  pub enough_room : EnoughRoomOfMachine M
  enough_room c s b ps f q n l = (compared M n c b ps f s q).fits l

  unspent : (o : Outcome M.Refusal) → Quiescent o → ¬ (Spent o)
  unspent completed q h = h
  unspent hung q h = h
  unspent budget_spent q h = q
  unspent (refused r p) q h = h

  lawful : Lawful M → (n : ℕ) → Lawful (with_capacity M n)
  lawful law n = record { cells_below = law.cells_below; reads_for_some = law.reads_for_some }

  fitting : (s : StateOf M) → Good M s → (n : ℕ) → length s.tokens ≤ n → Good (with_capacity M n) s
  fitting s g n l = record { distinct = g.distinct; room = l; cell_count = g.cell_count }

  pub too_small : Lawful M → TooSmallOfMachine M
  too_small law c d lc ld s g b b' ps qs f q n l room h =
      let long = more_budget M c b (b + b') ps f s (omega arith) (unspent (run_by M c b ps f s).outcome q) in
      let all = (orders_by M law c d lc ld s g (b + b') ps qs f).alike (rw long q) in
      let count : tokens_used M (run_by M c b ps f s) ≡ tokens_used M (run_by M d (b + b') qs f s) = rw long at all.count in
      let never = never_spent_by (with_capacity M n) (lawful law n) d ld s (fitting s g n room) b' qs f h in
      rw (more_budget (with_capacity M n) d b' (b + b') qs f s (omega arith) never) at
      ((compared M n d (b + b') qs f s (subst Quiescent all.outcome (rw long q))).full (omega arith) room)
