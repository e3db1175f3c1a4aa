-- One induction over runs (`along`), and the first that comes of it: every run is a firing sequence, its log (`ran`). So one sequence to any
-- end tells how every order ends (`one_tells_all`). Assumes nothing. The latter takes that the instruction set is lawful,
-- and of the state that it is well-formed.
use mathlib.Core.Path.{◌≡◌, refl, sym, ap, ◌∙◌}
use mathlib.Core.List.{List, [], ◌∷◌, Memᴰ}
use Prim.Native.Nat.{ℕ, zero, suc, ◌≤◌, ◌<◌}
use native.Mathlib.Omega.{arith}
use lib.ListN.{length}
use Rattle.machine.specs.Machine.{Machine, Activity, fired, not_fired, Outcome, completed, hung, budget_spent, refused, first_pick, later_picks}
use Rattle.machine.specs.Machine.{StateOf, FiredOf, EndOf, enabled, fire, Choice, end, ending, run_by}
use Rattle.machine.specs.Orders.{Lawful, Good, Says, AlikeEnds, LawfulChoice}
use Rattle.machine.specs.Sequences.{NothingEnabled, log_of, Logged, RanBy, RunsLogged}
use Rattle.machine.proofs.Lists.{perm_length}
use Rattle.machine.proofs.Sequences.{never_fired, sequences, none_refused}
use Rattle.machine.proofs.Ending.{ending_says_lem, rested, ending_perm}

-- ---- the claims

module _ (M : Machine) where
  -- e is how every run ends that has the budget for it, with whatever choice and picks
  abbrev pub EveryOrder : StateOf M → (f enough : ℕ) → EndOf M → Type 0
  EveryOrder s f enough e = (c : Choice M) → LawfulChoice M c → (budget : ℕ) → enough ≤ budget → (picks : List ℕ)
      → AlikeEnds e (run_by M c budget picks f s)

  -- so one sequence to any end tells how every order ends: completed or hung, as its state says
  abbrev pub OneTellsAll : Type 0
  OneTellsAll = (s : StateOf M) → Good M s → (f : ℕ) (τs : List M.Tag) (e : EndOf M) → Logged M s f τs e → NothingEnabled M e.state
      → e.outcome ≡ ending M e.state → EveryOrder s f (length τs) e

-- ---- the proofs

module _ (M : Machine) where
  -- ---- a run, a firing at a time

  pub run_empty : (c : Choice M) (b : ℕ) (ps : List ℕ) (n : ℕ) (s : StateOf M) → enabled M s ≡ [] → run_by M c b ps n s ≡ end M (ending M s) n s
  unfolding run_by
  run_empty c zero ps n s e = rw e
  run_empty c (suc b) ps n s e = rw e

  pub run_zero : (c : Choice M) (ps : List ℕ) (n : ℕ) (s : StateOf M) (a : Activity M.Tag) (more : List (Activity M.Tag)) → enabled M s ≡ a ∷ more → run_by M c zero ps n s ≡ end M budget_spent n s
  unfolding run_by
  run_zero c ps n s a more e = rw e

  pub run_fired : (c : Choice M) (b : ℕ) (ps : List ℕ) (n : ℕ) (s x : StateOf M) (a : Activity M.Tag) (more : List (Activity M.Tag)) → enabled M s ≡ a ∷ more
      → fire M s (c s (first_pick ps) a more).tag ≡ fired x → run_by M c (suc b) ps n s ≡ run_by M c b (later_picks ps) (suc n) x
  unfolding run_by
  run_fired c b ps n s x a more e f = rw (e, f)

  pub run_refused : (c : Choice M) (b : ℕ) (ps : List ℕ) (n : ℕ) (s : StateOf M) (a : Activity M.Tag) (more : List (Activity M.Tag)) (r : M.Refusal) → enabled M s ≡ a ∷ more
      → fire M s (c s (first_pick ps) a more).tag ≡ not_fired r → run_by M c (suc b) ps n s ≡ end M (refused r (c s (first_pick ps) a more).place) n s
  unfolding run_by
  run_refused c b ps n s a more r e f = rw (e, f)

  -- what holds of a run that does no firing, and of a run if it holds of what follows its first firing, holds of every run. A claim is about the budget, the
  -- picks, the firings before, the state and the end
  pub record Along (c : Choice M) (P : ℕ → List ℕ → ℕ → StateOf M → EndOf M → Type 0) : Type 0 where
    pub rests : (b : ℕ) (ps : List ℕ) (n : ℕ) (s : StateOf M) → enabled M s ≡ [] → P b ps n s (end M (ending M s) n s)
    pub stops : (ps : List ℕ) (n : ℕ) (s : StateOf M) (a : Activity M.Tag) (more : List (Activity M.Tag)) → enabled M s ≡ a ∷ more → P 0 ps n s (end M budget_spent n s)
    pub refuses : (b : ℕ) (ps : List ℕ) (n : ℕ) (s : StateOf M) (a : Activity M.Tag) (more : List (Activity M.Tag)) (r : M.Refusal) → enabled M s ≡ a ∷ more
        → fire M s (c s (first_pick ps) a more).tag ≡ not_fired r → P (suc b) ps n s (end M (refused r (c s (first_pick ps) a more).place) n s)
    pub fires : (b : ℕ) (ps : List ℕ) (n : ℕ) (s x : StateOf M) (a : Activity M.Tag) (more : List (Activity M.Tag)) (e : EndOf M) → enabled M s ≡ a ∷ more
        → fire M s (c s (first_pick ps) a more).tag ≡ fired x → P b (later_picks ps) (suc n) x e → P (suc b) ps n s e

  pub along : (c : Choice M) (P : ℕ → List ℕ → ℕ → StateOf M → EndOf M → Type 0) → Along c P → (b : ℕ) (ps : List ℕ) (n : ℕ) (s : StateOf M) → P b ps n s (run_by M c b ps n s)
  along c P h zero ps n s = go (enabled M s) refl
    where
      go : (l : List (Activity M.Tag)) → enabled M s ≡ l → P 0 ps n s (run_by M c zero ps n s)
      go [] e = rw (run_empty c zero ps n s e) (h.rests 0 ps n s e)
      go (a ∷ more) e = rw (run_zero c ps n s a more e) (h.stops ps n s a more e)
  along c P h (suc b) ps n s = go (enabled M s) refl (λ x. along c P h b (later_picks ps) (suc n) x)
    where
      by_firing : (a : Activity M.Tag) (more : List (Activity M.Tag)) → enabled M s ≡ a ∷ more → (y : FiredOf M) → fire M s (c s (first_pick ps) a more).tag ≡ y
          → ((x : StateOf M) → P b (later_picks ps) (suc n) x (run_by M c b (later_picks ps) (suc n) x)) → P (suc b) ps n s (run_by M c (suc b) ps n s)
      by_firing a more e (not_fired r) f later = rw (run_refused c b ps n s a more r e f) (h.refuses b ps n s a more r e f)
      by_firing a more e (fired x) f later = rw (run_fired c b ps n s x a more e f) (h.fires b ps n s x a more (run_by M c b (later_picks ps) (suc n) x) e f (later x))

      go : (l : List (Activity M.Tag)) → enabled M s ≡ l → ((x : StateOf M) → P b (later_picks ps) (suc n) x (run_by M c b (later_picks ps) (suc n) x)) → P (suc b) ps n s (run_by M c (suc b) ps n s)
      go [] e later = rw (run_empty c (suc b) ps n s e) (h.rests (suc b) ps n s e)
      go (a ∷ more) e later = by_firing a more e (fire M s (c s (first_pick ps) a more).tag) refl later

  -- ---- a run and its log

  pub log_empty : (c : Choice M) (b : ℕ) (ps : List ℕ) (s : StateOf M) → enabled M s ≡ [] → log_of M c b ps s ≡ []
  unfolding log_of
  log_empty c zero ps s e = refl
  log_empty c (suc b) ps s e = rw e

  pub log_zero : (c : Choice M) (ps : List ℕ) (s : StateOf M) → log_of M c zero ps s ≡ []
  unfolding log_of
  log_zero c ps s = refl

  pub log_fired : (c : Choice M) (b : ℕ) (ps : List ℕ) (s x : StateOf M) (a : Activity M.Tag) (more : List (Activity M.Tag)) → enabled M s ≡ a ∷ more
      → fire M s (c s (first_pick ps) a more).tag ≡ fired x → log_of M c (suc b) ps s ≡ (c s (first_pick ps) a more).tag ∷ log_of M c b (later_picks ps) x
  unfolding log_of
  log_fired c b ps s x a more e f = rw (e, f)

  pub log_refused : (c : Choice M) (b : ℕ) (ps : List ℕ) (s : StateOf M) (a : Activity M.Tag) (more : List (Activity M.Tag)) (r : M.Refusal) → enabled M s ≡ a ∷ more
      → fire M s (c s (first_pick ps) a more).tag ≡ not_fired r → log_of M c (suc b) ps s ≡ []
  unfolding log_of
  log_refused c b ps s a more r e f = rw (e, f)

  stops_at : (s : StateOf M) (b f : ℕ) (o : Outcome M.Refusal) → Says M o b 0 s → RanBy M s b f [] (end M o f s)
  stops_at s b f o h = record { logged = record { fires = refl; firings = omega arith }; within = omega arith; says = h }

  says_later : (o : Outcome M.Refusal) (b n : ℕ) (x : StateOf M) → Says M o b n x → Says M o (suc b) (suc n) x
  says_later completed b n x h = h
  says_later hung b n x h = h
  says_later budget_spent b n x (e, a, m) = (ap suc e, a, m)
  says_later (refused r p) b n x (l, a, m, q, e) = (omega arith, a, m, q, e)

  goes_on : (s x : StateOf M) (b f : ℕ) (τ : M.Tag) (τs : List M.Tag) (e : EndOf M) → fire M s τ ≡ fired x → RanBy M x b (suc f) τs e → RanBy M s (suc b) f (τ ∷ τs) e
  goes_on s x b f τ τs e q h = record {
    logged = record { fires = (x, q, h.logged.fires); firings = let z = h.logged.firings in omega arith };
    within = let z = h.within in omega arith;
    says = says_later e.outcome b (length τs) e.state h.says;
  }

  pub ran : RunsLogged M
  ran c ok = along c (λ b ps f s e. RanBy M s b f (log_of M c b ps s) e) (record {
    rests = λ b ps f s e. rw (log_empty c b ps s e) (stops_at s b f (ending M s) (ending_says_lem M s b 0 e));
    stops = λ ps f s a more e. rw (log_zero c ps s) (stops_at s 0 f budget_spent (refl, a, rw e (Memᴰ.head refl)));
    refuses = λ b ps f s a more r e h. rw (log_refused c b ps s a more r e h)
        (stops_at s (suc b) f (refused r (c s (first_pick ps) a more).place) (omega arith, c s (first_pick ps) a more, rw e (ok s (first_pick ps) a more), refl, h));
    fires = λ b ps f s x a more z e h rest. rw (log_fired c b ps s x a more e h) (goes_on s x b f (c s (first_pick ps) a more).tag (log_of M c b (later_picks ps) x) z h rest);
  })

  -- ---- every order

  module _ (law : Lawful M) (s : StateOf M) (good : Good M s) (f : ℕ) (τs : List M.Tag) (e : EndOf M) (log : Logged M s f τs e) (rest : NothingEnabled M e.state) (said : e.outcome ≡ ending M e.state) where
    -- a run with the budget for it ends with nothing enabled
    comes_to_rest : (b : ℕ) (υs : List M.Tag) (o : Outcome M.Refusal) (n : ℕ) (x : StateOf M) → length τs ≤ b → RanBy M s b f υs (end M o n x) → NothingEnabled M x × (o ≡ ending M x)
    comes_to_rest b υs o n x l h = go o h.says
      where
        none : (a : Activity M.Tag) → Memᴰ a (enabled M x) → (length υs < length τs) × (z : StateOf M) × (fire M x a.tag ≡ fired z)
        none = none_refused M law s good τs υs e.state x log.fires rest h.logged.fires

        go : (o : Outcome M.Refusal) → Says M o b (length υs) x → NothingEnabled M x × (o ≡ ending M x)
        go completed p = rested M completed b (length υs) x tt p
        go hung p = rested M hung b (length υs) x tt p
        go budget_spent (p, a, m) = let i = (none a m).0 in absurd (omega arith)
        go (refused r q) (k, a, m, p, t) = let (i, z, j) = none a m in never_fired M r z (sym t ∙ j)

    every_order : EveryOrder M s f (length τs) e
    every_order c ok b l ps =
        let h = ran c ok b ps f s in
        let g = run_by M c b ps f s in
        let (p, q) = comes_to_rest b (log_of M c b ps s) g.outcome g.firings g.state l h in
        let a = sequences M law s good τs (log_of M c b ps s) e.state g.state log.fires rest h.logged.fires p in
        record {
          outcome = said ∙ ending_perm M e.state g.state a.alike.tokens ∙ sym q;
          firings = omega (arith, log.firings, h.logged.firings, perm_length a.same);
          count = a.alike.count;
          cells = a.alike.cells;
          tokens = a.alike.tokens;
        }

  pub one_tells_all : Lawful M → OneTellsAll M
  one_tells_all law s good f τs e log rest said = every_order law s good f τs e log rest said
