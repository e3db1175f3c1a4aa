-- Every run by a chooser is a firing sequence, its log (`choosers_logged`); runs by picks, replays and ideal steps are such runs (`picks_choose`, `names_choose`,
-- `step_by_places`). Assumes nothing. The last takes that the instruction set is lawful, and of the state that it is well-formed.
use mathlib.Core.Path.{◌≡◌, refl, sym, ap, ◌∙◌}
use mathlib.Core.List.Memᴰ
use mathlib.Core.List.{List, [], ◌∷◌, Memᴰ, map}
use mathlib.Core.Option.{Option, none, some}
use mathlib.Core.Logic.{◌⊎◌, inl, inr}
use mathlib.Core.Bool.{cond}
use Prim.Native.Nat.{ℕ, zero, suc, ◌+◌, ◌≤◌}
use native.Mathlib.Omega.{arith}
use native.Mathlib.Nat.{add-zero, add-suc}
use lib.Dec.{eqb}
use lib.ListN.{length, get_or, drop}
use borrow.Author.Tests.{eq-eqb, ne_eqb}
use Rattle.machine.specs.Machine.{Machine, Activity, fired, not_fired, Outcome, budget_spent, refused, on_list, on_option, first_pick, later_picks}
use Rattle.machine.specs.Machine.{StateOf, FiredOf, EndOf, enabled, fire, Choice, end, after, ending, run_by}
use Rattle.machine.specs.Orders.{Lawful, Good}
use Rattle.machine.specs.Sequences.{if_fired, Logged, log_of}
use Rattle.machine.specs.Steps.{ProfileOf, ends_here, fires_in_turn}
use Rattle.machine.specs.Replay.{named_in, replay}
use Rattle.machine.specs.Saved.{if_refused}
use Rattle.machine.specs.Choosers.{Chosen, takes, ends, on_chosen, Chooser, rests_at, run_from, log_from, by_pick, or_refused, by_name}
use Rattle.machine.proofs.Enabled.{enabled_once, InOrder}
use Rattle.machine.proofs.Ending.{ending_cases}
use Rattle.machine.proofs.Sequences.{firing}
use Rattle.machine.proofs.Steps.{Waiting, at_start, waits_on}

-- ---- the claims

module _ (M : Machine) where
  -- whatever chooses, the run is a firing sequence, its log
  abbrev pub ChoosersLogged : Type 0
  ChoosersLogged = (c : Chooser M) (budget f : ℕ) (s : StateOf M) → Logged M s f (log_from M c budget f s) (run_from M c budget f s) × (length (log_from M c budget f s) ≤ budget)

  abbrev pub PicksChoose : Type 0
  PicksChoose = (c : Choice M) (picks : List ℕ) (budget : ℕ) (s : StateOf M)
      → (run_by M c budget picks 0 s ≡ run_from M (by_pick M c picks) budget 0 s) × (log_of M c budget picks s ≡ log_from M (by_pick M c picks) budget 0 s)

  -- the activity at this place, among the enabled
  abbrev pub at_place : ℕ → List (Activity M.Tag) → Option (Activity M.Tag)
  at_place p [] = none
  at_place p (a ∷ more) = cond (eqb a.place p) (some a) (at_place p more)

  abbrev pub places_of : List (Activity M.Tag) → List ℕ
  places_of = map (λ a. a.place)

  module _ (not_enabled : M.Refusal) where
    abbrev pub by_place_lem : (places : List ℕ) → Chooser M
    by_place_lem places f s = or_refused M not_enabled f (at_place (get_or places f 0) (enabled M s))

    abbrev pub NamesChoose : Type 0
    NamesChoose = (names : List (Option M.Tag)) (s : StateOf M) → replay M not_enabled names 0 s ≡ run_from M (by_name M not_enabled names) (length names) 0 s

    -- an ideal step is the run by the places of what is enabled at its start
    abbrev pub ideal_step : StateOf M → EndOf M
    ideal_step s = run_from M (by_place_lem (places_of (enabled M s))) (length (enabled M s)) 0 s

    abbrev pub StepByPlaces : Type 0
    StepByPlaces = (s : StateOf M) → Good M s → (f : ℕ) (next : ℕ → StateOf M → ProfileOf M)
        → let e = ideal_step s in
        fires_in_turn M (enabled M s) f s next ≡ if_refused e.outcome (ends_here M (end M e.outcome (f + e.firings) e.state)) (next (f + e.firings) e.state)

-- ---- sources

first_drop : (k : ℕ) (xs : List ℕ) → first_pick (drop k xs) ≡ get_or xs k 0
first_drop zero [] = refl
first_drop zero (x ∷ xs) = refl
first_drop (suc k) [] = refl
first_drop (suc k) (x ∷ xs) = first_drop k xs

later_drop : (k : ℕ) (xs : List ℕ) → later_picks (drop k xs) ≡ drop (suc k) xs
later_drop zero [] = refl
later_drop zero (x ∷ xs) = refl
later_drop (suc k) [] = refl
later_drop (suc k) (x ∷ xs) = later_drop k xs

head_is : {A : Type 0} (k : ℕ) (xs : List A) (d x : A) (l : List A) → drop k xs ≡ x ∷ l → (get_or xs k d ≡ x) × (drop (suc k) xs ≡ l)
head_is zero [] d x l e = let z : ◌≡◌ {A = ℕ} 0 (suc (length l)) = ap length e in absurd (omega arith)
head_is zero (y ∷ xs) d x l e = (ap (λ m. get_or m 0 d) e, ap (drop 1) e)
head_is (suc k) [] d x l e = let z : ◌≡◌ {A = ℕ} 0 (suc (length l)) = ap length e in absurd (omega arith)
head_is (suc k) (y ∷ xs) d x l e = head_is k xs d x l e

module _ (M : Machine) where
  -- ---- a turn at a time

  module _ (c : Chooser M) (b f : ℕ) (s : StateOf M) where
    pub from_ends : (o : Outcome M.Refusal) → c f s ≡ ends o → run_from M c (suc b) f s ≡ end M o f s
    unfolding run_from
    from_ends o e = rw e

    pub log_ends : (o : Outcome M.Refusal) → c f s ≡ ends o → log_from M c (suc b) f s ≡ []
    unfolding log_from
    log_ends o e = rw e

    module _ (a : Activity M.Tag) (e : c f s ≡ takes a) where
      pub from_fired : (x : StateOf M) → fire M s a.tag ≡ fired x → run_from M c (suc b) f s ≡ run_from M c b (suc f) x
      unfolding run_from
      from_fired x h = rw (e, h)

      pub log_fired : (x : StateOf M) → fire M s a.tag ≡ fired x → log_from M c (suc b) f s ≡ a.tag ∷ log_from M c b (suc f) x
      unfolding log_from
      log_fired x h = rw (e, h)

      pub from_refused : (r : M.Refusal) → fire M s a.tag ≡ not_fired r → run_from M c (suc b) f s ≡ end M (refused r a.place) f s
      unfolding run_from
      from_refused r h = rw (e, h)

      pub log_refused : (r : M.Refusal) → fire M s a.tag ≡ not_fired r → log_from M c (suc b) f s ≡ []
      unfolding log_from
      log_refused r h = rw (e, h)

  pub from_zero : (c : Chooser M) (f : ℕ) (s : StateOf M) → run_from M c 0 f s ≡ rests_at M f s
  unfolding run_from
  from_zero c f s = refl

  pub log_zero : (c : Chooser M) (f : ℕ) (s : StateOf M) → log_from M c 0 f s ≡ []
  unfolding log_from
  log_zero c f s = refl

  -- ---- whatever chooses

  abbrev Sequence : ℕ → ℕ → StateOf M → List M.Tag → EndOf M → Type 0
  Sequence b f s τs e = Logged M s f τs e × (length τs ≤ b)

  stopped : (b f : ℕ) (s : StateOf M) (o : Outcome M.Refusal) → Sequence b f s [] (end M o f s)
  stopped b f s o = (record { fires = refl; firings = omega arith }, omega arith)

  pub choosers_logged : ChoosersLogged M
  choosers_logged c zero f s = rw (from_zero c f s, log_zero c f s) (go (enabled M s))
    where
      go : (l : List (Activity M.Tag)) → Sequence 0 f s [] (on_list l (end M (ending M s) f s) (λ a more. end M budget_spent f s))
      go [] = stopped 0 f s (ending M s)
      go (a ∷ l) = stopped 0 f s budget_spent
  choosers_logged c (suc b) f s = go (c f s) refl (λ x. choosers_logged c b (suc f) x)
    where
      Rest : Type 0
      Rest = (x : StateOf M) → Sequence b (suc f) x (log_from M c b (suc f) x) (run_from M c b (suc f) x)

      by_firing : (a : Activity M.Tag) → c f s ≡ takes a → (q : FiredOf M) → fire M s a.tag ≡ q → Rest → Sequence (suc b) f s (log_from M c (suc b) f s) (run_from M c (suc b) f s)
      by_firing a e (not_fired r) h rest = rw (from_refused c b f s a e r h, log_refused c b f s a e r h) (stopped (suc b) f s (refused r a.place))
      by_firing a e (fired x) h rest =
          let (l, w) = rest x in
          rw (from_fired c b f s a e x h, log_fired c b f s a e x h) (record { fires = (x, h, l.fires); firings = omega (arith, l.firings) }, omega (arith, w))

      go : (q : Chosen M.Refusal M.Tag) → c f s ≡ q → Rest → Sequence (suc b) f s (log_from M c (suc b) f s) (run_from M c (suc b) f s)
      go (ends o) e rest = rw (from_ends c b f s o e, log_ends c b f s o e) (stopped (suc b) f s o)
      go (takes a) e rest = by_firing a e (fire M s a.tag) refl rest

  -- ---- picks

  picks_run : (c : Choice M) (picks : List ℕ) (b f : ℕ) (s : StateOf M) → run_by M c b (drop f picks) f s ≡ run_from M (by_pick M c picks) b f s
  unfolding run_by run_from
  picks_run c picks zero f s = refl
  picks_run c picks (suc b) f s = rw (first_drop f picks, later_drop f picks) (go (enabled M s) (λ x. picks_run c picks b (suc f) x))
    where
      Rest : Type 0
      Rest = (x : StateOf M) → run_by M c b (drop (suc f) picks) (suc f) x ≡ run_from M (by_pick M c picks) b (suc f) x

      by_firing : (a : Activity M.Tag) (q : FiredOf M) → Rest
          → after M f s a q (λ x. run_by M c b (drop (suc f) picks) (suc f) x) ≡ after M f s a q (λ x. run_from M (by_pick M c picks) b (suc f) x)
      by_firing a (fired x) rest = rest x
      by_firing a (not_fired r) rest = refl

      go : (l : List (Activity M.Tag)) → Rest
          → on_list l (end M (ending M s) f s) (λ a more. let d = c s (get_or picks f 0) a more in after M f s d (fire M s d.tag) (λ x. run_by M c b (drop (suc f) picks) (suc f) x))
          ≡ on_chosen (on_list l (ends (ending M s)) (λ a more. takes (c s (get_or picks f 0) a more))) (λ o. end M o f s) (λ d. after M f s d (fire M s d.tag) (λ x. run_from M (by_pick M c picks) b (suc f) x))
      go [] rest = refl
      go (a ∷ more) rest = by_firing (c s (get_or picks f 0) a more) (fire M s (c s (get_or picks f 0) a more).tag) rest

  picks_log : (c : Choice M) (picks : List ℕ) (b f : ℕ) (s : StateOf M) → log_of M c b (drop f picks) s ≡ log_from M (by_pick M c picks) b f s
  unfolding log_of log_from
  picks_log c picks zero f s = refl
  picks_log c picks (suc b) f s = rw (first_drop f picks, later_drop f picks) (go (enabled M s) (λ x. picks_log c picks b (suc f) x))
    where
      Rest : Type 0
      Rest = (x : StateOf M) → log_of M c b (drop (suc f) picks) x ≡ log_from M (by_pick M c picks) b (suc f) x

      by_firing : (a : Activity M.Tag) (q : FiredOf M) → Rest
          → if_fired q (λ x. a.tag ∷ log_of M c b (drop (suc f) picks) x) [] ≡ if_fired q (λ x. a.tag ∷ log_from M (by_pick M c picks) b (suc f) x) []
      by_firing a (fired x) rest = ap (λ (l : List M.Tag). a.tag ∷ l) (rest x)
      by_firing a (not_fired r) rest = refl

      go : (l : List (Activity M.Tag)) → Rest
          → on_list l [] (λ a more. let d = c s (get_or picks f 0) a more in if_fired (fire M s d.tag) (λ x. d.tag ∷ log_of M c b (drop (suc f) picks) x) [])
          ≡ on_chosen (on_list l (ends (ending M s)) (λ a more. takes (c s (get_or picks f 0) a more))) (λ o. []) (λ d. if_fired (fire M s d.tag) (λ x. d.tag ∷ log_from M (by_pick M c picks) b (suc f) x) [])
      go [] rest = refl
      go (a ∷ more) rest = by_firing (c s (get_or picks f 0) a more) (fire M s (c s (get_or picks f 0) a more).tag) rest

  pub picks_choose : PicksChoose M
  picks_choose c picks b s = (picks_run c picks b 0 s, picks_log c picks b 0 s)

  module _ (not_enabled : M.Refusal) where
    -- ---- names

    names_run : (names : List (Option M.Tag)) (k f : ℕ) → length (drop f names) ≡ k → (s : StateOf M) → replay M not_enabled (drop f names) f s ≡ run_from M (by_name M not_enabled names) k f s
    unfolding replay run_from
    names_run names zero f e s = go (drop f names) e
      where
        go : (l : List (Option M.Tag)) → length l ≡ 0 → replay M not_enabled l f s ≡ rests_at M f s
        go [] h = refl
        go (n ∷ l) h = absurd (omega arith)
    names_run names (suc k) f e s = go (drop f names) refl e (λ h x. names_run names k (suc f) h x)
      where
        Rest : Type 0
        Rest = length (drop (suc f) names) ≡ k → (x : StateOf M) → replay M not_enabled (drop (suc f) names) (suc f) x ≡ run_from M (by_name M not_enabled names) k (suc f) x

        by_firing : (l : List (Option M.Tag)) → ((x : StateOf M) → replay M not_enabled l (suc f) x ≡ run_from M (by_name M not_enabled names) k (suc f) x) → (a : Activity M.Tag) (q : FiredOf M)
            → after M f s a q (λ x. replay M not_enabled l (suc f) x) ≡ after M f s a q (λ x. run_from M (by_name M not_enabled names) k (suc f) x)
        by_firing l rest a (fired x) = rest x
        by_firing l rest a (not_fired r) = refl

        found : (l : List (Option M.Tag)) → ((x : StateOf M) → replay M not_enabled l (suc f) x ≡ run_from M (by_name M not_enabled names) k (suc f) x) → (q : Option (Activity M.Tag))
            → on_option q (end M (refused not_enabled f) f s) (λ a. after M f s a (fire M s a.tag) (λ x. replay M not_enabled l (suc f) x))
            ≡ on_chosen (or_refused M not_enabled f q) (λ o. end M o f s) (λ a. after M f s a (fire M s a.tag) (λ x. run_from M (by_name M not_enabled names) k (suc f) x))
        found l rest none = refl
        found l rest (some a) = by_firing l rest a (fire M s a.tag)

        go : (l : List (Option M.Tag)) → drop f names ≡ l → length l ≡ suc k → Rest → replay M not_enabled l f s ≡ run_from M (by_name M not_enabled names) (suc k) f s
        go [] d h rest = absurd (omega arith)
        go (n ∷ l) d h rest =
            let (at, later) = head_is f names none n l d in
            rw at (found l (λ x. rw (later) at (rest (ap length later ∙ omega arith) x)) (named_in M n (enabled M s)))

    pub names_choose : NamesChoose M not_enabled
    names_choose names s = names_run names (length names) 0 refl s

    -- ---- places

    -- an activity among the enabled is the one at its place
    found_at : (n : ℕ) (l : List (Activity M.Tag)) (a : Activity M.Tag) → InOrder M n l → Memᴰ a l → (n ≤ a.place) × (at_place M a.place l ≡ some a)
    found_at n [] a o m = absurd (Memᴰ.not-nil m)
    found_at n (b ∷ l) a o m = go (Memᴰ.cases_cons m) (λ h. found_at (suc b.place) l a o.1 h)
      where
        go : (a ≡ b) ⊎ Memᴰ a l → (Memᴰ a l → (suc b.place ≤ a.place) × (at_place M a.place l ≡ some a)) → (n ≤ a.place) × (at_place M a.place (b ∷ l) ≡ some a)
        go (inl e) rec = (rw e o.0, rw (eq-eqb b.place a.place (ap (λ (x : Activity M.Tag). x.place) (sym e))) (ap some (sym e)))
        go (inr h) rec = let (low, at) = rec h in (omega (arith, o.0), rw (ne_eqb b.place a.place (λ e. omega arith)) at)

    abbrev Stepped : (f : ℕ) (next : ℕ → StateOf M → ProfileOf M) (e : EndOf M) → ProfileOf M
    Stepped f next e = if_refused e.outcome (ends_here M (end M e.outcome (f + e.firings) e.state)) (next (f + e.firings) e.state)

    steps_rest : (f g : ℕ) (s : StateOf M) (next : ℕ → StateOf M → ProfileOf M) → next (f + g) s ≡ Stepped f next (rests_at M g s)
    steps_rest f g s next = go (enabled M s)
      where
        go : (l : List (Activity M.Tag)) → next (f + g) s ≡ Stepped f next (on_list l (end M (ending M s) g s) (λ a more. end M budget_spent g s))
        go [] = ending_cases M s (λ o. next (f + g) s ≡ Stepped f next (end M o g s)) (λ h. refl) (λ h. refl)
        go (a ∷ l) = refl

    module _ (law : Lawful M) (places : List ℕ) (f : ℕ) (next : ℕ → StateOf M → ProfileOf M) where
      steps : (l : List (Activity M.Tag)) (g : ℕ) (s : StateOf M) → drop g places ≡ places_of M l → Good M s → Waiting M l s
          → fires_in_turn M l (f + g) s next ≡ Stepped f next (run_from M (by_place_lem M not_enabled places) (length l) g s)
      steps [] g s d good w = rw (from_zero (by_place_lem M not_enabled places) g s) (steps_rest f g s next)
      steps (a ∷ l) g s d good w = go (fire M s a.tag) refl (λ x h. steps l (suc g) x here.1 (firing M law s x a.tag good h).good (waits_on M law a l s x good w h))
        where
          c : Chooser M
          c = by_place_lem M not_enabled places

          here : (get_or places g 0 ≡ a.place) × (drop (suc g) places ≡ places_of M l)
          here = head_is g places 0 a.place (places_of M l) d

          taken : c g s ≡ takes a
          taken = ap (λ (p : ℕ). or_refused M not_enabled g (at_place M p (enabled M s))) here.0 ∙ ap (or_refused M not_enabled g) (found_at 0 (enabled M s) a (enabled_once M s).in_order (w.enabled_now a (Memᴰ.head refl))).1

          go : (q : FiredOf M) → fire M s a.tag ≡ q → ((x : StateOf M) → fire M s a.tag ≡ fired x → fires_in_turn M l (f + suc g) x next ≡ Stepped f next (run_from M c (length l) (suc g) x))
              → fires_in_turn M (a ∷ l) (f + g) s next ≡ Stepped f next (run_from M c (suc (length l)) g s)
          go (fired x) h rest = rw (from_fired c (length l) g s a taken x h) (rw h (rw (add-suc f g) at (rest x h)))
          go (not_fired r) h rest = rw (from_refused c (length l) g s a taken r h) (rw h refl)

    pub step_by_places : Lawful M → StepByPlaces M not_enabled
    step_by_places law s good f next = rw (add-zero f) at (steps law (places_of M (enabled M s)) f next (enabled M s) 0 s refl good (at_start M s))
