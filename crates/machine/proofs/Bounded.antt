-- R-9: what is free is what is enabled and not held (`free_once`, `only_held`); a run with activities held back is a firing sequence, its log (`bounded_logged`); where
-- only held ones remain it hangs (`hangs_on_held`); one that completes, or hangs with none held, ends as every order does (`bounded_ends`), whatever is held; where
-- nothing is held it is a run without a bound (`unbounded`). Assumes nothing. What is said of two orders takes that the instruction set is lawful, and of the
-- state that it is well-formed.
use mathlib.Core.Path.{◌≡◌, refl, sym, ap, subst, ◌∙◌, fun_ext}
use mathlib.Core.List.Memᴰ
use mathlib.Core.List.{List, [], ◌∷◌, Memᴰ}
use mathlib.Core.Logic.{◌⊎◌, inl, inr, ◌↔◌}
use mathlib.Core.Option.{some}
use mathlib.Core.Bool.{Bool, true, false, cond}
use Prim.Native.Nat.{ℕ, zero, suc, ◌+◌, ◌≤◌, ◌<◌}
use native.Mathlib.Omega.{arith}
use native.Mathlib.Nat.{add-zero}
use lib.ListN.{length, get_or}
use Rattle.machine.specs.Machine.{Key, Content, live, Machine, Activity, fired, not_fired, Outcome, completed, hung, budget_spent, refused, on_list, when}
use Rattle.machine.specs.Machine.{Ledger, StateOf, FiredOf, EndOf, same_key, at, find, look, enabled, fire, Choice, end, ending, run_by}
use Rattle.machine.specs.Orders.{Lawful, Good, LawfulChoice, Completed, Hung, Refused, Quiescent, ProperContentAt, AllProper}
use Rattle.machine.specs.Sequences.{Fires, NothingEnabled, log_of, Logged}
use Rattle.machine.specs.Choosers.{Chosen, takes, ends, Chooser, run_from, log_from}
use Rattle.machine.specs.Bounded.{Held, without_held, free_of, by_free, settled, run_bounded, log_bounded, LeavesNoneHeldOfMachine}
use Rattle.machine.proofs.Lists.{no_member}
use Rattle.machine.proofs.View.{none_some, false_true, operand_live, operand_at}
use Rattle.machine.proofs.Enabled.{enabled_ready, enabled_in, enabled_once, InOrder}
use Rattle.machine.proofs.Sequences.{never_fired, no_longer, none_refused}
use Rattle.machine.proofs.Ending.{ending_cases}
use Rattle.machine.proofs.Runs.{along, one_tells_all, EveryOrder}
use Rattle.machine.proofs.Cut.{later_firings}
use Rattle.machine.proofs.Choosers.{from_ends, from_fired, from_refused, from_zero, log_fired, log_refused, log_zero, choosers_logged, picks_choose}

-- ---- the claims

module _ (M : Machine) where
  -- those of the enabled that are not held, in order of place
  pub record FreeOnce (held : Held M) (s : StateOf M) : Type 0 where
    pub exactly : (a : Activity M.Tag) → Memᴰ a (free_of M held s) ↔ Memᴰ a (enabled M s) × (held s a ≡ false)
    pub in_order : InOrder M 0 (free_of M held s)

  -- "only held ones remain"
  abbrev pub OnlyHeld : Type 0
  OnlyHeld = (held : Held M) (s : StateOf M) → free_of M held s ≡ [] ↔ ((a : Activity M.Tag) → Memᴰ a (enabled M s) → held s a ≡ true)

  -- where all tokens are proper nothing is enabled: so it is with a run that completes
  abbrev pub ProperRests : Type 0
  ProperRests = (x : StateOf M) → AllProper M x.tokens → NothingEnabled M x

  -- by its outcome: completed or hung, no activity is free, and all tokens are proper or not all are. "Spent: the budget's firings are done
  -- and one is still enabled", and free. Refused: a free activity is refused in the state that is left, and the place is its place
  abbrev pub SaysFree : Held M → Outcome M.Refusal → (budget n : ℕ) → StateOf M → Type 0
  SaysFree held completed budget n x = (free_of M held x ≡ []) × AllProper M x.tokens
  SaysFree held hung budget n x = (free_of M held x ≡ []) × ¬ (AllProper M x.tokens)
  SaysFree held budget_spent budget n x = (n ≡ budget) × (a : Activity M.Tag) × Memᴰ a (free_of M held x)
  SaysFree held (refused r place) budget n x = (n < budget) × (a : Activity M.Tag) × Memᴰ a (free_of M held x) × (a.place ≡ place) × (fire M x a.tag ≡ not_fired r)

  -- it is a firing sequence, its log
  pub record RanBounded (held : Held M) (s : StateOf M) (budget f : ℕ) (τs : List M.Tag) (e : EndOf M) : Type 0 where
    pub logged : Logged M s f τs e
    pub within : length τs ≤ budget
    pub says : SaysFree held e.outcome budget (length τs) e.state

  abbrev pub BoundedLogged : Type 0
  BoundedLogged = (held : Held M) (c : Choice M) → LawfulChoice M c → (budget : ℕ) (picks : List ℕ) (f : ℕ) (s : StateOf M)
      → RanBounded held s budget f (log_bounded M held c budget picks s) (run_bounded M held c budget picks f s)

  -- "If only held ones remain, the answer is hung, at a used-up budget too."
  abbrev pub HangsOnHeld : Type 0
  HangsOnHeld = (held : Held M) (c : Choice M) (budget : ℕ) (picks : List ℕ) (f : ℕ) (s : StateOf M) → free_of M held s ≡ [] → (a : Activity M.Tag) → Memᴰ a (enabled M s)
      → run_bounded M held c budget picks f s ≡ end M hung f s

  -- "or 0 for none": where nothing is held it is a run without a bound, and so is its log
  abbrev pub Unbounded : Type 0
  Unbounded = (held : Held M) → ((s : StateOf M) (a : Activity M.Tag) → held s a ≡ false) → (c : Choice M) (budget : ℕ) (picks : List ℕ) (f : ℕ) (s : StateOf M)
      → (run_bounded M held c budget picks f s ≡ run_by M c budget picks f s) × (log_bounded M held c budget picks s ≡ log_of M c budget picks s)

  -- "At any budget, a bounded run that completes, or hangs with no held activity left, must equal the end of every unbounded order at
  -- budget 2,048, as demand 3 compares them."
  abbrev pub BoundedEnds : Type 0
  BoundedEnds = (held : Held M) (c : Choice M) → LawfulChoice M c → (s : StateOf M) → Good M s → (budget : ℕ) (picks : List ℕ) (f : ℕ)
      → LeavesNoneHeldOfMachine M held (run_bounded M held c budget picks f s) → EveryOrder M s f M.capacity (run_bounded M held c budget picks f s)

  -- where some sequence ends with nothing enabled, a bounded run is never refused
  abbrev pub BoundedUnrefusedOfMachine : Type 0
  BoundedUnrefusedOfMachine = (held : Held M) (c : Choice M) → LawfulChoice M c → (s : StateOf M) → Good M s → (budget : ℕ) (picks : List ℕ) (f : ℕ)
      → (τs : List M.Tag) (x : StateOf M) → Fires M s τs x → NothingEnabled M x → ¬ (Refused (run_bounded M held c budget picks f s).outcome)

-- ---- the proofs

module _ (M : Machine) where
  -- ---- a list without what is held

  module _ (held : Activity M.Tag → Bool) where
    leaves : (l : List (Activity M.Tag)) (a : Activity M.Tag) → Memᴰ a (without_held M held l) → Memᴰ a l × (held a ≡ false)
    leaves [] a m = absurd (Memᴰ.not-nil m)
    leaves (b ∷ l) a m = go (held b) refl m (λ h. leaves l a h)
      where
        here : held b ≡ false → (a ≡ b) ⊎ Memᴰ a (without_held M held l) → (Memᴰ a (without_held M held l) → Memᴰ a l × (held a ≡ false)) → Memᴰ a (b ∷ l) × (held a ≡ false)
        here e (inl p) rec = (Memᴰ.head p, ap held p ∙ e)
        here e (inr h) rec = let (i, q) = rec h in (Memᴰ.tail i, q)

        go : (q : Bool) → held b ≡ q → Memᴰ a (cond q (without_held M held l) (b ∷ without_held M held l)) → (Memᴰ a (without_held M held l) → Memᴰ a l × (held a ≡ false)) → Memᴰ a (b ∷ l) × (held a ≡ false)
        go true e h rec = let (i, q) = rec h in (Memᴰ.tail i, q)
        go false e h rec = here e (Memᴰ.cases_cons h) rec

    stays : (l : List (Activity M.Tag)) (a : Activity M.Tag) → Memᴰ a l → held a ≡ false → Memᴰ a (without_held M held l)
    stays [] a m e = absurd (Memᴰ.not-nil m)
    stays (b ∷ l) a m e = go (held b) refl (Memᴰ.cases_cons m) (λ h. stays l a h e)
      where
        go : (q : Bool) → held b ≡ q → (a ≡ b) ⊎ Memᴰ a l → (Memᴰ a l → Memᴰ a (without_held M held l)) → Memᴰ a (cond q (without_held M held l) (b ∷ without_held M held l))
        go true h (inl p) rec = false_true (sym e ∙ ap held p ∙ h)
        go true h (inr i) rec = rec i
        go false h (inl p) rec = Memᴰ.head p
        go false h (inr i) rec = Memᴰ.tail (rec i)

    ordered : (m n : ℕ) (l : List (Activity M.Tag)) → m ≤ n → InOrder M n l → InOrder M m (without_held M held l)
    ordered m n [] h o = tt
    ordered m n (b ∷ l) h o = go (held b) (λ k i. ordered k (suc b.place) l i o.1)
      where
        go : (q : Bool) → ((k : ℕ) → k ≤ suc b.place → InOrder M k (without_held M held l)) → InOrder M m (cond q (without_held M held l) (b ∷ without_held M held l))
        go true rec = rec m (let z = o.0 in omega arith)
        go false rec = (let z = o.0 in omega arith, rec (suc b.place) (omega arith))

    none_of_lem : (l : List (Activity M.Tag)) → ((a : Activity M.Tag) → Memᴰ a l → held a ≡ true) → without_held M held l ≡ []
    none_of_lem [] h = refl
    none_of_lem (a ∷ l) h = rw (h a (Memᴰ.head refl)) (none_of_lem l (λ b m. h b (Memᴰ.tail m)))

    all_of : (l : List (Activity M.Tag)) → ((a : Activity M.Tag) → held a ≡ false) → without_held M held l ≡ l
    all_of [] h = refl
    all_of (a ∷ l) h = rw (h a) (ap (λ (k : List (Activity M.Tag)). a ∷ k) (all_of l h))

  pub free_once : (held : Held M) (s : StateOf M) → FreeOnce M held s
  free_once held s = record {
    exactly = λ a. (leaves (held s) (enabled M s) a, λ h. stays (held s) (enabled M s) a h.0 h.1);
    in_order = ordered (held s) 0 0 (enabled M s) (omega arith) (enabled_once M s).in_order;
  }

  pub only_held : OnlyHeld M
  only_held held s = (λ e a m. go a m (held s a) refl e, none_of_lem (held s) (enabled M s))
    where
      go : (a : Activity M.Tag) → Memᴰ a (enabled M s) → (q : Bool) → held s a ≡ q → free_of M held s ≡ [] → q ≡ true
      go a m true h e = refl
      go a m false h e = absurd (Memᴰ.not-nil (rw e at (stays (held s) (enabled M s) a m h)))

  none_held_left : (held : Held M) (s : StateOf M) → free_of M held s ≡ [] → ((a : Activity M.Tag) → Memᴰ a (enabled M s) → held s a ≡ false) → NothingEnabled M s
  none_held_left held s e h = no_member (enabled M s) (λ a m. false_true (sym (h a m) ∙ (only_held held s).0 e a m))

  -- ---- proper tokens

  -- a token that is found live and proper is a result
  proper_found : (k : Key M.Tag) (v : M.Value) (ts : Ledger M) → AllProper M ts → find M k ts ≡ some (live v) → M.arity k.tag ≡ 0
  proper_found k v [] h e = none_some e
  proper_found k v (t ∷ ts) (p, h) e = go (same_key M k t.key) (λ f. proper_found k v ts h f) e
    where
      here : (c : Content M.Value) → ProperContentAt M (M.arity t.key.tag) c → c ≡ live v → M.arity t.key.tag ≡ 0
      here c q f = subst (ProperContentAt M (M.arity t.key.tag)) f q

      go : (q : Dec (k ≡ t.key)) → (find M k ts ≡ some (live v) → M.arity k.tag ≡ 0) → when q (some t.content) (find M k ts) ≡ some (live v) → M.arity k.tag ≡ 0
      go (yes q) rest f = rw q (here t.content p (cc))
      go (no n) rest f = rest f

  not_proper : (x : StateOf M) (a : Activity M.Tag) → Memᴰ a (enabled M x) → ¬ (AllProper M x.tokens)
  not_proper x a m h =
      let (q, e) = enabled_ready M x a m in
      let n = (enabled_in M x a m).0 in
      let (v, f) = operand_live M (look M x) a.tag q (at M a.tag 0) e (operand_at M a.tag 0 n) in
      let z = proper_found (at M a.tag 0) v x.tokens h f in
      omega arith

  pub proper_rests : ProperRests M
  proper_rests x h = no_member (enabled M x) (λ a m. not_proper x a m h)

  -- ---- the run, a firing at a time: n firings of its own, and f before them

  module _ (held : Held M) (c : Choice M) (picks : List ℕ) where
    abbrev free : Chooser M
    free = by_free M held c picks

    abbrev chosen : (n : ℕ) → StateOf M → List (Activity M.Tag) → Chosen M.Refusal M.Tag
    chosen n s l = on_list l (ends (ending M s)) (λ a more. takes (c s (get_or picks n 0) a more))

    settles : (f n : ℕ) (s : StateOf M) (o : Outcome M.Refusal) → free_of M held s ≡ [] → settled M held f (end M o n s) ≡ end M (ending M s) (f + n) s
    settles f n s o e = rw e

    stands : (f n : ℕ) (s : StateOf M) (o : Outcome M.Refusal) (a : Activity M.Tag) (more : List (Activity M.Tag)) → free_of M held s ≡ a ∷ more → settled M held f (end M o n s) ≡ end M o (f + n) s
    stands f n s o a more e = rw e

    pub free_empty : (f b n : ℕ) (s : StateOf M) → free_of M held s ≡ [] → settled M held f (run_from M free b n s) ≡ end M (ending M s) (f + n) s
    free_empty f zero n s e = ap (settled M held f) (from_zero M free n s) ∙ go (enabled M s)
      where
        go : (l : List (Activity M.Tag)) → settled M held f (on_list l (end M (ending M s) n s) (λ a more. end M budget_spent n s)) ≡ end M (ending M s) (f + n) s
        go [] = settles f n s (ending M s) e
        go (a ∷ l) = settles f n s budget_spent e
    free_empty f (suc b) n s e = ap (settled M held f) (from_ends M free b n s (ending M s) (ap (chosen n s) e)) ∙ settles f n s (ending M s) e

    module _ (f n : ℕ) (s : StateOf M) (a : Activity M.Tag) (more : List (Activity M.Tag)) (e : free_of M held s ≡ a ∷ more) where
      pub free_zero : settled M held f (run_from M free 0 n s) ≡ end M budget_spent (f + n) s
      free_zero = ap (settled M held f) (from_zero M free n s) ∙ go (enabled M s) (leaves (held s) (enabled M s) a (rw e (Memᴰ.head refl))).0
        where
          go : (l : List (Activity M.Tag)) → Memᴰ a l → settled M held f (on_list l (end M (ending M s) n s) (λ a more. end M budget_spent n s)) ≡ end M budget_spent (f + n) s
          go [] m = absurd (Memᴰ.not-nil m)
          go (b ∷ l) m = stands f n s budget_spent a more e

      pub free_fired : (b : ℕ) (x : StateOf M) → fire M s (c s (get_or picks n 0) a more).tag ≡ fired x → settled M held f (run_from M free (suc b) n s) ≡ settled M held f (run_from M free b (suc n) x)
      free_fired b x h = ap (settled M held f) (from_fired M free b n s (c s (get_or picks n 0) a more) (ap (chosen n s) e) x h)

      pub free_refused : (b : ℕ) (r : M.Refusal) → fire M s (c s (get_or picks n 0) a more).tag ≡ not_fired r
          → settled M held f (run_from M free (suc b) n s) ≡ end M (refused r (c s (get_or picks n 0) a more).place) (f + n) s
      free_refused b r h =
          ap (settled M held f) (from_refused M free b n s (c s (get_or picks n 0) a more) (ap (chosen n s) e) r h)
          ∙ stands f n s (refused r (c s (get_or picks n 0) a more).place) a more e

    -- ---- how it ends

    abbrev Says : (b k : ℕ) → EndOf M → Type 0
    Says b k e = SaysFree M held e.outcome b k e.state

    says_later : (o : Outcome M.Refusal) (b k : ℕ) (x : StateOf M) → SaysFree M held o b k x → SaysFree M held o (suc b) (suc k) x
    says_later completed b k x h = h
    says_later hung b k x h = h
    says_later budget_spent b k x (e, a, m) = (ap suc e, a, m)
    says_later (refused r p) b k x (l, a, m, q, e) = (omega arith, a, m, q, e)

    ending_says : (b k n : ℕ) (s : StateOf M) → free_of M held s ≡ [] → Says b k (end M (ending M s) n s)
    ending_says b k n s e = ending_cases M s (λ o. SaysFree M held o b k s) (λ h. (e, h)) (λ h. (e, h))

    says : LawfulChoice M c → (f b n : ℕ) (s : StateOf M) → Says b (length (log_from M free b n s)) (settled M held f (run_from M free b n s))
    says ok f zero n s = go (free_of M held s) refl
      where
        go : (l : List (Activity M.Tag)) → free_of M held s ≡ l → Says 0 (length (log_from M free 0 n s)) (settled M held f (run_from M free 0 n s))
        go [] e = subst (Says 0 (length (log_from M free 0 n s))) (sym (free_empty f 0 n s e)) (ending_says 0 (length (log_from M free 0 n s)) (f + n) s e)
        go (a ∷ more) e = subst (Says 0 (length (log_from M free 0 n s))) (sym (free_zero f n s a more e)) (ap length (log_zero M free n s), a, rw e (Memᴰ.head refl))
    says ok f (suc b) n s = go (free_of M held s) refl (λ x. says ok f b (suc n) x)
      where
        Rest : Type 0
        Rest = (x : StateOf M) → Says b (length (log_from M free b (suc n) x)) (settled M held f (run_from M free b (suc n) x))

        Claim : EndOf M → Type 0
        Claim e = Says (suc b) (length (log_from M free (suc b) n s)) e

        by_firing : (a : Activity M.Tag) (more : List (Activity M.Tag)) → free_of M held s ≡ a ∷ more → (q : FiredOf M) → fire M s (c s (get_or picks n 0) a more).tag ≡ q → Rest → Claim (settled M held f (run_from M free (suc b) n s))
        by_firing a more e (not_fired r) h rest =
            subst Claim (sym (free_refused f n s a more e b r h))
            (rw (log_refused M free b n s (c s (get_or picks n 0) a more) (ap (chosen n s) e) r h) (omega arith, c s (get_or picks n 0) a more, rw e (ok s (get_or picks n 0) a more), refl, h))
        by_firing a more e (fired x) h rest =
            subst Claim (sym (free_fired f n s a more e b x h))
            (rw (log_fired M free b n s (c s (get_or picks n 0) a more) (ap (chosen n s) e) x h)
            (says_later (settled M held f (run_from M free b (suc n) x)).outcome b (length (log_from M free b (suc n) x)) (run_from M free b (suc n) x).state (rest x)))

        go : (l : List (Activity M.Tag)) → free_of M held s ≡ l → Rest → Claim (settled M held f (run_from M free (suc b) n s))
        go [] e rest = subst Claim (sym (free_empty f (suc b) n s e)) (ending_says (suc b) (length (log_from M free (suc b) n s)) (f + n) s e)
        go (a ∷ more) e rest = by_firing a more e (fire M s (c s (get_or picks n 0) a more).tag) refl rest

  pub bounded_logged : BoundedLogged M
  bounded_logged held c ok b ps f s =
      let (l, w) = choosers_logged M (by_free M held c ps) b 0 s in
      record { logged = record { fires = l.fires; firings = omega (arith, l.firings) }; within = w; says = says held c ps ok f b 0 s }

  pub hangs_on_held : HangsOnHeld M
  hangs_on_held held c b ps f s e a m =
      free_empty held c ps f b 0 s e
      ∙ ap (λ (k : ℕ). end M (ending M s) k s) (add-zero f)
      ∙ ap (λ (o : Outcome M.Refusal). end M o f s) (ending_cases M s (λ o. o ≡ hung) (λ h. absurd (not_proper s a m h)) (λ h. refl))

  -- ---- where nothing is held

  abbrev all_free : (StateOf M → List (Activity M.Tag)) → Choice M → List ℕ → Chooser M
  all_free l c ps n s = on_list (l s) (ends (ending M s)) (λ a more. takes (c s (get_or ps n 0) a more))

  abbrev rests_alike : (StateOf M → List (Activity M.Tag)) → EndOf M → Outcome M.Refusal
  rests_alike l e = on_list (l e.state) (ending M e.state) (λ a more. e.outcome)

  -- a run without a bound has the outcome of its rest already
  rests : (c : Choice M) (b : ℕ) (ps : List ℕ) (n : ℕ) (s : StateOf M) → rests_alike (enabled M) (run_by M c b ps n s) ≡ (run_by M c b ps n s).outcome
  rests c = along M c (λ b ps n s e. rests_alike (enabled M) e ≡ e.outcome) (record {
    rests = λ b ps n s e. rw e;
    stops = λ ps n s a more e. rw e;
    refuses = λ b ps n s a more r e h. rw e;
    fires = λ b ps n s x a more z e h k. k;
  })

  pub unbounded : Unbounded M
  unbounded held h c b ps f s =
      let all : free_of M held ≡ enabled M = fun_ext (λ x. all_of (held x) (enabled M x) (h x)) in
      let (run, log) = picks_choose M c ps b s in (
        ap (λ (l : StateOf M → List (Activity M.Tag)). let e = run_from M (all_free l c ps) b 0 s in end M (rests_alike l e) (f + e.firings) e.state) all
            ∙ ap (λ (e : EndOf M). end M (rests_alike (enabled M) e) (f + e.firings) e.state) (sym run)
            ∙ ap (λ (o : Outcome M.Refusal). end M o (f + (run_by M c b ps 0 s).firings) (run_by M c b ps 0 s).state) (rests c b ps 0 s)
            ∙ sym (later_firings M c f b ps s),
        ap (λ (l : StateOf M → List (Activity M.Tag)). log_from M (all_free l c ps) b 0 s) all ∙ sym log,
      )

  -- ---- as every order

  -- one that rests has the outcome of its state
  rested_free : (held : Held M) (o : Outcome M.Refusal) (b n : ℕ) (x : StateOf M) → Quiescent o → SaysFree M held o b n x → o ≡ ending M x
  rested_free held completed b n x q (e, h) = ending_cases M x (λ o. completed ≡ o) (λ k. refl) (λ k. absurd (k h))
  rested_free held hung b n x q (e, h) = ending_cases M x (λ o. hung ≡ o) (λ k. absurd (h k)) (λ k. refl)
  rested_free held budget_spent b n x q h = absurd q
  rested_free held (refused r p) b n x q h = absurd q

  module _ (law : Lawful M) where
    module _ (held : Held M) (c : Choice M) (ok : LawfulChoice M c) (s : StateOf M) (g : Good M s) (b : ℕ) (ps : List ℕ) (f : ℕ) where
      abbrev e : EndOf M
      e = run_bounded M held c b ps f s

      abbrev log : List M.Tag
      log = log_bounded M held c b ps s

      h : RanBounded M held s b f log e
      h = bounded_logged held c ok b ps f s

      -- where it ends with nothing enabled it tells how every order ends
      tells : NothingEnabled M e.state → e.outcome ≡ ending M e.state → EveryOrder M s f M.capacity e
      tells rest said d od n l qs =
          let z = no_longer M law s g log e.state h.logged.fires in
          one_tells_all M law s g f log e h.logged rest said d od n (omega (arith, z.0, z.1)) qs

      tells_by : (o : Outcome M.Refusal) → e.outcome ≡ o → SaysFree M held o b (length log) e.state
          → Completed o ⊎ (Hung o × ((a : Activity M.Tag) → Memᴰ a (enabled M e.state) → held e.state a ≡ false)) → EveryOrder M s f M.capacity e
      tells_by completed q t k = tells (proper_rests e.state t.1) (q ∙ rested_free held completed b (length log) e.state tt t)
      tells_by hung q t (inl k) = absurd k
      tells_by hung q t (inr k) = tells (none_held_left held e.state t.0 k.1) (q ∙ rested_free held hung b (length log) e.state tt t)
      tells_by budget_spent q t (inl k) = absurd k
      tells_by budget_spent q t (inr k) = absurd k.0
      tells_by (refused r n) q t (inl k) = absurd k
      tells_by (refused r n) q t (inr k) = absurd k.0

      unrefused : (τs : List M.Tag) (x : StateOf M) → Fires M s τs x → NothingEnabled M x
          → (o : Outcome M.Refusal) → SaysFree M held o b (length log) e.state → ¬ (Refused o)
      unrefused τs x p none completed t k = k
      unrefused τs x p none hung t k = k
      unrefused τs x p none budget_spent t k = k
      unrefused τs x p none (refused r n) (l, a, m, q, t) k =
          let (_, z, j) = none_refused M law s g τs log x e.state p none h.logged.fires a (leaves (held e.state) (enabled M e.state) a m).0 in
          never_fired M r z (sym t ∙ j)

    pub bounded_ends : BoundedEnds M
    bounded_ends held c ok s g b ps f k = tells_by held c ok s g b ps f (run_bounded M held c b ps f s).outcome refl (h held c ok s g b ps f).says k

    pub bounded_unrefused : BoundedUnrefusedOfMachine M
    bounded_unrefused held c ok s g b ps f τs x p none = unrefused held c ok s g b ps f τs x p none (run_bounded M held c b ps f s).outcome (h held c ok s g b ps f).says
