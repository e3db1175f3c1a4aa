-- R-1: each activity of an ideal step is still enabled when its turn comes (`still_enabled`); a run by such steps is a firing sequence, whose
-- records tell its firings (`every_profile`); so it ends as every order does (`profile_ends`, `steps_end_too`), within as many steps as
-- the capacity (`steps_within`). Assumes nothing. Takes that the instruction set is lawful, and of the state that it is well-formed.
use mathlib.Core.Path.{◌≡◌, refl, sym, ap, subst, ◌∙◌}
use mathlib.Core.List.Memᴰ
use mathlib.Core.List.{List, [], ◌∷◌, ◌++◌, Memᴰ, map}
use mathlib.Core.Logic.{◌⊎◌, inl, inr}
use Prim.Native.Nat.{ℕ, zero, suc, ◌+◌, ◌≤◌, ◌<◌, ◌-◌}
use native.Mathlib.Omega.{arith}
use lib.ListN.{length, length-append, length-map}
use Rattle.machine.specs.Machine.{Machine, Activity, fired, not_fired, Outcome, refused, on_list}
use Rattle.machine.specs.Machine.{StateOf, FiredOf, place_of, enabled, fire, end, ending}
use Rattle.machine.specs.Orders.{Lawful, Good, Refused}
use Rattle.machine.specs.Sequences.{Once, Fires, NothingEnabled, Logged}
use Rattle.machine.specs.Steps.{StepRecord, firings_in, EachFires, ProfileOf, unspent_in, ends_here, after_step, fires_in_turn}
use Rattle.machine.specs.Steps.{profile}
use Rattle.machine.proofs.Enabled.{enabled_in, enabled_once, InOrder}
use Rattle.machine.proofs.Sequences.{never_fired, joined, firing, stays_enabled, fires_good, no_longer, none_refused}
use Rattle.machine.proofs.Runs.{one_tells_all, EveryOrder}

-- ---- the claims

module _ (M : Machine) where
  -- a firing removes one unspent token per operand and adds one per output
  abbrev pub UnspentAfter : Type 0
  UnspentAfter = (s : StateOf M) → Good M s → (τ : M.Tag) (x : StateOf M) → fire M s τ ≡ fired x
      → (length s.tokens ≤ length x.tokens) × (unspent_in M x.tokens + M.arity τ ≡ unspent_in M s.tokens + (length x.tokens - length s.tokens))

  abbrev pub activity_tags : List (Activity M.Tag) → List M.Tag
  activity_tags = map (λ a. a.tag)

  -- each of them is still enabled, at its place, when its turn comes
  abbrev pub StillEnabled : Type 0
  StillEnabled = (s : StateOf M) → Good M s → (before : List (Activity M.Tag)) (a : Activity M.Tag) (more : List (Activity M.Tag)) (x : StateOf M)
      → enabled M s ≡ before ++ (a ∷ more) → Fires M s (activity_tags before) x → Memᴰ a (enabled M x)

  module _ (profile_full : M.Refusal) where
    -- why it stops in the state x; n of the records are used, and `cut` firings of a step that is not whole are done
    pub data ProfileStopped (left n cut : ℕ) (x : StateOf M) (o : Outcome M.Refusal) : Type 0 where
      none_left_lem : NothingEnabled M x → cut ≡ 0 → o ≡ ending M x → ProfileStopped left n cut x o
      full : n ≡ left → (a : Activity M.Tag) → Memᴰ a (enabled M x) → cut ≡ 0 → o ≡ refused profile_full 0 → ProfileStopped left n cut x o
      one_refused : (a : Activity M.Tag) → Memᴰ a (enabled M x) → (r : M.Refusal) → fire M x a.tag ≡ not_fired r → o ≡ refused r a.place → ProfileStopped left n cut x o

    pub record Profiled (s : StateOf M) (left f : ℕ) (p : ProfileOf M) : Type 0 where
      -- it is a firing sequence
      pub log : List M.Tag
      pub logged : Logged M s f log p.ended
      -- the records tell its firings, apart from those of a step that a refusal cut
      pub cut : ℕ
      pub counted : length log ≡ firings_in p.records + cut
      -- and each step has one at least
      pub each_fires : EachFires p.records
      pub within : length p.records ≤ left
      pub stopped : ProfileStopped left (length p.records) cut p.ended.state p.ended.outcome

    abbrev pub EveryProfile : Type 0
    EveryProfile = (s : StateOf M) → Good M s → (left f : ℕ) → Profiled s left f (profile M profile_full left f s)

    -- so there are no more steps than the ledger has room for tokens
    abbrev pub StepsWithin : Type 0
    StepsWithin = (s : StateOf M) → Good M s → (left f : ℕ) → length (profile M profile_full left f s).records ≤ M.capacity

    -- "if it isn't refused, its end must equal every order's as demand 3 compares them"
    pub record Unrefused (s : StateOf M) (f : ℕ) (p : ProfileOf M) : Type 0 where
      pub rested : NothingEnabled M p.ended.state
      pub outcome : p.ended.outcome ≡ ending M p.ended.state
      pub firings : p.ended.firings ≡ f + firings_in p.records
      pub ends : EveryOrder M s f M.capacity p.ended

    abbrev pub ProfileEnds : Type 0
    ProfileEnds = (s : StateOf M) → Good M s → (left f : ℕ) → ¬ (Refused (profile M profile_full left f s).ended.outcome) → Unrefused s f (profile M profile_full left f s)

    -- and where some sequence ends, the steps do, if there are as many records as it has firings
    abbrev pub StepsEndToo : Type 0
    StepsEndToo = (s : StateOf M) → Good M s → (τs : List M.Tag) (x : StateOf M) → Fires M s τs x → NothingEnabled M x → (left f : ℕ) → length τs ≤ left
        → NothingEnabled M (profile M profile_full left f s).ended.state

-- ---- the proofs

module _ (M : Machine) where
  -- ---- no two enabled activities have one tag

  tag_in : (τ : M.Tag) (l : List (Activity M.Tag)) → Memᴰ τ (activity_tags M l) → (a : Activity M.Tag) × Memᴰ a l × (τ ≡ a.tag)
  tag_in τ [] m = absurd (Memᴰ.not-nil m)
  tag_in τ (a ∷ l) m = go (Memᴰ.cases_cons m) (λ h. tag_in τ l h)
    where
      go : (τ ≡ a.tag) ⊎ Memᴰ τ (activity_tags M l) → (Memᴰ τ (activity_tags M l) → (b : Activity M.Tag) × Memᴰ b l × (τ ≡ b.tag)) → (b : Activity M.Tag) × Memᴰ b (a ∷ l) × (τ ≡ b.tag)
      go (inl e) rec = (a, Memᴰ.head refl, e)
      go (inr h) rec = let (b, i, e) = rec h in (b, Memᴰ.tail i, e)

  in_tags : (a : Activity M.Tag) (l : List (Activity M.Tag)) → Memᴰ a l → Memᴰ a.tag (activity_tags M l)
  in_tags a [] m = absurd (Memᴰ.not-nil m)
  in_tags a (b ∷ l) m = go (Memᴰ.cases_cons m) (λ h. in_tags a l h)
    where
      go : (a ≡ b) ⊎ Memᴰ a l → (Memᴰ a l → Memᴰ a.tag (activity_tags M l)) → Memᴰ a.tag (activity_tags M (b ∷ l))
      go (inl e) rec = Memᴰ.head (ap (λ (c : Activity M.Tag). c.tag) e)
      go (inr h) rec = Memᴰ.tail (rec h)

  places_from : (n : ℕ) (l : List (Activity M.Tag)) (a : Activity M.Tag) → InOrder M n l → Memᴰ a l → n ≤ a.place
  places_from n [] a o m = absurd (Memᴰ.not-nil m)
  places_from n (b ∷ l) a o m = go (Memᴰ.cases_cons m) (λ h. places_from (suc b.place) l a o.1 h)
    where
      go : (a ≡ b) ⊎ Memᴰ a l → (Memᴰ a l → suc b.place ≤ a.place) → n ≤ a.place
      go (inl e) rec = subst (λ (c : Activity M.Tag). n ≤ c.place) (sym e) o.0
      go (inr h) rec = let z = rec h in let y = o.0 in omega arith

  tags_once : (s : StateOf M) (n : ℕ) (l : List (Activity M.Tag)) → InOrder M n l → ((a : Activity M.Tag) → Memᴰ a l → a.place ≡ place_of M a.tag s.tokens) → Once (activity_tags M l)
  tags_once s n [] o h = tt
  tags_once s n (a ∷ l) o h = (not_later, tags_once s (suc a.place) l o.1 (λ b i. h b (Memᴰ.tail i)))
    where
      not_later : ¬ (Memᴰ a.tag (activity_tags M l))
      not_later m =
          let (b, i, e) = tag_in a.tag l m in
          let p : a.place ≡ b.place = h a (Memᴰ.head refl) ∙ ap (λ (τ : M.Tag). place_of M τ s.tokens) e ∙ sym (h b (Memᴰ.tail i)) in
          let q = places_from (suc a.place) l b o.1 i in
          omega arith

  -- ---- a step

  -- these are enabled, and no two have one tag
  pub record Waiting (l : List (Activity M.Tag)) (s : StateOf M) : Type 0 where
    pub once : Once (activity_tags M l)
    pub enabled_now : (a : Activity M.Tag) → Memᴰ a l → Memᴰ a (enabled M s)

  pub at_start : (s : StateOf M) → Waiting (enabled M s) s
  at_start s = record { once = tags_once s 0 (enabled M s) (enabled_once M s).in_order (λ a m. (enabled_in M s a m).2); enabled_now = λ a m. m }

  -- the activities l fire whole, or one of them is refused
  data Turn (l : List (Activity M.Tag)) (s : StateOf M) : Type 0 where
    whole : (x : StateOf M) → Fires M s (activity_tags M l) x → Turn l s
    cut : (before : List (Activity M.Tag)) (a : Activity M.Tag) (more : List (Activity M.Tag)) (x : StateOf M) (r : M.Refusal) → l ≡ before ++ (a ∷ more) → Fires M s (activity_tags M before) x
        → Memᴰ a (enabled M x) → fire M x a.tag ≡ not_fired r → Turn l s

  fires_whole : (l : List (Activity M.Tag)) (f : ℕ) (s x : StateOf M) (next : ℕ → StateOf M → ProfileOf M) → Fires M s (activity_tags M l) x → fires_in_turn M l f s next ≡ next (f + length l) x
  fires_whole [] f s x next p = let z : f ≡ f + 0 = omega arith in ap (next f) p ∙ ap (λ (n : ℕ). next n x) z
  fires_whole (a ∷ l) f s x next (y, e, p) = let z : suc f + length l ≡ f + suc (length l) = omega arith in rw e (fires_whole l (suc f) y x next p ∙ ap (λ (n : ℕ). next n x) z)

  is_cut : (before : List (Activity M.Tag)) (a : Activity M.Tag) (more : List (Activity M.Tag)) (f : ℕ) (s x : StateOf M) (r : M.Refusal) (next : ℕ → StateOf M → ProfileOf M)
      → Fires M s (activity_tags M before) x → fire M x a.tag ≡ not_fired r → fires_in_turn M (before ++ (a ∷ more)) f s next ≡ ends_here M (end M (refused r a.place) (f + length before) x)
  is_cut [] a more f s x r next p q = let z : f ≡ f + 0 = omega arith in rw (p, q) (ap (λ (n : ℕ). ends_here M (end M (refused r a.place) n x)) z)
  is_cut (b ∷ before) a more f s x r next (y, e, p) q =
      let z : suc f + length before ≡ f + suc (length before) = omega arith in
      rw e (is_cut before a more (suc f) y x r next p q ∙ ap (λ (n : ℕ). ends_here M (end M (refused r a.place) n x)) z)

  module _ (law : Lawful M) where
    pub waits_on : (a : Activity M.Tag) (l : List (Activity M.Tag)) (s x : StateOf M) → Good M s → Waiting (a ∷ l) s → fire M s a.tag ≡ fired x → Waiting l x
    waits_on a l s x g w e = record {
      once = w.once.1;
      enabled_now = λ b m. stays_enabled M law s g x a.tag b e (λ p. w.once.0 (subst (λ (τ : M.Tag). Memᴰ τ (activity_tags M l)) (sym p) (in_tags b l m))) (w.enabled_now b (Memᴰ.tail m));
    }

    still_waiting : (before l : List (Activity M.Tag)) (s x : StateOf M) → Good M s → Waiting (before ++ l) s → Fires M s (activity_tags M before) x → Waiting l x
    still_waiting [] l s x g w p = subst (Waiting l) p w
    still_waiting (a ∷ before) l s x g w (y, e, p) = still_waiting before l y x (firing M law s y a.tag g e).good (waits_on a (before ++ l) s y g w e) p

    pub unspent_fired : UnspentAfter M
    unspent_fired s g τ x e = let f = firing M law s x τ g e in (f.grown, f.unspent)

    pub still_enabled : StillEnabled M
    still_enabled s g before a more x e p = (still_waiting before (a ∷ more) s x g (subst (λ l. Waiting l s) e (at_start s)) p).enabled_now a (Memᴰ.head refl)

    turns : (l : List (Activity M.Tag)) (s : StateOf M) → Good M s → Waiting l s → Turn l s
    turns [] s g w = whole s refl
    turns (a ∷ l) s g w = go (fire M s a.tag) refl (λ x e. turns l x (firing M law s x a.tag g e).good (waits_on a l s x g w e))
      where
        longer : (x : StateOf M) → fire M s a.tag ≡ fired x → Turn l x → Turn (a ∷ l) s
        longer x e (whole y p) = whole y (x, e, p)
        longer x e (cut before b more y r q p m h) = cut (a ∷ before) b more y r (ap (λ (k : List (Activity M.Tag)). a ∷ k) q) (x, e, p) m h

        go : (q : FiredOf M) → fire M s a.tag ≡ q → ((x : StateOf M) → fire M s a.tag ≡ fired x → Turn l x) → Turn (a ∷ l) s
        go (fired x) e rec = longer x e (rec x e)
        go (not_fired r) e rec = cut [] a l s r refl refl (w.enabled_now a (Memᴰ.head refl)) e

    -- ---- a run by steps

    module _ (profile_full : M.Refusal) where
      pub profile_rests : (left f : ℕ) (s : StateOf M) → NothingEnabled M s → profile M profile_full left f s ≡ ends_here M (end M (ending M s) f s)
      unfolding profile
      profile_rests zero f s e = rw e
      profile_rests (suc left) f s e = rw e

      pub profile_no_record : (f : ℕ) (s : StateOf M) (a : Activity M.Tag) (more : List (Activity M.Tag)) → enabled M s ≡ a ∷ more
          → profile M profile_full 0 f s ≡ ends_here M (end M (refused profile_full 0) f s)
      unfolding profile
      profile_no_record f s a more e = rw e

      pub profile_step : (left f : ℕ) (s : StateOf M) (a : Activity M.Tag) (more : List (Activity M.Tag)) → enabled M s ≡ a ∷ more
          → profile M profile_full (suc left) f s
          ≡ fires_in_turn M (a ∷ more) f s (λ g x. after_step M (record { firings = length (a ∷ more); unspent = unspent_in M x.tokens }) (profile M profile_full left g x))
      unfolding profile
      profile_step left f s a more e = rw e

      stops : (s : StateOf M) (left f : ℕ) (o : Outcome M.Refusal) → ProfileStopped M profile_full left 0 0 s o → Profiled M profile_full s left f (ends_here M (end M o f s))
      stops s left f o h = record { log = []; logged = record { fires = refl; firings = omega arith }; cut = 0; counted = omega arith; each_fires = tt; within = omega arith; stopped = h }

      later : (left n k : ℕ) (x : StateOf M) (o : Outcome M.Refusal) → ProfileStopped M profile_full left n k x o → ProfileStopped M profile_full (suc left) (suc n) k x o
      later left n k x o (none_left_lem e c q) = none_left_lem e c q
      later left n k x o (full e a m c q) = full (ap suc e) a m c q
      later left n k x o (one_refused a m r e q) = one_refused a m r e q

      pub every_profile : EveryProfile M profile_full
      unfolding profile
      every_profile s g zero f = go (enabled M s) refl
        where
          go : (l : List (Activity M.Tag)) → enabled M s ≡ l
              → Profiled M profile_full s 0 f (on_list l (ends_here M (end M (ending M s) f s)) (λ a more. ends_here M (end M (refused profile_full 0) f s)))
          go [] e = stops s 0 f (ending M s) (none_left_lem e refl refl)
          go (a ∷ more) e = stops s 0 f (refused profile_full 0) (full refl a (rw e (Memᴰ.head refl)) refl refl)
      every_profile s g (suc left) f = go (enabled M s) refl (λ x h k. every_profile x h left k)
        where
          after : List (Activity M.Tag) → ℕ → StateOf M → ProfileOf M
          after l k x = after_step M (record { firings = length l; unspent = unspent_in M x.tokens }) (profile M profile_full left k x)

          Rest : Type 0
          Rest = (x : StateOf M) → Good M x → (k : ℕ) → Profiled M profile_full x left k (profile M profile_full left k x)

          -- the whole step l and what comes after it
          goes_on : (l : List (Activity M.Tag)) (x : StateOf M) → 0 < length l → Fires M s (activity_tags M l) x → Profiled M profile_full x left (f + length l) (profile M profile_full left (f + length l) x)
              → Profiled M profile_full s (suc left) f (after l (f + length l) x)
          goes_on l x some p h =
              let tags : length (activity_tags M l) ≡ length l = length-map l (λ (a : Activity M.Tag). a.tag) in
              let both : length (activity_tags M l ++ h.log) ≡ length l + length h.log = length-append (activity_tags M l) h.log ∙ ap (λ (n : ℕ). n + length h.log) tags in
              record {
                log = activity_tags M l ++ h.log;
                logged = record { fires = joined M (activity_tags M l) h.log s x _ p h.logged.fires; firings = let z = h.logged.firings in omega arith };
                cut = h.cut;
                counted = let z = h.counted in omega arith;
                each_fires = (some, h.each_fires);
                within = let z = h.within in omega arith;
                stopped = later left _ h.cut _ _ h.stopped;
              }

          is_cut_short : (before : List (Activity M.Tag)) (a : Activity M.Tag) (x : StateOf M) (r : M.Refusal) → Fires M s (activity_tags M before) x → Memᴰ a (enabled M x) → fire M x a.tag ≡ not_fired r
              → Profiled M profile_full s (suc left) f (ends_here M (end M (refused r a.place) (f + length before) x))
          is_cut_short before a x r p m q =
              let tags : length (activity_tags M before) ≡ length before = length-map before (λ (b : Activity M.Tag). b.tag) in
              record {
                log = activity_tags M before;
                logged = record { fires = p; firings = omega arith };
                cut = length before;
                counted = omega arith;
                each_fires = tt;
                within = omega arith;
                stopped = one_refused a m r q refl;
              }

          by_turn : (l : List (Activity M.Tag)) → 0 < length l → Rest → Turn l s → Profiled M profile_full s (suc left) f (fires_in_turn M l f s (after l))
          by_turn l some rec (whole x p) = rw (fires_whole l f s x (after l) p) (goes_on l x some p (rec x (fires_good M law s g (activity_tags M l) x p) (f + length l)))
          by_turn l some rec (cut before a more x r e p m q) = rw (e, is_cut before a more f s x r (after (before ++ (a ∷ more))) p q) (is_cut_short before a x r p m q)

          go : (l : List (Activity M.Tag)) → enabled M s ≡ l → Rest → Profiled M profile_full s (suc left) f (on_list l (ends_here M (end M (ending M s) f s)) (λ a more. fires_in_turn M (a ∷ more) f s (after (a ∷ more))))
          go [] e rec = stops s (suc left) f (ending M s) (none_left_lem e refl refl)
          go (a ∷ more) e rec = by_turn (a ∷ more) (omega arith) rec (turns (a ∷ more) s g (subst (λ l. Waiting l s) e (at_start s)))

      -- ---- the theorems

      no_more_steps : (rs : List StepRecord) → EachFires rs → length rs ≤ firings_in rs
      no_more_steps [] h = omega arith
      no_more_steps (r ∷ rs) h = let z = no_more_steps rs h.1 in let y = h.0 in omega arith

      pub no_more_than_firings : (s : StateOf M) (left f : ℕ) (p : ProfileOf M) (h : Profiled M profile_full s left f p) → length p.records ≤ length h.log
      no_more_than_firings s left f p h = let z = h.counted in omega (arith, no_more_steps p.records h.each_fires)

      pub steps_within : StepsWithin M profile_full
      steps_within s g left f =
          let h = every_profile s g left f in
          let l = no_longer M law s g h.log _ h.logged.fires in
          omega (arith, no_more_than_firings s left f (profile M profile_full left f s) h, l.0, l.1)

      pub profile_ends : ProfileEnds M profile_full
      profile_ends s g left f n = go (profile M profile_full left f s) (every_profile s g left f) n
        where
          go : (p : ProfileOf M) → Profiled M profile_full s left f p → ¬ (Refused p.ended.outcome) → Unrefused M profile_full s f p
          go p h n = by_stop h.stopped
            where
              by_stop : ProfileStopped M profile_full left (length p.records) h.cut p.ended.state p.ended.outcome → Unrefused M profile_full s f p
              by_stop (none_left_lem e c q) = record {
                rested = e;
                outcome = q;
                firings = let y = h.logged.firings in let z = h.counted in omega arith;
                ends = λ d ok b l ps.
                    let z = no_longer M law s g h.log _ h.logged.fires in
                    one_tells_all M law s g f h.log p.ended h.logged e q d ok b (omega (arith, z.0, z.1)) ps;
              }
              by_stop (full e a m c q) = absurd (n (rw q tt))
              by_stop (one_refused a m r e q) = absurd (n (rw q tt))

      pub steps_end_too : StepsEndToo M profile_full
      steps_end_too s g τs x e none left f l = go (profile M profile_full left f s) (every_profile s g left f)
        where
          go : (p : ProfileOf M) → Profiled M profile_full s left f p → NothingEnabled M p.ended.state
          go p h = by_stop h.stopped
            where
              goes : (a : Activity M.Tag) → Memᴰ a (enabled M p.ended.state) → (length h.log < length τs) × (z : StateOf M) × (fire M p.ended.state a.tag ≡ fired z)
              goes = none_refused M law s g τs h.log x p.ended.state e none h.logged.fires

              by_stop : ProfileStopped M profile_full left (length p.records) h.cut p.ended.state p.ended.outcome → NothingEnabled M p.ended.state
              by_stop (none_left_lem i c q) = i
              by_stop (full i a m c q) = absurd (let z = (goes a m).0 in omega (arith, no_more_than_firings s left f p h))
              by_stop (one_refused a m r i q) = let (k, z, j) = goes a m in never_fired M r z (sym i ∙ j)
