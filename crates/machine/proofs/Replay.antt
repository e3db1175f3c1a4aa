-- R-7: a firing sequence is replayed (`sequence_replays`), so the log of a run gives its end (`run_replays`); the logs of two runs to an end
-- hold the same records, each once (`logs_agree`); and every replay fires its first records in turn (`every_replay`).
-- Assumes nothing. `logs_agree` takes that the instruction set is lawful, and of the state that it is well-formed.
use mathlib.Core.Path.{◌≡◌, refl, sym, ap, subst, ◌∙◌}
use mathlib.Core.List.Memᴰ
use mathlib.Core.List.{List, [], ◌∷◌, ◌++◌, map, append-nil, Memᴰ, Permᴰ}
use mathlib.Core.Option.{Option, none, some}
use mathlib.Core.Bool.{true}
use mathlib.Core.Logic.{◌⊎◌, inl, inr}
use Prim.Native.Nat.{ℕ, suc, ◌+◌, ◌<◌}
use native.Mathlib.Nat.{add-zero}
use native.Mathlib.Omega.{arith}
use lib.ListN.{length}
use Rattle.machine.specs.Machine.{Machine, Activity, fired, not_fired, Outcome, completed, hung, budget_spent, refused, when, on_option, on_list, Choice}
use Rattle.machine.specs.Machine.{StateOf, FiredOf, EndOf, look, all_live, place_of, enabled, fire, end, after, ending, run_by}
use Rattle.machine.specs.Orders.{Lawful, Quiescent, Refused, Says, Good, LawfulChoice}
use Rattle.machine.specs.Sequences.{NothingEnabled, log_of, RanBy, Fires, Logged, Once}
use Rattle.machine.specs.Replay.{with_tag, named_in, replay}
use Rattle.machine.proofs.View.{none_some}
use Rattle.machine.proofs.Enabled.{enabled_in, in_enabled}
use Rattle.machine.proofs.Sequences.{fired_enabled, fires_once, sequences}
use Rattle.machine.proofs.Ending.{rested}
use Rattle.machine.proofs.Runs.{ran}

-- ---- the claims

module _ (M : Machine) where
  -- an enabled activity is found by its operands, so the enabled list need not be searched
  pub record FoundByTag (s : StateOf M) (τ : M.Tag) : Type 0 where
    pub present : 0 < M.arity τ → all_live M (look M s) τ ≡ true → with_tag M τ (enabled M s) ≡ some (record { place = place_of M τ s.tokens; tag = τ })
    pub absent : ¬ ((0 < M.arity τ) × (all_live M (look M s) τ ≡ true)) → with_tag M τ (enabled M s) ≡ none

  -- "The logs of two completed runs of one graph with equal inputs, capacity and cell count hold the same records, each once.": and of two
  -- that hang; the budgets may differ
  abbrev pub LogsAgreeOfMachine : Type 0
  LogsAgreeOfMachine = (c d : Choice M) → LawfulChoice M c → LawfulChoice M d → (s : StateOf M) → Good M s → (b b' : ℕ) (picks picks' : List ℕ) (f : ℕ)
      → Quiescent (run_by M c b picks f s).outcome → Quiescent (run_by M d b' picks' f s).outcome
      → Permᴰ (log_of M c b picks s) (log_of M d b' picks' s) × Once (log_of M c b picks s)

  module _ (not_enabled : M.Refusal) where
    -- a firing sequence is replayed, whatever comes after it in the log
    abbrev pub SequenceReplays : Type 0
    SequenceReplays = (τs : List M.Tag) (s x : StateOf M) → Fires M s τs x → (more : List (Option M.Tag)) (f : ℕ) → replay M not_enabled (map some τs ++ more) f s ≡ replay M not_enabled more (f + length τs) x

    -- "Replaying the log of a run .. gives the same ledger, cells and counts in every byte.", and the outcome too unless it was refused
    pub record SameAs (d e : EndOf M) : Type 0 where
      pub state : e.state ≡ d.state
      pub firings : e.firings ≡ d.firings
      pub outcome : ¬ (Refused d.outcome) → e.outcome ≡ d.outcome

    abbrev pub RunReplays : Type 0
    RunReplays = (c : Choice M) → LawfulChoice M c → (budget : ℕ) (picks : List ℕ) (f : ℕ) (s : StateOf M) → SameAs (run_by M c budget picks f s) (replay M not_enabled (map some (log_of M c budget picks s)) f s)

    -- why a replay stops in the state x, with the records `left` and place p
    pub data ReplayStopped (left : List (Option M.Tag)) (p : ℕ) (x : StateOf M) (o : Outcome M.Refusal) : Type 0 where
      log_ends : left ≡ [] → NothingEnabled M x → o ≡ ending M x → ReplayStopped left p x o
      one_enabled : left ≡ [] → (a : Activity M.Tag) → Memᴰ a (enabled M x) → o ≡ budget_spent → ReplayStopped left p x o
      -- "when a record names no enabled activity"
      none_named_lem : (name : Option M.Tag) (more : List (Option M.Tag)) → left ≡ name ∷ more → ((a : Activity M.Tag) → Memᴰ a (enabled M x) → ¬ (name ≡ some a.tag))
          → o ≡ refused not_enabled p → ReplayStopped left p x o
      one_refused : (a : Activity M.Tag) (more : List (Option M.Tag)) → left ≡ some a.tag ∷ more → Memᴰ a (enabled M x) → (r : M.Refusal) → fire M x a.tag ≡ not_fired r
          → o ≡ refused r a.place → ReplayStopped left p x o

    -- whatever the log holds, its first records are fired in turn
    pub record Replayed (s : StateOf M) (f : ℕ) (log : List (Option M.Tag)) (e : EndOf M) : Type 0 where
      pub done : List M.Tag
      pub left : List (Option M.Tag)
      pub whole : log ≡ map some done ++ left
      pub logged : Logged M s f done e
      pub stopped : ReplayStopped left (f + length done) e.state e.outcome

    abbrev pub EveryReplay : Type 0
    EveryReplay = (log : List (Option M.Tag)) (f : ℕ) (s : StateOf M) → Replayed s f log (replay M not_enabled log f s)

-- ---- the proofs

module _ (M : Machine) where
  -- ---- an activity found by its tag

  some_same_lem : {A : Type 0} (x y : A) → some x ≡ some y → x ≡ y
  some_same_lem x y e = cc

  -- what is found is in the list and has the tag
  found : (τ : M.Tag) (l : List (Activity M.Tag)) (a : Activity M.Tag) → with_tag M τ l ≡ some a → Memᴰ a l × (τ ≡ a.tag)
  found τ [] a e = none_some e
  found τ (b ∷ l) a e = go (M.same τ b.tag) (λ h. found τ l a h) e
    where
      go : (d : Dec (τ ≡ b.tag)) → (with_tag M τ l ≡ some a → Memᴰ a l × (τ ≡ a.tag)) → when d (some b) (with_tag M τ l) ≡ some a → Memᴰ a (b ∷ l) × (τ ≡ a.tag)
      go (yes p) rec h = let q = some_same_lem b a h in (Memᴰ.head (sym q), p ∙ ap (λ (c : Activity M.Tag). c.tag) q)
      go (no n) rec h = let (m, q) = rec h in (Memᴰ.tail m, q)

  -- and where there is one it is found
  finds : (τ : M.Tag) (l : List (Activity M.Tag)) (a : Activity M.Tag) → Memᴰ a l → τ ≡ a.tag → (b : Activity M.Tag) × (with_tag M τ l ≡ some b)
  finds τ [] a m q = absurd (Memᴰ.not-nil m)
  finds τ (b ∷ l) a m q = go (M.same τ b.tag) (Memᴰ.cases_cons m) (λ h. finds τ l a h q)
    where
      go : (d : Dec (τ ≡ b.tag)) → (a ≡ b) ⊎ Memᴰ a l → (Memᴰ a l → (c : Activity M.Tag) × (with_tag M τ l ≡ some c)) → (c : Activity M.Tag) × (when d (some b) (with_tag M τ l) ≡ some c)
      go (yes p) h rec = (b, refl)
      go (no n) (inl p) rec = absurd (n (q ∙ ap (λ (c : Activity M.Tag). c.tag) p))
      go (no n) (inr h) rec = rec h

  named_found : (name : Option M.Tag) (l : List (Activity M.Tag)) (a : Activity M.Tag) → named_in M name l ≡ some a → Memᴰ a l × (name ≡ some a.tag)
  named_found none l a e = none_some e
  named_found (some τ) l a e = let (m, p) = found τ l a e in (m, ap some p)

  named_none : (name : Option M.Tag) (l : List (Activity M.Tag)) → named_in M name l ≡ none → (a : Activity M.Tag) → Memᴰ a l → ¬ (name ≡ some a.tag)
  named_none none l e a m p = none_some p
  named_none (some τ) l e a m p = let (b, q) = finds τ l a m (some_same_lem τ a.tag p) in none_some (sym e ∙ q)

  pub found_by_tag : (s : StateOf M) (τ : M.Tag) → FoundByTag M s τ
  found_by_tag s τ = record { present = present; absent = λ n. absent n (with_tag M τ (enabled M s)) refl }
    where
      act : Activity M.Tag
      act = record { place = place_of M τ s.tokens; tag = τ }

      -- what is found has the tag, so it has its place
      same_act : (b : Activity M.Tag) → Memᴰ b (enabled M s) → τ ≡ b.tag → b ≡ act
      same_act b m p =
          let q : b.place ≡ place_of M τ s.tokens = (enabled_in M s b m).2 ∙ ap (λ (σ : M.Tag). place_of M σ s.tokens) (sym p) in
          λ i. record { place = q i; tag = sym p i }

      present : 0 < M.arity τ → all_live M (look M s) τ ≡ true → with_tag M τ (enabled M s) ≡ some act
      present n l =
          let (b, e) = finds τ (enabled M s) act (in_enabled M s act (n, l, refl)) refl in
          let (m, p) = found τ (enabled M s) b e in
          e ∙ ap some (same_act b m p)

      absent : ¬ ((0 < M.arity τ) × (all_live M (look M s) τ ≡ true)) → (q : Option (Activity M.Tag)) → with_tag M τ (enabled M s) ≡ q → q ≡ none
      absent n none e = refl
      absent n (some b) e =
          let (m, p) = found τ (enabled M s) b e in
          let (k, l, q) = enabled_in M s b m in
          absurd (n (subst (λ (σ : M.Tag). (0 < M.arity σ) × (all_live M (look M s) σ ≡ true)) (sym p) (k, l)))

  -- ---- the logs of two runs

  pub logs_agree : Lawful M → LogsAgreeOfMachine M
  logs_agree law c d lc ld s g b b' ps qs f p q =
      let h = ran M c lc b ps f s in
      let i = ran M d ld b' qs f s in
      let x = (rested M (run_by M c b ps f s).outcome b (length (log_of M c b ps s)) (run_by M c b ps f s).state p h.says).0 in
      let y = (rested M (run_by M d b' qs f s).outcome b' (length (log_of M d b' qs s)) (run_by M d b' qs f s).state q i.says).0 in (
        (sequences M law s g (log_of M c b ps s) (log_of M d b' qs s) _ _ h.logged.fires x i.logged.fires y).same,
        fires_once M law s g (log_of M c b ps s) _ h.logged.fires,
      )

  module _ (not_enabled : M.Refusal) where
    -- ---- a replay, a record at a time

    pub replay_end : (f : ℕ) (s : StateOf M) → ((replay M not_enabled [] f s).state ≡ s) × ((replay M not_enabled [] f s).firings ≡ f)
    unfolding replay
    replay_end f s = go (enabled M s)
      where
        go : (l : List (Activity M.Tag)) → ((on_list l (end M (ending M s) f s) (λ a more. end M budget_spent f s)).state ≡ s) × ((on_list l (end M (ending M s) f s) (λ a more. end M budget_spent f s)).firings ≡ f)
        go [] = (refl, refl)
        go (a ∷ l) = (refl, refl)

    pub replay_rested : (f : ℕ) (s : StateOf M) → NothingEnabled M s → replay M not_enabled [] f s ≡ end M (ending M s) f s
    unfolding replay
    replay_rested f s e = rw e

    pub replay_spent : (f : ℕ) (s : StateOf M) (a : Activity M.Tag) → Memᴰ a (enabled M s) → replay M not_enabled [] f s ≡ end M budget_spent f s
    unfolding replay
    replay_spent f s a m = go (enabled M s) m
      where
        go : (l : List (Activity M.Tag)) → Memᴰ a l → on_list l (end M (ending M s) f s) (λ b more. end M budget_spent f s) ≡ end M budget_spent f s
        go [] h = absurd (Memᴰ.not-nil h)
        go (b ∷ l) h = refl

    pub replay_fired : (name : Option M.Tag) (log : List (Option M.Tag)) (f : ℕ) (s x : StateOf M) (a : Activity M.Tag) → named_in M name (enabled M s) ≡ some a → fire M s a.tag ≡ fired x
        → replay M not_enabled (name ∷ log) f s ≡ replay M not_enabled log (suc f) x
    unfolding replay
    replay_fired name log f s x a e q = rw (e, q)

    -- ---- a sequence

    -- a tag that fires names its activity
    fires_named : (τ : M.Tag) (log : List (Option M.Tag)) (f : ℕ) (s x : StateOf M) → fire M s τ ≡ fired x → replay M not_enabled (some τ ∷ log) f s ≡ replay M not_enabled log (suc f) x
    fires_named τ log f s x e =
        let (a, m, p) = fired_enabled M s x τ e in
        let (b, q) = finds τ (enabled M s) a m (sym p) in
        let (n, r) = found τ (enabled M s) b q in
        replay_fired (some τ) log f s x b q (ap (fire M s) (sym r) ∙ e)

    pub sequence_replays : SequenceReplays M not_enabled
    sequence_replays [] s x p more f = ap (replay M not_enabled more f) p ∙ ap (λ (n : ℕ). replay M not_enabled more n x) (sym (add-zero f))
    sequence_replays (τ ∷ τs) s x (y, e, p) more f =
        fires_named τ (map some τs ++ more) f s y e ∙ sequence_replays τs y x p more (suc f) ∙ ap (λ (n : ℕ). replay M not_enabled more n x) (omega arith)

    pub run_replays : RunReplays M not_enabled
    run_replays c ok b ps f s = rw whole (record {
      state = (replay_end e.firings e.state).0;
      firings = (replay_end e.firings e.state).1;
      outcome = λ n. ends e.outcome h.says n;
    })
      where
        e : EndOf M
        e = run_by M c b ps f s

        τs : List M.Tag
        τs = log_of M c b ps s

        h : RanBy M s b f τs e
        h = ran M c ok b ps f s

        whole : replay M not_enabled (map some τs) f s ≡ replay M not_enabled [] e.firings e.state
        whole = ap (λ (l : List (Option M.Tag)). replay M not_enabled l f s) (sym (append-nil (map some τs))) ∙ sequence_replays τs s e.state h.logged.fires [] f
            ∙ ap (λ (n : ℕ). replay M not_enabled [] n e.state) (sym h.logged.firings)

        at_rest_lem : (o : Outcome M.Refusal) → Quiescent o → Says M o b (length τs) e.state → (replay M not_enabled [] e.firings e.state).outcome ≡ o
        at_rest_lem o q t = let (p, z) = rested M o b (length τs) e.state q t in ap (λ (d : EndOf M). d.outcome) (replay_rested e.firings e.state p) ∙ sym z

        ends : (o : Outcome M.Refusal) → Says M o b (length τs) e.state → ¬ (Refused o) → (replay M not_enabled [] e.firings e.state).outcome ≡ o
        ends completed t n = at_rest_lem completed tt t
        ends hung t n = at_rest_lem hung tt t
        ends budget_spent (k, a, m) n = ap (λ (d : EndOf M). d.outcome) (replay_spent e.firings e.state a m)
        ends (refused r q) t n = absurd (n tt)

    -- ---- every replay

    stops : (log : List (Option M.Tag)) (f : ℕ) (s : StateOf M) (o : Outcome M.Refusal) → ReplayStopped M not_enabled log f s o → Replayed M not_enabled s f log (end M o f s)
    stops log f s o h = record {
      done = [];
      left = log;
      whole = refl;
      logged = record { fires = refl; firings = sym (add-zero f) };
      stopped = rw (add-zero f) h;
    }

    goes_on : (name : Option M.Tag) (log : List (Option M.Tag)) (f : ℕ) (s x : StateOf M) (τ : M.Tag) (e : EndOf M) → name ≡ some τ → fire M s τ ≡ fired x
        → Replayed M not_enabled x (suc f) log e → Replayed M not_enabled s f (name ∷ log) e
    goes_on name log f s x τ e p q h = record {
      done = τ ∷ h.done;
      left = h.left;
      whole = rw p (ap (λ (l : List (Option M.Tag)). some τ ∷ l) h.whole);
      logged = record { fires = (x, q, h.logged.fires); firings = let z = h.logged.firings in omega arith };
      stopped = let z : f + suc (length h.done) ≡ suc f + length h.done = omega arith in rw z h.stopped;
    }

    pub every_replay : EveryReplay M not_enabled
    unfolding replay
    every_replay [] f s = go (enabled M s) refl
      where
        go : (l : List (Activity M.Tag)) → enabled M s ≡ l → Replayed M not_enabled s f [] (on_list l (end M (ending M s) f s) (λ a more. end M budget_spent f s))
        go [] e = stops [] f s (ending M s) (log_ends refl e refl)
        go (a ∷ l) e = stops [] f s budget_spent (one_enabled refl a (rw e (Memᴰ.head refl)) refl)
    every_replay (name ∷ log) f s = go (named_in M name (enabled M s)) refl (λ x. every_replay log (suc f) x)
      where
        Rest : Type 0
        Rest = (x : StateOf M) → Replayed M not_enabled x (suc f) log (replay M not_enabled log (suc f) x)

        by_firing : (a : Activity M.Tag) → Memᴰ a (enabled M s) → name ≡ some a.tag → Rest → (q : FiredOf M) → fire M s a.tag ≡ q
            → Replayed M not_enabled s f (name ∷ log) (after M f s a q (λ x. replay M not_enabled log (suc f) x))
        by_firing a m p rec (fired x) e = goes_on name log f s x a.tag (replay M not_enabled log (suc f) x) p e (rec x)
        by_firing a m p rec (not_fired r) e = stops (name ∷ log) f s (refused r a.place) (one_refused a log (ap (λ (n : Option M.Tag). n ∷ log) p) m r e refl)

        go : (q : Option (Activity M.Tag)) → named_in M name (enabled M s) ≡ q → Rest
            → Replayed M not_enabled s f (name ∷ log)
            (on_option q (end M (refused not_enabled f) f s) (λ a. after M f s a (fire M s a.tag) (λ x. replay M not_enabled log (suc f) x)))
        go none e rec = stops (name ∷ log) f s (refused not_enabled f) (none_named_lem name log refl (named_none name (enabled M s) e) refl)
        go (some a) e rec = let (m, p) = named_found name (enabled M s) a e in by_firing a m p rec (fire M s a.tag) refl
