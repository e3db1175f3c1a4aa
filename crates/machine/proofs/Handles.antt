-- A run over handles goes in step with the run over the values for which they stand (`handles_in_step`), and what it leaves, read through
-- its table, is what that leaves (`state_read`). Assumes nothing.
use mathlib.Core.Path.{◌≡◌, refl, sym, ap, ◌∙◌}
use mathlib.Core.List.{List, [], ◌∷◌, ◌++◌, map, append-nil}
use mathlib.Core.Option.{Option}
use Prim.Native.Nat.{ℕ, zero, suc, ◌<◌}
use native.Mathlib.Omega.{arith}
use lib.ListN.{length, get_or, length-append}
use Rattle.machine.specs.Machine.{Content, live, spent, Token, Cell, present, Effect, Machine, State, Activity, fired, not_fired, Outcome, budget_spent, refused, on_option, on_list, Operands}
use Rattle.machine.specs.Machine.{StateOf, FiredOf, EndOf, enabled, commit, fire, end, ending}
use Rattle.machine.specs.Choosers.{Chosen, takes, ends, Chooser, rests_at, run_from}
use Rattle.machine.specs.InStep.{PlaceByPlace, no_more, pair, RelatedContent, both_live, both_spent, both_deferred, RelatedCell, both_absent, both_waiting, both_present, RelatedToken, at_key, RelatedState}
use Rattle.machine.specs.InStep.{RelatedEnds, Over, RelatedEffect}
use Rattle.machine.specs.Handles.{StandsAt, changed_to, meant_content, cell_by, state_by, Step, TriedOf, TabledOf, try_step, fire_on, tabled, run_on}
use Rattle.machine.proofs.Choosers.{from_ends, from_fired, from_refused, from_zero}
use Rattle.machine.proofs.InStep.{RelatedOption, both_none, both_some, RelatedOperands, state_grows, operands_related, enabled_same, ending_same, commit_related, RelatedFired}
use Rattle.machine.proofs.InStep.{alone, neither, both}

-- ---- the claims

module _ (M : Machine) (W : Type 0) (effect : M.Tag → W → W → Effect M.Refusal M.Tag W) (signal : W)
    (step : List M.Value → M.Tag → W → W → Step M.Refusal M.Tag M.Value W) where
  module _ (number : W → ℕ) where
    -- by no refusal is one of the two refused alone
    abbrev pub NoRefusal : M.Refusal → Type 0
    NoRefusal r = ⊥

    -- the effect of handles is that of the values for which they stand; what it sends stands in the table that it leaves
    abbrev pub StepsRelated : Type 0
    StepsRelated = (t : List M.Value) → StandsAt number t M.signal signal → (τ : M.Tag) (a b : M.Value) (c d : W) → StandsAt number t a c → StandsAt number t b d
        → RelatedEffect (StandsAt number (t ++ (step t τ c d).added)) NoRefusal (M.effect τ a b) (step t τ c d).asked

    -- the choosers look at nothing in which a state over handles differs from the one for which it stands
    abbrev pub SameChooser : Chooser M → Chooser (Over M W effect signal) → Type 0
    SameChooser c d = (t : List M.Value) (f : ℕ) (s : StateOf M) (u : StateOf (Over M W effect signal)) → RelatedState (StandsAt number t) s u → c f s ≡ d f u

    -- at the end as at the start the state over handles stands for the state over values
    abbrev pub HandlesInStep : Type 0
    HandlesInStep = (c : Chooser M) (d : Chooser (Over M W effect signal)) → SameChooser c d
        → (t : List M.Value) → StandsAt number t M.signal signal → (s : StateOf M) (u : StateOf (Over M W effect signal)) → RelatedState (StandsAt number t) s u → (budget f : ℕ)
        → RelatedEnds (StandsAt number (run_on M W effect signal step d budget f t u).table) (run_from M c budget f s) (run_on M W effect signal step d budget f t u).ended

-- ---- tables

module _ {X : Type 0} where
  get_d_front : (xs ys : List X) (i : ℕ) (d : X) → i < length xs → get_or (xs ++ ys) i d ≡ get_or xs i d
  get_d_front [] ys i d h = absurd (omega arith)
  get_d_front (x ∷ xs) ys zero d h = refl
  get_d_front (x ∷ xs) ys (suc i) d h = get_d_front xs ys i d (omega arith)

  get_d_last : (xs : List X) (x d : X) → get_or (xs ++ x ∷ []) (length xs) d ≡ x
  get_d_last [] x d = refl
  get_d_last (y ∷ xs) x d = get_d_last xs x d

  -- within the list the default is of no account
  get_d_any : (xs : List X) (i : ℕ) (d e : X) → i < length xs → get_or xs i d ≡ get_or xs i e
  get_d_any [] i d e h = absurd (omega arith)
  get_d_any (x ∷ xs) zero d e h = refl
  get_d_any (x ∷ xs) (suc i) d e h = get_d_any xs i d e (omega arith)

module _ {X W : Type 0} (number : W → ℕ) where
  -- entries never change
  pub stands_on : (t more : List X) (v : X) (w : W) → StandsAt number t v w → StandsAt number (t ++ more) v w
  stands_on t more v w h = record { below = let b = h.below in omega (arith, length-append t more); there = get_d_front t more (number w) v h.below ∙ h.there }

  -- a new entry stands at the end
  pub stands_new : (t : List X) (v : X) (w : W) → number w ≡ length t → StandsAt number (t ++ v ∷ []) v w
  stands_new t v w e = record { below = omega (arith, length-append t (v ∷ [])); there = rw e (get_d_last t v v) }

  -- a handle has one meaning: the entry at its number
  pub stands_at_lem : (t : List X) (v d : X) (w : W) → StandsAt number t v w → get_or t (number w) d ≡ v
  stands_at_lem t v d w h = get_d_any t (number w) d v h.below ∙ h.there

-- ---- what a state stands for

module _ {X W : Type 0} (R : X → W → Type 0) (meaning : W → X) (reads : (v : X) (w : W) → R v w → v ≡ meaning w) where
  content_read : {x : Content X} {y : Content W} → RelatedContent R x y → x ≡ meant_content meaning y
  content_read (both_live {v = v} {w = w} h) = ap live (reads v w h)
  content_read (both_spent {v = v} {w = w} h) = ap spent (reads v w h)
  content_read both_deferred = refl

  token_read : {T : Type 0} {t : Token T X} {u : Token T W} → RelatedToken R t u → t ≡ changed_to (meant_content meaning) u
  token_read (at_key {k = k} h) = ap (λ (x : Content X). record { key = k; content = x }) (content_read h)

  cell_read : {x : Cell X} {y : Cell W} → RelatedCell R x y → x ≡ cell_by meaning y
  cell_read both_absent = refl
  cell_read both_waiting = refl
  cell_read (both_present {v = v} {w = w} h) = ap present (reads v w h)

  list_read : {A B : Type 0} (P : A → B → Type 0) (f : B → A) → ((x : A) (y : B) → P x y → x ≡ f y) → {xs : List A} {ys : List B} → PlaceByPlace P xs ys → xs ≡ map f ys
  list_read P f h no_more = refl
  list_read P f h (pair {x = x} {y = y} k t) = rw (h x y k, list_read P f h t)

  -- so the state over handles, read through the table, is the state over values
  pub state_read : {T : Type 0} {s : State T X} {u : State T W} → RelatedState R s u → s ≡ state_by meaning u
  state_read h =
      let tokens = list_read (RelatedToken R) (changed_to (meant_content meaning)) (λ x y k. token_read k) h.tokens in
      let cells = list_read (RelatedCell R) (cell_by meaning) (λ x y k. cell_read k) h.cells in
      λ i. record { tokens = tokens i; cells = cells i }

-- ---- the two machines

module _ (M : Machine) (W : Type 0) (effect : M.Tag → W → W → Effect M.Refusal M.Tag W) (signal : W)
    (step : List M.Value → M.Tag → W → W → Step M.Refusal M.Tag M.Value W) (number : W → ℕ) (related : StepsRelated M W effect signal step number) where
  abbrev N : Machine
  N = Over M W effect signal

  abbrev Table : Type 0
  Table = List M.Value

  abbrev R : Table → M.Value → W → Type 0
  R t = StandsAt number t

  abbrev Signal : Table → Type 0
  Signal t = R t M.signal signal

  abbrev none_alone : M.Refusal → Type 0
  none_alone = NoRefusal M W effect signal step number

  grown : (t more : Table) (s : StateOf M) (u : StateOf N) → RelatedState (R t) s u → RelatedState (R (t ++ more)) s u
  grown t more s u h = state_grows (R t) (R (t ++ more)) (λ v w k. stands_on number t more v w k) h

  -- ---- a firing

  record FiredAlike (t : Table) (y : FiredOf M) (x : TriedOf M W effect signal step) : Type 0 where
    more : Table
    table : x.table ≡ t ++ more
    alike : RelatedFired (R (t ++ more)) none_alone y x.result

  fire_alike : (t : Table) → Signal t → (s : StateOf M) (u : StateOf N) → RelatedState (R t) s u → (τ : M.Tag) → FiredAlike t (fire M s τ) (fire_on M W effect signal step t u τ)
  unfolding fire fire_on
  fire_alike t sig s u h τ = go (operands_related M W effect signal (R t) s u h τ)
    where
      go : {x : Option (Operands M.Value)} {y : Option (Operands W)} → RelatedOption (RelatedOperands (R t)) x y → FiredAlike t
          (on_option x (not_fired M.second_token) (λ p. commit M s τ (M.effect τ p.left p.right)))
          (on_option y (record { table = t; result = not_fired M.second_token }) (λ p. try_step M W effect signal step t u τ (step t τ p.left p.right)))
      go both_none = record { more = []; table = sym (append-nil t); alike = neither }
      go (both_some {x = o} {y = q} k) =
          let added = (step t τ q.left q.right).added in
          record {
            more = added;
            table = refl;
            alike = commit_related M W effect signal (R (t ++ added)) none_alone (stands_on number t added M.signal signal sig) s u (grown t added s u h) τ
                (related t sig τ o.left o.right q.left q.right k.left k.right);
          }

  -- ---- a run, a firing at a time

  abbrev Run : Chooser N → (budget f : ℕ) → Table → StateOf N → TabledOf M W effect signal step
  Run = run_on M W effect signal step

  pub on_zero : (d : Chooser N) (f : ℕ) (t : Table) (u : StateOf N) → Run d 0 f t u ≡ tabled M W effect signal step t (rests_at N f u)
  unfolding run_on
  on_zero d f t u = refl

  module _ (d : Chooser N) (b f : ℕ) (t : Table) (u : StateOf N) where
    pub on_ends : (o : Outcome M.Refusal) → d f u ≡ ends o → Run d (suc b) f t u ≡ tabled M W effect signal step t (end N o f u)
    unfolding run_on
    on_ends o e = rw e

    module _ (a : Activity M.Tag) (e : d f u ≡ takes a) (t' : Table) where
      pub on_fired : (y : StateOf N) → fire_on M W effect signal step t u a.tag ≡ record { table = t'; result = fired y } → Run d (suc b) f t u ≡ Run d b (suc f) t' y
      unfolding run_on
      on_fired y h = rw (e, h)

      pub on_refused : (r : M.Refusal) → fire_on M W effect signal step t u a.tag ≡ record { table = t'; result = not_fired r }
          → Run d (suc b) f t u ≡ tabled M W effect signal step t' (end N (refused r a.place) f u)
      unfolding run_on
      on_refused r h = rw (e, h)

  -- ---- in step

  Alike : EndOf M → TabledOf M W effect signal step → Type 0
  Alike e x = RelatedEnds (R x.table) e x.ended

  rests : (t : Table) (f : ℕ) (s : StateOf M) (u : StateOf N) → RelatedState (R t) s u → RelatedEnds (R t) (rests_at M f s) (rests_at N f u)
  rests t f s u h = rw (enabled_same M W effect signal (R t) s u h) (go (enabled N u))
    where
      go : (l : List (Activity M.Tag)) → RelatedEnds (R t) (on_list l (end M (ending M s) f s) (λ a more. end M budget_spent f s)) (on_list l (end N (ending N u) f u) (λ a more. end N budget_spent f u))
      go [] = record { outcome = ending_same M W effect signal (R t) s u h; firings = refl; state = h }
      go (a ∷ more) = record { outcome = refl; firings = refl; state = h }

  pub handles_in_step : HandlesInStep M W effect signal step number
  unfolding Alike
  handles_in_step c d same t sig s u h zero f = rw (from_zero M c f s, on_zero d f t u) (rests t f s u h)
  handles_in_step c d same t sig s u h (suc b) f = go (c f s) refl (λ t' sig' x y k. handles_in_step c d same t' sig' x y k b (suc f))
    where
      Later : Type 0
      Later = (t' : Table) → Signal t' → (x : StateOf M) (y : StateOf N) → RelatedState (R t') x y → Alike (run_from M c b (suc f) x) (Run d b (suc f) t' y)

      by_firing : (a : Activity M.Tag) → c f s ≡ takes a → (added : Table) {x : FiredOf M} {y : FiredOf N} → RelatedFired (R (t ++ added)) none_alone x y
          → fire M s a.tag ≡ x → fire_on M W effect signal step t u a.tag ≡ record { table = t ++ added; result = y } → Later → Alike (run_from M c (suc b) f s) (Run d (suc b) f t u)
      by_firing a e added (alone k) p q later = absurd k
      by_firing a e added (neither {r = r}) p q later =
          rw (from_refused M c b f s a e r p, on_refused d b f t u a (sym (same t f s u h) ∙ e) (t ++ added) r q) (record { outcome = refl; firings = refl; state = grown t added s u h })
      by_firing a e added (both {x = x} {y = y} k) p q later =
          rw (from_fired M c b f s a e x p, on_fired d b f t u a (sym (same t f s u h) ∙ e) (t ++ added) y q)
          (later (t ++ added) (stands_on number t added M.signal signal sig) x y k)

      go : (z : Chosen M.Refusal M.Tag) → c f s ≡ z → Later → Alike (run_from M c (suc b) f s) (Run d (suc b) f t u)
      go (ends o) e later = rw (from_ends M c b f s o e, on_ends d b f t u o (sym (same t f s u h) ∙ e)) (record { outcome = refl; firings = refl; state = h })
      go (takes a) e later =
          let x = fire_alike t sig s u h a.tag in
          by_firing a e x.more x.alike refl (λ i. record { table = x.table i; result = (fire_on M W effect signal step t u a.tag).result }) later
