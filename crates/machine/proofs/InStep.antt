-- Machines over related values go in step: related states have the same enabled activities (`enabled_same`), a commit of related effects leaves related
-- states or is refused alike (`commit_related`), so does a firing (`fire_related`), and a run goes in step (`in_step`), with activities held back or none. Well-formed states
-- look at no value (`good_related`), and a relation may grow (`state_grows`). Assumes nothing.
use mathlib.Core.Path.{◌≡◌, refl, sym, ap, ◌∙◌}
use mathlib.Core.List.{List, [], ◌∷◌, ◌++◌, map}
use mathlib.Core.Option.{Option, none, some}
use mathlib.Core.Bool.{Bool, true, false, cond}
use Prim.Native.Nat.{ℕ, zero, suc}
use native.Mathlib.Decide.{ℕ_discrete}
use lib.ListN.{length, get_or, set}
use Rattle.machine.specs.Machine.{Key, Content, live, deferred, Token, Cell, absent, present, Effect, Machine, State, Activity, fired, not_fired, refused, Fired}
use Rattle.machine.specs.Machine.{when, on_option, live_value, is_live, is_proper, is_there, spend, fill, cell_read, content_read, if_present, changed, output, Operands, all_there, two_values}
use Rattle.machine.specs.Machine.{Ledger, StateOf, EffectOf, FiredOf, EndOf, same_key, at, find, look, is_operand_of, live_at, all_live, operands, place_of, is_place, enabled_from, enabled, spend_at, any_taken, exceeds, admit, commit, fire, all_proper, ending, Choice}
use Rattle.machine.specs.InStep.{PlaceByPlace, no_more, pair, RelatedContent, both_live, both_spent, both_deferred, RelatedCell, both_absent, both_waiting, both_present, RelatedToken, at_key, RelatedState}
use Rattle.machine.specs.InStep.{RelatedEffect, refused_alone, both_refuse, both_send, both_read, both_write, InStep, alike, stopped, Over, Related, SameChoice, SameHeld, RunsInStepOfMachine}
use Rattle.machine.specs.Orders.{Distinct, Good}
use Rattle.machine.specs.Choosers.{run_from}
use Rattle.machine.specs.Bounded.{Held, without_held, free_of, by_free, settled}
use Rattle.machine.proofs.View.{none_some}
use Rattle.machine.proofs.Bounded.{free_empty, free_zero, free_fired, free_refused}

-- ---- firings in step

module _ {V₁ V₂ : Type 0} (R : V₁ → V₂ → Type 0) where
  module _ {F T : Type 0} (Alone : F → Type 0) where
    pub data RelatedFired : Fired F T V₁ → Fired F T V₂ → Type 0 where
      alone : {r : F} {y : Fired F T V₂} → Alone r → RelatedFired (not_fired r) y
      neither : {r : F} → RelatedFired (not_fired r) (not_fired r)
      both : {x : State T V₁} {y : State T V₂} → RelatedState R x y → RelatedFired (fired x) (fired y)

-- ---- lists, place by place

module _ {A B : Type 0} (R : A → B → Type 0) where
  pub pair_length : {xs : List A} {ys : List B} → PlaceByPlace R xs ys → length xs ≡ length ys
  pair_length no_more = refl
  pair_length (pair h t) = ap suc (pair_length t)

  pair_append : {xs zs : List A} {ys ws : List B} → PlaceByPlace R xs ys → PlaceByPlace R zs ws → PlaceByPlace R (xs ++ zs) (ys ++ ws)
  pair_append no_more k = k
  pair_append (pair h t) k = pair h (pair_append t k)

  pair_set : (i : ℕ) (x : A) (y : B) {xs : List A} {ys : List B} → R x y → PlaceByPlace R xs ys → PlaceByPlace R (set xs i x) (set ys i y)
  pair_set i x y k no_more = no_more
  pair_set zero x y k (pair h t) = pair k t
  pair_set (suc i) x y k (pair h t) = pair h (pair_set i x y k t)

  pair_get_d : (i : ℕ) (x : A) (y : B) {xs : List A} {ys : List B} → R x y → PlaceByPlace R xs ys → R (get_or xs i x) (get_or ys i y)
  pair_get_d i x y k no_more = k
  pair_get_d zero x y k (pair h t) = h
  pair_get_d (suc i) x y k (pair h t) = pair_get_d i x y k t

pub pair_grows : {A B : Type 0} (P S : A → B → Type 0) → ((x : A) (y : B) → P x y → S x y) → {xs : List A} {ys : List B} → PlaceByPlace P xs ys → PlaceByPlace S xs ys
pair_grows P S h no_more = no_more
pair_grows P S h (pair {x = x} {y = y} k t) = pair (h x y k) (pair_grows P S h t)

pub pair_map : {A B C D : Type 0} (R : A → B → Type 0) (Q : C → D → Type 0) (f : A → C) (g : B → D) → ((x : A) (y : B) → R x y → Q (f x) (g y)) → {xs : List A} {ys : List B} → PlaceByPlace R xs ys → PlaceByPlace Q (map f xs) (map g ys)
pair_map R Q f g h no_more = no_more
pair_map R Q f g h (pair {x = x} {y = y} k t) = pair (h x y k) (pair_map R Q f g h t)

pub pair_same : {A C D : Type 0} (Q : C → D → Type 0) (f : A → C) (g : A → D) → ((x : A) → Q (f x) (g x)) → (xs : List A) → PlaceByPlace Q (map f xs) (map g xs)
pair_same Q f g h [] = no_more
pair_same Q f g h (x ∷ xs) = pair (h x) (pair_same Q f g h xs)

-- there is none, or one that is related
pub data RelatedOption {A B : Type 0} (R : A → B → Type 0) : Option A → Option B → Type 0 where
  both_none : RelatedOption R none none
  both_some : {x : A} {y : B} → R x y → RelatedOption R (some x) (some y)

-- ---- contents and cells

module _ {V₁ V₂ : Type 0} (R : V₁ → V₂ → Type 0) where
  live_same : {x : Content V₁} {y : Content V₂} → RelatedContent R x y → is_live x ≡ is_live y
  live_same (both_live h) = refl
  live_same (both_spent h) = refl
  live_same both_deferred = refl

  proper_same : (n : ℕ) {x : Content V₁} {y : Content V₂} → RelatedContent R x y → is_proper n x ≡ is_proper n y
  proper_same n (both_live h) = refl
  proper_same n (both_spent h) = refl
  proper_same n both_deferred = refl

  value_related : {x : Option (Content V₁)} {y : Option (Content V₂)} → RelatedOption (RelatedContent R) x y → RelatedOption R (live_value x) (live_value y)
  value_related both_none = both_none
  value_related (both_some (both_live h)) = both_some h
  value_related (both_some (both_spent h)) = both_none
  value_related (both_some both_deferred) = both_none

  there_same : {x : Option (Content V₁)} {y : Option (Content V₂)} → RelatedOption (RelatedContent R) x y → is_there x ≡ is_there y
  there_same both_none = refl
  there_same (both_some h) = refl

  spend_related : (b : Bool) {x : Content V₁} {y : Content V₂} → RelatedContent R x y → RelatedContent R (cond b (spend x) x) (cond b (spend y) y)
  spend_related false h = h
  spend_related true (both_live h) = both_spent h
  spend_related true (both_spent h) = both_spent h
  spend_related true both_deferred = both_deferred

  fill_related : (c : ℕ) {v : V₁} {w : V₂} → R v w → {x : Content V₁} {y : Content V₂} → RelatedContent R x y → RelatedContent R (fill c v x) (fill c w y)
  fill_related c k (both_live h) = both_live h
  fill_related c k (both_spent h) = both_spent h
  fill_related c {v} {w} k (both_deferred {c = d}) = go (ℕ_discrete d c)
    where
      go : (q : Dec (d ≡ c)) → RelatedContent R (when q (live v) (deferred d)) (when q (live w) (deferred d))
      go (yes p) = both_live k
      go (no n) = both_deferred

  cell_read_related : {x : Cell V₁} {y : Cell V₂} → RelatedCell R x y → RelatedCell R (cell_read x) (cell_read y)
  cell_read_related both_absent = both_waiting
  cell_read_related both_waiting = both_waiting
  cell_read_related (both_present h) = both_present h

  content_read_related : (c : ℕ) {x : Cell V₁} {y : Cell V₂} → RelatedCell R x y → RelatedContent R (content_read c x) (content_read c y)
  content_read_related c both_absent = both_deferred
  content_read_related c both_waiting = both_deferred
  content_read_related c (both_present h) = both_live h

  -- ---- operands

  pub record RelatedOperands (o : Operands V₁) (q : Operands V₂) : Type 0 where
    pub left : R o.left q.left
    pub right : R o.right q.right

  below_same : (f : ℕ → Option V₁) (g : ℕ → Option V₂) → ((p : ℕ) → RelatedOption R (f p) (g p)) → (n : ℕ) → all_there f n ≡ all_there g n
  below_same f g h zero = refl
  below_same f g h (suc n) = go (h n) (below_same f g h n)
    where
      go : {x : Option V₁} {y : Option V₂} → RelatedOption R x y → all_there f n ≡ all_there g n → on_option x false (λ v. all_there f n) ≡ on_option y false (λ v. all_there g n)
      go both_none e = refl
      go (both_some k) e = e

  two_related : (n : ℕ) {x z : Option V₁} {y w : Option V₂} → RelatedOption R x y → RelatedOption R z w → RelatedOption RelatedOperands (two_values n x z) (two_values n y w)
  two_related zero h k = both_none
  two_related (suc zero) both_none k = both_none
  two_related (suc zero) (both_some h) k = both_some (record { left = h; right = h })
  two_related (suc (suc n)) both_none k = both_none
  two_related (suc (suc n)) (both_some h) both_none = both_none
  two_related (suc (suc n)) (both_some h) (both_some k) = both_some (record { left = h; right = k })

-- ---- a relation that grows, as that of a table does

module _ {V₁ V₂ : Type 0} (R Q : V₁ → V₂ → Type 0) (grows : (v : V₁) (w : V₂) → R v w → Q v w) where
  content_grows : {x : Content V₁} {y : Content V₂} → RelatedContent R x y → RelatedContent Q x y
  content_grows (both_live {v = v} {w = w} h) = both_live (grows v w h)
  content_grows (both_spent {v = v} {w = w} h) = both_spent (grows v w h)
  content_grows both_deferred = both_deferred

  token_grows : {T : Type 0} {t : Token T V₁} {u : Token T V₂} → RelatedToken R t u → RelatedToken Q t u
  token_grows (at_key h) = at_key (content_grows h)

  cell_grows : {x : Cell V₁} {y : Cell V₂} → RelatedCell R x y → RelatedCell Q x y
  cell_grows both_absent = both_absent
  cell_grows both_waiting = both_waiting
  cell_grows (both_present {v = v} {w = w} h) = both_present (grows v w h)

  pub state_grows : {T : Type 0} {s : State T V₁} {u : State T V₂} → RelatedState R s u → RelatedState Q s u
  state_grows h = record {
    tokens = pair_grows (RelatedToken R) (RelatedToken Q) (λ t u k. token_grows k) h.tokens;
    cells = pair_grows (RelatedCell R) (RelatedCell Q) (λ x y k. cell_grows k) h.cells;
  }

-- ---- the two machines

module _ (M : Machine) (W : Type 0) (effect : M.Tag → W → W → Effect M.Refusal M.Tag W) (signal : W) (R : M.Value → W → Type 0) where
  abbrev N : Machine
  N = Over M W effect signal

  abbrev RelatedLedger : Ledger M → Ledger N → Type 0
  RelatedLedger = PlaceByPlace (RelatedToken R)

  -- ---- matching

  find_related : (k : Key M.Tag) {ts : Ledger M} {us : Ledger N} → RelatedLedger ts us → RelatedOption (RelatedContent R) (find M k ts) (find N k us)
  find_related k no_more = both_none
  find_related k (pair {xs = ts} {ys = us} (at_key {k = j} {x = x} {y = y} h) t) = go (same_key M k j) (find_related k t)
    where
      go : (q : Dec (k ≡ j)) → RelatedOption (RelatedContent R) (find M k ts) (find N k us) → RelatedOption (RelatedContent R) (when q (some x) (find M k ts)) (when q (some y) (find N k us))
      go (yes p) rest = both_some h
      go (no n) rest = rest

  place_same : (τ : M.Tag) {ts : Ledger M} {us : Ledger N} → RelatedLedger ts us → place_of M τ ts ≡ place_of N τ us
  place_same τ no_more = refl
  place_same τ (pair {xs = ts} {ys = us} (at_key {k = j} h) t) = ap (λ (n : ℕ). cond (is_operand_of M τ j) 0 (suc n)) (place_same τ t)

  taken_same : {ts : Ledger M} {us : Ledger N} → RelatedLedger ts us → (keys : List (Key M.Tag)) → any_taken M ts keys ≡ any_taken N us keys
  taken_same h [] = refl
  taken_same h (k ∷ ks) = rw (there_same R (find_related k h), taken_same h ks)

  proper_all : {ts : Ledger M} {us : Ledger N} → RelatedLedger ts us → all_proper M ts ≡ all_proper N us
  proper_all no_more = refl
  proper_all (pair (at_key {k = j} h) t) = rw (proper_same R (M.arity j.tag) h, proper_all t)

  module _ (s : StateOf M) (u : StateOf N) (h : RelatedState R s u) where
    value_at : (τ : M.Tag) (p : ℕ) → RelatedOption R (live_at M (look M s) τ p) (live_at N (look N u) τ p)
    value_at τ p = value_related R (find_related (at M τ p) h.tokens)

    all_live_same : (τ : M.Tag) → all_live M (look M s) τ ≡ all_live N (look N u) τ
    all_live_same τ = below_same R (live_at M (look M s) τ) (live_at N (look N u) τ) (value_at τ) (M.arity τ)

    pub operands_related : (τ : M.Tag) → RelatedOption (RelatedOperands R) (operands M (look M s) τ) (operands N (look N u) τ)
    operands_related τ = rw (all_live_same τ) (go (all_live N (look N u) τ))
      where
        go : (b : Bool) → RelatedOption (RelatedOperands R)
            (cond b (two_values (M.arity τ) (live_at M (look M s) τ 0) (live_at M (look M s) τ 1)) none)
            (cond b (two_values (M.arity τ) (live_at N (look N u) τ 0) (live_at N (look N u) τ 1)) none)
        go true = two_related R (M.arity τ) (value_at τ 0) (value_at τ 1)
        go false = both_none

    -- ---- the enabled

    is_place_same : (i : ℕ) (k : Key M.Tag) (x : Content M.Value) (y : Content W) → RelatedContent R x y → is_place M s i (output x k) ≡ is_place N u i (output y k)
    is_place_same i k x y c = rw (live_same R c, all_live_same k.tag, place_same k.tag h.tokens)

    from_same : (i : ℕ) {ts : Ledger M} {us : Ledger N} → RelatedLedger ts us → enabled_from M s i ts ≡ enabled_from N u i us
    from_same i no_more = refl
    from_same i (pair (at_key {k = k} {x = x} {y = y} c) t) = rw (is_place_same i k x y c, from_same (suc i) t)

    pub enabled_same : enabled M s ≡ enabled N u
    unfolding enabled
    enabled_same = from_same 0 h.tokens

    pub ending_same : ending M s ≡ ending N u
    unfolding ending
    ending_same = rw (proper_all h.tokens)

  -- ---- well-formed states

  none_too : {A B : Type 0} (P : A → B → Type 0) {x : Option A} {y : Option B} → RelatedOption P x y → y ≡ none → x ≡ none
  none_too P both_none e = refl
  none_too P (both_some h) e = none_some (sym e)

  distinct_related : {ts : Ledger M} {us : Ledger N} → RelatedLedger ts us → Distinct N us → Distinct M ts
  distinct_related no_more d = tt
  distinct_related (pair (at_key {k = k} h) t) d = (none_too (RelatedContent R) (find_related k t) d.0, distinct_related t d.1)

  -- they look at no value
  pub good_related : (s : StateOf M) (u : StateOf N) → RelatedState R s u → Good N u → Good M s
  good_related s u h g = record {
    distinct = distinct_related h.tokens g.distinct;
    room = rw (pair_length (RelatedToken R) h.tokens) g.room;
    cell_count = pair_length (RelatedCell R) h.cells ∙ g.cell_count;
  }

  -- ---- a firing

  module _ (Alone : M.Refusal → Type 0) where
    admit_related : (s : StateOf M) (u : StateOf N) → RelatedState R s u → {ts : Ledger M} {us : Ledger N} → RelatedLedger ts us
        → {cs : List (Cell M.Value)} {ds : List (Cell W)} → PlaceByPlace (RelatedCell R) cs ds → (x : Content M.Value) (y : Content W) → RelatedContent R x y → (keys : List (Key M.Tag))
        → RelatedFired R Alone (admit M s ts cs x keys) (admit N u us ds y keys)
    unfolding admit
    admit_related s u h {ts} {us} l {cs} {ds} c x y k keys =
        rw (pair_length (RelatedToken R) h.tokens, taken_same h.tokens keys) (go (exceeds N u.tokens keys) (any_taken N u.tokens keys))
      where
        go : (p q : Bool) → RelatedFired R Alone
            (cond p (not_fired M.ledger_full) (cond q (not_fired M.second_token) (fired (record { tokens = ts ++ map (output x) keys; cells = cs }))))
            (cond p (not_fired M.ledger_full) (cond q (not_fired M.second_token) (fired (record { tokens = us ++ map (output y) keys; cells = ds }))))
        go true q = neither
        go false true = neither
        go false false = both (record { tokens = pair_append (RelatedToken R) l (pair_same (RelatedToken R) (output x) (output y) (λ j. at_key k) keys); cells = c })

    spent_related : (τ : M.Tag) {ts : Ledger M} {us : Ledger N} → RelatedLedger ts us → RelatedLedger (map (changed (spend_at M τ)) ts) (map (changed (spend_at N τ)) us)
    spent_related τ no_more = no_more
    spent_related τ (pair (at_key {k = k} h) t) = pair (at_key (spend_related R (is_operand_of M τ k) h)) (spent_related τ t)

    filled_related : (τ : M.Tag) (c : ℕ) {v : M.Value} {w : W} → R v w → {ts : Ledger M} {us : Ledger N} → RelatedLedger ts us
        → RelatedLedger (map (changed (λ k x. fill c v (spend_at M τ k x))) ts) (map (changed (λ k x. fill c w (spend_at N τ k x))) us)
    filled_related τ c g no_more = no_more
    filled_related τ c g (pair (at_key {k = k} h) t) = pair (at_key (fill_related R c g (spend_related R (is_operand_of M τ k) h))) (filled_related τ c g t)

    -- of any effects that are related: those of the machines, or those of a machine whose effects add to a table
    pub commit_related : R M.signal signal → (s : StateOf M) (u : StateOf N) → RelatedState R s u → (τ : M.Tag) {e : EffectOf M} {d : EffectOf N} → RelatedEffect R Alone e d
        → RelatedFired R Alone (commit M s τ e) (commit N u τ d)
    unfolding commit
    commit_related sig s u h τ (refused_alone a) = alone a
    commit_related sig s u h τ both_refuse = neither
    commit_related sig s u h τ (both_send {v = v} {w = w} {keys = keys} g) = admit_related s u h (spent_related τ h.tokens) h.cells (live v) (live w) (both_live g) keys
    commit_related sig s u h τ (both_read {c = c} {keys = keys}) =
        let cell = pair_get_d (RelatedCell R) c absent absent both_absent h.cells in
        admit_related s u h (spent_related τ h.tokens) (pair_set (RelatedCell R) c _ _ (cell_read_related R cell) h.cells) _ _ (content_read_related R c cell) keys
    commit_related sig s u h τ (both_write {c = c} {v = v} {w = w} {keys = keys} g) = go (pair_get_d (RelatedCell R) c absent absent both_absent h.cells)
      where
        Left : FiredOf M
        Left = admit M s (map (changed (λ k x. fill c v (spend_at M τ k x))) s.tokens) (set s.cells c (present v)) (live M.signal) keys

        Right : FiredOf N
        Right = admit N u (map (changed (λ k x. fill c w (spend_at N τ k x))) u.tokens) (set u.cells c (present w)) (live signal) keys

        written : RelatedFired R Alone Left Right
        written = admit_related s u h (filled_related τ c g h.tokens) (pair_set (RelatedCell R) c _ _ (both_present g) h.cells) _ _ (both_live sig) keys

        go : {x : Cell M.Value} {y : Cell W} → RelatedCell R x y → RelatedFired R Alone (if_present x (not_fired M.second_write) Left) (if_present y (not_fired M.second_write) Right)
        go both_absent = written
        go both_waiting = written
        go (both_present k) = neither

    module _ (related : Related M W effect signal R Alone) where
      pub fire_related : (s : StateOf M) (u : StateOf N) → RelatedState R s u → (τ : M.Tag) → RelatedFired R Alone (fire M s τ) (fire N u τ)
      unfolding fire
      fire_related s u h τ = go (operands_related s u h τ)
        where
          go : {x : Option (Operands M.Value)} {y : Option (Operands W)} → RelatedOption (RelatedOperands R) x y → RelatedFired R Alone
              (on_option x (not_fired M.second_token) (λ p. commit M s τ (M.effect τ p.left p.right)))
              (on_option y (not_fired M.second_token) (λ p. commit N u τ (effect τ p.left p.right)))
          go both_none = neither
          go (both_some {x = o} {y = q} k) = commit_related related.signals s u h τ (related.effects τ o.left o.right q.left q.right k.left k.right)

      -- ---- a run

      without_same : (held kept : Activity M.Tag → Bool) → ((a : Activity M.Tag) → held a ≡ kept a) → (l : List (Activity M.Tag)) → without_held M held l ≡ without_held N kept l
      without_same held kept same [] = refl
      without_same held kept same (a ∷ l) = rw (same a, without_same held kept same l)

      module _ (c : Choice M) (d : Choice N) (same : SameChoice M W effect signal R Alone c d) (held : Held M) (kept : Held N) (heldSame : SameHeld M W effect signal R Alone held kept) where
        free_same : (s : StateOf M) (u : StateOf N) → RelatedState R s u → free_of M held s ≡ free_of N kept u
        free_same s u h = without_same (held s) (kept u) (heldSame s u h) (enabled M s) ∙ ap (without_held N (kept u)) (enabled_same s u h)

        module _ (picks : List ℕ) (f : ℕ) where
          abbrev Left : (budget n : ℕ) → StateOf M → EndOf M
          Left b n s = settled M held f (run_from M (by_free M held c picks) b n s)

          abbrev Right : (budget n : ℕ) → StateOf N → EndOf N
          Right b n u = settled N kept f (run_from N (by_free N kept d picks) b n u)

          none_free_lem : (b n : ℕ) (s : StateOf M) (u : StateOf N) → RelatedState R s u → free_of M held s ≡ [] → InStep R Alone (Left b n s) (Right b n u)
          none_free_lem b n s u h e =
              rw (free_empty M held c picks f b n s e, free_empty N kept d picks f b n u (sym (free_same s u h) ∙ e)) (alike (record { outcome = ending_same s u h; firings = refl; state = h }))

          stepwise : (b n : ℕ) (s : StateOf M) (u : StateOf N) → RelatedState R s u → InStep R Alone (Left b n s) (Right b n u)
          stepwise zero n s u h = go (free_of M held s) refl
            where
              go : (l : List (Activity M.Tag)) → free_of M held s ≡ l → InStep R Alone (Left 0 n s) (Right 0 n u)
              go [] e = none_free_lem 0 n s u h e
              go (a ∷ more) e =
                  rw (free_zero M held c picks f n s a more e, free_zero N kept d picks f n u a more (sym (free_same s u h) ∙ e)) (alike (record { outcome = refl; firings = refl; state = h }))
          stepwise (suc b) n s u h = go (free_of M held s) refl (λ x y k. stepwise b (suc n) x y k)
            where
              Later : Type 0
              Later = (x : StateOf M) (y : StateOf N) → RelatedState R x y → InStep R Alone (Left b (suc n) x) (Right b (suc n) y)

              by_firing : (a : Activity M.Tag) (more : List (Activity M.Tag)) → free_of M held s ≡ a ∷ more → {x : FiredOf M} {y : FiredOf N} → RelatedFired R Alone x y
                  → fire M s (c s (get_or picks n 0) a more).tag ≡ x → fire N u (d u (get_or picks n 0) a more).tag ≡ y → Later → InStep R Alone (Left (suc b) n s) (Right (suc b) n u)
              by_firing a more e (alone {r = r} k) p q later =
                  stopped r (c s (get_or picks n 0) a more).place (ap (λ (z : EndOf M). z.outcome) (free_refused M held c picks f n s a more e b r p)) k
              by_firing a more e (neither {r = r}) p q later =
                  rw (free_refused M held c picks f n s a more e b r p, free_refused N kept d picks f n u a more (sym (free_same s u h) ∙ e) b r q)
                  (alike (record { outcome = ap (λ (z : Activity M.Tag). refused r z.place) (same s u h (get_or picks n 0) a more); firings = refl; state = h }))
              by_firing a more e (both {x = x} {y = y} k) p q later =
                  rw (free_fired M held c picks f n s a more e b x p, free_fired N kept d picks f n u a more (sym (free_same s u h) ∙ e) b y q) (later x y k)

              go : (l : List (Activity M.Tag)) → free_of M held s ≡ l → Later → InStep R Alone (Left (suc b) n s) (Right (suc b) n u)
              go [] e later = none_free_lem (suc b) n s u h e
              go (a ∷ more) e later =
                  by_firing a more e (fire_related s u h (c s (get_or picks n 0) a more).tag) refl (ap (λ (z : Activity M.Tag). fire N u z.tag) (sym (same s u h (get_or picks n 0) a more))) later

      pub in_step : RunsInStepOfMachine M W effect signal R Alone
      in_step c d same held kept heldSame s u h b picks f = stepwise c d same held kept heldSame picks f b 0 s u h
