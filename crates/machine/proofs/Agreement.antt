-- Two instruction sets that agree on the tag of every token that a run leaves make one run (`same_run`). Assumes nothing. Takes that the first is
-- lawful, and of the state that it is well-formed.
use mathlib.Core.Path.{◌≡◌, refl, ap, ◌∙◌, fun_ext}
use mathlib.Core.List.{List, [], ◌∷◌, map, Memᴰ}
use mathlib.Core.Option.{Option, none, some}
use mathlib.Core.Bool.{true, cond}
use Prim.Native.Nat.{ℕ, suc}
use lib.ListN.{set}
use Rattle.machine.specs.Machine.{Key, Content, live, Token, present, refuse, send, read, write, Machine, Activity, not_fired, is_there, when, on_option, fill, cell_at, cell_read, content_read, if_present, changed, Operands, first_pick}
use Rattle.machine.specs.Machine.{Ledger, StateOf, EffectOf, same_key, at, find, look, is_operand_of, operands, place_of, is_place, enabled_from, enabled, spend_at, admit, commit, fire, all_proper, ending, end, run_by}
use Rattle.machine.specs.Orders.{Lawful, Good, LawfulChoice}
use Rattle.machine.specs.Agreement.{with_instructions}
use Rattle.machine.specs.Machine.{Choice}
use Rattle.machine.proofs.View.{operand_live, operand_zero}
use Rattle.machine.proofs.Store.{find_head}
use Rattle.machine.proofs.Enabled.{enabled_ready}
use Rattle.machine.proofs.Sequences.{firing}
use Rattle.machine.proofs.Runs.{along, run_empty, run_zero, run_fired, run_refused}
use Rattle.machine.proofs.Fired.{marked}
use Rattle.machine.proofs.Kept.{Each}

-- ---- the claims

module _ (M : Machine) (arity : M.Tag → ℕ) (effect : M.Tag → M.Value → M.Value → EffectOf M) where
  pub record AgreeAt (τ : M.Tag) : Type 0 where
    pub arities : arity τ ≡ M.arity τ
    pub effects : (v w : M.Value) → effect τ v w ≡ M.effect τ v w

  -- at the tag of every token
  abbrev pub AgreeOn : StateOf M → Type 0
  AgreeOn x = (k : Key M.Tag) → is_there (look M x k) ≡ true → AgreeAt k.tag

  abbrev pub SameRun : Type 0
  SameRun = (c : Choice M) → LawfulChoice M c → (s : StateOf M) → Good M s → (budget : ℕ) (picks : List ℕ) (f : ℕ) → AgreeOn (run_by M c budget picks f s).state
      → run_by (with_instructions M arity effect) c budget picks f s ≡ run_by M c budget picks f s

-- ---- the proofs

module _ (M : Machine) (arity : M.Tag → ℕ) (effect : M.Tag → M.Value → M.Value → EffectOf M) where
  abbrev N : Machine
  N = with_instructions M arity effect

  abbrev At : M.Tag → Type 0
  At = AgreeAt M arity effect

  abbrev OnTokens : Ledger M → Type 0
  OnTokens ts = Each (λ (t : Token M.Tag M.Value). At t.key.tag) ts

  -- what holds of every key that is found, holds of every token
  every_token : (ts : Ledger M) → ((k : Key M.Tag) → is_there (find M k ts) ≡ true → At k.tag) → OnTokens ts
  every_token [] h = tt
  every_token (t ∷ ts) h = (h t.key (rw (find_head M t ts)), every_token ts (λ k e. h k (behind k (same_key M k t.key) e)))
    where
      behind : (k : Key M.Tag) (d : Dec (k ≡ t.key)) → is_there (find M k ts) ≡ true → is_there (when d (some t.content) (find M k ts)) ≡ true
      behind k (yes p) e = refl
      behind k (no n) e = e

  -- ---- the enabled

  place_same : (τ : M.Tag) → At τ → (ts : Ledger M) → place_of N τ ts ≡ place_of M τ ts
  place_same τ a [] = refl
  place_same τ a (t ∷ ts) = rw a.arities (ap (λ (n : ℕ). cond (is_operand_of M τ t.key) 0 (suc n)) (place_same τ a ts))

  is_place_same : (s : StateOf M) (i : ℕ) (t : Token M.Tag M.Value) → At t.key.tag → is_place N s i t ≡ is_place M s i t
  is_place_same s i t a = rw (place_same t.key.tag a s.tokens, a.arities)

  from_same : (s : StateOf M) (i : ℕ) (ts : Ledger M) → OnTokens ts → enabled_from N s i ts ≡ enabled_from M s i ts
  from_same s i [] h = refl
  from_same s i (t ∷ ts) (a, h) = rw (is_place_same s i t a, from_same s (suc i) ts h)

  enabled_same : (s : StateOf M) → AgreeOn M arity effect s → enabled N s ≡ enabled M s
  unfolding enabled
  enabled_same s a = from_same s 0 s.tokens (every_token s.tokens a)

  -- ---- a firing

  abbrev Spending : Type 0
  Spending = Key M.Tag → Content M.Value → Content M.Value

  spend_same : (τ : M.Tag) → At τ → spend_at N τ ≡ spend_at M τ
  spend_same τ a = fun_ext (λ k. fun_ext (λ x. rw a.arities))

  commit_same : (s : StateOf M) (τ : M.Tag) → At τ → (e : EffectOf M) → commit N s τ e ≡ commit M s τ e
  unfolding commit admit
  commit_same s τ a (refuse r) = refl
  commit_same s τ a (send v keys) = ap (λ (f : Spending). admit M s (map (changed f) s.tokens) s.cells (live v) keys) (spend_same τ a)
  commit_same s τ a (read c keys) =
      ap (λ (f : Spending). admit M s (map (changed f) s.tokens) (set s.cells c (cell_read (cell_at s.cells c))) (content_read c (cell_at s.cells c)) keys) (spend_same τ a)
  commit_same s τ a (write c v keys) =
      ap (λ (f : Spending). if_present (cell_at s.cells c) (not_fired M.second_write) (admit M s (map (changed (λ k x. fill c v (f k x))) s.tokens) (set s.cells c (present v)) (live M.signal) keys)) (spend_same τ a)

  -- whatever operands are found
  fired_same : (s : StateOf M) (τ : M.Tag) → At τ → ((v w : M.Value) → effect τ v w ≡ M.effect τ v w) → fire N s τ ≡ fire M s τ
  unfolding fire
  fired_same s τ a h = rw a.arities (go (operands M (look M s) τ))
    where
      go : (q : Option (Operands M.Value)) → on_option q (not_fired M.second_token) (λ p. commit N s τ (effect τ p.left p.right))
          ≡ on_option q (not_fired M.second_token) (λ p. commit M s τ (M.effect τ p.left p.right))
      go none = refl
      go (some p) = rw (h p.left p.right) (commit_same s τ a (M.effect τ p.left p.right))

  -- ---- a run

  proper_same : (ts : Ledger M) → OnTokens ts → all_proper N ts ≡ all_proper M ts
  proper_same [] h = refl
  proper_same (t ∷ ts) (a, h) = rw (a.arities, proper_same ts h)

  ending_same : (s : StateOf M) → AgreeOn M arity effect s → ending N s ≡ ending M s
  unfolding ending
  ending_same s a = rw (proper_same s.tokens (every_token s.tokens a))

  -- an enabled activity has a token
  at_enabled : (s : StateOf M) → AgreeOn M arity effect s → (b : Activity M.Tag) → Memᴰ b (enabled M s) → At b.tag
  at_enabled s a b m =
      let (p, e) = enabled_ready M s b m in
      let (v, f) = operand_live M (look M s) b.tag p (at M b.tag 0) e (operand_zero M (look M s) b.tag p e) in
      a (at M b.tag 0) (rw f)

  pub same_run : Lawful M → SameRun M arity effect
  same_run law c ok s g b ps f a = (with b ps f s g a).1
    where
      fire_same : (s : StateOf M) (τ : M.Tag) → At τ → fire N s τ ≡ fire M s τ
      fire_same s τ a = fired_same s τ a a.effects

      -- the run agrees from its start on: a token stays where it is
      with : (b : ℕ) (ps : List ℕ) (f : ℕ) (s : StateOf M) → Good M s → AgreeOn M arity effect (run_by M c b ps f s).state → AgreeOn M arity effect s × (run_by N c b ps f s ≡ run_by M c b ps f s)
      with = along M c (λ b ps f s e. Good M s → AgreeOn M arity effect e.state → AgreeOn M arity effect s × (run_by N c b ps f s ≡ e)) (record {
        rests = λ b ps f s e g a. (a, run_empty N c b ps f s (enabled_same s a ∙ e) ∙ ap (λ o. end M o f s) (ending_same s a));
        stops = λ ps f s x more e g a. (a, run_zero N c ps f s x more (enabled_same s a ∙ e));
        refuses = λ b ps f s x more r e h g a.
            (a, run_refused N c b ps f s x more r (enabled_same s a ∙ e) (fire_same s (c s (first_pick ps) x more).tag (at_enabled s a (c s (first_pick ps) x more) (rw e (ok s (first_pick ps) x more))) ∙ h));
        fires = λ b ps f s y x more z e h rest g a.
            let τ = (c s (first_pick ps) x more).tag in
            let (ay, same) = rest (firing M law s y τ g h).good a in
            let before : AgreeOn M arity effect s = λ k t. ay k ((marked M law s y τ g h).stays k t) in
            (before, run_fired N c b ps f s y x more (enabled_same s before ∙ e) (fire_same s τ (at_enabled s before (c s (first_pick ps) x more) (rw e (ok s (first_pick ps) x more))) ∙ h) ∙ same);
      })
