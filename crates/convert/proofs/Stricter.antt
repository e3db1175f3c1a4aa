-- An instruction set that refuses more, by one word, and is else the same: a run that is not refused by that word is the run of the other (`as_freely`), and so
-- is its log. Assumes nothing.
use Prim.Native.Nat.{ℕ, zero, suc}
use mathlib.Core.Path.{◌≡◌, refl}
use mathlib.Core.Logic.{◌⊎◌, inl, inr}
use mathlib.Core.List.{List, [], ◌∷◌}
use mathlib.Core.Option.{Option, none, some}
use Rattle.machine.specs.Machine.{Machine, Activity, fired, not_fired, refused, End, refuse, Operands, on_option, on_list, first_pick, later_picks}
use Rattle.machine.specs.Machine.{StateOf, EffectOf, FiredOf, look, operands, enabled, commit, admit, fire, ending, end, after, Choice, run_by}
use Rattle.machine.specs.Sequences.{if_fired, log_of}
use Rattle.machine.specs.Agreement.{with_instructions}

module _ (M : Machine) (effect : M.Tag → M.Value → M.Value → EffectOf M) (word : M.Refusal)
    (stricter : (τ : M.Tag) (v w : M.Value) → (effect τ v w ≡ refuse word) ⊎ (effect τ v w ≡ M.effect τ v w)) where
  abbrev N : Machine
  N = with_instructions M M.arity effect

  -- ---- what does not look at effects

  same_enabled : (s : StateOf M) → enabled N s ≡ enabled M s
  unfolding enabled
  same_enabled s = refl

  same_ending : (s : StateOf M) → ending N s ≡ ending M s
  unfolding ending
  same_ending s = refl

  -- ---- a firing is refused by the word, or the same

  same_fire : (s : StateOf M) (τ : M.Tag) → (fire N s τ ≡ not_fired word) ⊎ (fire N s τ ≡ fire M s τ)
  unfolding fire commit admit
  same_fire s τ = go (operands M (look M s) τ)
    where
      go : (q : Option (Operands M.Value))
          → (on_option q (not_fired M.second_token) (λ p. commit N s τ (effect τ p.left p.right)) ≡ not_fired word)
          ⊎ (on_option q (not_fired M.second_token) (λ p. commit N s τ (effect τ p.left p.right)) ≡ on_option q (not_fired M.second_token) (λ p. commit M s τ (M.effect τ p.left p.right)))
      go none = inr refl
      go (some p) = by (stricter τ p.left p.right)
        where
          by : (effect τ p.left p.right ≡ refuse word) ⊎ (effect τ p.left p.right ≡ M.effect τ p.left p.right)
              → (commit N s τ (effect τ p.left p.right) ≡ not_fired word) ⊎ (commit N s τ (effect τ p.left p.right) ≡ commit M s τ (M.effect τ p.left p.right))
          by (inl e) = inl (rw e)
          by (inr e) = inr (rw e)

  -- ---- a run and its log

  abbrev Allowed : End M.Refusal M.Tag M.Value → Type 0
  Allowed e = (place : ℕ) → e.outcome ≡ refused word place → ⊥

  pub as_freely : (c : Choice M) (b : ℕ) (ps : List ℕ) (f : ℕ) (s : StateOf M) → Allowed (run_by N c b ps f s)
      → (run_by M c b ps f s ≡ run_by N c b ps f s) × (log_of M c b ps s ≡ log_of N c b ps s)
  unfolding run_by log_of
  as_freely c zero ps f s h = rw (same_enabled s, same_ending s) (refl, refl)
  as_freely c (suc b) ps f s h = go (enabled M s) refl (rw (same_enabled s, same_ending s) at h) (λ x k. as_freely c b (later_picks ps) (suc f) x k)
    where
      go : (l : List (Activity M.Tag)) → enabled M s ≡ l → Allowed (on_list l (end M (ending M s) f s) (λ a more.
          let d = c s (first_pick ps) a more in after N f s d (fire N s d.tag) (λ x. run_by N c b (later_picks ps) (suc f) x)))
          → ((x : StateOf M) → Allowed (run_by N c b (later_picks ps) (suc f) x) → (run_by M c b (later_picks ps) (suc f) x ≡ run_by N c b (later_picks ps) (suc f) x) × (log_of M c b (later_picks ps) x ≡ log_of N c b (later_picks ps) x))
          → (run_by M c (suc b) ps f s ≡ run_by N c (suc b) ps f s) × (log_of M c (suc b) ps s ≡ log_of N c (suc b) ps s)
      go [] e k rest = rw (same_enabled s, same_ending s, e) (refl, refl)
      go (a ∷ more) e k rest = rw (same_enabled s, same_ending s, e) (by (fire N s d.tag) refl (same_fire s d.tag) k)
        where
          d : Activity M.Tag
          d = c s (first_pick ps) a more

          by : (x : FiredOf M) → fire N s d.tag ≡ x → (fire N s d.tag ≡ not_fired word) ⊎ (fire N s d.tag ≡ fire M s d.tag) → Allowed (after N f s d (fire N s d.tag) (λ x. run_by N c b (later_picks ps) (suc f) x))
              → (after M f s d (fire M s d.tag) (λ x. run_by M c b (later_picks ps) (suc f) x) ≡ after N f s d (fire N s d.tag) (λ x. run_by N c b (later_picks ps) (suc f) x))
              × (if_fired (fire M s d.tag) (λ x. d.tag ∷ log_of M c b (later_picks ps) x) [] ≡ if_fired (fire N s d.tag) (λ x. d.tag ∷ log_of N c b (later_picks ps) x) [])
          by x p (inl q) k = absurd (k d.place (rw q))
          by (not_fired r) p (inr q) k = rw (← q, p) (refl, refl)
          by (fired y) p (inr q) k =
              let (runs, logs) = rest y (rw p at k) in
              rw (← q, p) (runs, (λ i. d.tag ∷ logs i))
