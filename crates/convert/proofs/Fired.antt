-- What the keys of all tokens have, the tags of a log have: an activity that fires has a token on port 0 (`log_keeps`). Assumes nothing; takes a machine whose
-- effects keep it.
use Prim.Native.Nat.{ℕ, zero, suc}
use mathlib.Core.Path.{◌≡◌, refl}
use mathlib.Core.List.{List, [], ◌∷◌}
use mathlib.Core.Option.{Option, none, some}
use Rattle.buffer.specs.Rows.{All}
use Rattle.machine.specs.Machine.{Key, live, Machine, Activity, fired, not_fired, Operands, on_option, on_list, first_pick, later_picks}
use Rattle.machine.specs.Machine.{StateOf, FiredOf, at, look, operands, enabled, commit, fire, Choice}
use Rattle.machine.specs.Sequences.{if_fired, log_of}
use Rattle.machine.proofs.View.{operand_live, operand_zero}
use Rattle.machine.proofs.Sequences.{never_fired}
use Rattle.machine.proofs.Kept.{OfState, Keeps, found, fired_keeps}

module _ (M : Machine) (P : Key M.Tag → Type 0) (Q : M.Value → Type 0) (R : (cell : ℕ) → Type 0) (keeps : Keeps M P Q R) where
  fired_key : (s x : StateOf M) (τ : M.Tag) → OfState M P Q R s → fire M s τ ≡ fired x → P (at M τ 0)
  unfolding fire
  fired_key s x τ h e = go (operands M (look M s) τ) refl e
    where
      go : (q : Option (Operands M.Value)) → operands M (look M s) τ ≡ q
          → ◌≡◌ {A = FiredOf M} (on_option q (not_fired M.second_token) (λ p. commit M s τ (M.effect τ p.left p.right))) (fired x) → P (at M τ 0)
      go none f g = never_fired M _ x g
      go (some o) f g =
          let (v, l) = operand_live M (look M s) τ o (at M τ 0) f (operand_zero M (look M s) τ o f) in
          (found M P Q R (at M τ 0) s.tokens (live v) h.tokens l).0

  pub log_keeps : (c : Choice M) (b : ℕ) (ps : List ℕ) (s : StateOf M) → OfState M P Q R s → All (λ τ. P (at M τ 0)) (log_of M c b ps s)
  unfolding log_of
  log_keeps c zero ps s h = tt
  log_keeps c (suc b) ps s h = go (enabled M s) (λ x k. log_keeps c b (later_picks ps) x k)
    where
      go : (l : List (Activity M.Tag)) → ((x : StateOf M) → OfState M P Q R x → All (λ τ. P (at M τ 0)) (log_of M c b (later_picks ps) x))
          → All (λ τ. P (at M τ 0)) (on_list l [] (λ a more. let d = c s (first_pick ps) a more in if_fired (fire M s d.tag) (λ x. d.tag ∷ log_of M c b (later_picks ps) x) []))
      go [] rest = tt
      go (a ∷ more) rest = by (fire M s d.tag) refl
        where
          d : Activity M.Tag
          d = c s (first_pick ps) a more

          by : (x : FiredOf M) → fire M s d.tag ≡ x → All (λ τ. P (at M τ 0)) (if_fired x (λ y. d.tag ∷ log_of M c b (later_picks ps) y) [])
          by (not_fired r) e = tt
          by (fired y) e = (fired_key s y d.tag h e, rest y (fired_keeps M P Q R keeps s d.tag y h e))
