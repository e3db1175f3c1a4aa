-- A firing that is refused leaves what it found: the same run, stopped by its budget right before it, leaves the same state. And a run that is
-- stopped before its first firing leaves what it started from. Assumes nothing.
use mathlib.Core.Path.{◌≡◌, refl, sym, ap, subst, ◌∙◌}
use mathlib.Core.List.{List, [], ◌∷◌}
use Prim.Native.Nat.{ℕ, suc, ◌+◌}
use native.Mathlib.Nat.{zero-add, add-zero}
use native.Mathlib.Omega.{arith}
use Rattle.machine.specs.Machine.{Machine, Activity, budget_spent, refused}
use Rattle.machine.specs.Machine.{StateOf, EndOf, Choice, enabled, end, by_picks, run_by, run}
use Rattle.machine.specs.Orders.{Quiescent}
use Rattle.machine.proofs.Ending.{ending_rests}
use Rattle.machine.proofs.Runs.{along, run_empty, run_zero, run_fired}

module _ (M : Machine) where
  -- e is the end of a run from s, after f firings; with a budget of as many firings as it did it ends spent, and leaves the same
  pub record Before (c : Choice M) (ps : List ℕ) (f : ℕ) (s : StateOf M) (e : EndOf M) : Type 0 where
    pub done : ℕ
    pub firings : e.firings ≡ f + done
    pub stopped : run_by M c done ps f s ≡ end M budget_spent (f + done) e.state

  pub refused_stops : (c : Choice M) (b : ℕ) (ps : List ℕ) (f : ℕ) (s : StateOf M) (r : M.Refusal) (p : ℕ) → (run_by M c b ps f s).outcome ≡ refused r p → Before c ps f s (run_by M c b ps f s)
  refused_stops c b ps f s r p = along M c (λ b ps f s e. e.outcome ≡ refused r p → Before c ps f s e) (record {
    rests = λ b ps f s e h. absurd (subst Quiescent h (ending_rests M s));
    stops = λ ps f s a more e h. let z : ◌≡◌ {A = ℕ} 0 1 = cc in absurd (omega arith);
    refuses = λ b ps f s a more q e g h. record { done = 0; firings = omega arith; stopped = run_zero M c ps f s a more e ∙ ap (λ (n : ℕ). end M budget_spent n s) (sym (add-zero f)) };
    fires = λ b ps f s x a more z e g rest h.
        let later = rest h in
        record {
          done = suc later.done;
          firings = let n = later.firings in omega arith;
          stopped = run_fired M c later.done ps f s x a more e g ∙ later.stopped ∙ ap (λ (n : ℕ). end M budget_spent n z.state) (omega arith);
        };
  }) b ps f s

  -- of a run by picks
  pub refused_picks : (s : StateOf M) (budget : ℕ) (picks : List ℕ) (r : M.Refusal) (p : ℕ) → (run M budget picks s).outcome ≡ refused r p
      → run M (run M budget picks s).firings picks s ≡ end M budget_spent (run M budget picks s).firings (run M budget picks s).state
  refused_picks s budget picks r p h =
      let b = refused_stops (by_picks M) budget picks 0 s r p h in
      let n : b.done ≡ (run M budget picks s).firings = let z = b.firings in omega arith in
      subst (λ (k : ℕ). run M k picks s ≡ end M budget_spent k (run M budget picks s).state) n (b.stopped ∙ ap (λ (k : ℕ). end M budget_spent k (run M budget picks s).state) (zero-add b.done))

  -- with a budget of 0 nothing is fired
  pub run_zero_lem : (s : StateOf M) (picks : List ℕ) → (run M 0 picks s).state ≡ s
  run_zero_lem s picks = go (enabled M s) refl
    where
      go : (l : List (Activity M.Tag)) → enabled M s ≡ l → (run M 0 picks s).state ≡ s
      go [] e = ap (λ (x : EndOf M). x.state) (run_empty M (by_picks M) 0 picks 0 s e)
      go (a ∷ more) e = ap (λ (x : EndOf M). x.state) (run_zero M (by_picks M) picks 0 s a more e)
