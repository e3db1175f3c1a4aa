-- A run that its budget stopped goes on from there, with a larger budget, as if it had not been stopped (`goes_on`); so the next firing is that of the
-- activity which the next pick takes (`next_firing`). Assumes nothing.
use mathlib.Core.Path.{◌≡◌, refl, sym, ap, subst, ◌∙◌}
use mathlib.Core.List.{List, [], ◌∷◌}
use Prim.Native.Nat.{ℕ, zero, suc, ◌+◌, ◌-◌, ◌<◌}
use native.Mathlib.Nat.{zero-add}
use native.Mathlib.Omega.{arith}
use lib.ListN.{drop, get_or}
use Rattle.machine.specs.Machine.{Machine, Activity, budget_spent, first_pick, later_picks}
use Rattle.machine.specs.Machine.{StateOf, EndOf, Choice, enabled, fire, after, end, pick_of, by_picks, run_by, run}
use Rattle.machine.specs.Orders.{Quiescent}
use Rattle.machine.proofs.Ending.{ending_rests}
use Rattle.machine.proofs.Runs.{along, run_fired}

-- ---- picks

first_drop : (k : ℕ) (xs : List ℕ) → first_pick (drop k xs) ≡ get_or xs k 0
first_drop zero [] = refl
first_drop (suc k) [] = refl
first_drop zero (x ∷ xs) = refl
first_drop (suc k) (x ∷ xs) = first_drop k xs

later_drop : (k : ℕ) (xs : List ℕ) → later_picks (drop k xs) ≡ drop (suc k) xs
later_drop zero [] = refl
later_drop (suc k) [] = refl
later_drop zero (x ∷ xs) = refl
later_drop (suc k) (x ∷ xs) = later_drop k xs

drop_later : (k : ℕ) (xs : List ℕ) → drop k (later_picks xs) ≡ drop (suc k) xs
drop_later zero [] = refl
drop_later (suc k) [] = refl
drop_later k (x ∷ xs) = refl

module _ (M : Machine) where
  -- e is the end of a run with the budget b, after f firings before it. If it is spent, at x, then k more in the budget are k more from x on
  abbrev GoesOn : Choice M → ℕ → List ℕ → ℕ → StateOf M → EndOf M → Type 0
  GoesOn c b ps f s e = (n : ℕ) (x : StateOf M) → e ≡ end M budget_spent n x → n ≡ f + b → (k : ℕ) → run_by M c (b + k) ps f s ≡ run_by M c k (drop b ps) n x

  pub goes_on_lem : (c : Choice M) (b : ℕ) (ps : List ℕ) (f : ℕ) (s : StateOf M) → GoesOn c b ps f s (run_by M c b ps f s)
  goes_on_lem c = along M c (GoesOn c) (record {
    rests = λ b ps f s e n x h m k. absurd (subst Quiescent (ap (λ (z : EndOf M). z.outcome) h) (ending_rests M s));
    stops = λ ps f s a more e n x h m k.
        ap (λ (j : ℕ). run_by M c j ps f s) (zero-add k) ∙ ap (λ (z : EndOf M). run_by M c k ps z.firings z.state) h;
    refuses = λ b ps f s a more q e g n x h m k. let o = ap (λ (z : EndOf M). z.outcome) h in let z : ◌≡◌ {A = ℕ} 0 1 = cc in absurd (omega arith);
    fires = λ b ps f s y a more z e g rest n x h m k.
        ap (λ (j : ℕ). run_by M c j ps f s) (omega arith)
        ∙ run_fired M c (b + k) ps f s y a more e g
        ∙ rest n x h (omega arith) k
        ∙ ap (λ (l : List ℕ). run_by M c k l n x) (drop_later b ps);
  })

  -- the first of more firings, from x, where a ∷ more are enabled
  first_firing : (picks : List ℕ) (b k : ℕ) (x : StateOf M) (a : Activity M.Tag) (more : List (Activity M.Tag)) → enabled M x ≡ a ∷ more
      → run_by M (by_picks M) (suc k) (drop b picks) b x
      ≡ after M b x (pick_of M (get_or picks b 0) a more) (fire M x (pick_of M (get_or picks b 0) a more).tag) (λ y. run_by M (by_picks M) k (drop (suc b) picks) (suc b) y)
  unfolding run_by
  first_firing picks b k x a more some = rw (some, first_drop b picks, later_drop b picks)

  -- of a run by picks
  pub next_firing : (s : StateOf M) (picks : List ℕ) (b budget : ℕ) → b < budget → (x : StateOf M) (a : Activity M.Tag) (more : List (Activity M.Tag))
      → run M b picks s ≡ end M budget_spent b x → enabled M x ≡ a ∷ more
      → let chosen = pick_of M (get_or picks b 0) a more in
      run M budget picks s ≡ after M b x chosen (fire M x chosen.tag) (λ y. run_by M (by_picks M) (budget - suc b) (drop (suc b) picks) (suc b) y)
  next_firing s picks b budget h x a more stopped some =
      ap (λ (j : ℕ). run M j picks s) (omega arith)
      ∙ goes_on_lem (by_picks M) b picks 0 s b x stopped (sym (zero-add b)) (suc (budget - suc b))
      ∙ first_firing picks b (budget - suc b) x a more some
