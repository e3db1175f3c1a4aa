-- R-13: a run in parts ends as the uncut run (`cut_runs`), and firings before are counted alone (`later_firings`). Assumes nothing. Takes any machine, any choice and any state.
use mathlib.Core.Path.{◌≡◌, refl, sym, ap, ◌∙◌}
use mathlib.Core.List.{List, [], ◌∷◌}
use Prim.Native.Nat.{ℕ, suc, ◌+◌}
use native.Mathlib.Nat.{zero-add, add-zero, add-suc, suc-add}
use lib.ListN.{take, drop}
use lib.Seq.{take-nil, drop-nil}
use Rattle.machine.specs.Machine.{Machine, first_pick, later_picks, StateOf, EndOf, Choice, end, run_by}
use Rattle.machine.specs.Saved.{if_refused, sum, CutRunsOfMachine}
use Rattle.machine.proofs.Ending.{ending_cases}
use Rattle.machine.proofs.Runs.{along, run_empty, run_zero, run_fired, run_refused}

-- ---- picks divided

first_taken : (a : ℕ) (ps : List ℕ) → first_pick (take (suc a) ps) ≡ first_pick ps
first_taken a [] = refl
first_taken a (p ∷ ps) = refl

later_taken : (a : ℕ) (ps : List ℕ) → later_picks (take (suc a) ps) ≡ take a (later_picks ps)
later_taken a [] = sym (take-nil a)
later_taken a (p ∷ ps) = refl

later_left : (a : ℕ) (ps : List ℕ) → drop (suc a) ps ≡ drop a (later_picks ps)
later_left a [] = sym (drop-nil a)
later_left a (p ∷ ps) = refl

module _ (M : Machine) where
  -- a run looks at no more picks than its budget
  pub picks_taken : (c : Choice M) (a : ℕ) (ps : List ℕ) (f : ℕ) (s : StateOf M) → run_by M c a (take a ps) f s ≡ run_by M c a ps f s
  picks_taken c = along M c (λ a ps f s e. run_by M c a (take a ps) f s ≡ e) (record {
    rests = λ a ps f s e. run_empty M c a (take a ps) f s e;
    stops = λ ps f s x more e. run_zero M c [] f s x more e;
    refuses = λ a ps f s x more r e g. rw (first_taken a ps) at (run_refused M c a (take (suc a) ps) f s x more r e (rw (first_taken a ps) g));
    fires = λ a ps f s y x more z e g h. run_fired M c a (take (suc a) ps) f s y x more e (rw (first_taken a ps) g) ∙ rw (later_taken a ps) h;
  })

  -- a part, and what is left to do after it with the budget k
  abbrev Continued : Choice M → (k a : ℕ) → List ℕ → ℕ → StateOf M → EndOf M → Type 0
  Continued c k a ps f s e = if_refused e.outcome e (run_by M c k (drop a ps) e.firings e.state) ≡ run_by M c (a + k) ps f s

  cut_once : (c : Choice M) (k a : ℕ) (ps : List ℕ) (f : ℕ) (s : StateOf M) → Continued c k a ps f s (run_by M c a ps f s)
  cut_once c k = along M c (Continued c k) (record {
    rests = λ a ps f s e.
        let same = run_empty M c k (drop a ps) f s e ∙ sym (run_empty M c (a + k) ps f s e) in
        ending_cases M s (λ o. Continued c k a ps f s (end M o f s)) (λ h. same) (λ h. same);
    stops = λ ps f s x more e. ap (λ (n : ℕ). run_by M c n ps f s) (sym (zero-add k));
    refuses = λ a ps f s x more r e g. rw (suc-add a k) (sym (run_refused M c (a + k) ps f s x more r e g));
    fires = λ a ps f s y x more z e g h. rw (suc-add a k, later_left a ps) (h ∙ sym (run_fired M c (a + k) ps f s y x more e g));
  })

  pub cut_runs : CutRunsOfMachine M
  cut_runs c a [] ps f s = ap (λ (n : ℕ). run_by M c n ps f s) (sym (add-zero a))
  cut_runs c a (b ∷ bs) ps f s = rw (picks_taken c a ps f s, cut_runs c b bs (drop a ps) (run_by M c a ps f s).firings (run_by M c a ps f s).state) (cut_once c (b + sum bs) a ps f s)

  -- ---- firings before are counted, and change nothing else

  module _ (c : Choice M) (f : ℕ) where
    abbrev Later : ℕ → List ℕ → ℕ → StateOf M → EndOf M → Type 0
    Later b ps n s e = run_by M c b ps (f + n) s ≡ end M e.outcome (f + e.firings) e.state

    later : (b : ℕ) (ps : List ℕ) (n : ℕ) (s : StateOf M) → Later b ps n s (run_by M c b ps n s)
    later = along M c Later (record {
      rests = λ b ps n s e. run_empty M c b ps (f + n) s e;
      stops = λ ps n s a more e. run_zero M c ps (f + n) s a more e;
      refuses = λ b ps n s a more r e h. run_refused M c b ps (f + n) s a more r e h;
      fires = λ b ps n s x a more z e h k. run_fired M c b ps (f + n) s x a more e h ∙ rw (add-suc f n) at k;
    })

    pub later_firings : (b : ℕ) (ps : List ℕ) (s : StateOf M) → let e = run_by M c b ps 0 s in run_by M c b ps f s ≡ end M e.outcome (f + e.firings) e.state
    later_firings b ps s = rw (add-zero f) at (later b ps 0 s)
