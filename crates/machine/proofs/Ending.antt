-- R-2: where nothing is enabled a run is completed exactly if all tokens are proper, else hung (`ending_says_lem`, `rested`), and the order of the
-- tokens does not matter (`ending_perm`). Assumes nothing.
use mathlib.Core.Path.{◌≡◌, refl, sym, ◌∙◌}
use mathlib.Core.List.{[], ◌∷◌, Permᴰ}
use mathlib.Core.Bool.{Bool, true, false, ◌&&◌, cond}
use Prim.Native.Nat.{ℕ}
use borrow.Author.Tests.{eqb-true, eq-eqb}
use Rattle.machine.specs.Machine.{Content, live, spent, deferred, Machine, Outcome, completed, hung, budget_spent, refused, is_proper, Ledger, StateOf, all_proper, ending}
use Rattle.machine.specs.Orders.{Quiescent, ProperContentAt, AllProper, Says}
use Rattle.machine.specs.Sequences.{NothingEnabled}
use Rattle.machine.proofs.View.{false_true}

pub both_true : (a b : Bool) → a && b ≡ true → (a ≡ true) × (b ≡ true)
both_true true b e = (refl, e)
both_true false b e = false_true e

-- two tests may change places
swapped : (a b c : Bool) → a && (b && c) ≡ b && (a && c)
swapped true true c = refl
swapped true false c = refl
swapped false true c = refl
swapped false false c = refl

module _ (M : Machine) where
  -- ---- the test, and what it says

  proper_one : (n : ℕ) (x : Content M.Value) → is_proper n x ≡ true → ProperContentAt M n x
  proper_one n (live v) e = eqb-true n 0 e
  proper_one n (spent v) e = tt
  proper_one n (deferred c) e = false_true e

  test_one : (n : ℕ) (x : Content M.Value) → ProperContentAt M n x → is_proper n x ≡ true
  test_one n (live v) h = eq-eqb n 0 h
  test_one n (spent v) h = refl
  test_one n (deferred c) h = absurd h

  proper : (ts : Ledger M) → all_proper M ts ≡ true → AllProper M ts
  proper [] e = tt
  proper (t ∷ ts) e =
      let (p, q) = both_true (is_proper (M.arity t.key.tag) t.content) (all_proper M ts) e in
      (proper_one (M.arity t.key.tag) t.content p, proper ts q)

  tested : (ts : Ledger M) → AllProper M ts → all_proper M ts ≡ true
  tested [] h = refl
  tested (t ∷ ts) h = rw (test_one (M.arity t.key.tag) t.content h.0) (tested ts h.1)

  -- ---- completed or hung

  -- what holds of completed if all are proper, and of hung if not, holds of the ending
  pub ending_cases : (s : StateOf M) (P : Outcome M.Refusal → Type 0) → (AllProper M s.tokens → P completed) → (¬ (AllProper M s.tokens) → P hung) → P (ending M s)
  unfolding ending
  ending_cases s P c h = go (all_proper M s.tokens) refl
    where
      go : (b : Bool) → all_proper M s.tokens ≡ b → P (cond b completed hung)
      go true e = c (proper s.tokens e)
      go false e = h (λ z. false_true (sym e ∙ tested s.tokens z))

  pub ending_says_lem : (s : StateOf M) (budget n : ℕ) → NothingEnabled M s → Says M (ending M s) budget n s
  ending_says_lem s b n e = ending_cases s (λ o. Says M o b n s) (λ h. (e, h)) (λ h. (e, h))

  pub ending_rests : (s : StateOf M) → Quiescent (ending M s)
  ending_rests s = ending_cases s Quiescent (λ h. tt) (λ h. tt)

  -- so it is with a run that completes or hangs
  pub rested : (o : Outcome M.Refusal) (budget n : ℕ) (x : StateOf M) → Quiescent o → Says M o budget n x → NothingEnabled M x × (o ≡ ending M x)
  rested completed b n x q (e, h) = (e, ending_cases x (λ o. completed ≡ o) (λ k. refl) (λ k. absurd (k h)))
  rested hung b n x q (e, h) = (e, ending_cases x (λ o. hung ≡ o) (λ k. absurd (h k)) (λ k. refl))
  rested budget_spent b n x q h = absurd q
  rested (refused r p) b n x q h = absurd q

  -- ---- the order of the tokens

  proper_perm : {l m : Ledger M} → Permᴰ l m → all_proper M l ≡ all_proper M m
  proper_perm Permᴰ.nil = refl
  proper_perm (Permᴰ.cons e p) = rw (e, proper_perm p)
  proper_perm (Permᴰ.swap {a' = x} {b' = y} {l = ts} e f) =
      rw (e, f) (swapped (is_proper (M.arity y.key.tag) y.content) (is_proper (M.arity x.key.tag) x.content) (all_proper M ts))
  proper_perm (Permᴰ.trans p q) = proper_perm p ∙ proper_perm q

  pub ending_perm : (x y : StateOf M) → Permᴰ x.tokens y.tokens → ending M x ≡ ending M y
  unfolding ending
  ending_perm x y p = rw (proper_perm p)
