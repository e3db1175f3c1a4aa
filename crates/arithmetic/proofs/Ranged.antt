-- The definitions of `specs/Arithmetic.antt`, case by case. Assumes nothing.
use mathlib.Core.Path.{◌≡◌, refl, sym, ap, ◌∙◌, subst}
use mathlib.Core.Bool.{Bool, true, false, cond}
use Prim.Native.Nat.{ℕ, zero, suc, ◌<◌}
use native.Mathlib.Omega.{arith}
use lib.IntN.{ℤ, pos, negsuc, ◌+ℤ◌, ◌-ℤ◌, ◌*ℤ◌}
use lib.Signed.{lt_z, le_z, quot_z, rem_z}
use lib.Dec.{eqb}
use borrow.Author.Tests.{le-ltb, ltb-false, eqb-true, eq-eqb, ne_eqb}
use mir.Syntax.{w32}
use mir.Val.{SFits, bool_byte, to_z, of_z}
use mir.Facts.{sfits_lit}
use Rattle.std.specs.Prelude.{Option, None, Some, Result, Ok, Err}
use Rattle.std.specs.Option.{SomeIff}
use Rattle.std.specs.Result.{OkIff, result_ok}
use Rattle.std.specs.Int.{CanDivide}
use Rattle.record.specs.declared.operation.Arithmetic.{Arithmetic}
use Rattle.record.specs.declared.operation.Arithmetic.TheVariants.{Add, Sub, Mul, Div, Rem, Lt, Le, Eq}
use Rattle.arithmetic.proofs.Signed.{same_bits}
use Rattle.arithmetic.specs.Arithmetic.{least, most, eq_z, ranged, divided, truth, compute_of}

-- a number between the ends fits
pub between_fits : (z : ℤ) → lt_z z least ≡ false → lt_z most z ≡ false → SFits w32 z
between_fits (pos n) l h = record { sfits = omega (arith, ltb-false 2147483647 n h) }
between_fits (negsuc n) l h = record { sfits = omega (arith, ltb-false 2147483647 n l) }

pub fits_ranged : (z : ℤ) → SFits w32 z → ranged z ≡ Some z
unfolding ranged
fits_ranged (pos n) f = simp (le-ltb 2147483647 n (omega (arith, f.sfits)))
fits_ranged (negsuc n) f = simp (le-ltb 2147483647 n (omega (arith, f.sfits)))

pub low_ranged : (z : ℤ) → lt_z z least ≡ true → ranged z ≡ None
unfolding ranged
low_ranged z e = simp e

pub high_ranged : (z : ℤ) → lt_z z least ≡ false → lt_z most z ≡ true → ranged z ≡ None
unfolding ranged
high_ranged z d e = simp (d, e)

-- what a checked operation gives of a number
pub checked : (r : Option ℤ) (z : ℤ) → SomeIff r (SFits w32 z) z → r ≡ ranged z
checked (Some x) z (f, e) = ap Some e ∙ sym (fits_ranged z f)
checked None z n = go (lt_z z least) (lt_z most z) refl refl
  where
    go : (l h : Bool) → lt_z z least ≡ l → lt_z most z ≡ h → None ≡ ranged z
    go true h p q = sym (low_ranged z p)
    go false true p q = sym (high_ranged z p q)
    go false false p q = absurd (n (between_fits z p q))

-- by a divisor other than 0
pub by_nonzero : (b z : ℤ) → (b ≡ pos 0 → ⊥) → divided b z ≡ ranged z
unfolding divided
by_nonzero (pos zero) z h = absurd (h refl)
by_nonzero (pos (suc n)) z h = refl
by_nonzero (negsuc n) z h = refl

positive : (n : ℕ) → ¬ (n ≡ 0) → 0 < n
positive zero h = absurd (h refl)
positive (suc n) h = omega arith

pub checked_quotient : (a b : ℤ) → SFits w32 b → (r : Option ℤ) → SomeIff r (CanDivide w32 a b) (quot_z a b) → r ≡ divided b (quot_z a b)
unfolding divided
checked_quotient a b f (Some x) ((n, g), e) =
    ap Some e ∙ sym (by_nonzero b (quot_z a b) (λ z. let k : 0 < of_z w32 (pos 0) = subst (λ (d : ℤ). 0 < of_z w32 d) z n in absurd (omega (arith, k))) ∙ fits_ranged (quot_z a b) g)
checked_quotient a b f None n = go b refl
  where
    nonzero : (d : ℤ) → b ≡ d → ¬ (d ≡ pos 0) → 0 < of_z w32 b
    nonzero d e k = positive (of_z w32 b) (λ z. k (sym e ∙ same_bits f (sfits_lit tt) z))

    go : (d : ℤ) → b ≡ d → None ≡ divided d (quot_z a b)
    go (pos zero) e = refl
    go (pos (suc m)) e = checked None (quot_z a b) (λ g. n (nonzero (pos (suc m)) e (λ z. let k : ◌≡◌ {A = ℕ} 0 1 = cc in omega arith), g))
    go (negsuc m) e = checked None (quot_z a b) (λ g. n (nonzero (negsuc m) e (λ z. let k : ◌≡◌ {A = ℕ} 0 1 = cc in omega arith), g))

pub converted : {E : Type 0} (r : Result ℤ E) (z : ℤ) → OkIff r (SFits w32 z) z → result_ok r ≡ ranged z
converted (Ok x) z h = checked (Some x) z h
converted (Err e) z h = checked None z h

pub eq_eq_z : {a b : ℤ} → a ≡ b → eq_z a b ≡ true
eq_eq_z {a} e = subst (λ (z : ℤ). eq_z a z ≡ true) e (same a)
  where
    same : (a : ℤ) → eq_z a a ≡ true
    same (pos n) = eq-eqb n n refl
    same (negsuc n) = eq-eqb n n refl

pub eq_z_true : (a b : ℤ) → eq_z a b ≡ true → a ≡ b
eq_z_true (pos a) (pos b) e = ap pos (eqb-true a b e)
eq_z_true (pos a) (negsuc b) e = let z : ◌≡◌ {A = ℕ} 0 1 = cc in absurd (omega arith)
eq_z_true (negsuc a) (pos b) e = let z : ◌≡◌ {A = ℕ} 0 1 = cc in absurd (omega arith)
eq_z_true (negsuc a) (negsuc b) e = ap negsuc (eqb-true a b e)

pub ne_eq_z : (a b : ℤ) → (a ≡ b → ⊥) → eq_z a b ≡ false
ne_eq_z (pos a) (pos b) h = ne_eqb a b (λ e. h (ap pos e))
ne_eq_z (pos a) (negsuc b) h = refl
ne_eq_z (negsuc a) (pos b) h = refl
ne_eq_z (negsuc a) (negsuc b) h = ne_eqb a b (λ e. h (ap negsuc e))

-- a value that an operation gives fits 32 bits
pub ranged_fits : (z v : ℤ) → ranged z ≡ Some v → SFits w32 v
unfolding ranged
ranged_fits z v e = go (lt_z z least) (lt_z most z) refl refl e
  where
    go : (l h : Bool) → lt_z z least ≡ l → lt_z most z ≡ h → cond l None (cond h None (Some z)) ≡ Some v → SFits w32 v
    go true h p q e = let n : ◌≡◌ {A = ℕ} 0 1 = cc in omega arith
    go false true p q e = let n : ◌≡◌ {A = ℕ} 0 1 = cc in omega arith
    go false false p q e = let s : z ≡ v = cc in rw (← s) (between_fits z p q)

divided_fits : (b z v : ℤ) → divided b z ≡ Some v → SFits w32 v
unfolding divided
divided_fits (pos zero) z v e = let n : ◌≡◌ {A = ℕ} 0 1 = cc in omega arith
divided_fits (pos (suc m)) z v e = ranged_fits z v e
divided_fits (negsuc m) z v e = ranged_fits z v e

truth_fits : (t : Bool) (v : ℤ) → truth t ≡ Some v → SFits w32 v
truth_fits true v e = let s : pos 1 ≡ v = cc in rw (← s) (sfits_lit tt)
truth_fits false v e = let s : pos 0 ≡ v = cc in rw (← s) (sfits_lit tt)

pub value_fits : (op : Arithmetic) (a b v : ℤ) → compute_of op a b ≡ Some v → SFits w32 v
unfolding compute_of
value_fits Add a b v e = ranged_fits (a +ℤ b) v e
value_fits Sub a b v e = ranged_fits (a -ℤ b) v e
value_fits Mul a b v e = ranged_fits (a *ℤ b) v e
value_fits Div a b v e = divided_fits b (quot_z a b) v e
value_fits Rem a b v e = divided_fits b (rem_z a b) v e
value_fits Lt a b v e = truth_fits (lt_z a b) v e
value_fits Le a b v e = truth_fits (le_z a b) v e
value_fits Eq a b v e = truth_fits (eq_z a b) v e

-- ---- comparisons

-- two numbers of 32 bits are equal where their bits are
pub eq_bits : {a b : ℤ} → SFits w32 a → SFits w32 b → eqb (of_z w32 a) (of_z w32 b) ≡ eq_z a b
eq_bits {a} {b} fa fb = go (eqb (of_z w32 a) (of_z w32 b)) refl
  where
    go : (t : Bool) → eqb (of_z w32 a) (of_z w32 b) ≡ t → t ≡ eq_z a b
    go true e = sym (eq_eq_z (same_bits fa fb (eqb-true _ _ e)))
    go false e = sym (ne_eq_z a b (λ q. let h = eq-eqb (of_z w32 a) (of_z w32 b) (ap (of_z w32) q) in let n : ◌≡◌ {A = ℕ} 0 1 = cc in omega arith))

-- a truth is the number that it is told by

pub truth_told : (t : Bool) → ◌≡◌ {A = Option ℤ} (Some (to_z w32 (of_z w32 (pos (bool_byte t))))) (truth t)
truth_told true = refl
truth_told false = refl
