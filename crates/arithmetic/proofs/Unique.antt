-- The quotient and the remainder are the only pair of numbers with the laws of specs/Division (`only`).
-- A number is taken as its sign and its size: `val true m` is -m. Assumes nothing.
use mathlib.Core.Path.{◌≡◌, refl, sym, ap, ◌∙◌, subst}
use mathlib.Core.Logic.{◌⊎◌, inl, inr, ⊎_elim}
use mathlib.Core.Bool.{Bool, true, false, not}
use Prim.Native.Nat.{ℕ, zero, suc, ◌+◌, ◌*◌, ◌/◌, ◌%◌, ◌<◌}
use native.Mathlib.Nat.{mul_comm, zero-mul, div-zero, zero-div, zero-mod, mul-le-mul_left}
use native.Mathlib.Omega.{arith}
use lib.Arith.{digits_div, digits_mod}
use lib.IntN.{ℤ, pos, negsuc, neg_ℤ, nat_abs, neg_ℤ-+ℤ, *ℤ_comm, ◌+ℤ◌, ◌*ℤ◌}
use lib.Signed.{quot_z, rem_z}
use borrow.Author.Tests.{lt-ltb, le-ltb}
use Rattle.arithmetic.specs.Division.{is_neg, Pair, Only, OnlyPair}
use Rattle.arithmetic.proofs.Division.{pos_times_neg, neg_times_neg}

abbrev val : Bool → ℕ → ℤ
val true m = neg_ℤ (pos m)
val false m = pos m

abbrev differ : Bool → Bool → Bool
differ true t = not t
differ false t = t

val_of : (z : ℤ) → val (is_neg z) (nat_abs z) ≡ z
val_of (pos n) = refl
val_of (negsuc n) = refl

val_zero : (s t : Bool) → val s 0 ≡ val t 0
val_zero true true = refl
val_zero true false = refl
val_zero false true = refl
val_zero false false = refl

nat_abs_val : (t : Bool) (n : ℕ) → nat_abs (val t n) ≡ n
nat_abs_val true zero = refl
nat_abs_val true (suc n) = refl
nat_abs_val false n = refl

val_add : (s : Bool) (m n : ℕ) → val s m +ℤ val s n ≡ val s (m + n)
val_add true m n = sym (neg_ℤ-+ℤ (pos m) (pos n))
val_add false m n = refl

val_mul : (s t : Bool) (m n : ℕ) → val s m *ℤ val t n ≡ val (differ s t) (m * n)
val_mul true true zero n = pos_times_neg 0 n ∙ rw (zero-mul n)
val_mul true true (suc m) n = neg_times_neg m n
val_mul true false m n = *ℤ_comm (neg_ℤ (pos m)) (pos n) ∙ pos_times_neg n m ∙ ap (λ (k : ℕ). neg_ℤ (pos k)) (mul_comm n m)
val_mul false true m n = pos_times_neg m n
val_mul false false m n = refl

val_quot : (s t : Bool) (m n : ℕ) → quot_z (val s m) (val t n) ≡ val (differ s t) (m / n)
val_quot true true zero zero = refl
val_quot true true zero (suc n) = rw (zero-div (suc n))
val_quot true true (suc m) zero = rw (div-zero (suc m))
val_quot true true (suc m) (suc n) = refl
val_quot true false zero n = rw (zero-div n)
val_quot true false (suc m) n = refl
val_quot false true m zero = rw (div-zero m)
val_quot false true m (suc n) = refl
val_quot false false m n = refl

val_rem : (s : Bool) (m : ℕ) (d : ℤ) → rem_z (val s m) d ≡ val s (m % nat_abs d)
val_rem true zero d = rw (zero-mod (nat_abs d))
val_rem true (suc m) d = refl
val_rem false m d = refl

differ_back : (t u : Bool) → differ (differ t u) t ≡ u
differ_back true true = refl
differ_back true false = refl
differ_back false true = refl
differ_back false false = refl

-- where the remainder has the product's sign
agree : (t u : Bool) (B Q k : ℕ) → k < B → Pair (val t B) (val u Q) (val (differ t u) k)
agree t u B Q k h =
    let p = differ t u in
    let e : val t B *ℤ val u Q +ℤ val p k ≡ val p (Q * B + k) =
    ap (λ (z : ℤ). z +ℤ val p k) (val_mul t u B Q) ∙ val_add p (B * Q) k ∙ ap (λ (n : ℕ). val p (n + k)) (mul_comm B Q) in (
      ap (λ (z : ℤ). quot_z z (val t B)) e ∙ val_quot p t (Q * B + k) B ∙ ap (val (differ p t)) (digits_div Q h) ∙ ap (λ (v : Bool). val v Q) (differ_back t u),
      ap (λ (z : ℤ). rem_z z (val t B)) e ∙ val_rem p (Q * B + k) (val t B) ∙ ap (λ (n : ℕ). val p ((Q * B + k) % n)) (nat_abs_val t B) ∙ ap (val p) (digits_mod Q h),
    )

-- a sum of two signs has that of the larger
opposed : (p : Bool) (m k : ℕ) → k < m → is_neg (val p m +ℤ val (not p) k) ≡ p
opposed true zero k h = absurd (omega arith)
opposed true (suc m) k h = simp (lt-ltb k (suc m) h)
opposed false m zero h = refl
opposed false m (suc k) h = simp (le-ltb m (suc k) (omega arith))

either : (p s : Bool) → (s ≡ p) ⊎ (s ≡ not p)
either true true = inl refl
either true false = inr refl
either false true = inr refl
either false false = inl refl

differ_not : (t u : Bool) → differ t (not u) ≡ not (differ t u)
differ_not true true = refl
differ_not true false = refl
differ_not false u = refl

is_neg_suc : (s : Bool) (k : ℕ) → is_neg (val s (suc k)) ≡ s
is_neg_suc true k = refl
is_neg_suc false k = refl

unlike : (p : Bool) → not p ≡ p → ⊥
unlike true e = let z : ◌≡◌ {A = ℕ} 0 1 = cc in omega arith
unlike false e = let z : ◌≡◌ {A = ℕ} 0 1 = cc in omega arith

-- where it has the other: one of the two is 0
disagree : (t u : Bool) (B Q k : ℕ) → k < B → (val (not (differ t u)) k ≡ pos 0) ⊎ (is_neg (val (not (differ t u)) k) ≡ is_neg (val t B *ℤ val u Q +ℤ val (not (differ t u)) k)) → Pair (val t B) (val u Q) (val (not (differ t u)) k)
disagree t u B zero k h c =
    subst (λ (q : ℤ). Pair (val t B) q (val (not (differ t u)) k)) (val_zero (not u) u)
    (subst (λ (s : Bool). Pair (val t B) (val (not u) 0) (val s k)) (differ_not t u) (agree t (not u) B 0 k h))
disagree t u B (suc Q) zero h c =
    subst (λ (r : ℤ). Pair (val t B) (val u (suc Q)) r) (val_zero (differ t u) (not (differ t u))) (agree t u B (suc Q) 0 h)
disagree t u B (suc Q) (suc k) h c =
    let p = differ t u in
    absurd
    (⊎_elim
    (λ e. let n : suc k ≡ 0 = sym (nat_abs_val (not p) (suc k)) ∙ ap nat_abs e in omega arith)
    (λ e. unlike p (sym (is_neg_suc (not p) k) ∙ e ∙ ap (λ (z : ℤ). is_neg (z +ℤ val (not p) (suc k))) (val_mul t u B (suc Q)) ∙ opposed p (B * suc Q) (suc k) (omega (arith, mul-le-mul_left {m = 1} {n = suc Q} B (omega arith)))))
    c)

only_val : (t u s : Bool) (B Q k : ℕ) → Only (val t B) (val u Q) (val s k)
only_val t u s B Q k h c =
    let l : k < B = omega (arith, nat_abs_val t B, nat_abs_val s k, h) in
    ⊎_elim
    (λ e. rw e (agree t u B Q k l))
    (λ e. rw e (disagree t u B Q k l (rw e at c)))
    (either (differ t u) s)

pub only : OnlyPair
only b q r =
    subst (λ (z : ℤ). Only z q r) (val_of b)
    (subst (λ (z : ℤ). Only (val (is_neg b) (nat_abs b)) z r) (val_of q)
    (subst (λ (z : ℤ). Only (val (is_neg b) (nat_abs b)) (val (is_neg q) (nat_abs q)) z) (val_of r)
    (only_val (is_neg b) (is_neg q) (is_neg r) (nat_abs b) (nat_abs q) (nat_abs r))))
