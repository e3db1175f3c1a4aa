-- The order of the integers: its tests, and how sums, products and quotients rise or fall with an operand. Assumes nothing.
use Prim.Native.Nat.{ℕ, zero, suc, ◌+◌, ◌-◌, ◌*◌, ◌/◌, ◌≤◌, zero-le}
use mathlib.Core.Path.{◌≡◌, refl, sym, ap, ◌∙◌, subst}
use mathlib.Core.Bool.{Bool, true, false, not, cond}
use native.Mathlib.Nat.{mul-le-mul_left, mul-le-mul_right, le-div_iff_mul-le, div-mul-le_self, div-zero}
use native.Mathlib.Omega.{arith}
use lib.Dec.{T, leb, ltb, leb→le, le→leb}
use lib.IntN.{ℤ, pos, negsuc, neg_ℤ, neg_ℤ-neg_ℤ, ◌+ℤ◌, ◌*ℤ◌, +ℤ_assoc, +ℤ_comm, *ℤ-negsuc}
use lib.Signed.{lt_z, le_z, quot_z, ◌≤ℤ◌}
use borrow.Author.Tests.{ltb-true, ltb-false, lt-leb, le-leb, leb-false}

-- ---- by signs

pub le_pos : {a b : ℕ} → a ≤ b → pos a ≤ℤ pos b
le_pos {a} {b} h = record { le = le→leb a b h }

pub le_neg : {a b : ℕ} → b ≤ a → negsuc a ≤ℤ negsuc b
le_neg {a} {b} h = record { le = le→leb b a h }

pub pos_le : {a b : ℕ} → pos a ≤ℤ pos b → a ≤ b
pos_le {a} {b} h = leb→le a b h.le

pub neg_le : {a b : ℕ} → negsuc a ≤ℤ negsuc b → b ≤ a
neg_le {a} {b} h = leb→le b a h.le

pub neg_pos : {a b : ℕ} → negsuc a ≤ℤ pos b
neg_pos = record { le = tt }

-- ---- an order

pub ≤ℤ_trans : {a b c : ℤ} → a ≤ℤ b → b ≤ℤ c → a ≤ℤ c
≤ℤ_trans {a} {b} {c} h k = go a b c h k
  where
    go : (a b c : ℤ) → a ≤ℤ b → b ≤ℤ c → a ≤ℤ c
    go (pos a) (pos b) (pos c) h k = le_pos (omega (arith, pos_le h, pos_le k))
    go (pos a) (pos b) (negsuc c) h k = absurd k.le
    go (pos a) (negsuc b) c h k = absurd h.le
    go (negsuc a) (pos b) (pos c) h k = neg_pos
    go (negsuc a) (pos b) (negsuc c) h k = absurd k.le
    go (negsuc a) (negsuc b) (pos c) h k = neg_pos
    go (negsuc a) (negsuc b) (negsuc c) h k = le_neg (omega (arith, neg_le h, neg_le k))

pub ≤ℤ_antisym : (a b : ℤ) → a ≤ℤ b → b ≤ℤ a → a ≡ b
≤ℤ_antisym (pos a) (pos b) h k = ap pos (omega (arith, pos_le h, pos_le k))
≤ℤ_antisym (pos a) (negsuc b) h k = absurd h.le
≤ℤ_antisym (negsuc a) (pos b) h k = absurd k.le
≤ℤ_antisym (negsuc a) (negsuc b) h k = ap negsuc (omega (arith, neg_le h, neg_le k))

-- ---- its test

pub test_le : (a b : ℤ) → le_z a b ≡ true → a ≤ℤ b
test_le a b e = record { le = subst T (sym e) tt }

pub le_test : (a b : ℤ) → a ≤ℤ b → le_z a b ≡ true
le_test (pos a) (pos b) h = le-leb a b (pos_le h)
le_test (pos a) (negsuc b) h = absurd h.le
le_test (negsuc a) (pos b) h = refl
le_test (negsuc a) (negsuc b) h = le-leb b a (neg_le h)

pub test_not : (a b : ℤ) → le_z a b ≡ false → b ≤ℤ a
test_not (pos a) (pos b) e = le_pos (omega (arith, leb-false a b e))
test_not (pos a) (negsuc b) e = neg_pos
test_not (negsuc a) (pos b) e = let z : ◌≡◌ {A = ℕ} 0 1 = cc in absurd (omega arith)
test_not (negsuc a) (negsuc b) e = le_neg (omega (arith, leb-false b a e))

pub lt_is : (a b : ℤ) → lt_z a b ≡ not (le_z b a)
lt_is (pos a) (pos b) = go (ltb a b) refl
  where
    go : (t : Bool) → ltb a b ≡ t → t ≡ not (leb b a)
    go true e = rw (lt-leb b a (ltb-true a b e))
    go false e = rw (le-leb b a (ltb-false a b e))
lt_is (pos a) (negsuc b) = refl
lt_is (negsuc a) (pos b) = refl
lt_is (negsuc a) (negsuc b) = go (ltb b a) refl
  where
    go : (t : Bool) → ltb b a ≡ t → t ≡ not (leb a b)
    go true e = rw (lt-leb a b (ltb-true b a e))
    go false e = rw (le-leb a b (ltb-false b a e))

-- ---- negation

pub neg_turns : (a b : ℤ) → a ≤ℤ b → neg_ℤ b ≤ℤ neg_ℤ a
neg_turns (pos zero) (pos zero) h = h
neg_turns (pos zero) (pos (suc b)) h = neg_pos
neg_turns (pos (suc a)) (pos zero) h = absurd (omega (arith, pos_le h))
neg_turns (pos (suc a)) (pos (suc b)) h = le_neg (omega (arith, pos_le h))
neg_turns (pos a) (negsuc b) h = absurd h.le
neg_turns (negsuc a) (pos zero) h = le_pos zero-le
neg_turns (negsuc a) (pos (suc b)) h = neg_pos
neg_turns (negsuc a) (negsuc b) h = le_pos (omega (arith, neg_le h))

-- of natural numbers
pub turned : {m n : ℕ} → m ≤ n → neg_ℤ (pos n) ≤ℤ neg_ℤ (pos m)
turned {m} {n} h = neg_turns (pos m) (pos n) (le_pos h)

pub negated_below : (m n : ℕ) → neg_ℤ (pos m) ≤ℤ pos n
negated_below zero n = le_pos zero-le
negated_below (suc m) n = neg_pos

-- ---- sums

le_plus : (a : ℤ) (n : ℕ) → a ≤ℤ (a +ℤ pos n)
le_plus (pos a) n = le_pos (omega arith)
le_plus (negsuc a) n = go (ltb n (suc a)) refl
  where
    go : (t : Bool) → ltb n (suc a) ≡ t → negsuc a ≤ℤ cond t (negsuc (suc a - suc n)) (pos (n - suc a))
    go true e = le_neg (omega (arith, ltb-true n (suc a) e))
    go false e = neg_pos

gap : (a b : ℤ) → a ≤ℤ b → (n : ℕ) × (b ≡ a +ℤ pos n)
gap (pos a) (pos b) h = (b - a, ap pos (omega (arith, pos_le h)))
gap (pos a) (negsuc b) h = absurd h.le
gap (negsuc a) (pos b) h = (b + suc a, go (ltb (b + suc a) (suc a)) refl)
  where
    go : (t : Bool) → ltb (b + suc a) (suc a) ≡ t → pos b ≡ cond t (negsuc (suc a - suc (b + suc a))) (pos (b + suc a - suc a))
    go true e = absurd (omega (arith, ltb-true (b + suc a) (suc a) e))
    go false e = ap pos (omega arith)
gap (negsuc a) (negsuc b) h = (a - b, go (ltb (a - b) (suc a)) refl)
  where
    go : (t : Bool) → ltb (a - b) (suc a) ≡ t → negsuc b ≡ cond t (negsuc (suc a - suc (a - b))) (pos (a - b - suc a))
    go true e = ap negsuc (omega (arith, neg_le h))
    go false e = absurd (omega (arith, ltb-false (a - b) (suc a) e))

pub sum_rises : (a b c : ℤ) → a ≤ℤ b → (a +ℤ c) ≤ℤ (b +ℤ c)
sum_rises a b c h =
    let (n, e) = gap a b h in
    let swapped : b +ℤ c ≡ a +ℤ c +ℤ pos n = ap (λ (z : ℤ). z +ℤ c) e ∙ +ℤ_assoc a (pos n) c ∙ ap (λ (z : ℤ). a +ℤ z) (+ℤ_comm (pos n) c) ∙ sym (+ℤ_assoc a c (pos n)) in
    rw swapped (le_plus (a +ℤ c) n)

-- ---- products

pub product_rises : (a b : ℤ) (n : ℕ) → a ≤ℤ b → (a *ℤ pos n) ≤ℤ (b *ℤ pos n)
product_rises (pos a) (pos b) n h = le_pos (mul-le-mul_right n (pos_le h))
product_rises (pos a) (negsuc b) n h = absurd h.le
product_rises (negsuc a) (pos b) n h = negated_below (suc a * n) (b * n)
product_rises (negsuc a) (negsuc b) n h = turned {m = suc b * n} {n = suc a * n} (mul-le-mul_right n (omega (arith, neg_le h)))

pub product_falls : (a b : ℤ) (n : ℕ) → a ≤ℤ b → (b *ℤ negsuc n) ≤ℤ (a *ℤ negsuc n)
product_falls a b n h = rw (*ℤ-negsuc a n, *ℤ-negsuc b n) (neg_turns _ _ (product_rises a b (suc n) h))

-- ---- quotients

div_rises : (n a b : ℕ) → a ≤ b → a / n ≤ b / n
div_rises zero a b h = rw (div-zero a) zero-le
div_rises (suc n) a b h = (le-div_iff_mul-le {k = suc n} {x = a / suc n} {y = b} (omega arith)).1 (omega (arith, div-mul-le_self a (suc n)))

div_falls : (a m n : ℕ) → m ≤ n → a / suc n ≤ a / suc m
div_falls a m n h = (le-div_iff_mul-le {k = suc m} {x = a / suc n} {y = a} (omega arith)).1 (omega (arith, div-mul-le_self a (suc n), mul-le-mul_left {m = suc m} {n = suc n} (a / suc n) (omega arith)))

-- by a negative divisor the quotient is the other's, negated
pub quotient_turns : (a : ℤ) (n : ℕ) → quot_z a (negsuc n) ≡ neg_ℤ (quot_z a (pos (suc n)))
quotient_turns (pos a) n = refl
quotient_turns (negsuc a) n = sym (neg_ℤ-neg_ℤ (pos (suc a / suc n)))

pub quotient_rises : (a b : ℤ) (n : ℕ) → a ≤ℤ b → quot_z a (pos n) ≤ℤ quot_z b (pos n)
quotient_rises (pos a) (pos b) n h = le_pos (div_rises n a b (pos_le h))
quotient_rises (pos a) (negsuc b) n h = absurd h.le
quotient_rises (negsuc a) (pos b) n h = negated_below (suc a / n) (b / n)
quotient_rises (negsuc a) (negsuc b) n h = turned (div_rises n (suc b) (suc a) (omega (arith, neg_le h)))

pub quotient_falls : (a b : ℤ) (n : ℕ) → a ≤ℤ b → quot_z b (negsuc n) ≤ℤ quot_z a (negsuc n)
quotient_falls a b n h = rw (quotient_turns a n, quotient_turns b n) (neg_turns _ _ (quotient_rises a b (suc n) h))

-- by larger divisors it comes nearer to 0
pub nearer_above : (a m n : ℕ) → m ≤ n → quot_z (pos a) (pos (suc n)) ≤ℤ quot_z (pos a) (pos (suc m))
nearer_above a m n h = le_pos (div_falls a m n h)

pub nearer_below : (a m n : ℕ) → m ≤ n → quot_z (negsuc a) (pos (suc m)) ≤ℤ quot_z (negsuc a) (pos (suc n))
nearer_below a m n h = turned (div_falls (suc a) m n h)
