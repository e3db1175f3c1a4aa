-- The laws of specs/Division (`divides`). Assumes nothing.
use mathlib.Core.Path.{◌≡◌, refl, ap}
use Prim.Native.Nat.{ℕ, zero, suc, ◌*◌, ◌/◌, ◌%◌, ◌<◌, zero-le}
use native.Mathlib.Nat.{div-add-mod, mod-lt, mod-le, mul-zero}
use native.Mathlib.Omega.{arith}
use lib.Dec.{le→leb, leb→le}
use lib.IntN.{ℤ, pos, negsuc, neg_ℤ, nat_abs, neg_ℤ-+ℤ, ◌+ℤ◌, ◌*ℤ◌}
use lib.Signed.{quot_z, rem_z, ◌≤ℤ◌}
use Rattle.arithmetic.specs.Division.{Division}

nat_abs_neg : (n : ℕ) → nat_abs (neg_ℤ (pos n)) ≡ n
nat_abs_neg zero = refl
nat_abs_neg (suc n) = refl

pub pos_times_neg : (b q : ℕ) → pos b *ℤ neg_ℤ (pos q) ≡ neg_ℤ (pos (b * q))
pos_times_neg b zero = rw (mul-zero b)
pos_times_neg b (suc q) = refl

pub neg_times_neg : (b q : ℕ) → negsuc b *ℤ neg_ℤ (pos q) ≡ pos (suc b * q)
neg_times_neg b zero = rw (mul-zero (suc b))
neg_times_neg b (suc q) = refl

-- b * (a / b) + a % b is a
division : (a b : ℤ) → b *ℤ quot_z a b +ℤ rem_z a b ≡ a
division (pos a) (pos b) = ap pos (div-add-mod a b)
division (pos a) (negsuc b) = rw (neg_times_neg b (a / suc b)) (ap pos (div-add-mod a (suc b)))
division (negsuc a) (pos b) =
    rw (pos_times_neg b (suc a / b), ← neg_ℤ-+ℤ (pos (b * (suc a / b))) (pos (suc a % b)), div-add-mod (suc a) b)
division (negsuc a) (negsuc b) =
    rw (← neg_ℤ-+ℤ (pos (suc b * (suc a / suc b))) (pos (suc a % suc b)), div-add-mod (suc a) (suc b))

-- the remainder is smaller than the divisor
pub remainder_small : (a b : ℤ) → (b ≡ pos 0 → ⊥) → nat_abs (rem_z a b) < nat_abs b
remainder_small a (pos zero) h = absurd (h refl)
remainder_small (pos a) (pos (suc b)) h = mod-lt a (omega arith)
remainder_small (pos a) (negsuc b) h = mod-lt a (omega arith)
remainder_small (negsuc a) (pos (suc b)) h = rw (nat_abs_neg (suc a % suc b)) (mod-lt (suc a) (omega arith))
remainder_small (negsuc a) (negsuc b) h = rw (nat_abs_neg (suc a % suc b)) (mod-lt (suc a) (omega arith))

neg_le : (n : ℕ) → neg_ℤ (pos n) ≤ℤ pos 0
neg_le zero = record { le = tt }
neg_le (suc n) = record { le = tt }

-- the remainder has the dividend's sign, or is 0
pub remainder_not_negative : (a b : ℤ) → pos 0 ≤ℤ a → pos 0 ≤ℤ rem_z a b
remainder_not_negative (pos a) b h = record { le = le→leb 0 (a % nat_abs b) zero-le }
remainder_not_negative (negsuc a) b h = absurd h.le

pub remainder_not_positive : (a b : ℤ) → a ≤ℤ pos 0 → rem_z a b ≤ℤ pos 0
remainder_not_positive (pos a) b h = record { le = le→leb (a % nat_abs b) 0 (omega (arith, leb→le a 0 h.le, mod-le a (nat_abs b))) }
remainder_not_positive (negsuc a) b h = neg_le (suc a % nat_abs b)

-- the quotient is rounded toward zero: its size is the quotient of the sizes, rounded down
quotient_size : (a b : ℤ) → nat_abs (quot_z a b) ≡ nat_abs a / nat_abs b
quotient_size (pos a) (pos b) = refl
quotient_size (pos a) (negsuc b) = nat_abs_neg (a / suc b)
quotient_size (negsuc a) (pos b) = nat_abs_neg (suc a / b)
quotient_size (negsuc a) (negsuc b) = refl

pub divides : Division
divides a b n = record {
  whole = division a b;
  small = remainder_small a b n;
  not_negative = remainder_not_negative a b;
  not_positive = remainder_not_positive a b;
  toward_zero = quotient_size a b;
}
