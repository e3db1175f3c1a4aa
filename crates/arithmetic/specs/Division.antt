-- What quotient and remainder are: 01, "Quotients go toward zero; the remainder has the dividend's sign", and no other pair of numbers has these laws.
-- The statement; it is proved in proofs/Division and proofs/Unique. Assumes nothing.
use Rattle.std.specs.Prelude.{◌/◌, ◌<◌, ◌≡◌, Bool, true, false, ◌⊎◌, ℤ, pos, negsuc, nat_abs, ◌+ℤ◌, ◌*ℤ◌, ◌≤ℤ◌}
use Rattle.std.specs.Int.Signed.{quot_z, rem_z}

-- of a by b
pub record Divides (a b : ℤ) : Type 0 where
  pub whole : b *ℤ quot_z a b +ℤ rem_z a b ≡ a
  -- the remainder is smaller than the divisor, and has the dividend's sign or is 0
  pub small : nat_abs (rem_z a b) < nat_abs b
  pub not_negative : pos 0 ≤ℤ a → pos 0 ≤ℤ rem_z a b
  pub not_positive : a ≤ℤ pos 0 → rem_z a b ≤ℤ pos 0
  -- toward zero: the size of the quotient is the quotient of the sizes, rounded down
  pub toward_zero : nat_abs (quot_z a b) ≡ nat_abs a / nat_abs b

abbrev pub Division : Type 0
Division = (a b : ℤ) → (b ≡ pos 0 → ⊥) → Divides a b

abbrev pub is_neg : ℤ → Bool
is_neg (pos n) = false
is_neg (negsuc n) = true

-- q and r are the quotient and the remainder of b * q + r by b
abbrev pub Pair : ℤ → ℤ → ℤ → Type 0
Pair b q r = (quot_z (b *ℤ q +ℤ r) b ≡ q) × (rem_z (b *ℤ q +ℤ r) b ≡ r)

-- if r is smaller than b, and has the dividend's sign or is 0
abbrev pub Only : ℤ → ℤ → ℤ → Type 0
Only b q r = nat_abs r < nat_abs b → (r ≡ pos 0) ⊎ (is_neg r ≡ is_neg (b *ℤ q +ℤ r)) → Pair b q r

abbrev pub OnlyPair : Type 0
OnlyPair = (b q r : ℤ) → Only b q r
