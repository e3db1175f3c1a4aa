-- REM over ranges: the bounds hold every outcome (`remainders_hold`) and fit 32 bits (`remainders_fit`). Assumes nothing.
use Prim.Native.Nat.{ℕ, suc, ◌-◌, ◌≤◌, ◌<◌, max}
use mathlib.Core.Path.{◌≡◌, refl, sym, ◌∙◌}
use mathlib.Core.Bool.{Bool, true, false, not, ◌&&◌, cond}
use native.Mathlib.Omega.{arith}
use lib.IntN.{ℤ, pos, negsuc, neg_ℤ, nat_abs}
use lib.Signed.{lt_z, le_z, rem_z, ◌≤ℤ◌, ≤ℤ_refl, mag_rem, nat_abs-le}
use mir.Syntax.{w32}
use mir.Val.{SFits}
use mir.Facts.{sfits_lit}
use Rattle.arithmetic.specs.declared.Range.{Range}
use Rattle.arithmetic.specs.Ranges.{Holds, single, is_single, remainders}
use Rattle.arithmetic.specs.Ranges.{FitsBits}
use Rattle.arithmetic.proofs.Division.{remainder_small, remainder_not_negative, remainder_not_positive}
use Rattle.arithmetic.proofs.Order.{le_pos, pos_le, neg_le, neg_pos, ≤ℤ_trans, test_le, lt_is, turned, negated_below}
use Rattle.arithmetic.proofs.Signed.{mag_neg}
use Rattle.arithmetic.proofs.Rising.{true_false}
use Rattle.arithmetic.proofs.Equalities.{same_ends}

magnitude : (b : Range) (y : ℤ) → Holds b y → nat_abs y ≤ max (nat_abs b.low) (nat_abs b.high)
magnitude b y h = go b.low b.high y h.above h.below
  where
    go : (l u y : ℤ) → l ≤ℤ y → y ≤ℤ u → nat_abs y ≤ max (nat_abs l) (nat_abs u)
    go l (pos u) (pos y) i j = omega (arith, pos_le j)
    go l (negsuc u) (pos y) i j = absurd j.le
    go (pos l) u (negsuc y) i j = absurd i.le
    go (negsuc l) u (negsuc y) i j = omega (arith, neg_le i)

-- by its magnitude a number is between two
by_magnitude : (r : ℤ) (k : ℕ) → nat_abs r ≤ k → (neg_ℤ (pos k) ≤ℤ r) × (r ≤ℤ pos k)
by_magnitude (pos n) k h = (negated_below k n, le_pos h)
by_magnitude (negsuc n) k h = (turned {m = suc n} {n = k} h, neg_pos)

pub not_less : (x y : ℤ) → lt_z x y ≡ false → y ≤ℤ x
not_less x y e = go (le_z y x) refl (sym (lt_is x y) ∙ e)
  where
    go : (t : Bool) → le_z y x ≡ t → not t ≡ false → y ≤ℤ x
    go true i j = test_le y x i
    go false i j = true_false j

pub remainders_hold : (a b : Range) (x y : ℤ) → ¬ (y ≡ pos 0) → Holds a x → Holds b y → Holds (remainders a b) (rem_z x y)
unfolding remainders
remainders_hold a b x y n h k = go (is_single a) (is_single b) refl refl
  where
    m : ℕ
    m = max (nat_abs b.low) (nat_abs b.high) - 1

    sized : (neg_ℤ (pos m) ≤ℤ rem_z x y) × (rem_z x y ≤ℤ pos m)
    sized = by_magnitude (rem_z x y) m (omega (arith, remainder_small x y n, magnitude b y k))

    lowest : (t : Bool) → lt_z a.low (pos 0) ≡ t → cond t (neg_ℤ (pos m)) (pos 0) ≤ℤ rem_z x y
    lowest true e = sized.0
    lowest false e = remainder_not_negative x y (≤ℤ_trans (not_less a.low (pos 0) e) h.above)

    highest : (t : Bool) → lt_z (pos 0) a.high ≡ t → rem_z x y ≤ℤ cond t (pos m) (pos 0)
    highest true e = sized.1
    highest false e = remainder_not_positive x y (≤ℤ_trans h.below (not_less (pos 0) a.high e))

    signed : Holds (record { low = cond (lt_z a.low (pos 0)) (neg_ℤ (pos m)) (pos 0); high = cond (lt_z (pos 0) a.high) (pos m) (pos 0) }) (rem_z x y)
    signed = record { above = lowest (lt_z a.low (pos 0)) refl; below = highest (lt_z (pos 0) a.high) refl }

    go : (s t : Bool) → is_single a ≡ s → is_single b ≡ t
        → Holds (cond (s && t) (single (rem_z a.low b.low)) (record { low = cond (lt_z a.low (pos 0)) (neg_ℤ (pos m)) (pos 0); high = cond (lt_z (pos 0) a.high) (pos m) (pos 0) })) (rem_z x y)
    go true true i j = rw (same_ends a x i h, same_ends b y j k) (record { above = ≤ℤ_refl (rem_z a.low b.low); below = ≤ℤ_refl (rem_z a.low b.low) })
    go true false i j = signed
    go false t i j = signed

-- the ends of a remainder fit, since those of its operands do
pub remainders_fit : (a b : Range) → FitsBits a → FitsBits b → FitsBits (remainders a b)
unfolding remainders
remainders_fit a b f g = go (is_single a && is_single b)
  where
    m : ℕ
    m = max (nat_abs b.low) (nat_abs b.high) - 1

    small : m < 2147483648
    small = omega (arith, nat_abs-le b.low g.low.sfits, nat_abs-le b.high g.high.sfits)

    signed : (t : Bool) → SFits w32 (cond t (neg_ℤ (pos m)) (pos 0))
    signed true = record { sfits = omega (arith, small, mag_neg m {a = m} (omega arith)) }
    signed false = sfits_lit tt

    unsigned : (t : Bool) → SFits w32 (cond t (pos m) (pos 0))
    unsigned true = record { sfits = omega (arith, small) }
    unsigned false = sfits_lit tt

    exact : SFits w32 (rem_z a.low b.low)
    exact = record { sfits = omega (arith, mag_rem a.low b.low, f.low.sfits) }

    go : (t : Bool) → FitsBits (cond t (single (rem_z a.low b.low)) (record { low = cond (lt_z a.low (pos 0)) (neg_ℤ (pos m)) (pos 0); high = cond (lt_z (pos 0) a.high) (pos m) (pos 0) }))
    go true = record { low = exact; high = exact }
    go false = record { low = signed (lt_z a.low (pos 0)); high = unsigned (lt_z (pos 0) a.high) }
