-- What rises or falls with each operand while the other is fixed has its ends at corners: they hold every outcome (`corners_hold`) and are outcomes
-- (`low_corner`, `high_corner`). Assumes nothing.
use mathlib.Core.Path.{◌≡◌, refl}
use mathlib.Core.Bool.{Bool, true, false, cond}
use mathlib.Core.Logic.{◌⊎◌, inl, inr}
use lib.IntN.{ℤ}
use lib.Signed.{le_z, ◌≤ℤ◌, ≤ℤ_refl}
use Rattle.arithmetic.specs.declared.Range.{Range}
use Rattle.arithmetic.specs.Ranges.{Holds, ProperRange, smaller, larger, corners}
use Rattle.arithmetic.proofs.Order.{≤ℤ_trans, test_le, test_not}

-- ---- the smaller and the larger of two

-- one of the two, by the test
pub smaller_cases : (x y : ℤ) (P : ℤ → Type 0) → (x ≤ℤ y → P x) → (y ≤ℤ x → P y) → P (smaller x y)
smaller_cases x y P f g = go (le_z x y) refl
  where
    go : (t : Bool) → le_z x y ≡ t → P (cond t x y)
    go true e = f (test_le x y e)
    go false e = g (test_not x y e)

pub larger_cases : (x y : ℤ) (P : ℤ → Type 0) → (y ≤ℤ x → P x) → (x ≤ℤ y → P y) → P (larger x y)
larger_cases x y P f g = go (le_z x y) refl
  where
    go : (t : Bool) → le_z x y ≡ t → P (cond t y x)
    go true e = g (test_le x y e)
    go false e = f (test_not x y e)

smaller_left : (x y : ℤ) → smaller x y ≤ℤ x
smaller_left x y = smaller_cases x y (λ z. z ≤ℤ x) (λ h. ≤ℤ_refl x) (λ h. h)

smaller_right : (x y : ℤ) → smaller x y ≤ℤ y
smaller_right x y = smaller_cases x y (λ z. z ≤ℤ y) (λ h. h) (λ h. ≤ℤ_refl y)

larger_left : (x y : ℤ) → x ≤ℤ larger x y
larger_left x y = larger_cases x y (λ z. x ≤ℤ z) (λ h. ≤ℤ_refl x) (λ h. h)

larger_right : (x y : ℤ) → y ≤ℤ larger x y
larger_right x y = larger_cases x y (λ z. y ≤ℤ z) (λ h. h) (λ h. ≤ℤ_refl y)

-- ---- between two

abbrev Between : ℤ → ℤ → ℤ → Type 0
Between p q z = Holds (record { low = smaller p q; high = larger p q }) z

-- between two of which each is between two others
between_all : (p q r s x y z : ℤ) → Between p q x → Between r s y → Between x y z → Holds (record { low = smaller (smaller p q) (smaller r s); high = larger (larger p q) (larger r s) }) z
between_all p q r s x y z h k b = record {
  above = ≤ℤ_trans
      (smaller_cases x y (λ w. smaller (smaller p q) (smaller r s) ≤ℤ w) (λ e. ≤ℤ_trans (smaller_left (smaller p q) (smaller r s)) h.above) (λ e. ≤ℤ_trans (smaller_right (smaller p q) (smaller r s)) k.above))
      b.above;
  below = ≤ℤ_trans b.below
      (larger_cases x y (λ w. w ≤ℤ larger (larger p q) (larger r s)) (λ e. ≤ℤ_trans h.below (larger_left (larger p q) (larger r s))) (λ e. ≤ℤ_trans k.below (larger_right (larger p q) (larger r s))));
}

-- ---- rising and falling

-- within a range
abbrev pub Rises : (ℤ → ℤ) → Range → Type 0
Rises f r = (x y : ℤ) → Holds r x → Holds r y → x ≤ℤ y → f x ≤ℤ f y

abbrev pub Falls : (ℤ → ℤ) → Range → Type 0
Falls f r = (x y : ℤ) → Holds r x → Holds r y → x ≤ℤ y → f y ≤ℤ f x

abbrev pub Monotone : (ℤ → ℤ) → Range → Type 0
Monotone f r = Rises f r ⊎ Falls f r

pub holds_low : (r : Range) → ProperRange r → Holds r r.low
holds_low r p = record { above = ≤ℤ_refl r.low; below = p }

pub holds_high : (r : Range) → ProperRange r → Holds r r.high
holds_high r p = record { above = p; below = ≤ℤ_refl r.high }

pub holds_proper : (r : Range) (v : ℤ) → Holds r v → ProperRange r
holds_proper r v h = ≤ℤ_trans h.above h.below

monotone_between : (f : ℤ → ℤ) (r : Range) → Monotone f r → (x : ℤ) → Holds r x → Between (f r.low) (f r.high) (f x)
monotone_between f r m x h = go m
  where
    p : ProperRange r
    p = holds_proper r x h

    l : ℤ
    l = f r.low

    u : ℤ
    u = f r.high

    go : Monotone f r → Between (f r.low) (f r.high) (f x)
    go (inl rises) = record {
      above = ≤ℤ_trans (smaller_left l u) (rises r.low x (holds_low r p) h h.above);
      below = ≤ℤ_trans (rises x r.high h (holds_high r p) h.below) (larger_right l u);
    }
    go (inr falls) = record {
      above = ≤ℤ_trans (smaller_right l u) (falls x r.high h (holds_high r p) h.below);
      below = ≤ℤ_trans (falls r.low x (holds_low r p) h h.above) (larger_left l u);
    }

-- ---- corners

module _ (f : ℤ → ℤ → ℤ) (a b : Range) where
  -- with each operand, the other fixed within its range
  pub record MonotoneInEach : Type 0 where
    pub left : (y : ℤ) → Holds b y → Monotone (λ x. f x y) a
    pub right : (x : ℤ) → Holds a x → Monotone (λ y. f x y) b

  pub corners_hold : MonotoneInEach → (x y : ℤ) → Holds a x → Holds b y → Holds (corners f a b) (f x y)
  corners_hold m x y h k =
      let p = holds_proper a x h in
      let atLow = monotone_between (λ z. f a.low z) b (m.right a.low (holds_low a p)) y k in
      let atHigh = monotone_between (λ z. f a.high z) b (m.right a.high (holds_high a p)) y k in
      between_all (f a.low b.low) (f a.low b.high) (f a.high b.low) (f a.high b.high) (f a.low y) (f a.high y) (f x y) atLow atHigh (monotone_between (λ z. f z y) a (m.left y k) x h)

  -- z is what f gives of two numbers out of the ranges
  pub record Reached (z : ℤ) : Type 0 where
    pub left : ℤ
    pub right : ℤ
    pub holds_left : Holds a left
    pub holds_right : Holds b right
    pub gives : f left right ≡ z

  module _ (p : ProperRange a) (q : ProperRange b) where
    low_low : Reached (f a.low b.low)
    low_low = record { left = a.low; right = b.low; holds_left = holds_low a p; holds_right = holds_low b q; gives = refl }

    low_high : Reached (f a.low b.high)
    low_high = record { left = a.low; right = b.high; holds_left = holds_low a p; holds_right = holds_high b q; gives = refl }

    high_low : Reached (f a.high b.low)
    high_low = record { left = a.high; right = b.low; holds_left = holds_high a p; holds_right = holds_low b q; gives = refl }

    high_high : Reached (f a.high b.high)
    high_high = record { left = a.high; right = b.high; holds_left = holds_high a p; holds_right = holds_high b q; gives = refl }

    pub low_corner : Reached (corners f a b).low
    low_corner = smaller_cases _ _ Reached
        (λ h. smaller_cases _ _ Reached (λ k. low_low) (λ k. low_high))
        (λ h. smaller_cases _ _ Reached (λ k. high_low) (λ k. high_high))

    pub high_corner : Reached (corners f a b).high
    high_corner = larger_cases _ _ Reached
        (λ h. larger_cases _ _ Reached (λ k. low_low) (λ k. low_high))
        (λ h. larger_cases _ _ Reached (λ k. high_low) (λ k. high_high))
