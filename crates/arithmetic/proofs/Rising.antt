-- How the outcome of an operation rises or falls with an operand, while the other is fixed: all but EQ and REM do, the quotient by divisors on one side of 0
-- (`monotone`). Assumes nothing.
use Prim.Native.Nat.{ℕ, zero, suc, zero-le}
use mathlib.Core.Path.{◌≡◌, refl, sym, ap, ◌∙◌, subst}
use mathlib.Core.Bool.{Bool, true, false, not, ◌&&◌}
use mathlib.Core.Logic.{inl, inr}
use native.Mathlib.Omega.{arith}
use lib.IntN.{ℤ, pos, negsuc, neg_ℤ, ◌-ℤ◌, ◌*ℤ◌, *ℤ_comm, +ℤ_comm}
use lib.Signed.{lt_z, le_z, quot_z, ◌≤ℤ◌, ≤ℤ_refl}
use borrow.Author.Tests.{le-leb}
use Rattle.record.specs.declared.operation.Arithmetic.{Arithmetic}
use Rattle.record.specs.declared.operation.Arithmetic.TheVariants.{Add, Sub, Mul, Div, Rem, Lt, Le, Eq}
use Rattle.arithmetic.specs.declared.Range.{Range}
use Rattle.arithmetic.specs.Ranges.{Holds, ProperRange, may_be_zero, truth_value, outcome, divides}
use Rattle.arithmetic.proofs.Order.{le_pos, pos_le, neg_le, ≤ℤ_trans, test_le, le_test, lt_is, neg_turns, sum_rises, product_rises, product_falls, quotient_turns, quotient_rises, quotient_falls, nearer_above, nearer_below}
use Rattle.arithmetic.proofs.Corners.{Monotone, MonotoneInEach}

-- ---- tests

pub true_false {ℓ} : {B : Type ℓ} → true ≡ false → B
true_false p = absurd (let z : ◌≡◌ {A = ℕ} 0 1 = cc in omega arith)

pub both_true : (p q : Bool) → p && q ≡ true → (p ≡ true) × (q ≡ true)
both_true true q e = (refl, e)
both_true false q e = true_false (sym e)

-- if the one holds where the other does
pub bit_rises : (t u : Bool) → (t ≡ true → u ≡ true) → truth_value t ≤ℤ truth_value u
bit_rises true true h = ≤ℤ_refl (pos 1)
bit_rises true false h = true_false (sym (h refl))
bit_rises false true h = le_pos zero-le
bit_rises false false h = ≤ℤ_refl (pos 0)

-- ---- one sign

-- a divisor's range without 0 is on one side of it
data OneSide (r : Range) : Type 0 where
  positive : (n : ℕ) → r.low ≡ pos (suc n) → OneSide r
  negative : (n : ℕ) → r.high ≡ negsuc n → OneSide r

one_side : (r : Range) → ProperRange r → may_be_zero r ≡ false → OneSide r
one_side r p e = go r.low r.high refl refl p e
  where
    go : (l h : ℤ) → r.low ≡ l → r.high ≡ h → l ≤ℤ h → le_z l (pos 0) && le_z (pos 0) h ≡ false → OneSide r
    go (pos zero) (pos h) i j k z = true_false (sym (le-leb 0 h zero-le) ∙ z)
    go (pos zero) (negsuc h) i j k z = absurd k.le
    go (pos (suc l)) h i j k z = positive l i
    go (negsuc l) (pos h) i j k z = true_false (sym (le-leb 0 h zero-le) ∙ z)
    go (negsuc l) (negsuc h) i j k z = negative h j

holds_zero : (r : Range) → Holds r (pos 0) → may_be_zero r ≡ true
holds_zero r h = rw (le_test r.low (pos 0) h.above, le_test (pos 0) r.high h.below)

pub zero_held : (r : Range) → may_be_zero r ≡ true → Holds r (pos 0)
zero_held r e = let (l, h) = both_true (le_z r.low (pos 0)) (le_z (pos 0) r.high) e in record { above = test_le r.low (pos 0) l; below = test_le (pos 0) r.high h }

-- so no number of it is 0
pub nonzero : (r : Range) → may_be_zero r ≡ false → (y : ℤ) → Holds r y → ¬ (y ≡ pos 0)
nonzero r e y h z = true_false (sym (holds_zero r (subst (Holds r) z h)) ∙ e)

-- ---- rising and falling, by operations

-- of a difference in its second operand
difference_falls : (x y z : ℤ) → y ≤ℤ z → (x -ℤ z) ≤ℤ (x -ℤ y)
difference_falls x y z h = rw (+ℤ_comm x (neg_ℤ z), +ℤ_comm x (neg_ℤ y)) (sum_rises (neg_ℤ z) (neg_ℤ y) x (neg_turns y z h))

product_monotone : (y : ℤ) (r : Range) → Monotone (λ x. x *ℤ y) r
product_monotone (pos n) r = inl (λ x z h k l. product_rises x z n l)
product_monotone (negsuc n) r = inr (λ x z h k l. product_falls x z n l)

quotient_left : (y : ℤ) (r : Range) → Monotone (λ x. quot_z x y) r
quotient_left (pos n) r = inl (λ x z h k l. quotient_rises x z n l)
quotient_left (negsuc n) r = inr (λ x z h k l. quotient_falls x z n l)

quotient_right : (x : ℤ) (r : Range) → OneSide r → Monotone (λ y. quot_z x y) r
quotient_right (pos a) r (positive n e) = inr (λ y z h k l. go y z (rw e at h.above) l)
  where
    go : (y z : ℤ) → pos (suc n) ≤ℤ y → y ≤ℤ z → quot_z (pos a) z ≤ℤ quot_z (pos a) y
    go (pos zero) z i l = absurd (omega (arith, pos_le i))
    go (pos (suc y)) (pos zero) i l = absurd (omega (arith, pos_le l))
    go (pos (suc y)) (pos (suc z)) i l = nearer_above a y z (omega (arith, pos_le l))
    go (pos (suc y)) (negsuc z) i l = absurd l.le
    go (negsuc y) z i l = absurd i.le
quotient_right (negsuc a) r (positive n e) = inl (λ y z h k l. go y z (rw e at h.above) l)
  where
    go : (y z : ℤ) → pos (suc n) ≤ℤ y → y ≤ℤ z → quot_z (negsuc a) y ≤ℤ quot_z (negsuc a) z
    go (pos zero) z i l = absurd (omega (arith, pos_le i))
    go (pos (suc y)) (pos zero) i l = absurd (omega (arith, pos_le l))
    go (pos (suc y)) (pos (suc z)) i l = nearer_below a y z (omega (arith, pos_le l))
    go (pos (suc y)) (negsuc z) i l = absurd l.le
    go (negsuc y) z i l = absurd i.le
quotient_right (pos a) r (negative n e) = inr (λ y z h k l. go y z (rw e at k.below) l)
  where
    go : (y z : ℤ) → z ≤ℤ negsuc n → y ≤ℤ z → quot_z (pos a) z ≤ℤ quot_z (pos a) y
    go y (pos z) i l = absurd i.le
    go (pos y) (negsuc z) i l = absurd l.le
    go (negsuc y) (negsuc z) i l = rw (quotient_turns (pos a) y, quotient_turns (pos a) z) (neg_turns _ _ (nearer_above a z y (neg_le l)))
quotient_right (negsuc a) r (negative n e) = inl (λ y z h k l. go y z (rw e at k.below) l)
  where
    go : (y z : ℤ) → z ≤ℤ negsuc n → y ≤ℤ z → quot_z (negsuc a) y ≤ℤ quot_z (negsuc a) z
    go y (pos z) i l = absurd i.le
    go (pos y) (negsuc z) i l = absurd l.le
    go (negsuc y) (negsuc z) i l = rw (quotient_turns (negsuc a) y, quotient_turns (negsuc a) z) (neg_turns _ _ (nearer_below a z y (neg_le l)))

-- a comparison holds sooner for a smaller left and a larger right operand
le_sooner : (x y z w : ℤ) → z ≤ℤ x → y ≤ℤ w → le_z x y ≡ true → le_z z w ≡ true
le_sooner x y z w h k e = le_test z w (≤ℤ_trans h (≤ℤ_trans (test_le x y e) k))

lt_sooner : (x y z w : ℤ) → z ≤ℤ x → y ≤ℤ w → lt_z x y ≡ true → lt_z z w ≡ true
lt_sooner x y z w h k e = rw (lt_is z w) (go (le_z w z) refl)
  where
    go : (t : Bool) → le_z w z ≡ t → not t ≡ true
    go false f = refl
    go true f = true_false (sym e ∙ lt_is x y ∙ ap not (le_test y x (≤ℤ_trans k (≤ℤ_trans (test_le w z f) h))))

-- ---- every operation but EQ and REM

abbrev pub ByCorners : Arithmetic → Type 0
ByCorners Add = Unit {0}
ByCorners Sub = Unit {0}
ByCorners Mul = Unit {0}
ByCorners Div = Unit {0}
ByCorners Rem = ⊥
ByCorners Lt = Unit {0}
ByCorners Le = Unit {0}
ByCorners Eq = ⊥

abbrev pub Divisible : Arithmetic → Range → Type 0
Divisible op b = divides op && may_be_zero b ≡ false

pub monotone : (op : Arithmetic) → ByCorners op → (a b : Range) → ProperRange b → Divisible op b → MonotoneInEach (outcome op) a b
unfolding outcome
monotone Add n a b p d = record { left = λ y h. inl (λ x z i j l. sum_rises x z y l); right = λ x h. inl (λ y z i j l. rw (+ℤ_comm x y, +ℤ_comm x z) (sum_rises y z x l)) }
monotone Sub n a b p d = record { left = λ y h. inl (λ x z i j l. sum_rises x z (neg_ℤ y) l); right = λ x h. inr (λ y z i j l. difference_falls x y z l) }
monotone Mul n a b p d = record { left = λ y h. product_monotone y a; right = λ x h. subst (λ (f : ℤ → ℤ). Monotone f b) (λ i y. *ℤ_comm y x i) (product_monotone x b) }
monotone Div n a b p d = record { left = λ y h. quotient_left y a; right = λ x h. quotient_right x b (one_side b p d) }
monotone Rem n a b p d = absurd n
monotone Lt n a b p d = record {
  left = λ y h. inr (λ x z i j l. bit_rises (lt_z z y) (lt_z x y) (lt_sooner z y x y l (≤ℤ_refl y)));
  right = λ x h. inl (λ y z i j l. bit_rises (lt_z x y) (lt_z x z) (lt_sooner x y x z (≤ℤ_refl x) l));
}
monotone Le n a b p d = record {
  left = λ y h. inr (λ x z i j l. bit_rises (le_z z y) (le_z x y) (le_sooner z y x y l (≤ℤ_refl y)));
  right = λ x h. inl (λ y z i j l. bit_rises (le_z x y) (le_z x z) (le_sooner x y x z (≤ℤ_refl x) l));
}
monotone Eq n a b p d = absurd n
