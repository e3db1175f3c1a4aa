-- 02, R-11: the operations over ranges hold every outcome (`holds_every`); for all but REM the range is the smallest (`smallest`), and refusal 12 comes only
-- for an outcome (`refused_for`), for REM only for a divisor 0 (`refused_for_zero`). What is given fits 32 bits (`gives_sound`). Assumes nothing.
use Prim.Native.Nat.{ℕ}
use mathlib.Core.Path.{◌≡◌, refl, sym, ap, ◌∙◌, subst}
use mathlib.Core.Bool.{Bool, true, false, ◌&&◌, cond}
use native.Mathlib.Omega.{arith}
use lib.IntN.{ℤ, pos}
use lib.Signed.{lt_z, le_z, quot_z, rem_z, ◌≤ℤ◌}
use mir.Syntax.{w32}
use mir.Val.{SFits}
use Rattle.std.specs.Prelude.{Option, None, Some, is_some}
use Rattle.record.specs.declared.operation.Arithmetic.{Arithmetic}
use Rattle.record.specs.declared.operation.Arithmetic.TheVariants.{Add, Sub, Mul, Div, Rem, Lt, Le, Eq}
use Rattle.arithmetic.specs.Arithmetic.{least, most, eq_z, ranged, divided, truth, compute_of}
use Rattle.arithmetic.specs.declared.Range.{Range}
use Rattle.arithmetic.specs.Ranges.{Holds, ProperRange, may_be_zero, truth_value, outcome, remainders, outcomes, divides, in_bits, range_of}
use Rattle.arithmetic.specs.Ranges.{FitsBits, OutcomeOf, HoldsEvery, Smallest, RefusedFor, RefusedForZero, GivesSound}
use Rattle.arithmetic.proofs.Order.{≤ℤ_trans, le_test, lt_is}
use Rattle.arithmetic.proofs.Corners.{holds_low, holds_proper, corners_hold, Reached, low_corner, high_corner}
use Rattle.arithmetic.proofs.Ranged.{by_nonzero, fits_ranged, ranged_fits}
use Rattle.arithmetic.proofs.Rising.{true_false, both_true, zero_held, nonzero, Divisible, monotone}
use Rattle.arithmetic.proofs.Equalities.{equalities_hold, equal_low, equal_high}
use Rattle.arithmetic.proofs.Remainders.{not_less, remainders_hold, remainders_fit}

-- ---- 32 bits

truth_ranged : (t : Bool) → truth t ≡ ranged (truth_value t)
unfolding ranged
truth_ranged true = refl
truth_ranged false = refl

pub by_nonzero_or : (op : Arithmetic) (b : Range) → Divisible op b → (y : ℤ) → Holds b y → divides op ≡ true → ¬ (y ≡ pos 0)
by_nonzero_or op b d y h e = nonzero b (rw e at d) y h

-- what an operation gives is its outcome, where it fits
pub computed : (op : Arithmetic) (x y : ℤ) → (divides op ≡ true → ¬ (y ≡ pos 0)) → compute_of op x y ≡ ranged (outcome op x y)
unfolding compute_of outcome ranged
computed Add x y n = refl
computed Sub x y n = refl
computed Mul x y n = refl
computed Div x y n = by_nonzero y (quot_z x y) (n refl)
computed Rem x y n = by_nonzero y (rem_z x y) (n refl)
computed Lt x y n = truth_ranged (lt_z x y)
computed Le x y n = truth_ranged (le_z x y)
computed Eq x y n = truth_ranged (eq_z x y)

-- the numbers of 32 bits
bits_of : (z : ℤ) → is_some (ranged z) ≡ true → (least ≤ℤ z) × (z ≤ℤ most)
unfolding ranged
bits_of z e = go (lt_z z least) (lt_z most z) refl refl e
  where
    go : (s t : Bool) → lt_z z least ≡ s → lt_z most z ≡ t → is_some (cond s None (cond t None (Some z))) ≡ true → (least ≤ℤ z) × (z ≤ℤ most)
    go true t i j f = true_false (sym f)
    go false true i j f = true_false (sym f)
    go false false i j f = (not_less z least i, not_less most z j)

of_bits : (z : ℤ) → least ≤ℤ z → z ≤ℤ most → ranged z ≡ Some z
unfolding ranged
of_bits z h k = rw (lt_is z least, lt_is most z, le_test least z h, le_test z most k)

pub past_bits : (z : ℤ) → is_some (ranged z) ≡ false → ranged z ≡ None
past_bits z e = go (ranged z) e
  where
    go : (c : Option ℤ) → is_some c ≡ false → c ≡ None
    go (Some v) f = true_false f
    go None f = refl

pub own_bits : (z : ℤ) → is_some (ranged z) ≡ true → ranged z ≡ Some z
own_bits z e = let (l, h) = bits_of z e in of_bits z l h

-- ---- the outcomes of ranges

every : (op : Arithmetic) (a b : Range) → Divisible op b → (x y : ℤ) → Holds a x → Holds b y → Holds (outcomes op a b) (outcome op x y)
unfolding outcomes outcome
every Add a b d x y h k = corners_hold (outcome Add) a b (monotone Add tt a b (holds_proper b y k) d) x y h k
every Sub a b d x y h k = corners_hold (outcome Sub) a b (monotone Sub tt a b (holds_proper b y k) d) x y h k
every Mul a b d x y h k = corners_hold (outcome Mul) a b (monotone Mul tt a b (holds_proper b y k) d) x y h k
every Div a b d x y h k = corners_hold (outcome Div) a b (monotone Div tt a b (holds_proper b y k) d) x y h k
every Rem a b d x y h k = remainders_hold a b x y (nonzero b d y k) h k
every Lt a b d x y h k = corners_hold (outcome Lt) a b (monotone Lt tt a b (holds_proper b y k) d) x y h k
every Le a b d x y h k = corners_hold (outcome Le) a b (monotone Le tt a b (holds_proper b y k) d) x y h k
every Eq a b d x y h k = equalities_hold a b x y h k

pub record EndsGiven (op : Arithmetic) (a b : Range) : Type 0 where
  least : Reached (outcome op) a b (outcomes op a b).low
  most : Reached (outcome op) a b (outcomes op a b).high

ends_given : (op : Arithmetic) → ¬ (op ≡ Rem) → (a b : Range) → ProperRange a → ProperRange b → EndsGiven op a b
unfolding outcomes
ends_given Add n a b p q = record { least = low_corner (outcome Add) a b p q; most = high_corner (outcome Add) a b p q }
ends_given Sub n a b p q = record { least = low_corner (outcome Sub) a b p q; most = high_corner (outcome Sub) a b p q }
ends_given Mul n a b p q = record { least = low_corner (outcome Mul) a b p q; most = high_corner (outcome Mul) a b p q }
ends_given Div n a b p q = record { least = low_corner (outcome Div) a b p q; most = high_corner (outcome Div) a b p q }
ends_given Rem n a b p q = absurd (n refl)
ends_given Lt n a b p q = record { least = low_corner (outcome Lt) a b p q; most = high_corner (outcome Lt) a b p q }
ends_given Le n a b p q = record { least = low_corner (outcome Le) a b p q; most = high_corner (outcome Le) a b p q }
ends_given Eq n a b p q = record { least = equal_low a b p q; most = equal_high a b p q }

-- ---- the operations over ranges

-- how a range comes about
record Given (op : Arithmetic) (a b r : Range) : Type 0 where
  divisible : Divisible op b
  range : outcomes op a b ≡ r
  low_fits_lem : is_some (ranged r.low) ≡ true
  high_fits : is_some (ranged r.high) ≡ true

given : (op : Arithmetic) (a b r : Range) → range_of op a b ≡ Some r → Given op a b r
unfolding range_of
given op a b r e = go (divides op && may_be_zero b) (is_some (ranged (outcomes op a b).low)) (is_some (ranged (outcomes op a b).high)) refl refl refl e
  where
    go : (t l h : Bool) → divides op && may_be_zero b ≡ t → is_some (ranged (outcomes op a b).low) ≡ l → is_some (ranged (outcomes op a b).high) ≡ h
        → cond t None (cond (l && h) (Some (outcomes op a b)) None) ≡ Some r → Given op a b r
    go true l h i j k f = let z : ◌≡◌ {A = ℕ} 0 1 = cc in absurd (omega arith)
    go false false h i j k f = let z : ◌≡◌ {A = ℕ} 0 1 = cc in absurd (omega arith)
    go false true false i j k f = let z : ◌≡◌ {A = ℕ} 0 1 = cc in absurd (omega arith)
    go false true true i j k f = let z : outcomes op a b ≡ r = cc in record { divisible = i; range = z; low_fits_lem = rw z at j; high_fits = rw z at k }

pub holds_every : HoldsEvery
holds_every op a b r e x y h k =
    let g = given op a b r e in
    let held : Holds r (outcome op x y) = subst (λ (s : Range). Holds s (outcome op x y)) g.range (every op a b g.divisible x y h k) in
    let within = of_bits (outcome op x y) (≤ℤ_trans (bits_of r.low g.low_fits_lem).0 held.above) (≤ℤ_trans held.below (bits_of r.high g.high_fits).1) in
    (outcome op x y, computed op x y (by_nonzero_or op b g.divisible y k) ∙ within, held)

-- an outcome, as the operation computes it
outcome_computed : (op : Arithmetic) (a b : Range) → Divisible op b → (z : ℤ) (c : Option ℤ) → Reached (outcome op) a b z → ranged z ≡ c → OutcomeOf op a b c
outcome_computed op a b d z c r e = record {
  left = r.left;
  right = r.right;
  holds_left = r.holds_left;
  holds_right = r.holds_right;
  gives = computed op r.left r.right (by_nonzero_or op b d r.right r.holds_right) ∙ ap ranged r.gives ∙ e;
}

pub smallest : Smallest
smallest op n a b r p q e =
    let g = given op a b r e in
    let ends = ends_given op n a b p q in
    record {
      least = outcome_computed op a b g.divisible r.low (Some r.low) (subst (λ (s : Range). Reached (outcome op) a b s.low) g.range ends.least) (own_bits r.low g.low_fits_lem);
      most = outcome_computed op a b g.divisible r.high (Some r.high) (subst (λ (s : Range). Reached (outcome op) a b s.high) g.range ends.most) (own_bits r.high g.high_fits);
    }

-- of a divisor 0 there is none
pub by_zero : (op : Arithmetic) (x : ℤ) → divides op ≡ true → compute_of op x (pos 0) ≡ None
unfolding compute_of divided
by_zero Add x e = true_false (sym e)
by_zero Sub x e = true_false (sym e)
by_zero Mul x e = true_false (sym e)
by_zero Div x e = refl
by_zero Rem x e = refl
by_zero Lt x e = true_false (sym e)
by_zero Le x e = true_false (sym e)
by_zero Eq x e = true_false (sym e)

pub refused_for : RefusedFor
unfolding range_of
refused_for op n a b p q e = go (divides op && may_be_zero b) (is_some (ranged (outcomes op a b).low)) (is_some (ranged (outcomes op a b).high)) refl refl refl e
  where
    ends : EndsGiven op a b
    ends = ends_given op n a b p q

    go : (t l h : Bool) → divides op && may_be_zero b ≡ t → is_some (ranged (outcomes op a b).low) ≡ l → is_some (ranged (outcomes op a b).high) ≡ h
        → cond t None (cond (l && h) (Some (outcomes op a b)) None) ≡ None → OutcomeOf op a b None
    go true l h i j k f =
        let (d, z) = both_true (divides op) (may_be_zero b) i in
        record { left = a.low; right = pos 0; holds_left = holds_low a p; holds_right = zero_held b z; gives = by_zero op a.low d }
    go false false h i j k f = outcome_computed op a b i (outcomes op a b).low None ends.least (past_bits (outcomes op a b).low j)
    go false true false i j k f = outcome_computed op a b i (outcomes op a b).high None ends.most (past_bits (outcomes op a b).high k)
    go false true true i j k f = let z : ◌≡◌ {A = ℕ} 0 1 = cc in absurd (omega arith)

-- ---- 32-bit ends

fits_of : (z : ℤ) → is_some (ranged z) ≡ true → SFits w32 z
fits_of z e = ranged_fits z z (own_bits z e)

pub gives_sound : GivesSound
gives_sound op a b r p q e =
    let g = given op a b r e in
    let (v, f, h) = holds_every op a b r e a.low b.low (holds_low a p) (holds_low b q) in
    record { proper = holds_proper r v h; fits = record { low = fits_of r.low g.low_fits_lem; high = fits_of r.high g.high_fits } }

pub refused_for_zero : RefusedForZero
unfolding range_of outcomes
refused_for_zero a b f g e = go (may_be_zero b) refl e
  where
    fit : FitsBits (remainders a b)
    fit = remainders_fit a b f g

    go : (t : Bool) → may_be_zero b ≡ t → cond t None (in_bits (remainders a b)) ≡ None → t ≡ true
    go true i k = refl
    go false i k = let z : ◌≡◌ {A = ℕ} 0 1 = cc (rw (fits_ranged (remainders a b).low fit.low, fits_ranged (remainders a b).high fit.high) at k) in absurd (omega arith)
