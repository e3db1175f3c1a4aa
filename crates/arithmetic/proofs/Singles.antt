-- Of single values an operation over ranges gives what it gives of numbers (`single_exact`). Assumes nothing.
use mathlib.Core.Path.{◌≡◌, refl, sym, ◌∙◌, subst}
use mathlib.Core.Bool.{Bool, true, false, ◌&&◌, cond}
use lib.IntN.{ℤ, pos}
use lib.Signed.{le_z, rem_z, ◌≤ℤ◌, ≤ℤ_refl}
use Rattle.std.specs.Prelude.{None, is_some, option_map}
use Rattle.record.specs.declared.operation.Arithmetic.{Arithmetic}
use Rattle.record.specs.declared.operation.Arithmetic.TheVariants.{Add, Sub, Mul, Div, Rem, Lt, Le, Eq}
use Rattle.arithmetic.specs.Arithmetic.{eq_z, ranged, compute_of}
use Rattle.arithmetic.specs.Ranges.{Holds, single, may_be_zero, smaller, larger, corners, truth_value, outcome, equalities, remainders, outcomes, divides, in_bits, range_of}
use Rattle.arithmetic.specs.Ranges.{SingleExact}
use Rattle.arithmetic.proofs.Order.{≤ℤ_antisym, test_le, le_test}
use Rattle.arithmetic.proofs.Ranged.{eq_eq_z, eq_z_true}
use Rattle.arithmetic.proofs.Rising.{true_false, both_true}
use Rattle.arithmetic.proofs.Ranges.{by_nonzero_or, computed, own_bits, past_bits, by_zero}

same_either : (t : Bool) (z : ℤ) → cond t z z ≡ z
same_either true z = refl
same_either false z = refl

smaller_same : (z : ℤ) → smaller z z ≡ z
smaller_same z = same_either (le_z z z) z

larger_same : (z : ℤ) → larger z z ≡ z
larger_same z = same_either (le_z z z) z

corners_single : (f : ℤ → ℤ → ℤ) (x y : ℤ) → corners f (single x) (single y) ≡ single (f x y)
corners_single f x y =
    let low : smaller (smaller (f x y) (f x y)) (smaller (f x y) (f x y)) ≡ f x y = smaller_same (smaller (f x y) (f x y)) ∙ smaller_same (f x y) in
    let high : larger (larger (f x y) (f x y)) (larger (f x y) (f x y)) ≡ f x y = larger_same (larger (f x y) (f x y)) ∙ larger_same (f x y) in
    λ i. record { low = low i; high = high i }

-- both ways is equal
both_ways : (x y : ℤ) → le_z x y && le_z y x ≡ eq_z x y
both_ways x y = go (eq_z x y) refl
  where
    go : (t : Bool) → eq_z x y ≡ t → le_z x y && le_z y x ≡ t
    go true e = let z = eq_z_true x y e in rw (le_test x y (subst (λ (w : ℤ). x ≤ℤ w) z (≤ℤ_refl x)), le_test y x (subst (λ (w : ℤ). w ≤ℤ x) z (≤ℤ_refl x)))
    go false e = apart (le_z x y && le_z y x) refl
      where
        apart : (t : Bool) → le_z x y && le_z y x ≡ t → t ≡ false
        apart false f = refl
        apart true f = let (h, k) = both_true (le_z x y) (le_z y x) f in true_false (sym (eq_eq_z (≤ℤ_antisym x y (test_le x y h) (test_le y x k))) ∙ e)

equal_single : (x y : ℤ) → equalities (single x) (single y) ≡ single (truth_value (eq_z x y))
unfolding equalities
equal_single x y = rw (eq_eq_z {a = x} refl, eq_eq_z {a = y} refl, both_ways x y)

remainder_single : (x y : ℤ) → remainders (single x) (single y) ≡ single (rem_z x y)
unfolding remainders
remainder_single x y = rw (eq_eq_z {a = x} refl, eq_eq_z {a = y} refl)

outcomes_single : (op : Arithmetic) (x y : ℤ) → outcomes op (single x) (single y) ≡ single (outcome op x y)
unfolding outcomes outcome
outcomes_single Add x y = corners_single (outcome Add) x y
outcomes_single Sub x y = corners_single (outcome Sub) x y
outcomes_single Mul x y = corners_single (outcome Mul) x y
outcomes_single Div x y = corners_single (outcome Div) x y
outcomes_single Rem x y = remainder_single x y
outcomes_single Lt x y = corners_single (outcome Lt) x y
outcomes_single Le x y = corners_single (outcome Le) x y
outcomes_single Eq x y = equal_single x y

in_bits_single : (z : ℤ) → in_bits (single z) ≡ option_map single (ranged z)
in_bits_single z = go (is_some (ranged z)) refl
  where
    go : (t : Bool) → is_some (ranged z) ≡ t → in_bits (single z) ≡ option_map single (ranged z)
    go true e = rw (own_bits z e)
    go false e = rw (past_bits z e)

pub single_exact : SingleExact
unfolding range_of
single_exact op x y = go (divides op && may_be_zero (single y)) refl
  where
    go : (t : Bool) → divides op && may_be_zero (single y) ≡ t → cond t None (in_bits (outcomes op (single x) (single y))) ≡ option_map single (compute_of op x y)
    go true e =
        let (d, z) = both_true (divides op) (may_be_zero (single y)) e in
        let (l, h) = both_true (le_z y (pos 0)) (le_z (pos 0) y) z in
        rw (≤ℤ_antisym y (pos 0) (test_le y (pos 0) l) (test_le (pos 0) y h), by_zero op x d)
    go false e =
        let own : Holds (single y) y = record { above = ≤ℤ_refl y; below = ≤ℤ_refl y } in
        rw (outcomes_single op x y, computed op x y (by_nonzero_or op (single y) e y own)) (in_bits_single (outcome op x y))
