-- EQ over ranges: the bounds hold every outcome and are outcomes (`equalities_hold`, `equal_low`, `equal_high`). Assumes nothing.
use mathlib.Core.Path.{◌≡◌, refl, sym, ap, ◌∙◌, subst}
use mathlib.Core.Bool.{Bool, true, false, ◌&&◌}
use mathlib.Core.Logic.{◌⊎◌, inl, inr}
use lib.IntN.{ℤ, pos}
use lib.Signed.{le_z, ◌≤ℤ◌}
use Rattle.record.specs.declared.operation.Arithmetic.TheVariants.{Eq}
use Rattle.arithmetic.specs.Arithmetic.{eq_z}
use Rattle.arithmetic.specs.declared.Range.{Range}
use Rattle.arithmetic.specs.Ranges.{Holds, ProperRange, is_single, truth_value, outcome, equalities}
use Rattle.arithmetic.proofs.Order.{≤ℤ_trans, ≤ℤ_antisym, test_le, le_test}
use Rattle.arithmetic.proofs.Corners.{holds_low, holds_high, Reached, larger_cases}
use Rattle.arithmetic.proofs.Ranged.{eq_eq_z, eq_z_true, ne_eq_z}
use Rattle.arithmetic.proofs.Rising.{true_false, both_true, bit_rises}

pub same_ends : (r : Range) (v : ℤ) → is_single r ≡ true → Holds r v → v ≡ r.low
same_ends r v e h = ≤ℤ_antisym v r.low (subst (λ (z : ℤ). v ≤ℤ z) (sym (eq_z_true r.low r.high e)) h.below) h.above

pub equalities_hold : (a b : Range) (x y : ℤ) → Holds a x → Holds b y → Holds (equalities a b) (truth_value (eq_z x y))
unfolding equalities
equalities_hold a b x y h k = record {
  above = bit_rises (is_single a && (is_single b && eq_z a.low b.low)) (eq_z x y) (λ e.
      let (p, q) = both_true (is_single a) _ e in
      let (r, s) = both_true (is_single b) _ q in
      eq_eq_z (same_ends a x p h ∙ eq_z_true a.low b.low s ∙ sym (same_ends b y r k)));
  below = bit_rises (eq_z x y) (le_z a.low b.high && le_z b.low a.high) (λ e.
      let z = eq_z_true x y e in
      rw (le_test a.low b.high (≤ℤ_trans h.above (subst (λ (w : ℤ). w ≤ℤ b.high) (sym z) k.below)), le_test b.low a.high (≤ℤ_trans k.above (subst (λ (w : ℤ). w ≤ℤ a.high) z h.below))));
}

module _ (a b : Range) (p : ProperRange a) (q : ProperRange b) where
  abbrev Equality : ℤ → Type 0
  Equality z = Reached (outcome Eq) a b z

  equal_at : (x y : ℤ) (t : Bool) → Holds a x → Holds b y → eq_z x y ≡ t → Equality (truth_value t)
  unfolding outcome
  equal_at x y t h k e = record { left = x; right = y; holds_left = h; holds_right = k; gives = ap truth_value e }

  -- of two numbers that differ, one differs from a third
  differ_one : (x y z : ℤ) → eq_z x y ≡ false → (eq_z x z ≡ false) ⊎ (eq_z y z ≡ false)
  differ_one x y z e = go (eq_z x z) (eq_z y z) refl refl
    where
      go : (t u : Bool) → eq_z x z ≡ t → eq_z y z ≡ u → (eq_z x z ≡ false) ⊎ (eq_z y z ≡ false)
      go false u i j = inl i
      go true false i j = inr j
      go true true i j = true_false (sym (eq_eq_z (eq_z_true x z i ∙ sym (eq_z_true y z j))) ∙ e)

  turn_eq : (x y : ℤ) → eq_z x y ≡ false → eq_z y x ≡ false
  turn_eq x y e = ne_eq_z y x (λ z. true_false (sym (eq_eq_z (sym z)) ∙ e))

  pub equal_low : Equality (equalities a b).low
  unfolding equalities
  equal_low = go (is_single a) (is_single b) (eq_z a.low b.low) refl refl refl
    where
      differs : (t : Bool) → eq_z a.low b.low ≡ t → Equality (truth_value t)
      differs t k = equal_at a.low b.low t (holds_low a p) (holds_low b q) k

      go : (s t u : Bool) → is_single a ≡ s → is_single b ≡ t → eq_z a.low b.low ≡ u → Equality (truth_value (s && (t && u)))
      go true true u i j k = differs u k
      go true false u i j k = on_side (differ_one b.low b.high a.low j)
        where
          on_side : (eq_z b.low a.low ≡ false) ⊎ (eq_z b.high a.low ≡ false) → Equality (pos 0)
          on_side (inl e) = equal_at a.low b.low false (holds_low a p) (holds_low b q) (turn_eq b.low a.low e)
          on_side (inr e) = equal_at a.low b.high false (holds_low a p) (holds_high b q) (turn_eq b.high a.low e)
      go false t u i j k = on_side (differ_one a.low a.high b.low i)
        where
          on_side : (eq_z a.low b.low ≡ false) ⊎ (eq_z a.high b.low ≡ false) → Equality (pos 0)
          on_side (inl e) = equal_at a.low b.low false (holds_low a p) (holds_low b q) e
          on_side (inr e) = equal_at a.high b.low false (holds_high a p) (holds_low b q) e

  pub equal_high : Equality (equalities a b).high
  unfolding equalities
  equal_high = go (le_z a.low b.high) (le_z b.low a.high) refl refl
    where
      -- the larger of the low ends is in both
      overlap : a.low ≤ℤ b.high → b.low ≤ℤ a.high → Equality (pos 1)
      overlap h k = larger_cases a.low b.low (λ z. Equality (pos 1))
          (λ l. equal_at a.low a.low true (holds_low a p) (record { above = l; below = h }) (eq_eq_z {a = a.low} refl))
          (λ l. equal_at b.low b.low true (record { above = l; below = k }) (holds_low b q) (eq_eq_z {a = b.low} refl))

      apart : (eq_z a.low b.low ≡ true → ⊥) → Equality (pos 0)
      apart n = equal_at a.low b.low false (holds_low a p) (holds_low b q) (ne_eq_z a.low b.low (λ e. n (eq_eq_z e)))

      go : (s t : Bool) → le_z a.low b.high ≡ s → le_z b.low a.high ≡ t → Equality (truth_value (s && t))
      go true true i j = overlap (test_le a.low b.high i) (test_le b.low a.high j)
      go false t i j = apart (λ e. true_false (sym (le_test a.low b.high (subst (λ (z : ℤ). z ≤ℤ b.high) (sym (eq_z_true a.low b.low e)) q)) ∙ i))
      go true false i j = apart (λ e. true_false (sym (le_test b.low a.high (subst (λ (z : ℤ). z ≤ℤ a.high) (eq_z_true a.low b.low e) p)) ∙ j))
