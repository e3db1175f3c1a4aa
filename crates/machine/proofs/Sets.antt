-- Sets of numbers, as tests, and how many numbers of a set are below n. Assumes nothing.
use mathlib.Core.Path.{◌≡◌, refl, sym, ap, ◌∙◌}
use mathlib.Core.Bool.{Bool, true, false, cond}
use Prim.Native.Nat.{ℕ, zero, suc, ◌+◌, ◌≤◌, ◌<◌}
use native.Mathlib.Decide.{ℕ_discrete}
use native.Mathlib.Omega.{arith}
use Rattle.machine.specs.Machine.{when}
use Rattle.machine.proofs.View.{when_yes, when_no, false_true}

-- with one more
abbrev pub with : (ℕ → Bool) → ℕ → ℕ → Bool
with s i j = when (ℕ_discrete j i) true (s j)

pub with_own : (s : ℕ → Bool) (i : ℕ) → with s i i ≡ true
with_own s i = when_yes (ℕ_discrete i i) true (s i) refl

pub with_other : (s : ℕ → Bool) (i j : ℕ) → ¬ (j ≡ i) → with s i j ≡ s j
with_other s i j n = when_no (ℕ_discrete j i) true (s j) n

pub with_keeps : (s : ℕ → Bool) (i j : ℕ) → s j ≡ true → with s i j ≡ true
with_keeps s i j e = go (ℕ_discrete j i)
  where
    go : (d : Dec (j ≡ i)) → when d true (s j) ≡ true
    go (yes p) = refl
    go (no n) = e

pub with_back : (s : ℕ → Bool) (i j : ℕ) → ¬ (j ≡ i) → with s i j ≡ true → s j ≡ true
with_back s i j n e = sym (with_other s i j n) ∙ e

abbrev pub count_below : (ℕ → Bool) → ℕ → ℕ
count_below s zero = 0
count_below s (suc n) = cond (s n) 1 0 + count_below s n

pub none_below : (n : ℕ) → count_below (λ i. false) n ≡ 0
none_below zero = refl
none_below (suc n) = rw (none_below n)

pub few : (s : ℕ → Bool) (n : ℕ) → count_below s n ≤ n
few s zero = omega arith
few s (suc n) = go (s n) (few s n)
  where
    go : (b : Bool) → count_below s n ≤ n → cond b 1 0 + count_below s n ≤ suc n
    go true h = omega arith
    go false h = omega arith

pub fewer : (s : ℕ → Bool) (n i : ℕ) → i < n → s i ≡ false → count_below s n < n
fewer s zero i l e = absurd (omega arith)
fewer s (suc n) i l e = go (ℕ_discrete i n) (s n) refl (λ h. fewer s n i h e)
  where
    go : Dec (i ≡ n) → (b : Bool) → s n ≡ b → (i < n → count_below s n < n) → cond b 1 0 + count_below s n < suc n
    go (yes p) true f rest = false_true (sym e ∙ ap s p ∙ f)
    go (yes p) false f rest = omega (arith, few s n)
    go (no q) true f rest = let h = rest (omega arith) in omega arith
    go (no q) false f rest = let h = rest (omega arith) in omega arith

pub all_count : (s : ℕ → Bool) (n : ℕ) → ((i : ℕ) → i < n → s i ≡ true) → count_below s n ≡ n
all_count s zero h = refl
all_count s (suc n) h = rw (h n (omega arith), all_count s n (λ i l. h i (omega arith))) (omega arith)

-- of equal sets as many
pub same_count : (s r : ℕ → Bool) (n : ℕ) → ((i : ℕ) → i < n → s i ≡ r i) → count_below s n ≡ count_below r n
same_count s r zero h = refl
same_count s r (suc n) h = rw (h n (omega arith), same_count s r n (λ i l. h i (omega arith)))

unchanged : (s : ℕ → Bool) (i n : ℕ) → n ≤ i → count_below (with s i) n ≡ count_below s n
unchanged s i zero l = refl
unchanged s i (suc n) l = let ne : ¬ (n ≡ i) = λ p. omega arith in rw (with_other s i n ne, unchanged s i n (omega arith))

pub one_more : (s : ℕ → Bool) (i n : ℕ) → i < n → s i ≡ false → count_below (with s i) n ≡ suc (count_below s n)
one_more s i zero l e = absurd (omega arith)
one_more s i (suc n) l e = go (ℕ_discrete n i) (λ h. one_more s i n h e)
  where
    go : Dec (n ≡ i) → (i < n → count_below (with s i) n ≡ suc (count_below s n)) → cond (with s i n) 1 0 + count_below (with s i) n ≡ suc (cond (s n) 1 0 + count_below s n)
    go (yes p) rest = rw (p, with_own s i, e, unchanged s i i (omega arith)) (omega arith)
    go (no q) rest = rw (with_other s i n q, rest (omega arith)) (omega arith)
