-- Laws of tests, sums and lists over the numbers below n. Assumes nothing.
use Prim.Native.Nat.{ℕ, zero, suc, ◌+◌, ◌≤◌, ◌<◌}
use mathlib.Core.Path.{◌≡◌, refl, ◌∙◌}
use mathlib.Core.Logic.{◌⊎◌, inl, inr}
use mathlib.Core.Bool.{Bool, true, false, ◌||◌}
use native.Mathlib.Omega.{arith}
use native.Mathlib.Decide.{dec_le, ℕ_discrete}
use lib.ListN.{get_or}
use Rattle.machine.proofs.View.{false_true}
use Rattle.rules.specs.Needs.{any_below, all_below, sum_below, list_from}
use Rattle.rules.proofs.Passed.{both}
use Rattle.rules.proofs.Lists.{or_left, or_right}

-- ---- tests

last_or : (i n : ℕ) → i < suc n → (i < n) ⊎ (i ≡ n)
last_or i n h = go (dec_le (suc i) n)
  where
    go : Dec (suc i ≤ n) → (i < n) ⊎ (i ≡ n)
    go (yes l) = inl l
    go (no m) = inr (omega arith)

pub any_below_lem : (n : ℕ) (f : ℕ → Bool) (i : ℕ) → i < n → f i ≡ true → any_below n f ≡ true
any_below_lem zero f i h e = absurd (omega arith)
any_below_lem (suc n) f i h e = go (last_or i n h) (λ l. any_below_lem n f i l e)
  where
    go : (i < n) ⊎ (i ≡ n) → (i < n → any_below n f ≡ true) → f n || any_below n f ≡ true
    go (inl l) rest = or_right (f n) (any_below n f) (rest l)
    go (inr m) rest = or_left (f n) (any_below n f) (rw (← m) e)

pub one_below : (n : ℕ) (f : ℕ → Bool) → any_below n f ≡ true → (i : ℕ) × (i < n) × (f i ≡ true)
one_below zero f e = false_true e
one_below (suc n) f e = go (f n) refl e (one_below n f)
  where
    go : (b : Bool) → f n ≡ b → b || any_below n f ≡ true → (any_below n f ≡ true → (i : ℕ) × (i < n) × (f i ≡ true)) → (i : ℕ) × (i < suc n) × (f i ≡ true)
    go true h k rest = (n, omega arith, h)
    go false h k rest = let (i, l, m) = rest k in (i, omega arith, m)

pub each_below : (n : ℕ) (f : ℕ → Bool) → all_below n f ≡ true → (i : ℕ) → i < n → f i ≡ true
each_below zero f e i h = absurd (omega arith)
each_below (suc n) f e i h = go (last_or i n h) (each_below n f (both (f n) (all_below n f) e).1 i)
  where
    go : (i < n) ⊎ (i ≡ n) → (i < n → f i ≡ true) → f i ≡ true
    go (inl l) rest = rest l
    go (inr m) rest = rw m (both (f n) (all_below n f) e).0

pub all_below_lem : (n : ℕ) (f : ℕ → Bool) → ((i : ℕ) → i < n → f i ≡ true) → all_below n f ≡ true
all_below_lem zero f h = refl
all_below_lem (suc n) f h = rw (h n (omega arith)) (all_below_lem n f (λ i l. h i (omega arith)))

-- ---- sums

pub sum_least : (n : ℕ) (f h : ℕ → ℕ) → ((i : ℕ) → i < n → f i ≤ h i) → sum_below n f ≤ sum_below n h
sum_least zero f h k = omega arith
sum_least (suc n) f h k = omega (arith, sum_least n f h (λ i l. k i (omega arith)), k n (omega arith))

pub sum_same : (n : ℕ) (f h : ℕ → ℕ) → ((i : ℕ) → i < n → f i ≡ h i) → sum_below n f ≡ sum_below n h
sum_same zero f h k = refl
sum_same (suc n) f h k = omega (arith, sum_same n f h (λ i l. k i (omega arith)), k n (omega arith))

pub sum_none : (n : ℕ) (f : ℕ → ℕ) → ((i : ℕ) → f i ≡ 0) → sum_below n f ≡ 0
sum_none zero f k = refl
sum_none (suc n) f k = omega (arith, sum_none n f k, k n)

-- one summand more, at i
pub sum_more : (n : ℕ) (f h : ℕ → ℕ) (i w : ℕ) → i < n → h i ≡ f i + w → ((j : ℕ) → ¬ (i ≡ j) → h j ≡ f j) → sum_below n h ≡ sum_below n f + w
sum_more zero f h i w l e k = absurd (omega arith)
sum_more (suc n) f h i w l e k = go (ℕ_discrete i n) (λ m. sum_more n f h i w m e k)
  where
    go : Dec (i ≡ n) → (i < n → sum_below n h ≡ sum_below n f + w) → sum_below n h + h n ≡ sum_below n f + f n + w
    go (yes p) rest =
        let below = sum_same n h f (λ j m. k j (λ q. omega arith)) in
        let here : h n ≡ f n + w = rw (← p) e in
        omega arith
    go (no m) rest = omega (arith, rest (omega arith), k n m)

-- where each is at most another, and the sum is not less, each is the other
pub sum_tight : (n : ℕ) (f h : ℕ → ℕ) → ((i : ℕ) → i < n → f i ≤ h i) → sum_below n h ≤ sum_below n f → (i : ℕ) → i < n → h i ≤ f i
sum_tight zero f h k e i l = absurd (omega arith)
sum_tight (suc n) f h k e i l =
    let here = k n (omega arith) in
    let below = sum_least n f h (λ j m. k j (omega arith)) in
    let top : h n ≤ f n = omega arith in
    go top (last_or i n l) (sum_tight n f h (λ j m. k j (omega arith)) (omega arith) i)
  where
    go : h n ≤ f n → (i < n) ⊎ (i ≡ n) → (i < n → h i ≤ f i) → h i ≤ f i
    go top (inl m) rest = rest m
    go top (inr m) rest = rw m top

-- ---- lists

pub listed : {A : Type 0} (f : ℕ → A) (d : A) (j n i : ℕ) → i < n → get_or (list_from j n f) i d ≡ f (j + i)
listed f d j zero i h = absurd (omega arith)
listed f d j (suc n) zero h = let z : j ≡ j + 0 = omega arith in rw (← z)
listed f d j (suc n) (suc i) h = let z : suc j + i ≡ j + suc i = omega arith in listed f d (suc j) n i (omega arith) ∙ rw z

pub unlisted : {A : Type 0} (f : ℕ → A) (d : A) (j n i : ℕ) → n ≤ i → get_or (list_from j n f) i d ≡ d
unlisted f d j zero i h = refl
unlisted f d j (suc n) zero h = absurd (omega arith)
unlisted f d j (suc n) (suc i) h = unlisted f d (suc j) n i (omega arith)
