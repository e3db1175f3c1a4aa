-- Laws of the flags of one word, which are its binary digits: how many they are, which of them is set, a word with one of them changed, and where the
-- first and the last one stand. Assumes nothing.
use Prim.Native.Nat.{ℕ, zero, suc, ◌+◌, ◌-◌, ◌*◌, ◌/◌, ◌%◌, ◌^◌, ◌≤◌, ◌<◌, max}
use mathlib.Core.Path.{◌≡◌, refl, sym, ap, ◌∙◌}
use mathlib.Core.List.{List, ◌∷◌}
use native.Mathlib.Omega.{arith}
use native.Mathlib.Nat.{not-suc-le-zero, le_of_suc-le-suc, pow-succ', div-div-eq-div-mul, mul_left_comm, div-one, one-mul, mod-eq_of_lt, max-zero}
use lib.Bits.{bit_or, or_step, or_zero_r}
use lib.Count.{count_trailing_zeros, count_leading_zeros, under, leading_of_zero}
use lib.ListN.{length, get_or, set, replicate}
use lib.Pow.{pow-lt}
use lib.Dec.{eqb}
use borrow.Author.Tests.{lt-ltb, eq-eqb, ne_eqb}
use Rattle.store_flags.specs.Flags.{ones, place, digits, in_word}
use Rattle.store_flags.proofs.Laws.{Binary, place_later, ones_none}

-- ---- digits

digits_length : (n w : ℕ) → length (digits n w) ≡ n
digits_length zero w = refl
digits_length (suc n) w = ap suc (digits_length n (w / 2))

digits_binary : (n w : ℕ) → Binary (digits n w)
digits_binary zero w i = omega arith
digits_binary (suc n) w zero = omega arith
digits_binary (suc n) w (suc i) = digits_binary n (w / 2) i

digits_none : (n : ℕ) → digits n 0 ≡ replicate n 0
digits_none zero = refl
digits_none (suc n) = ap (λ (l : List ℕ). 0 ∷ l) (digits_none n)

digits_at : (n w k : ℕ) → k < n → get_or (digits n w) k 0 ≡ w / 2 ^ k % 2
digits_at zero w k h = absurd (not-suc-le-zero h)
digits_at (suc n) w zero h = sym (ap (λ (x : ℕ). x % 2) (div-one w))
digits_at (suc n) w (suc k) h =
    let e : w / 2 ^ suc k ≡ w / 2 / 2 ^ k = ap (λ (x : ℕ). w / x) (pow-succ' 2 k) ∙ sym (div-div-eq-div-mul w 2 (2 ^ k)) in
    digits_at n (w / 2) k (le_of_suc-le-suc h) ∙ sym (ap (λ (x : ℕ). x % 2) e)

-- the number whose digit k is v, in place of x
abbrev changed : (w k x v : ℕ) → ℕ
changed w k x v = w - x * 2 ^ k + v * 2 ^ k

digits_put : (n w k v x : ℕ) → k < n → w < 2 ^ n → v ≤ 1 → x ≡ get_or (digits n w) k 0
    → (x * 2 ^ k ≤ w) × (changed w k x v < 2 ^ n) × (digits n (changed w k x v) ≡ set (digits n w) k v)
digits_put zero w k v x h g b e = absurd (not-suc-le-zero h)
digits_put (suc n) w zero v x h g b e =
    let r : 2 ^ suc n ≡ 2 * 2 ^ n = pow-succ' 2 n in
    let m : (w - x * 1 + v * 1) % 2 ≡ v = omega arith in
    let d : (w - x * 1 + v * 1) / 2 ≡ w / 2 = omega arith in
    (omega arith, omega arith, rw (m, d))
digits_put (suc n) w (suc k) v x h g b e =
    let r : 2 ^ suc n ≡ 2 * 2 ^ n = pow-succ' 2 n in
    let p : x * 2 ^ suc k ≡ 2 * (x * 2 ^ k) = ap (λ (y : ℕ). x * y) (pow-succ' 2 k) ∙ mul_left_comm x 2 (2 ^ k) in
    let q : v * 2 ^ suc k ≡ 2 * (v * 2 ^ k) = ap (λ (y : ℕ). v * y) (pow-succ' 2 k) ∙ mul_left_comm v 2 (2 ^ k) in
    let ih = digits_put n (w / 2) k v x (le_of_suc-le-suc h) (omega arith) b e in
    let m : (w - 2 * (x * 2 ^ k) + 2 * (v * 2 ^ k)) % 2 ≡ w % 2 = omega (arith, ih.0) in
    let d : (w - 2 * (x * 2 ^ k) + 2 * (v * 2 ^ k)) / 2 ≡ changed (w / 2) k x v = omega (arith, ih.0) in
    rw (p, q) (omega (arith, ih.0), omega (arith, ih.0, ih.1), rw (m, d, ih.2))

-- digit k set, whether it was or not
digits_marked : (n w k : ℕ) → k < n → digits n (bit_or w (2 ^ k)) ≡ set (digits n w) k 1
digits_marked zero w k h = absurd (not-suc-le-zero h)
digits_marked (suc n) w zero h =
    let e : bit_or w 1 ≡ w / 2 * 2 + 1 = or_step w 1 ∙ (λ i. or_zero_r (w / 2) i * 2 + one (w % 2) (omega arith) i) in
    let m : (w / 2 * 2 + 1) % 2 ≡ 1 = omega arith in
    let d : (w / 2 * 2 + 1) / 2 ≡ w / 2 = omega arith in
    rw (e, m, d)
  where
    one : (x : ℕ) → x ≤ 1 → max x 1 ≡ 1
    one zero g = refl
    one (suc zero) g = refl
    one (suc (suc x)) g = absurd (omega arith)
digits_marked (suc n) w (suc k) h =
    let r : 2 ^ suc k ≡ 2 * 2 ^ k = pow-succ' 2 k in
    let half : 2 ^ suc k / 2 ≡ 2 ^ k = omega arith in
    let even : 2 ^ suc k % 2 ≡ 0 = omega arith in
    let e : bit_or w (2 ^ suc k) ≡ bit_or (w / 2) (2 ^ k) * 2 + w % 2 = or_step w (2 ^ suc k) ∙ (λ i. bit_or (w / 2) (half i) * 2 + max (w % 2) (even i)) ∙ ap (λ (x : ℕ). bit_or (w / 2) (2 ^ k) * 2 + x) (max-zero (w % 2)) in
    let m : (bit_or (w / 2) (2 ^ k) * 2 + w % 2) % 2 ≡ w % 2 = omega arith in
    let d : (bit_or (w / 2) (2 ^ k) * 2 + w % 2) / 2 ≡ bit_or (w / 2) (2 ^ k) = omega arith in
    rw (e, m, d, digits_marked n (w / 2) k (le_of_suc-le-suc h))

-- ---- the first one and the last one

digits_lowest : (n w : ℕ) → count_trailing_zeros n w ≡ place 0 (digits n w)
unfolding count_trailing_zeros
digits_lowest zero w = refl
digits_lowest (suc n) w = go (w % 2) (digits_lowest n (w / 2))
  where
    go : (x : ℕ) → count_trailing_zeros n (w / 2) ≡ place 0 (digits n (w / 2)) → under x (count_trailing_zeros n (w / 2)) ≡ place 0 (x ∷ digits n (w / 2))
    go zero later = ap suc later
    go (suc x) later = rw (lt-ltb 0 (suc x) (omega arith))

digits_some : (n w : ℕ) → 0 < w → w < 2 ^ n → 0 < ones (digits n w)
digits_some zero w p h = absurd (omega arith)
digits_some (suc n) w p h = go (w / 2) refl (digits_some n (w / 2))
  where
    r : 2 ^ suc n ≡ 2 * 2 ^ n
    r = pow-succ' 2 n

    go : (q : ℕ) → w / 2 ≡ q → (0 < w / 2 → w / 2 < 2 ^ n → 0 < ones (digits n (w / 2))) → 0 < w % 2 + ones (digits n (w / 2))
    go zero e later = omega arith
    go (suc q) e later = omega (arith, later (omega arith) (omega (arith, r)))

leading_later : (n w : ℕ) → 0 < w → count_leading_zeros (suc n) w ≡ count_leading_zeros n (w / 2)
unfolding count_leading_zeros
leading_later n zero p = absurd (not-suc-le-zero p)
leading_later n (suc w) p = refl

digits_highest : (n w : ℕ) → 0 < w → w < 2 ^ n → count_leading_zeros n w + suc (place (ones (digits n w) - 1) (digits n w)) ≡ n
digits_highest zero w p h = absurd (omega arith)
digits_highest (suc n) w p h = rw (leading_later n w p) (go (w / 2) refl (digits_highest n (w / 2)))
  where
    q : ℕ
    q = w / 2

    x : ℕ
    x = w % 2

    r : 2 ^ suc n ≡ 2 * 2 ^ n
    r = pow-succ' 2 n

    go : (y : ℕ) → q ≡ y → (0 < q → q < 2 ^ n → count_leading_zeros n q + suc (place (ones (digits n q) - 1) (digits n q)) ≡ n)
        → count_leading_zeros n q + suc (place (x + ones (digits n q) - 1) (x ∷ digits n q)) ≡ suc n
    go zero e later =
        let one : x ≡ 1 = omega arith in
        let none : ones (digits n q) ≡ 0 = rw (e, digits_none n) (ones_none n) in
        rw (none, one, e, leading_of_zero n) (omega arith)
    go (suc y) e later =
        let some : 0 < ones (digits n q) = digits_some n q (omega arith) (omega (arith, r)) in
        let past : (x + ones (digits n q) - 1) - x ≡ ones (digits n q) - 1 = omega arith in
        rw (place_later (x + ones (digits n q) - 1) x (digits n q) (omega arith), past) (omega (arith, later (omega arith) (omega (arith, r))))

-- ---- the 64 flags of a word

pub word_size : (w : ℕ) → length (in_word w) ≡ 64
unfolding in_word
word_size w = digits_length 64 w

pub word_binary : (w : ℕ) → Binary (in_word w)
unfolding in_word
word_binary w = digits_binary 64 w

pub word_none : in_word 0 ≡ replicate 64 0
unfolding in_word
word_none = digits_none 64

pub word_some : (w : ℕ) → 0 < w → w < 2 ^ 64 → 0 < ones (in_word w)
unfolding in_word
word_some w p h = digits_some 64 w p h

pub word_positive : (w : ℕ) → 0 < ones (in_word w) → 0 < w
word_positive zero h = absurd (omega (arith, rw word_none at h, ones_none 64))
word_positive (suc w) h = omega arith

-- a word is 0 where no flag is set, and only there
pub word_empty : (w : ℕ) → w < 2 ^ 64 → eqb w 0 ≡ eqb (ones (in_word w)) 0
word_empty zero h = eq-eqb 0 0 refl ∙ sym (eq-eqb (ones (in_word 0)) 0 (ap ones word_none ∙ ones_none 64))
word_empty (suc w) h = ne_eqb (suc w) 0 (λ z. omega arith) ∙ sym (ne_eqb (ones (in_word (suc w))) 0 (λ z. omega (arith, word_some (suc w) (omega arith) h)))

pub word_at : (w k : ℕ) → k < 64 → get_or (in_word w) k 0 ≡ w / 2 ^ k % 2
unfolding in_word
word_at w k h = digits_at 64 w k h

pub word_put : (w k v x : ℕ) → k < 64 → w < 2 ^ 64 → v ≤ 1 → x ≡ get_or (in_word w) k 0
    → (x * 2 ^ k ≤ w) × (changed w k x v < 2 ^ 64) × (in_word (changed w k x v) ≡ set (in_word w) k v)
unfolding in_word
word_put w k v x h g b e = digits_put 64 w k v x h g b e

-- a flag that is lowered is raised, and one that is raised is lowered
pub word_raised : (w k : ℕ) → k < 64 → w < 2 ^ 64 → get_or (in_word w) k 0 ≡ 0 → (w + 2 ^ k < 2 ^ 64) × (in_word (w + 2 ^ k) ≡ set (in_word w) k 1)
word_raised w k h g e =
    let p = word_put w k 1 0 h g (omega arith) (sym e) in
    let same : changed w k 0 1 ≡ w + 2 ^ k = omega arith in
    (rw same at p.1, rw same at p.2)

pub word_lowered : (w k : ℕ) → k < 64 → w < 2 ^ 64 → get_or (in_word w) k 0 ≡ 1 → (2 ^ k ≤ w) × (in_word (w - 2 ^ k) ≡ set (in_word w) k 0)
word_lowered w k h g e =
    let p = word_put w k 0 1 h g (omega arith) (sym e) in
    let same : changed w k 1 0 ≡ w - 2 ^ k = omega arith in
    (omega (arith, p.0), rw same at p.2)

-- a flag is raised, whether it was or not
pub word_marked : (w k : ℕ) → k < 64 → in_word (bit_or w (2 ^ k)) ≡ set (in_word w) k 1
unfolding in_word
word_marked w k h = digits_marked 64 w k h

-- a flag's digit fits a word
pub one_fits : (k : ℕ) → k < 64 → 1 * 2 ^ k % 2 ^ 64 ≡ 2 ^ k
one_fits k h = rw (one-mul (2 ^ k)) (mod-eq_of_lt (pow-lt h))

pub word_lowest : (w : ℕ) → count_trailing_zeros 64 w ≡ place 0 (in_word w)
unfolding in_word
word_lowest w = digits_lowest 64 w

pub word_highest : (w : ℕ) → 0 < w → w < 2 ^ 64 → count_leading_zeros 64 w + suc (place (ones (in_word w) - 1) (in_word w)) ≡ 64
unfolding in_word
word_highest w p h = digits_highest 64 w p h
