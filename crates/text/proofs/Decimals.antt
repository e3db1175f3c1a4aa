-- Laws of decimal numbers, of any size: the digits of n are those of n / 10 and the digit n % 10; a number below 10 ^ k has k of them at most; and a number
-- in two parts has the digits of both. Assumes nothing.
use Prim.Native.Nat.{ℕ, zero, suc, ◌+◌, ◌*◌, ◌/◌, ◌%◌, ◌^◌, ◌≤◌, ◌<◌}
use native.Mathlib.Omega.{arith}
use native.Mathlib.Nat.{pow-suc, mul_assoc, mul_comm, mul-pos}
use mathlib.Core.Path.{◌≡◌, refl, ap, ◌∙◌}
use mathlib.Core.Bool.{Bool, true, false}
use mathlib.Core.List.{[], ◌∷◌, ◌++◌, append-nil, append_assoc}
use borrow.Author.Tests.{ltb-true, ltb-false, lt-ltb, le-ltb}
use lib.Dec.{ltb}
use lib.ListN.{length, length-append}
use lib.IntN.{ℤ, pos, negsuc, nat_abs}
use lib.Signed.{lt_z}
use Rattle.text.specs.Text.{digit, digits_by, decimal, signed_decimal}
use Rattle.text.specs.Lines.{last_digits}

-- more steps than enough change nothing
enough : (s t n : ℕ) → n < s → n < t → digits_by s n ≡ digits_by t n
enough zero t n h k = absurd (omega arith)
enough (suc s) zero n h k = absurd (omega arith)
enough (suc s) (suc t) n h k = go (ltb n 10) refl (λ p q. enough s t (n / 10) p q)
  where
    go : (b : Bool) → ltb n 10 ≡ b → (n / 10 < s → n / 10 < t → digits_by s (n / 10) ≡ digits_by t (n / 10)) → digits_by (suc s) n ≡ digits_by (suc t) n
    go true e r = rw (e, digits_by)
    go false e r =
        let g : 10 ≤ n = ltb-false n 10 e in
        let q = r (omega arith) (omega arith) in
        rw (e, digits_by, q)

pub decimal_digit : (n : ℕ) → n < 10 → decimal n ≡ digit n ∷ []
unfolding decimal
decimal_digit n h = rw (lt-ltb n 10 h, digits_by)

pub decimal_more : (n : ℕ) → 10 ≤ n → decimal n ≡ decimal (n / 10) ++ digit (n % 10) ∷ []
unfolding decimal
decimal_more n h = rw (le-ltb n 10 h, digits_by, enough n (suc (n / 10)) (n / 10) (omega arith) (omega arith))

pub length_more : (n : ℕ) → 10 ≤ n → length (decimal n) ≡ suc (length (decimal (n / 10)))
length_more n h = ap length (decimal_more n h) ∙ omega (arith, length-append (decimal (n / 10)) (digit (n % 10) ∷ []))

-- two digits, and three
pub two_digits : (n : ℕ) → 10 ≤ n → n < 100 → decimal n ≡ digit (n / 10) ∷ digit (n % 10) ∷ []
two_digits n h k = decimal_more n h ∙ ap (λ l. l ++ digit (n % 10) ∷ []) (decimal_digit (n / 10) (omega arith))

pub three_digits : (n : ℕ) → 100 ≤ n → n < 1000 → decimal n ≡ digit (n / 100) ∷ digit (n / 10 % 10) ∷ digit (n % 10) ∷ []
three_digits n h k =
    let e : n / 10 / 10 ≡ n / 100 = omega arith in
    decimal_more n (omega arith) ∙ ap (λ l. l ++ digit (n % 10) ∷ []) (two_digits (n / 10) (omega arith) (omega arith) ∙ ap (λ m. digit m ∷ digit (n / 10 % 10) ∷ []) e)

-- ---- the last k digits

pub length_last : (k n : ℕ) → length (last_digits k n) ≡ k
length_last zero n = refl
length_last (suc k) n = omega (arith, length-append (last_digits k (n / 10)) (digit (n % 10) ∷ []), length_last k (n / 10))

-- as many as there are
pub all_digits : (n : ℕ) → last_digits (length (decimal n)) n ≡ decimal n
all_digits n = all_by_lem (suc n) n (omega arith)
  where
    all_by_lem : (steps n : ℕ) → n < steps → last_digits (length (decimal n)) n ≡ decimal n
    all_by_lem zero n h = absurd (omega arith)
    all_by_lem (suc s) n h = go (ltb n 10) refl (λ k. all_by_lem s (n / 10) k)
      where
        go : (b : Bool) → ltb n 10 ≡ b → (n / 10 < s → last_digits (length (decimal (n / 10))) (n / 10) ≡ decimal (n / 10)) → last_digits (length (decimal n)) n ≡ decimal n
        go true e r =
            let m : n % 10 ≡ n = omega (arith, ltb-true n 10 e) in
            rw (decimal_digit n (ltb-true n 10 e), m)
        go false e r =
            let g : 10 ≤ n = ltb-false n 10 e in
            rw (length_more n g, decimal_more n g, r (omega arith))

ten_times : (n b : ℕ) → 0 < n → decimal (10 * n + b) ≡ decimal (n + b / 10) ++ digit (b % 10) ∷ []
ten_times n b h =
    let q : (10 * n + b) / 10 ≡ n + b / 10 = omega arith in
    let r : (10 * n + b) % 10 ≡ b % 10 = omega arith in
    rw (decimal_more (10 * n + b) (omega arith), q, r)

-- a number of which the part above 10 ^ k is not 0: the digits of that part, and k more
pub in_parts : (k a b : ℕ) → 0 < a → b < 10 ^ k → decimal (a * 10 ^ k + b) ≡ decimal a ++ last_digits k b
in_parts zero a b h l =
    let e : a * 10 ^ 0 + b ≡ a = omega arith in
    rw (e, append-nil (decimal a))
in_parts (suc k) a b h l =
    let p : a * 10 ^ suc k ≡ 10 * (a * 10 ^ k) = rw (pow-suc 10 k, ← mul_assoc a (10 ^ k) 10) (mul_comm (a * 10 ^ k) 10) in
    let s = mul-pos {n = 10 ^ k} h (omega (arith, pow-suc 10 k)) in
    rw p (ten_times (a * 10 ^ k) b s ∙ rw (in_parts k a (b / 10) h (omega (arith, pow-suc 10 k))) (append_assoc (decimal a) (last_digits k (b / 10)) (digit (b % 10) ∷ [])))

-- ---- how many there are at most

-- a number below 10 ^ k has k digits at most
pub at_most : (k n : ℕ) → n < 10 ^ suc k → length (decimal n) ≤ suc k
at_most zero n h = rw (decimal_digit n (omega arith)) (omega arith)
at_most (suc k) n h = go (ltb n 10) refl (λ r. at_most k (n / 10) r)
  where
    go : (b : Bool) → ltb n 10 ≡ b → (n / 10 < 10 ^ suc k → length (decimal (n / 10)) ≤ suc k) → length (decimal n) ≤ suc (suc k)
    go true e r = rw (decimal_digit n (ltb-true n 10 e)) (omega arith)
    go false e r =
        let p = r (omega (arith, pow-suc 10 (suc k))) in
        rw (length_more n (ltb-false n 10 e)) (omega arith)

-- and a number from 10 ^ k on has one more
pub has_digits : (k n : ℕ) → 10 ^ k ≤ n → n < 10 * 10 ^ k → length (decimal n) ≡ suc k
has_digits zero n h l = ap length (decimal_digit n (omega arith))
has_digits (suc k) n h l =
    let p = pow-suc 10 k in
    let s = some_power k in
    length_more n (omega arith) ∙ ap suc (has_digits k (n / 10) (omega arith) (omega arith))
  where
    some_power : (k : ℕ) → 0 < 10 ^ k
    some_power zero = omega arith
    some_power (suc k) = omega (arith, pow-suc 10 k, some_power k)

-- a machine number has 20 digits at most
pub short : (n : ℕ) → n < 2 ^ 64 → length (decimal n) ≤ 20
short n h = at_most 19 n (omega arith)

-- ---- a number below 0: a minus and its size

pub signed_minus : (z : ℤ) → lt_z z (pos 0) ≡ true → signed_decimal z ≡ 45 ∷ decimal (nat_abs z)
signed_minus (pos n) e = absurd (omega (arith, ltb-true n 0 e))
signed_minus (negsuc n) e = refl
