-- Numbers and their bytes: a number is read back from its bytes, and bytes are written back from the number that they hold. Assumes nothing.
use Prim.Native.Nat.{ℕ, ◌+◌, ◌*◌, ◌/◌, ◌%◌, ◌^◌, ◌<◌}
use mathlib.Core.Path.{◌≡◌, ap, ◌∙◌}
use mathlib.Core.List.{List, [], ◌∷◌, ◌++◌}
use native.Mathlib.Omega.{arith}
use native.Mathlib.Nat.{zero-add, mod-eq_of_lt, div-eq_of_lt, add-mul-mod_self_left, add-mul-div_left}
use lib.IntN.{ℤ}
use mir.Syntax.{w32}
use mir.Val.{SFits}
use mir.Facts.{to_z-of_z, of_z-to_z, Fits-of_z}
use Rattle.number.specs.Number.{byte_at, number16, number32, number64, signed_of, bits_of, bytes16, bytes32, bytes64}

-- ---- from the bytes of a number, whatever follows

word16 : (n : ℕ) → n % 256 + 256 * (n / 256 % 256) ≡ n % 65536
word16 n = omega arith

word32 : (n : ℕ) → n % 65536 + 65536 * (n / 65536 % 65536) ≡ n % 4294967296
word32 n = omega arith

word64 : (n : ℕ) → n % 4294967296 + 4294967296 * (n / 4294967296 % 4294967296) ≡ n % 18446744073709551616
word64 n = omega arith

pub number16_bytes : (n : ℕ) (r : List ℕ) → number16 (bytes16 n ++ r) 0 ≡ n % 65536
number16_bytes n r = word16 n

pub number32_bytes : (n : ℕ) (r : List ℕ) → number32 (bytes32 n ++ r) 0 ≡ n % 4294967296
number32_bytes n r = rw (word16 n, word16 (n / 65536)) (word32 n)

pub number64_bytes : (n : ℕ) (r : List ℕ) → number64 (bytes64 n ++ r) 0 ≡ n % 18446744073709551616
number64_bytes n r =
    let h = n / 4294967296 in
    rw (word16 n, word16 (n / 65536), word16 h, word16 (h / 65536), word32 n, word32 h) (word64 n)

-- a number that fits is what its last bits say
pub fits16 : (n : ℕ) → n < 2 ^ 16 → n % 65536 ≡ n
fits16 n h = omega arith

pub fits32 : (n : ℕ) → n < 2 ^ 32 → n % 4294967296 ≡ n
fits32 n h = omega arith

pub fits64 : (n : ℕ) → n < 2 ^ 64 → n % 18446744073709551616 ≡ n
fits64 n h = omega arith

-- ---- from the number of some bytes

beside : {a b c d : List ℕ} → a ≡ b → c ≡ d → a ++ c ≡ b ++ d
beside p q = λ i. p i ++ q i

-- the upper part of a number of two parts
high : (c a b : ℕ) → a < c → (a + c * b) / c ≡ b
high c a b h = add-mul-div_left a b {y = c} (omega arith) ∙ rw (div-eq_of_lt h) (zero-add b)

-- the bytes of the lower part
low16 : (a b : ℕ) → bytes16 (a + 65536 * b) ≡ bytes16 a
low16 a b =
    let e : a + 65536 * b ≡ a + 256 * (256 * b) = omega arith in
    rw (e, add-mul-mod_self_left a 256 (256 * b), add-mul-div_left a (256 * b) {y = 256} (omega arith), add-mul-mod_self_left (a / 256) 256 b)

low32 : (a b : ℕ) → bytes32 (a + 4294967296 * b) ≡ bytes32 a
low32 a b =
    let e : a + 4294967296 * b ≡ a + 65536 * (65536 * b) = omega arith in
    ap (λ (n : ℕ). bytes32 n) e
    ∙ beside (low16 a (65536 * b)) (ap (λ (n : ℕ). bytes16 n) (add-mul-div_left a (65536 * b) {y = 65536} (omega arith)) ∙ low16 (a / 65536) b)

module _ (l : List ℕ) (small : (k : ℕ) → byte_at l k < 256) where
  pub number16_small : (k : ℕ) → number16 l k < 2 ^ 16
  number16_small k = omega (arith, small k, small (k + 1))

  pub number32_small : (k : ℕ) → number32 l k < 2 ^ 32
  number32_small k = omega (arith, number16_small k, number16_small (k + 2))

  pub bytes16_number : (k : ℕ) → bytes16 (number16 l k) ≡ byte_at l k ∷ byte_at l (k + 1) ∷ []
  bytes16_number k =
      let a = byte_at l k in
      let b = byte_at l (k + 1) in
      rw (
        add-mul-mod_self_left a 256 b,
        add-mul-div_left a b {y = 256} (omega arith),
        mod-eq_of_lt (small k),
        div-eq_of_lt (small k),
        zero-add b,
        mod-eq_of_lt (small (k + 1)),
      )

  pub bytes32_number : (k : ℕ) → bytes32 (number32 l k) ≡ (byte_at l k ∷ byte_at l (k + 1) ∷ []) ++ (byte_at l (k + 2) ∷ byte_at l (k + 2 + 1) ∷ [])
  bytes32_number k =
      let a = number16 l k in
      let b = number16 l (k + 2) in
      beside (low16 a b ∙ bytes16_number k) (ap (λ (n : ℕ). bytes16 n) (high 65536 a b (number16_small k)) ∙ bytes16_number (k + 2))

  pub bytes64_number : (k : ℕ) → bytes64 (number64 l k) ≡ bytes32 (number32 l k) ++ bytes32 (number32 l (k + 4))
  bytes64_number k =
      let a = number32 l k in
      let b = number32 l (k + 4) in
      beside (low32 a b) (ap (λ (n : ℕ). bytes32 n) (high 4294967296 a b (number32_small k)))

-- ---- signed numbers

pub bits_fit : (z : ℤ) → SFits w32 z → bits_of z < 2 ^ 32
unfolding bits_of
bits_fit z f = omega (arith, Fits-of_z f)

pub signed_bits : (z : ℤ) → SFits w32 z → signed_of (bits_of z) ≡ z
unfolding signed_of bits_of
signed_bits z f = to_z-of_z f

pub bits_signed : (n : ℕ) → n < 2 ^ 32 → bits_of (signed_of n) ≡ n
unfolding signed_of bits_of
bits_signed n h = of_z-to_z {w = w32} (record { fits = h })
