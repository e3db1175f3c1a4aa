-- A path divided by ten, word by word; and how many digits a path has at most. Assumes nothing.
use Prim.Native.Nat.{ℕ, suc, ◌+◌, ◌*◌, ◌/◌, ◌%◌, ◌^◌, ◌≤◌, ◌<◌}
use mathlib.Core.Path.{◌≡◌, refl, ◌∙◌}
use native.Mathlib.Omega.{arith}
use lib.ListN.{length}
use native.Mathlib.Nat.{le_trans, mul-le-mul_left}
use borrow.Author.Tests.{leb-true}
use Rattle.record.specs.declared.tag.Path.{Path}
use Rattle.record.specs.Paths.{path_number, path_words, PathFits}
use Rattle.record.proofs.Paths.{equal_words}
use Rattle.text.specs.Text.{decimal}
use Rattle.text.proofs.Decimals.{at_most, length_more}

-- ---- by ten, of a number in three parts: each is divided with what is left of the one above it

abbrev part : ℕ
part = 4294967296

record Parts (n high upper lower : ℕ) : Type 0 where
  quotient : n / 10 ≡ 18446744073709551616 * (high / 10) + (upper / 10 * part + lower / 10)
  rest : n % 10 ≡ lower % 10
  upper_low : upper / 10 < part
  lower_low : lower / 10 < part

module _ (high m l : ℕ) (small : m < part) (low : l < part) where
  abbrev upper : ℕ
  upper = high % 10 * part + m

  abbrev lower : ℕ
  lower = upper % 10 * part + l

  -- the two higher parts, and then the lower one
  above : high * part + m ≡ (high / 10 * part + upper / 10) * 10 + upper % 10
  above = omega arith

  below : (q r : ℕ) → (q * 10 + r) * part + l ≡ (q * part + (r * part + l) / 10) * 10 + (r * part + l) % 10
  below q r = omega arith

  parts : Parts ((high * part + m) * part + l) high upper lower
  parts =
      let e : (high * part + m) * part + l ≡ ((high / 10 * part + upper / 10) * part + lower / 10) * 10 + lower % 10 = rw above (below (high / 10 * part + upper / 10) (upper % 10)) in
      let d : lower % 10 < 10 = omega arith in
      let q : ((high * part + m) * part + l) / 10 ≡ (high / 10 * part + upper / 10) * part + lower / 10 = rw e (tens ((high / 10 * part + upper / 10) * part + lower / 10) (lower % 10) d) in
      record {
        quotient = q ∙ omega arith;
        rest = rw e (left ((high / 10 * part + upper / 10) * part + lower / 10) (lower % 10) d);
        upper_low = omega arith;
        lower_low = omega arith;
      }
    where
      tens : (q r : ℕ) → r < 10 → (q * 10 + r) / 10 ≡ q
      tens q r h = omega arith

      left : (q r : ℕ) → r < 10 → (q * 10 + r) % 10 ≡ r
      left q r h = omega arith

module _ (p : Path) (fits : p.low < 2 ^ 64) where
  abbrev upper_of : ℕ
  upper_of = p.high % 10 * part + p.low / part

  abbrev lower_of : ℕ
  lower_of = upper_of % 10 * part + p.low % part

  whole : path_number p ≡ (p.high * part + p.low / part) * part + p.low % part
  unfolding path_number
  whole = omega arith

  in_parts : Parts (path_number p) p.high upper_of lower_of
  in_parts = rw whole (parts p.high (p.low / part) (p.low % part) (omega arith) (omega arith))

  pub tenth_words : path_words (path_number p / 10) ≡ record { low = upper_of / 10 * part + lower_of / 10; high = p.high / 10 }
  unfolding path_words
  tenth_words =
      let i = in_parts in
      let small : upper_of / 10 * part + lower_of / 10 < 18446744073709551616 = omega (arith, i.upper_low, i.lower_low) in
      rw i.quotient (equal_words (words (p.high / 10) (upper_of / 10 * part + lower_of / 10) small).0 (words (p.high / 10) (upper_of / 10 * part + lower_of / 10) small).1)
    where
      words : (a b : ℕ) → b < 18446744073709551616
          → ((18446744073709551616 * a + b) % 18446744073709551616 ≡ b) × ((18446744073709551616 * a + b) / 18446744073709551616 ≡ a)
      words a b h = (omega arith, omega arith)

  pub tenth_digit : path_number p % 10 ≡ lower_of % 10
  tenth_digit = in_parts.rest

-- ---- what the loops know

module _ (p : Path) where
  -- a path past the lower word has more than one digit
  pub more_digits : (p.high ≡ 0 → ⊥) → length (decimal (path_number p)) ≡ suc (length (decimal (path_number p / 10)))
  unfolding path_number
  more_digits h = length_more (p.low + 18446744073709551616 * p.high) (omega arith)

  pub lower_only : p.high ≡ 0 → path_number p ≡ p.low
  unfolding path_number
  lower_only h = omega arith

-- a path has 39 digits at most
pub path_short : (p : Path) → PathFits p → length (decimal (path_number p)) ≤ 39
unfolding path_number
path_short p f =
    let h : p.high + 1 ≤ 18446744073709551616 = omega (arith, f.high) in
    let b : p.low + 18446744073709551616 * p.high < 18446744073709551616 * (p.high + 1) = omega (arith, f.low) in
    at_most 38 (p.low + 18446744073709551616 * p.high) (le_trans b (le_trans (mul-le-mul_left 18446744073709551616 h) (leb-true (18446744073709551616 * 18446744073709551616) (10 ^ 39) refl)))
