-- 02, R-8: "The path grows to 16 bytes, all levels but the newest four in the second 8": one number of 128 bits, held as two words of 64. The rules speak of
-- the number alone, and nothing outside this crate and `text` names the words. Assumes nothing.
use Rattle.std.specs.Prelude.{◌≡◌, ℕ, ◌+◌, ◌*◌, ◌/◌, ◌%◌, ◌^◌, ◌<◌, Bool, ◌&&◌, ◌==◌}
use Rattle.std.specs.declared.cmp.Ordering.{Ordering}
use Rattle.std.specs.Ordering.{nat_cmp}
use Rattle.std.proofs.Math.Decide.{ℕ_discrete}
use Rattle.std.proofs.Common.{ap}
use Rattle.record.specs.declared.tag.Path.{Path}

-- the whole number
unfoldable pub path_number : Path → ℕ
path_number p = p.low + 18446744073709551616 * p.high

-- a number as two words
unfoldable pub path_words : ℕ → Path
path_words n = record { low = n % 18446744073709551616; high = n / 18446744073709551616 }

abbrev pub root_path : Path
root_path = record { low = 0; high = 0 }

unfoldable pub is_root : Path → Bool
is_root p = path_number p == 0

unfoldable pub same_path : Path → Path → Bool
same_path a b = a.low == b.low && a.high == b.high

-- paths are equal if both words are
unfoldable pub decide_words : {a b : Path} → Dec (a.low ≡ b.low) → Dec (a.high ≡ b.high) → Dec (a ≡ b)
decide_words (yes l) (yes h) = yes (λ i. record { low = l i; high = h i })
decide_words (yes l) (no n) = no (λ e. n (ap (λ (p : Path). p.high) e))
decide_words (no n) h = no (λ e. n (ap (λ (p : Path). p.low) e))

unfoldable pub decide_path : Discrete Path
decide_path a b = decide_words (ℕ_discrete a.low b.low) (ℕ_discrete a.high b.high)

-- a listing goes by the number
unfoldable pub compared_paths : Path → Path → Ordering
compared_paths a b = nat_cmp (path_number a) (path_number b)

-- one word for a path, of which the matching store makes a bucket. The higher word counts twice, so that two calls which differ in the order of two levels
-- stand apart
unfoldable pub folded_path : Path → ℕ
folded_path p = (p.low + 2 * p.high) % 2 ^ 64

-- what two words can hold
pub record PathFits (p : Path) : Type 0 where
  pub low : p.low < 2 ^ 64
  pub high : p.high < 2 ^ 64
