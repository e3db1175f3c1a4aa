-- `store_chains::mixed` meets its contract. Assumes nothing.
use Prim.Native.Nat.{ℕ, ◌+◌, ◌*◌, ◌%◌, ◌/◌, ◌<◌}
use mathlib.Core.Path.{refl}
use native.Mathlib.Omega.{arith}
use Rattle.store_chains.specs.Chains.{mix}
use Rattle.store_chains.proofs.mixed.Goals as goal

-- of halves below 2 ^ 32
small : (a b : ℕ) → a < 4294967296 → b < 4294967296 → a * 668265261 + b * 374761393 < 9223372036854775808
small a b h k = omega arith

lower : (n : ℕ) → n % 4294967296 < 4294967296
lower n = omega arith

upper : (n : ℕ) → n < 18446744073709551616 → n / 4294967296 < 4294967296
upper n h = omega arith

pub returns : goal.returns
unfolding mix
returns c = (refl, small _ _ (lower c.args.calls) (upper c.args.calls (omega arith)))
