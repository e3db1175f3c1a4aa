-- A range of two numbers, each of which fits 32 bits. Assumes nothing.
use Prim.Native.Nat.{ℕ}
use mathlib.Core.Path.{◌≡◌}
use mathlib.Core.Bool.{Bool, true, false, cond}
use native.Mathlib.Omega.{arith}
use lib.IntN.{ℤ}
use lib.Signed.{lt_z}
use Rattle.std.specs.Prelude.{None, Some}
use Rattle.arithmetic.specs.Arithmetic.{least, most, ranged}
use Rattle.arithmetic.specs.Ranges.{in_bits}

value_of : (z v : ℤ) → ranged z ≡ Some v → v ≡ z
unfolding ranged
value_of z v e = go (lt_z z least) (lt_z most z) e
  where
    go : (a b : Bool) → cond a None (cond b None (Some z)) ≡ Some v → v ≡ z
    go true b h = let c : ◌≡◌ {A = ℕ} 0 1 = cc in absurd (omega arith)
    go false true h = let c : ◌≡◌ {A = ℕ} 0 1 = cc in absurd (omega arith)
    go false false h = cc

module _ (low high : ℤ) where
  pub both_in : (l h : ℤ) → ranged low ≡ Some l → ranged high ≡ Some h → Some (record { low = l; high = h }) ≡ in_bits (record { low = low; high = high })
  both_in l h e d = rw (e, d) (λ j. Some (record { low = value_of low l e j; high = value_of high h d j }))
