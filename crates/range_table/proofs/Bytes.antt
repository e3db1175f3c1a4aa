-- The bytes of a number are those that the library gives. Assumes nothing.
use Prim.Native.Nat.{ℕ, ◌/◌, ◌%◌}
use mathlib.Core.Path.{◌≡◌, refl}
use native.Mathlib.Omega.{arith}
use Rattle.std.specs.Int.{w32, to_le_bytes}
use Rattle.number.specs.Number.{bytes32}

pub low_first : (n : ℕ) → to_le_bytes w32 n ≡ bytes32 n
low_first n =
    let last : n / 65536 / 256 % 256 ≡ n / 16777216 % 256 = omega arith in
    rw last refl
