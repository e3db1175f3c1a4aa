-- Numbers in bytes. "Numbers are little-endian" (01, opening); signed ones are in two's complement at 32 bits.
-- A byte past the end of a list reads as 0. Assumes nothing.
use Rattle.std.specs.Prelude.{ℕ, ◌+◌, ◌*◌, ◌/◌, ◌%◌, ◌<◌, List, [], ◌∷◌, ◌++◌, get_or, ℤ}
use Rattle.std.specs.Int.{w32}
use Rattle.std.proofs.Common.{to_z, of_z}

-- ---- the number at an offset

abbrev pub byte_at : List ℕ → ℕ → ℕ
byte_at l k = get_or l k 0

abbrev pub number16 : List ℕ → ℕ → ℕ
number16 l k = byte_at l k + 256 * byte_at l (k + 1)

abbrev pub number32 : List ℕ → ℕ → ℕ
number32 l k = number16 l k + 65536 * number16 l (k + 2)

abbrev pub number64 : List ℕ → ℕ → ℕ
number64 l k = number32 l k + 4294967296 * number32 l (k + 4)

-- a list of bytes
abbrev pub Bytes : List ℕ → Type 0
Bytes l = (k : ℕ) → byte_at l k < 256

-- ---- the bytes of a number

abbrev pub bytes16 : ℕ → List ℕ
bytes16 n = n % 256 ∷ n / 256 % 256 ∷ []

abbrev pub bytes32 : ℕ → List ℕ
bytes32 n = bytes16 n ++ bytes16 (n / 65536)

abbrev pub bytes64 : ℕ → List ℕ
bytes64 n = bytes32 n ++ bytes32 (n / 4294967296)

-- ---- two's complement: the number of 32 bits, and the bits of a number

unfoldable pub signed_of : ℕ → ℤ
signed_of bits = to_z w32 bits

unfoldable pub bits_of : ℤ → ℕ
bits_of value = of_z w32 value
