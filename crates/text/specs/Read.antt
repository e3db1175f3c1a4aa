-- Working definition: no public promise cites it.
-- A decimal number read back from its bytes: what is said of `decimal`. Assumes nothing.
use Rattle.std.specs.Prelude.{ℕ, ◌+◌, ◌-◌, ◌*◌, List, [], ◌∷◌}

-- the number of the digits, after a number that was read before them
abbrev pub read_on : ℕ → List ℕ → ℕ
read_on n [] = n
read_on n (b ∷ bs) = read_on (n * 10 + (b - 48)) bs

abbrev pub read : List ℕ → ℕ
read bs = read_on 0 bs
