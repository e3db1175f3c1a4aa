-- Worked cases of the operations over ranges, as one table with one fact over it. Assumes nothing.
use mathlib.Core.Path.{◌≡◌, refl}
use mathlib.Core.List.{List, [], ◌∷◌, map}
use lib.IntN.{ℤ, pos, negsuc}
use Rattle.std.specs.Prelude.{Option, None, Some}
use Rattle.record.specs.declared.operation.Arithmetic.{Arithmetic}
use Rattle.record.specs.declared.operation.Arithmetic.TheVariants.{Add, Sub, Mul, Div, Rem, Lt, Le, Eq}
use Rattle.arithmetic.specs.Arithmetic.{ranged}
use Rattle.arithmetic.specs.declared.Range.{Range}
use Rattle.arithmetic.specs.Ranges.{outcome, equalities, remainders, outcomes, range_of}

pub record RangeCase : Type 0 where
  pub op : Arithmetic
  pub left : Range
  pub right : Range
  pub gives : Option Range

abbrev between : ℤ → ℤ → Range
between l h = record { low = l; high = h }

abbrev range_case : Arithmetic → Range → Range → Option Range → RangeCase
range_case o a b g = record { op = o; left = a; right = b; gives = g }

abbrev pub range_cases_lem : List RangeCase
range_cases_lem =
    range_case Add (between (pos 1) (pos 3)) (between (pos 10) (pos 20)) (Some (between (pos 11) (pos 23)))
    ∷ range_case Add (between (pos 2147483646) (pos 2147483647)) (between (pos 0) (pos 1)) None
    ∷ range_case Sub (between (pos 1) (pos 3)) (between (pos 10) (pos 20)) (Some (between (negsuc 18) (negsuc 6)))
    ∷ range_case Sub (between (negsuc 2147483647) (pos 0)) (between (pos 0) (pos 0)) (Some (between (negsuc 2147483647) (pos 0)))
    ∷ range_case Mul (between (negsuc 1) (pos 3)) (between (negsuc 4) (pos 7)) (Some (between (negsuc 14) (pos 21)))
    ∷ range_case Mul (between (negsuc 2) (negsuc 1)) (between (negsuc 4) (negsuc 3)) (Some (between (pos 8) (pos 15)))
    ∷ range_case Mul (between (pos 65536) (pos 65537)) (between (pos 32767) (pos 32768)) None
    ∷ range_case Div (between (negsuc 6) (pos 9)) (between (pos 2) (pos 3)) (Some (between (negsuc 2) (pos 4)))
    ∷ range_case Div (between (negsuc 6) (pos 9)) (between (negsuc 2) (negsuc 1)) (Some (between (negsuc 3) (pos 3)))
    ∷ range_case Div (between (pos 1) (pos 2)) (between (negsuc 0) (pos 1)) None
    ∷ range_case Div (between (negsuc 2147483647) (pos 0)) (between (negsuc 0) (negsuc 0)) None
    ∷ range_case Rem (between (negsuc 6) (negsuc 6)) (between (pos 2) (pos 2)) (Some (between (negsuc 0) (negsuc 0)))
    ∷ range_case Rem (between (negsuc 4) (pos 7)) (between (pos 3) (pos 4)) (Some (between (negsuc 2) (pos 3)))
    ∷ range_case Rem (between (pos 0) (pos 7)) (between (negsuc 3) (pos 3)) None
    ∷ range_case Rem (between (pos 0) (pos 7)) (between (negsuc 3) (negsuc 2)) (Some (between (pos 0) (pos 3)))
    ∷ range_case Rem (between (negsuc 8) (pos 0)) (between (pos 5) (pos 5)) (Some (between (negsuc 3) (pos 0)))
    ∷ range_case Lt (between (pos 1) (pos 3)) (between (pos 3) (pos 5)) (Some (between (pos 0) (pos 1)))
    ∷ range_case Lt (between (pos 1) (pos 2)) (between (pos 3) (pos 5)) (Some (between (pos 1) (pos 1)))
    ∷ range_case Lt (between (pos 5) (pos 6)) (between (pos 3) (pos 5)) (Some (between (pos 0) (pos 0)))
    ∷ range_case Le (between (pos 1) (pos 3)) (between (pos 3) (pos 5)) (Some (between (pos 1) (pos 1)))
    ∷ range_case Le (between (pos 6) (pos 7)) (between (pos 3) (pos 5)) (Some (between (pos 0) (pos 0)))
    ∷ range_case Eq (between (pos 4) (pos 4)) (between (pos 4) (pos 4)) (Some (between (pos 1) (pos 1)))
    ∷ range_case Eq (between (pos 1) (pos 4)) (between (pos 4) (pos 9)) (Some (between (pos 0) (pos 1)))
    ∷ range_case Eq (between (pos 1) (pos 3)) (between (pos 4) (pos 9)) (Some (between (pos 0) (pos 0)))
    ∷ range_case Eq (between (pos 1) (pos 4)) (between (pos 1) (pos 4)) (Some (between (pos 0) (pos 1)))
    ∷ []

pub range_cases_hold : map (λ c. range_of c.op c.left c.right) range_cases_lem ≡ map (λ c. c.gives) range_cases_lem
unfolding range_of outcomes outcome equalities remainders ranged
range_cases_hold = refl
