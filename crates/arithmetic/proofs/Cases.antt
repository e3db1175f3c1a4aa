-- The worked cases of document 01, as one table with one fact over it. Assumes nothing.
use mathlib.Core.Path.{◌≡◌, refl}
use mathlib.Core.List.{List, [], ◌∷◌}
use lib.IntN.{ℤ, pos, negsuc}
use Rattle.std.specs.Prelude.{Option, None, Some}
use Rattle.record.specs.declared.operation.Arithmetic.{Arithmetic}
use Rattle.record.specs.declared.operation.Arithmetic.TheVariants.{Add, Sub, Mul, Div, Rem, Lt, Le, Eq}
use Rattle.arithmetic.specs.Arithmetic.{compute_of, divided, ranged, least, most}

pub record Case : Type 0 where
  pub op : Arithmetic
  pub left : ℤ
  pub right : ℤ
  pub gives : Option ℤ

abbrev pub All : List Case → Type 0
All [] = Unit {0}
All (c ∷ cs) = (compute_of c.op c.left c.right ≡ c.gives) × All cs

abbrev pub cases : List Case
cases =
    record { op = Add; left = pos 7; right = negsuc 8; gives = Some (negsuc 1) }
    ∷ record { op = Div; left = negsuc 6; right = pos 2; gives = Some (negsuc 2) }
    ∷ record { op = Rem; left = negsuc 6; right = pos 2; gives = Some (negsuc 0) }
    ∷ record { op = Div; left = pos 7; right = negsuc 1; gives = Some (negsuc 2) }
    ∷ record { op = Div; left = least; right = negsuc 0; gives = None }
    ∷ record { op = Rem; left = least; right = negsuc 0; gives = Some (pos 0) }
    ∷ record { op = Div; left = pos 7; right = pos 0; gives = None }
    ∷ record { op = Rem; left = pos 7; right = pos 0; gives = None }
    ∷ record { op = Add; left = most; right = pos 1; gives = None }
    ∷ record { op = Mul; left = least; right = negsuc 0; gives = None }
    ∷ record { op = Mul; left = pos 65536; right = negsuc 32767; gives = Some least }
    ∷ record { op = Sub; left = pos 0; right = least; gives = None }
    ∷ record { op = Lt; left = negsuc 0; right = pos 0; gives = Some (pos 1) }
    ∷ record { op = Le; left = negsuc 0; right = negsuc 1; gives = Some (pos 0) }
    ∷ record { op = Eq; left = least; right = least; gives = Some (pos 1) }
    ∷ []

pub cases_hold : All cases
unfolding compute_of divided ranged
cases_hold = (refl, (refl, (refl, (refl, (refl, (refl, (refl, (refl, (refl, (refl, (refl, (refl, (refl, (refl, (refl, tt)))))))))))))))
