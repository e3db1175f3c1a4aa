-- Byte by byte: `==` of slices is the test (`pointwise_is`), and two lists are the same if it says so (`same_list`); `test_is` is the test by an answer of `==`. Assumes nothing.
use Prim.Native.Nat.{ℕ}
use mathlib.Core.Path.{◌≡◌, refl, sym, ◌∙◌}
use mathlib.Core.Bool.{Bool, true, ◌&&◌}
use mathlib.Core.List.{List, [], ◌∷◌}
use lib.Dec.{eqb}
use lib.Pointwise.{pointwise, bytes_decides}
use Rattle.plot_cache.specs.Serves.{same_bytes}

pub pointwise_is : (l m : List ℕ) → pointwise eqb l m ≡ same_bytes l m
pointwise_is [] [] = refl
pointwise_is [] (b ∷ m) = refl
pointwise_is (a ∷ l) [] = refl
pointwise_is (a ∷ l) (b ∷ m) = λ i. eqb a b && pointwise_is l m i

pub same_list : (l m : List ℕ) → same_bytes l m ≡ true → l ≡ m
same_list l m e = (bytes_decides l m).0 (pointwise_is l m ∙ e)

-- what an answer of `==` says of the test
pub test_is : (l m : List ℕ) {r b : Bool} → r ≡ pointwise eqb l m → r ≡ b → same_bytes l m ≡ b
test_is l m e f = sym (pointwise_is l m) ∙ sym e ∙ f
