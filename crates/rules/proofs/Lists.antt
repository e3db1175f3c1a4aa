-- Laws of tests over lists, and of what each element has. Assumes nothing.
use Prim.Native.Nat.{ℕ, zero, suc, ◌<◌}
use mathlib.Core.Path.{◌≡◌, refl}
use mathlib.Core.Logic.{◌⊎◌, inl, inr}
use mathlib.Core.Bool.{Bool, true, false, ◌||◌}
use mathlib.Core.List.{List, [], ◌∷◌}
use native.Mathlib.Omega.{arith}
use lib.ListN.{length, get_or}
use Rattle.machine.proofs.Kept.{Each}
use Rattle.rules.specs.Check.{any}

-- ---- or

pub neither : (a b : Bool) → a || b ≡ false → (a ≡ false) × (b ≡ false)
neither true b e = (e, cc)
neither false b e = (refl, e)

pub either : (a b : Bool) → a || b ≡ true → (a ≡ true) ⊎ (b ≡ true)
either true b e = inl refl
either false b e = inr e

pub or_left : (a b : Bool) → a ≡ true → a || b ≡ true
or_left a b e = rw e

pub or_right : (a b : Bool) → b ≡ true → a || b ≡ true
or_right true b e = refl
or_right false b e = e

module _ {A : Type 0} where
  -- ---- any

  pub any_at : (f : A → Bool) (xs : List A) (d : A) (i : ℕ) → i < length xs → f (get_or xs i d) ≡ true → any f xs ≡ true
  any_at f [] d i h e = absurd (omega arith)
  any_at f (x ∷ xs) d zero h e = or_left (f x) (any f xs) e
  any_at f (x ∷ xs) d (suc i) h e = or_right (f x) (any f xs) (any_at f xs d i (omega arith) e)

  -- ---- each

  pub each_of : (P Q : A → Type 0) → ((x : A) → P x → Q x) → (xs : List A) → Each P xs → Each Q xs
  each_of P Q h [] k = tt
  each_of P Q h (x ∷ xs) k = (h x k.0, each_of P Q h xs k.1)

  pub each_both : (P Q : A → Type 0) (xs : List A) → Each P xs → Each Q xs → Each (λ x. P x × Q x) xs
  each_both P Q [] h k = tt
  each_both P Q (x ∷ xs) h k = ((h.0, k.0), each_both P Q xs h.1 k.1)

  pub each_all : (P : A → Type 0) → ((x : A) → P x) → (xs : List A) → Each P xs
  each_all P h [] = tt
  each_all P h (x ∷ xs) = (h x, each_all P h xs)

  -- each of a list is one of it
  pub any_own : (f : A → A → Bool) → ((x : A) → f x x ≡ true) → (xs : List A) → Each (λ x. any (f x) xs ≡ true) xs
  any_own f h [] = tt
  any_own f h (x ∷ xs) = (
    or_left (f x x) (any (f x) xs) (h x),
    each_of (λ y. any (f y) xs ≡ true) (λ y. f y x || any (f y) xs ≡ true) (λ y k. or_right (f y x) (any (f y) xs) k) xs (any_own f h xs),
  )
