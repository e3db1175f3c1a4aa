-- Lists gone through in turn: `in_turn`, `any` and `all` of the rules, one element further. Assumes nothing.
use Rattle.std.proofs.Common.{Result, Ok, Err, IsErr, IsErrAnd}
use Rattle.std.proofs.lemmas.Result.{err_from_is_err_and}
use Prim.Native.Nat.{ℕ, zero, suc, ◌+◌, ◌≤◌, ◌<◌}
use native.Mathlib.Numerals.{add-one}
use native.Mathlib.Omega.{arith}
use native.Mathlib.Nat.{add-zero, add-suc, suc-add, le_of_suc-le-suc}
use mathlib.Core.Path.{◌≡◌, refl, ap, ◌∙◌}
use mathlib.Core.Bool.{Bool, true, false, ◌&&◌, ◌||◌}
use mathlib.Core.List.{List, [], ◌∷◌, ◌++◌}
use lib.ListN.{length, get_or, take, drop, drop_of_length-le}
use lib.Dec.{T}
use lib.Seq.{take-suc, drop-cons}
use Rattle.rules.specs.declared.answer.Fault.{Fault}
use Rattle.rules.specs.Check.{◌and_then◌, all, any, in_turn, Checked}
pub use mathlib.Core.Bool.{and-true, or-false}
pub use Rattle.rules.proofs.Passed.{and_then_passed as both-passed, demand_passed as demanded}

pub and_left : (a b : Bool) → T (a && b) → T a
and_left true b t = tt
and_left false b t = t

pub and_right : (a b : Bool) → T (a && b) → T b
and_right true b t = t
and_right false b t = absurd t

pub and_true_left : (a b : Bool) → (a && b) ≡ true → a ≡ true
and_true_left true b e = refl
and_true_left false b e = e

pub and_true_right : (a b : Bool) → (a && b) ≡ true → b ≡ true
and_true_right true b e = e
and_true_right false b e = let z : ◌≡◌ {A = ℕ} 0 1 = cc in absurd (omega arith)

module _ {A : Type 0} where
  -- element i decides, and then the rest
  pub turn : (f : ℕ → A → Checked) (xs : List A) (i : ℕ) (x : A) → i < length xs → get_or xs i x ≡ x → {c : Checked} → f i x ≡ c
      → in_turn f i (drop i xs) ≡ c and_then in_turn f (i + 1) (drop (i + 1) xs)
  turn f xs i x h g e = rw (add-one i, drop-cons xs i x h, g, e)

  pub turn_end : (f : ℕ → A → Checked) (xs : List A) (i : ℕ) → length xs ≤ i → in_turn f i (drop i xs) ≡ Ok tt
  turn_end f xs i h = rw (drop_of_length-le xs h)

  -- where all passed, each did
  pub each_passed : (f : ℕ → A → Checked) (k : ℕ) (xs : List A) → in_turn f k xs ≡ Ok tt → (i : ℕ) → i < length xs → (d : A) → f (k + i) (get_or xs i d) ≡ Ok tt
  each_passed f k [] e i h d = absurd (omega arith)
  each_passed f k (x ∷ xs) e zero h d = rw (add-zero k) (both-passed (f k x) (in_turn f (suc k) xs) e).0
  each_passed f k (x ∷ xs) e (suc i) h d =
      rw (add-suc k i, ← suc-add k i) (each_passed f (suc k) xs (both-passed (f k x) (in_turn f (suc k) xs) e).1 i (le_of_suc-le-suc h) d)

  pub all_at : (f : A → Bool) (xs : List A) → all f xs ≡ true → (i : ℕ) → i < length xs → (d : A) → f (get_or xs i d) ≡ true
  all_at f [] e i h d = absurd (omega arith)
  all_at f (x ∷ xs) e zero h d = and_true_left (f x) (all f xs) e
  all_at f (x ∷ xs) e (suc i) h d = all_at f xs (and_true_right (f x) (all f xs) e) i (le_of_suc-le-suc h) d

  -- element i decides with the rest
  pub all_turn : (f : A → Bool) (xs : List A) (i : ℕ) (x : A) → i < length xs → get_or xs i x ≡ x → all f (drop i xs) ≡ (f x && all f (drop (i + 1) xs))
  all_turn f xs i x h g = rw (add-one i, drop-cons xs i x h, g)

  pub all_end : (f : A → Bool) (xs : List A) (i : ℕ) → length xs ≤ i → all f (drop i xs) ≡ true
  all_end f xs i h = rw (drop_of_length-le xs h)

  pub any_append : (f : A → Bool) (xs ys : List A) → any f (xs ++ ys) ≡ (any f xs || any f ys)
  any_append f [] ys = refl
  any_append f (x ∷ xs) ys = go (f x) (any_append f xs ys)
    where
      go : (b : Bool) → any f (xs ++ ys) ≡ (any f xs || any f ys) → (b || any f (xs ++ ys)) ≡ ((b || any f xs) || any f ys)
      go true e = refl
      go false e = e

  pub any_next : (f : A → Bool) (xs : List A) (i : ℕ) (x : A) → i < length xs → get_or xs i x ≡ x → any f (take (i + 1) xs) ≡ (any f (take i xs) || f x)
  any_next f xs i x h g =
      rw (add-one i, take-suc xs i x h, g, any_append f (take i xs) (x ∷ []), or-false (f x))

  pub take_next : (xs : List A) (i : ℕ) (x : A) → i < length xs → get_or xs i x ≡ x → take (i + 1) xs ≡ take i xs ++ x ∷ []
  take_next xs i x h g = rw (add-one i, take-suc xs i x h, g)

-- a `?` hands the fault on as it is
pub handed_on : {A : Type 0} {r : Result A Fault} {fault : Fault} → IsErr r × IsErrAnd r (λ e. e ≡ fault) → r ≡ Err fault
handed_on {A} {r} h = let p = err_from_is_err_and r h.1 in p.1 ∙ ap Err p.2
