-- What a check that passed says: each of its parts passed, and each element in turn. Assumes nothing.
use Rattle.std.proofs.Common.{Ok, Err}
use Prim.Native.Nat.{ℕ, zero, suc, ◌+◌, ◌<◌, ◌≤◌}
use mathlib.Core.Path.{◌≡◌, refl, sym, ◌∙◌, subst}
use mathlib.Core.Bool.{Bool, true, false, ◌&&◌}
use mathlib.Core.List.{List, [], ◌∷◌}
use native.Mathlib.Omega.{arith}
use native.Mathlib.Nat.{not-suc-le-zero, le_of_suc-le-suc, add-zero, add-suc, suc-add}
use lib.ListN.{length, get_or}
use Rattle.rules.specs.declared.answer.Refusal.{Refusal}
use Rattle.rules.specs.Check.{demand, ◌and_then◌, in_turn, Checked}

pub both : (a b : Bool) → (a && b) ≡ true → (a ≡ true) × (b ≡ true)
both true b e = (refl, e)
both false b e = (e, cc)

pub demand_passed : (b : Bool) (r : Refusal) (p : ℕ) → demand b r p ≡ Ok tt → b ≡ true
demand_passed true r p e = refl
demand_passed false r p e = let z : ◌≡◌ {A = ℕ} 0 1 = cc in absurd (omega arith)

pub and_then_passed : (a b : Checked) → (a and_then b) ≡ Ok tt → (a ≡ Ok tt) × (b ≡ Ok tt)
and_then_passed (Ok _) b e = (refl, e)
and_then_passed (Err fault) b e = let z : ◌≡◌ {A = ℕ} 0 1 = cc in absurd (omega arith)

module _ {A : Type 0} (f : ℕ → A → Checked) (d : A) where
  pub turn_passed : (i : ℕ) (xs : List A) → in_turn f i xs ≡ Ok tt → (k : ℕ) → k < length xs → f (i + k) (get_or xs k d) ≡ Ok tt
  turn_passed i [] e k h = absurd (not-suc-le-zero h)
  turn_passed i (x ∷ xs) e zero h = rw (add-zero i) (and_then_passed (f i x) (in_turn f (suc i) xs) e).0
  turn_passed i (x ∷ xs) e (suc k) h =
      subst (λ (m : ℕ). f m (get_or xs k d) ≡ Ok tt) (suc-add i k ∙ sym (add-suc i k))
      (turn_passed (suc i) xs (and_then_passed (f i x) (in_turn f (suc i) xs) e).1 k (le_of_suc-le-suc h))

-- past its end a list has the default
pub get_d_past : {A : Type 0} (xs : List A) (k : ℕ) (d : A) → length xs ≤ k → get_or xs k d ≡ d
get_d_past [] k d h = refl
get_d_past (x ∷ xs) zero d h = absurd (not-suc-le-zero h)
get_d_past (x ∷ xs) (suc k) d h = get_d_past xs k d (le_of_suc-le-suc h)
