-- FETCH and STORE by the constant of an array reach its cells and no other (`arrays_by_name`), where the table passed its check. Assumes nothing.
use Prim.Native.Nat.{ℕ, zero, suc, ◌+◌, ◌-◌, ◌≤◌}
use mathlib.Core.Path.{◌≡◌, refl}
use mathlib.Core.Bool.{Bool, true, false, ◌&&◌, cond}
use mathlib.Core.List.{List, [], ◌∷◌}
use native.Mathlib.Omega.{arith}
use lib.ListN.{length, get_or}
use lib.Dec.{leb}
use lib.IntN.{ℤ, pos, negsuc}
use borrow.Author.Tests.{leb-true, le-leb, lt-ltb}
use Rattle.buffer.specs.Rows.{whole}
use Rattle.record.specs.declared.array.NamedArray.{NamedArray}
use Rattle.record.specs.Arrays.{most_arrays, arrays_of}
use Rattle.record.specs.Widths.{array_width}
use Rattle.machine.specs.Machine.{refuse}
use Rattle.rules.specs.declared.answer.Refusal.TheVariants.{NoSuchCell, BadArray}
use Rattle.rules.specs.Check.{demand, all, within, inside_store, check_arrays}
use Rattle.rules.specs.InstructionSet.{EffectHere, on_cell, number_in, array_at, cell_number}
use Rattle.rules.specs.NamedArrays.{ArraysByName}
use Rattle.rules.proofs.Passed.{both, demand_passed, and_then_passed}

-- what holds of all elements and of the default holds of whichever is read
all_at : {A : Type 0} (f : A → Bool) (xs : List A) (n : ℕ) (d : A) → all f xs ≡ true → f d ≡ true → f (get_or xs n d) ≡ true
all_at f [] n d h e = e
all_at f (x ∷ xs) zero d h e = (both (f x) (all f xs) h).0
all_at f (x ∷ xs) (suc n) d h e = all_at f xs n d (both (f x) (all f xs) h).1 e

module _ (cells : ℕ) (a : NamedArray) (ends : a.first + a.length ≤ cells) (f : ℕ → EffectHere) where
  inside : (i : ℕ) → 1 ≤ i → i ≤ a.length → on_cell cells (number_in a (pos i)) f ≡ f (a.first + i - 1)
  unfolding on_cell number_in within
  inside i h k = rw (le-leb 1 i h, le-leb i a.length k, lt-ltb (a.first + i - 1) cells (omega arith))

  outside : (index : ℤ) → ((i : ℕ) → 1 ≤ i → i ≤ a.length → ¬ (index ≡ pos i)) → on_cell cells (number_in a index) f ≡ refuse NoSuchCell
  unfolding on_cell number_in within
  outside (negsuc i) none = refl
  outside (pos i) none = go (leb 1 i && leb i a.length) refl
    where
      go : (b : Bool) → (leb 1 i && leb i a.length) ≡ b → on_cell cells (cond b (pos (a.first + i - 1)) (negsuc 0)) f ≡ refuse NoSuchCell
      go false e = refl
      go true e = let p = both (leb 1 i) (leb i a.length) e in absurd (none i (leb-true 1 i p.0) (leb-true i a.length p.1) refl)

-- an array of a table that passed ends in the store; so does the one of no cells that stands past the table
ends_inside : (table : List NamedArray) (cells n : ℕ) → all (inside_store cells) table ≡ true → (array_at table n).first + (array_at table n).length ≤ cells
unfolding array_at inside_store
ends_inside table cells n h =
    let none : NamedArray = record { first = 0; length = 0 } in
    leb-true ((get_or table n none).first + (get_or table n none).length) cells (all_at (λ a. leb (a.first + a.length) cells) table n none h (le-leb 0 cells (omega arith)))

pub arrays_by_name : ArraysByName
unfolding check_arrays cell_number
arrays_by_name g cells arrays passed n f =
    let table = arrays_of arrays in
    let of-table = demand_passed (whole array_width most_arrays (length arrays) && all (inside_store cells) table) BadArray 0 (and_then_passed (demand (whole array_width most_arrays (length arrays) && all (inside_store cells) table) BadArray 0) _ passed).0 in
    let ends = ends_inside table cells n (both (whole array_width most_arrays (length arrays)) (all (inside_store cells) table) of-table).1 in
    record { inside = inside cells (array_at table n) ends f; outside = outside cells (array_at table n) ends f }
