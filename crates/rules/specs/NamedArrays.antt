-- 02, R-10, "Named arrays", of a table that passed its check: FETCH and STORE by the constant of an array reach its cells and no other. The statement; it is
-- proved in proofs/NamedArrays. Assumes nothing.
use Rattle.std.specs.Prelude.{ℕ, suc, ◌+◌, ◌-◌, ◌≤◌, ◌≡◌, List, ℤ, pos, Ok}
use Rattle.record.specs.declared.array.NamedArray.{NamedArray}
use Rattle.record.specs.declared.instruction.Instruction.{Instruction}
use Rattle.record.specs.Arrays.{arrays_of}
use Rattle.machine.specs.Machine.{refuse}
use Rattle.rules.specs.declared.answer.Refusal.TheVariants.{NoSuchCell}
use Rattle.rules.specs.Check.{check_arrays}
use Rattle.rules.specs.InstructionSet.{EffectHere, on_cell, array_at, cell_number}

-- of the array a, which has the constant n in this table, in a store of `cells` cells
pub record ByName (cells : ℕ) (table : List NamedArray) (n : ℕ) (a : NamedArray) (f : ℕ → EffectHere) : Type 0 where
  -- "index 1 is its first cell"
  pub inside : (i : ℕ) → 1 ≤ i → i ≤ a.length → on_cell cells (cell_number table (pos n) (pos i)) f ≡ f (a.first + i - 1)
  -- "an index below 1 or past the length is refused by 10"
  pub outside : (index : ℤ) → ((i : ℕ) → 1 ≤ i → i ≤ a.length → ¬ (index ≡ pos i)) → on_cell cells (cell_number table (pos n) index) f ≡ refuse NoSuchCell

-- arrays are counted from 1
abbrev pub ArraysByName : Type 0
ArraysByName = (g : List Instruction) (cells : ℕ) (arrays : List ℕ) → check_arrays g cells arrays ≡ Ok tt → (n : ℕ) (f : ℕ → EffectHere)
    → ByName cells (arrays_of arrays) (suc n) (array_at (arrays_of arrays) n) f
