-- What callers may use of the cleared cells. Assumes nothing.
use Prim.Native.Nat.{ℕ, zero, suc, ◌*◌}
use mathlib.Core.Path.{◌≡◌, refl, sym, ◌∙◌}
use mathlib.Core.List.{[], append-nil}
use native.Mathlib.Nat.{suc-mul, add_comm}
use lib.ListN.{replicate, length-replicate, replicate-append-replicate}
use Rattle.buffer.specs.Rows.{joined, All}
use Rattle.record.specs.Cells as Cells
use Rattle.record.specs.Cells.{CellFits}
use Rattle.record.specs.declared.cell.Cell.TheVariants.{Absent}
use Rattle.record.proofs.Records.{cells_joined}
use Rattle.record.specs.Widths.{cell_width}

-- ---- cells of zeros are absent

absent_bytes : Cells.encode_cell Absent ≡ replicate cell_width 0
unfolding Cells.encode_cell
absent_bytes = refl

pub zeros_joined : (n : ℕ) → replicate (n * cell_width) 0 ≡ joined Cells.encode_cell (replicate n Absent)
zeros_joined zero = refl
zeros_joined (suc n) =
    rw (suc-mul n cell_width, add_comm (n * cell_width) cell_width) (sym (replicate-append-replicate cell_width (n * cell_width) 0) ∙ rw (absent_bytes, zeros_joined n))

pub absent_fit : (n : ℕ) → All CellFits (replicate n Absent)
absent_fit zero = tt
absent_fit (suc n) = (tt, absent_fit n)

pub zeros_cells : (n : ℕ) → Cells.cells n (replicate (n * cell_width) 0) ≡ replicate n Absent
zeros_cells n =
    let e = cells_joined (replicate n Absent) [] (absent_fit n) in
    rw (zeros_joined n) (rw (length-replicate n Absent, append-nil (joined Cells.encode_cell (replicate n Absent))) at e)
