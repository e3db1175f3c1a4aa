-- 01, "Firing": "A cell is absent, waiting or present." "A cell record has 8 bytes: value (0-3), state (4: 0 absent, 1 waiting, 2 present), zeros.
-- The value is 0 until present." Assumes nothing.
use Rattle.std.specs.Prelude.{ℕ, ◌*◌, Bool, cond, ◌||◌, List, [], ◌∷◌, ◌++◌, drop, FitsSigned, ◌==◌, nat_le}
use Rattle.std.specs.Int.{w32}
use Rattle.number.specs.Number.{byte_at, number32, signed_of, bits_of, bytes32}
use Rattle.buffer.specs.Rows.{rows}
use Rattle.record.specs.declared.cell.Cell.{Cell}
use Rattle.record.specs.declared.cell.Cell.TheVariants.{Absent, Waiting, Present}
use Rattle.record.specs.Widths.{cell_width}

-- the cell of a value and a state; a state past 2, which no rule writes, reads as absent
unfoldable pub cell_of : (bits state : ℕ) → Cell
cell_of bits state = cond (state == 1) Waiting (cond (state == 2) (Present (signed_of bits)) Absent)

-- the cell of the record that l starts with
unfoldable pub decode_cell : List ℕ → Cell
decode_cell l = cell_of (number32 l 0) (byte_at l 4)

abbrev pub bytes_of_cell : (value state : ℕ) → List ℕ
bytes_of_cell value state = bytes32 value ++ state ∷ 0 ∷ 0 ∷ 0 ∷ []

unfoldable pub encode_cell : Cell → List ℕ
encode_cell Absent = bytes_of_cell 0 0
encode_cell Waiting = bytes_of_cell 0 1
encode_cell (Present v) = bytes_of_cell (bits_of v) 2

-- what a record can hold
abbrev pub CellFits : Cell → Type 0
CellFits Absent = Unit {0}
CellFits Waiting = Unit {0}
CellFits (Present v) = FitsSigned w32 v

-- 02, R-13: "fields and states allowed", of the record that l starts with: a state of the three, and zeros behind it
unfoldable pub cell_state_allowed : List ℕ → Bool
cell_state_allowed l = nat_le (number32 l 4) 2

-- 02, R-13: "cell values 0 until present"
unfoldable pub zero_until_present : List ℕ → Bool
zero_until_present l = byte_at l 4 == 2 || number32 l 0 == 0

-- the cell of record i
abbrev pub cell_of_record : List ℕ → ℕ → Cell
cell_of_record l i = decode_cell (drop (i * cell_width) l)

-- the cells of the first n records
abbrev pub cells : ℕ → List ℕ → List Cell
cells n l = rows cell_width decode_cell n l
