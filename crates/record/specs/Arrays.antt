-- 02, R-10, "Named arrays": "A table of up to 64 records of 4 bytes (first cell, length, 16 bits each)". Assumes nothing.
use Rattle.std.specs.Prelude.{ℕ, ◌*◌, List, drop}
use Rattle.number.specs.Number.{number16}
use Rattle.buffer.specs.Rows.{all_rows}
use Rattle.record.specs.declared.array.NamedArray.{NamedArray}
use Rattle.record.specs.Widths.{array_width}

abbrev pub most_arrays : ℕ
most_arrays = 64

-- the array of the record that l starts with
unfoldable pub decode_array : List ℕ → NamedArray
decode_array l = record { first = number16 l 0; length = number16 l 2 }

-- the array of record i
abbrev pub array_in : List ℕ → ℕ → NamedArray
array_in l i = decode_array (drop (i * array_width) l)

abbrev pub arrays_of : List ℕ → List NamedArray
arrays_of l = all_rows array_width decode_array l
