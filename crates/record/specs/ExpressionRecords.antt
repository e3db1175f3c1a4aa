-- 02, R-14, "From an expression to a graph": the records. "An expression is 1 to 100 records of 8 bytes: kind (byte 0: 0 a variable, else an arithmetic code 16 to
-- 23), left and right record numbers (bytes 1 and 2), zeros". Assumes nothing.
use Rattle.std.specs.Prelude.{ℕ, ◌+◌, ◌*◌, List, drop}
use Rattle.number.specs.Number.{byte_at, number32}
use Rattle.buffer.specs.Rows.{all_rows}
use Rattle.record.specs.declared.term.Term.{Term}
use Rattle.record.specs.Widths.{term_width}

-- the record that l starts with
unfoldable pub decode_term : List ℕ → Term
decode_term l = record { kind = byte_at l 0; left = byte_at l 1; right = byte_at l 2; zeros = byte_at l 3 + 256 * number32 l 4 }

-- record number i of an expression's bytes
abbrev pub term_in : List ℕ → ℕ → Term
term_in l i = decode_term (drop (i * term_width) l)

abbrev pub expression_of : List ℕ → List Term
expression_of l = all_rows term_width decode_term l
