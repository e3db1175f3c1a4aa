-- The widths of the records that a user lends, in bytes: each is one number, here, and `WIDTH` of its module in the code. So are the offsets that more than a codec uses. Assumes nothing.
use Rattle.std.specs.Prelude.{ℕ, ◌+◌}

-- 01, "Graph records": "records of 16 bytes"
abbrev pub graph_width : ℕ
graph_width = 16

-- 01, "Tokens and tags": a token record, which R-8 of 02 widened: "every token record to 28 bytes"
abbrev pub token_width : ℕ
token_width = 28

-- where its value and its state stand
abbrev pub value_offset : ℕ
value_offset = 20

abbrev pub state_offset : ℕ
state_offset = 24

-- 01, "Firing": "A cell record has 8 bytes"
abbrev pub cell_width : ℕ
cell_width = 8

-- 01, "The printed listing": "picks (2 bytes each ..)"
abbrev pub pick_width : ℕ
pick_width = 2

-- 02, R-1: "one 4-byte record"
abbrev pub step_width : ℕ
step_width = 4

-- 02, R-7, a record a firing, and R-8: "Log records grow to 20 bytes likewise"
abbrev pub log_width : ℕ
log_width = 20

-- 02, R-10: "records of 4 bytes"
abbrev pub array_width : ℕ
array_width = 4

-- 02, R-14: "records of 8 bytes"
abbrev pub term_width : ℕ
term_width = 8

-- the values of an expression's variables: 32 signed bits, as in a token
abbrev pub value_width : ℕ
value_width = 4

-- 02, R-11: "the high in 4 further bytes at its end", of a token and of a cell
abbrev pub range_token_width : ℕ
range_token_width = token_width + 4

abbrev pub range_cell_width : ℕ
range_cell_width = cell_width + 4
