-- Working definition: no public promise cites it.
-- What the contracts of the private functions cite: a text put in place into a buffer, and digits by their number. Assumes nothing.
use Rattle.std.specs.Prelude.{ℕ, zero, suc, ◌+◌, ◌*◌, ◌/◌, ◌%◌, ◌≤◌, ◌<◌, cond, ◌≡◌, List, [], ◌∷◌, ◌++◌, map, length, take, drop, get_or, ltb}
use Rattle.buffer.specs.Rows.{all_rows, joined}
use Rattle.record.specs.TokensAndTags as Tokens
use Rattle.record.specs.Cells as Cells
use Rattle.record.specs.Widths.{token_width, cell_width}
use Rattle.record.specs.Paths.{path_number}
use Rattle.record.specs.declared.tag.Path.{Path}
use Rattle.record.specs.declared.cell.Cell.TheVariants.{Absent}
use Rattle.record.specs.declared.token.Token.{Token}
use Rattle.text.specs.Text.{digit, decimal, signed_decimal, line, state_word, token_line, cell_lines}
use Rattle.record.specs.TokensAndTags.{value_in}

-- there is room for a text from `at` on
pub record RoomForText (out : List ℕ) (at : ℕ) (text : List ℕ) : Type 0 where
  pub room : at + length text ≤ length out

-- a text was put from `at` on, and ends before r; every byte before and behind it stays
pub record AddedText (out after : List ℕ) (at r : ℕ) (text : List ℕ) : Type 0 where
  pub kept : length after ≡ length out
  pub place : r ≡ at + length text
  pub bytes : take r after ≡ take at out ++ text
  pub behind : drop r after ≡ drop r out

-- the same, but for seven bytes behind the text
pub record AddedLoosely (out after : List ℕ) (at r : ℕ) (text : List ℕ) : Type 0 where
  pub kept : length after ≡ length out
  pub place : r ≡ at + length text
  pub bytes : take r after ≡ take at out ++ text
  pub behind : drop (r + 7) after ≡ drop (r + 7) out

-- the first k bytes of a buffer of 40 are a path and a space
pub record PathText (t : List ℕ) (k : ℕ) (path : Path) : Type 0 where
  pub size : length t ≡ 40
  pub fits : k ≤ 40
  pub text : take k t ≡ decimal (path_number path) ++ 32 ∷ []

-- the last k digits of n, zeros where it has fewer
abbrev pub last_digits : (k n : ℕ) → List ℕ
last_digits zero n = []
last_digits (suc k) n = last_digits k (n / 10) ++ digit (n % 10) ∷ []

-- the bytes of two digits of n, or of three, as one number, the first lowest
abbrev pub packed_digits : ℕ → ℕ
packed_digits n = cond (ltb n 100) (digit (n / 10) + 256 * digit (n % 10)) (digit (n / 100) + 256 * (digit (n / 10 % 10) + 256 * digit (n % 10)))

-- entry n of a table is so
pub record Table (t : List ℕ) : Type 0 where
  pub entry : (n : ℕ) → n < 1000 → get_or t n 0 ≡ packed_digits n

-- the line of a token from its iteration on
abbrev pub rest_line : Token → List ℕ
rest_line t = line (decimal t.tag.iteration ∷ decimal t.tag.instruction ∷ decimal t.port ∷ signed_decimal (value_in t.content) ∷ state_word t.content ∷ [])

-- the first fields of a line, each with the space after it
abbrev pub spaced : List (List ℕ) → List ℕ
spaced [] = []
spaced (f ∷ fs) = f ++ 32 ∷ spaced fs

-- lines one after another: those of the tokens of a listing, and those of cells
abbrev pub text_of_lines : List (List ℕ) → List ℕ
text_of_lines ls = joined (λ (l : List ℕ). l) ls

abbrev pub token_lines : (listing : List ℕ) → List (List ℕ)
token_lines listing = map token_line (all_rows token_width Tokens.decode_token listing)

abbrev pub lines_of_cells : (cells : List ℕ) → List (List ℕ)
lines_of_cells cells = cell_lines 0 (all_rows cell_width Cells.decode_cell cells)

-- n cells from k on are absent, and have no lines
abbrev pub AbsentFrom : (cells : List ℕ) → (k n : ℕ) → Type 0
AbsentFrom cells k n = (j : ℕ) → j < n → Cells.cell_of_record cells (k + j) ≡ Absent
