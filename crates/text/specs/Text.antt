-- 01, "The printed listing", from "One space parts two fields" on, in its order: the printed lines as bytes, of answer, listing and cells alone.
-- Assumes nothing.
use Rattle.std.specs.Prelude.{ℕ, zero, suc, ◌+◌, ◌/◌, ◌%◌, true, false, cond, List, [], ◌∷◌, ◌++◌, map, length, drop, ltb, leb, ℤ, pos, negsuc, Result, Ok, Err}
use Rattle.buffer.specs.Rows.{all_rows, joined}
use Rattle.record.specs.Paths.{path_number}
use Rattle.record.specs.TokensAndTags as Tokens
use Rattle.record.specs.Cells as Cells
use Rattle.record.specs.declared.token.Token.{Token}
use Rattle.record.specs.declared.token.Content.{Content}
use Rattle.record.specs.declared.token.Content.TheVariants.{Live, Spent, Deferred}
use Rattle.record.specs.declared.cell.Cell.{Cell}
use Rattle.record.specs.declared.cell.Cell.TheVariants.{Absent, Waiting, Present}
use Rattle.record.specs.Widths.{token_width, cell_width}
use Rattle.rules.specs.Answer.{number_of, place_in}
use Rattle.rules.specs.declared.answer.Outcome.{Outcome}
use Rattle.rules.specs.declared.answer.Outcome.TheVariants as Outcomes
use Rattle.rules.specs.declared.answer.Answer.{Answer}
use Rattle.text.specs.Words.{bytes}
use Rattle.text.specs.declared.TooSmall.{TooSmall}
use Rattle.record.specs.TokensAndTags.{value_in}

-- ---- "decimal figures are meant" (01, opening): a number in the fewest digits, 0 as one digit

-- the byte of a digit: 48 is that of 0
abbrev pub digit : ℕ → ℕ
digit d = 48 + d

-- the digits of n, most significant first, at most as many as there are steps
abbrev pub digits_by : (steps n : ℕ) → List ℕ
digits_by zero n = []
digits_by (suc s) n = elim (ltb n 10) [ true ↦ digit n ∷ [] | false ↦ digits_by s (n / 10) ++ digit (n % 10) ∷ [] ]

-- n steps and one more are enough: n / 10 is below n wherever a digit is left
unfoldable pub decimal : ℕ → List ℕ
decimal n = digits_by (suc n) n

-- of a number below 0 a minus sign, byte 45, and then its magnitude
abbrev pub signed_decimal : ℤ → List ℕ
signed_decimal (pos n) = decimal n
signed_decimal (negsuc n) = 45 ∷ decimal (suc n)

-- ---- "One space parts two fields, and every line ends with byte 10."

-- of its fields; a space is byte 32
abbrev pub line : List (List ℕ) → List ℕ
line [] = 10 ∷ []
line (f ∷ []) = f ++ 10 ∷ []
line (f ∷ g ∷ fs) = f ++ 32 ∷ line (g ∷ fs)

-- ---- "First line: `completed`, `spent` or `refused` and number; firings; tokens; place." 02, R-2: "the first line prints `hung`"

abbrev pub outcome_fields : Outcome → List (List ℕ)
outcome_fields Outcomes.Completed = bytes "completed" ∷ []
outcome_fields Outcomes.Hung = bytes "hung" ∷ []
outcome_fields Outcomes.Spent = bytes "spent" ∷ []
outcome_fields (Outcomes.Refused r place) = bytes "refused" ∷ decimal (number_of r) ∷ []

unfoldable pub answer_line : Answer → List ℕ
answer_line a = line (outcome_fields a.outcome ++ decimal a.firings ∷ decimal a.tokens ∷ decimal (place_in a.outcome) ∷ [])

-- ---- "Then per token: path, iteration, instruction, port, value, state word (`live`, `spent`, `deferred`)." R-8 of 02: "A path prints as the decimal of the
-- whole 128-bit number."

abbrev pub state_word : Content → List ℕ
state_word (Live v) = bytes "live"
state_word (Spent v) = bytes "spent"
state_word (Deferred cell) = bytes "deferred"

unfoldable pub token_line : Token → List ℕ
token_line t =
    line (decimal (path_number t.tag.path) ∷ decimal t.tag.iteration ∷ decimal t.tag.instruction ∷ decimal t.port ∷ signed_decimal (value_in t.content) ∷ state_word t.content ∷ [])

-- ---- "Then per cell not absent: `cell`, its number, state word, value." "The value is 0 until present." ("Firing")

-- of the cell with a number, in a state that has a word
abbrev pub stated_line : ℕ → (word : List ℕ) → ℤ → List ℕ
stated_line k word value = line (bytes "cell" ∷ decimal k ∷ word ∷ signed_decimal value ∷ [])

-- an absent cell has no line
unfoldable pub cell_line : ℕ → Cell → List ℕ
cell_line k Absent = []
cell_line k Waiting = stated_line k (bytes "waiting") (pos 0)
cell_line k (Present v) = stated_line k (bytes "present") v

-- the cells numbered from k on
abbrev pub cell_lines : ℕ → List Cell → List (List ℕ)
cell_lines k [] = []
cell_lines k (x ∷ xs) = cell_line k x ∷ cell_lines (suc k) xs

-- ---- "the printed lines are made of answer, listing and cells alone" ("Any two orders")

-- of the whole token records of a listing and the whole cell records of the cells
abbrev pub lines : Answer → (listing cells : List ℕ) → List (List ℕ)
lines a listing cells = answer_line a ∷ map token_line (all_rows token_width Tokens.decode_token listing) ++ cell_lines 0 (all_rows cell_width Cells.decode_cell cells)

unfoldable pub printed : Answer → (listing cells : List ℕ) → List ℕ
printed a listing cells = joined (λ (l : List ℕ). l) (lines a listing cells)

-- ---- into a lent buffer: "bytes past what is written stay as lent" ("Tokens and tags")

-- how many bytes were written, unless the text does not fit
unfoldable pub printed_of : (text out : List ℕ) → Result ℕ TooSmall
printed_of text out = cond (leb (length text) (length out)) (Ok (length text)) (Err (record {}))

unfoldable pub printed_out : (text out : List ℕ) → List ℕ
printed_out text out = cond (leb (length text) (length out)) (text ++ drop (length text) out) out
