-- Worked texts, computed from the definition. Assumes nothing.
use Prim.Native.Nat.{ℕ}
use mathlib.Core.Path.{◌≡◌, refl}
use mathlib.Core.List.{List, [], ◌∷◌, ◌++◌}
use lib.IntN.{pos, negsuc}
use lib.ListN.{replicate}
use Rattle.number.specs.Number.{signed_of}
use Rattle.record.specs.Paths.{path_number, path_words, root_path}
use Rattle.record.specs.TokensAndTags as Tokens
use Rattle.record.specs.TokensAndTags.{token_bytes, content_of}
use Rattle.record.specs.Cells as Cells
use Rattle.record.specs.Cells.{bytes_of_cell, cell_of}
use Rattle.rules.specs.declared.answer.Refusal.TheVariants.{LedgerFull, NoReturn}
use Rattle.rules.specs.declared.answer.Outcome.{Outcome}
use Rattle.rules.specs.declared.answer.Outcome.TheVariants.{Completed, Hung, Spent, Refused}
use Rattle.rules.specs.declared.answer.Answer.{Answer}
use Rattle.text.specs.Words.{bytes}
use Rattle.std.specs.Prelude.{Ok, Err}
use Rattle.text.specs.Text.{decimal, signed_decimal, answer_line, token_line, cell_line, printed, printed_of, printed_out}

-- ---- numbers at the ends of their ranges

pub largest_path : decimal 340282366920938463463374607431768211455 ≡ bytes "340282366920938463463374607431768211455"
unfolding decimal
largest_path = refl

pub zero_digit : decimal 0 ≡ bytes "0"
unfolding decimal
zero_digit = refl

pub least_value : signed_decimal (negsuc 2147483647) ≡ bytes "-2147483648"
unfolding decimal
least_value = refl

pub greatest_value : signed_decimal (pos 2147483647) ≡ bytes "2147483647"
unfolding decimal
greatest_value = refl

-- ---- each kind of answer

abbrev answer : Outcome → (firings tokens : ℕ) → Answer
answer outcome firings tokens = record { outcome = outcome; firings = firings; tokens = tokens }

pub completed_line : answer_line (answer Completed 0 0) ≡ bytes "completed 0 0 0\n"
unfolding decimal answer_line
completed_line = refl

-- R-2: a read of a cell that nobody writes
pub hung_line : answer_line (answer Hung 1 2) ≡ bytes "hung 1 2 0\n"
unfolding decimal answer_line
hung_line = refl

pub spent_line : answer_line (answer Spent 2048 2049) ≡ bytes "spent 2048 2049 0\n"
unfolding decimal answer_line
spent_line = refl

-- 01, the case "Capacity 1: refused 8, 0, 0, place 1."
pub refused_line : answer_line (answer (Refused LedgerFull 1) 0 0) ≡ bytes "refused 8 0 0 1\n"
unfolding decimal answer_line
refused_line = refl

pub last_refusal : answer_line (answer (Refused NoReturn 2047) 7 2048) ≡ bytes "refused 17 7 2048 2047\n"
unfolding decimal answer_line
last_refusal = refl

-- ---- the whole output of 01, "The printed listing", with two absent cells

abbrev listing01 : List ℕ
listing01 = token_bytes root_path 0 0 0 7 1 ++ token_bytes root_path 0 1 0 4294967287 1 ++ token_bytes root_path 0 0 1 4294967294 0

abbrev text01 : List ℕ
text01 = bytes "completed 1 3 0\n0 0 0 0 7 spent\n0 0 0 1 -9 spent\n0 0 1 0 -2 live\n"

pub printed01 : printed (answer Completed 1 3) listing01 (replicate 16 0) ≡ text01
unfolding decimal answer_line token_line cell_line printed path_number path_words Tokens.decode_token Cells.decode_cell content_of cell_of signed_of
printed01 = refl

-- ---- tokens and cells at the ends of their ranges: every field has its place, a deferred token shows its cell number, a cell keeps its number where an
-- absent one stands before it, and bytes that are no whole record are left out

abbrev listing_ends : List ℕ
listing_ends = token_bytes (path_words 340282366920938463463374607431768211455) 255 1 65535 2147483648 0 ++ token_bytes (path_words 770) 2 0 1 1023 2 ++ 1 ∷ []

abbrev cells_ends : List ℕ
cells_ends = bytes_of_cell 0 0 ++ bytes_of_cell 2147483648 2 ++ bytes_of_cell 0 1 ++ bytes_of_cell 2147483647 2 ++ 1 ∷ []

pub printed_ends : printed (answer Spent 2 2) listing_ends cells_ends
    ≡ bytes "spent 2 2 0\n340282366920938463463374607431768211455 255 65535 1 -2147483648 live\n770 2 1 0 1023 deferred\ncell 1 present -2147483648\ncell 2 waiting 0\ncell 3 present 2147483647\n"
unfolding decimal answer_line token_line cell_line printed path_number path_words Tokens.decode_token Cells.decode_cell content_of cell_of signed_of
printed_ends = refl

-- ---- a buffer as long as the text, one byte shorter, and one byte longer

pub exact : (printed_of text01 (replicate 65 7) ≡ Ok 65) × (printed_out text01 (replicate 65 7) ≡ text01)
unfolding printed_of printed_out
exact = (refl, refl)

pub one_less : (printed_of text01 (replicate 64 7) ≡ Err (record {})) × (printed_out text01 (replicate 64 7) ≡ replicate 64 7)
unfolding printed_of printed_out
one_less = (refl, refl)

pub one_more : (printed_of text01 (replicate 66 7) ≡ Ok 65) × (printed_out text01 (replicate 66 7) ≡ text01 ++ 7 ∷ [])
unfolding printed_of printed_out
one_more = (refl, refl)
