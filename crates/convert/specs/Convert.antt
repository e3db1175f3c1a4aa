-- 02, R-8: "Old 20-byte input files and listings are read by a converter that fills the new bytes with zero; records not whole or past 2,048, or an output of
-- another length, give 7 and nothing written." "Log records grow to 20 bytes likewise." Assumes nothing.
use Rattle.std.specs.Prelude.{ℕ, ◌+◌, ◌*◌, ◌/◌, ◌≡◌, Bool, ◌&&◌, cond, List, ◌++◌, length, take, drop, replicate, eqb, Result, Ok, Err}
use Rattle.buffer.specs.Rows.{all_rows, joined, whole}
use Rattle.record.specs.TokensAndTags.{most_tokens}
use Rattle.rules.specs.Done.{done_number}
use Rattle.rules.specs.declared.answer.Refusal.{Refusal}
use Rattle.rules.specs.declared.answer.Refusal.TheVariants.{BadStore}

-- how many bytes of a record stand behind its path: of a token, and of a firing in a log
abbrev pub token_rest : ℕ
token_rest = 12

abbrev pub log_rest : ℕ
log_rest = 4

-- the old record that l starts with as a new one: 8 bytes of the path, 8 new ones, and the rest, "later fields moved by 8"
unfoldable pub widened : (rest : ℕ) → List ℕ → List ℕ
widened rest l = take 8 l ++ replicate 8 0 ++ take rest (drop 8 l)

-- all records
unfoldable pub converted : (rest : ℕ) → (old : List ℕ) → List ℕ
converted rest old = joined (λ (r : List ℕ). r) (all_rows (8 + rest) (widened rest) old)

-- of the two lengths
unfoldable pub convert_accepted : (rest : ℕ) → (old out : ℕ) → Bool
convert_accepted rest old out = whole (8 + rest) most_tokens old && eqb out (old / (8 + rest) * (16 + rest))

-- done, and else 7, "bad store" (01, "The answer and the refusals")
unfoldable pub convert_result : (rest : ℕ) → (old out : List ℕ) → Result Unit Refusal
convert_result rest old out = cond (convert_accepted rest (length old) (length out)) (Ok tt) (Err BadStore)

-- the number of what a converter returns
unfoldable pub convert_answer : (rest : ℕ) → (old out : List ℕ) → ℕ
convert_answer rest old out = done_number (convert_result rest old out)

unfoldable pub converted_out : (rest : ℕ) → (old out : List ℕ) → List ℕ
converted_out rest old out = cond (convert_accepted rest (length old) (length out)) (converted rest old) out

-- what a converter promises of the two buffers it was lent
pub record ConvertedBy (rest : ℕ) (old out left : List ℕ) (r : Result Unit Refusal) : Type 0 where
  pub answered : r ≡ convert_result rest old out
  pub written : left ≡ converted_out rest old out
