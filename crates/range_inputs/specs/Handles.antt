-- Working definition: no public promise cites it.
-- The inputs of a range run as handles, in bytes. Assumes nothing.
use Rattle.std.specs.Prelude.{ℕ, zero, suc, ◌*◌, ◌/◌, ◌≤◌, ◌≡◌, List, [], ◌∷◌, ◌++◌, length, drop}
use Rattle.number.specs.Number.{byte_at, bytes32}
use Rattle.buffer.specs.Rows.{all_rows}
use Rattle.record.specs.TokensAndTags.{most_tokens}
use Rattle.record.specs.Widths.{token_width, value_offset, state_offset, range_token_width}
use Rattle.arithmetic.specs.declared.Range.{Range}
use Rattle.rules.specs.declared.answer.Refusal.TheVariants.{Undecided}
use Rattle.rules.specs.Check.{demand, in_turn, Checked}
use Rattle.rules.specs.RangeRun.{range_in, is_proper_range}
use Rattle.rules.specs.RangeHandles.{first_table}

-- n bytes of l from the place k on
abbrev pub bytes_from : (n k : ℕ) → List ℕ → List ℕ
bytes_from zero k l = []
bytes_from (suc n) k l = byte_at l k ∷ bytes_from n (suc k) l

-- the plain record of the fields that l starts with, with a handle in the place of the value
unfoldable pub handle_bytes : (handle : ℕ) → List ℕ → List ℕ
handle_bytes h l = bytes_from value_offset 0 l ++ bytes32 h ++ bytes_from 4 state_offset l

-- the first n records of l, with handles from h on
unfoldable pub handles_from : (h n : ℕ) → List ℕ → List ℕ
handles_from h zero l = []
handles_from h (suc n) l = handle_bytes h l ++ handles_from (suc h) n (drop range_token_width l)

-- handle 0 is that of the single value 0, and input i, counted from 0, has handle i + 1
unfoldable pub handles_of : (inputs : List ℕ) → List ℕ
handles_of inputs = handles_from 1 (length inputs / range_token_width) inputs

-- 23, the inputs in turn
abbrev pub check_proper : (inputs : List ℕ) → Checked
check_proper inputs = in_turn (λ i r. demand (is_proper_range r) Undecided i) 0 (all_rows range_token_width range_in inputs)

-- a buffer of this length has room for the handles of all inputs
pub record RoomFor (inputs : List ℕ) (handles : ℕ) : Type 0 where
  pub few : length inputs / range_token_width ≤ most_tokens
  pub records : length inputs / range_token_width * token_width ≤ handles

-- the handles stand in front, and every other byte stays; the table has the ranges
pub record Narrow (inputs handles handles' : List ℕ) (table : List Range) : Type 0 where
  pub held : handles' ≡ handles_of inputs ++ drop (length inputs / range_token_width * token_width) handles
  pub ranges : table ≡ first_table inputs
