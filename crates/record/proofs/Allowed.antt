-- 02, R-13: a record whose state and zeros are allowed is in every byte that of its token or cell (`token_proper`, `cell_proper`), and the record of any token or cell is
-- so (`token_allowed_lem`, `cell_allowed_lem`, `cell_zero`). Assumes nothing.
use Rattle.std.proofs.Common.{◌≡◌, ℕ, ◌<◌, Bool, true, false, ◌||◌, eqb, List, ◌++◌, length, take, refl, arith, eqb-true, leb-true}
use Rattle.number.specs.Number.{Bytes, byte_at, number32}
use Rattle.record.specs.declared.token.Token.{Token}
use Rattle.record.specs.declared.token.Content.{Content}
use Rattle.record.specs.declared.token.Content.TheVariants.{Live, Spent, Deferred}
use Rattle.record.specs.declared.cell.Cell.{Cell}
use Rattle.record.specs.declared.cell.Cell.TheVariants.{Absent, Waiting, Present}
use Rattle.record.specs.TokensAndTags as Tokens
use Rattle.record.specs.TokensAndTags.{state_of}
use Rattle.record.specs.Cells as Cells
use Rattle.record.specs.Codecs.{ProperRecord, ProperCell}
use Rattle.record.specs.Widths.{token_width, state_offset, cell_width}
use Rattle.record.proofs.Records.{front}

-- ---- tokens

pub token_proper : (l : List ℕ) → length l ≡ token_width → Bytes l → Tokens.token_state_allowed l ≡ true → ProperRecord l
unfolding Tokens.token_state_allowed
token_proper l n b e =
    let h = leb-true (number32 l state_offset) 2 e in
    record { size = n; small = b; state = omega arith; zeros = (omega arith, omega arith, omega arith) }

pub token_allowed_lem : (t : Token) (rest : List ℕ) → Tokens.token_state_allowed (Tokens.encode_token t ++ rest) ≡ true
unfolding Tokens.token_state_allowed Tokens.encode_token
token_allowed_lem t rest = go t.content
  where
    go : (x : Content) → Tokens.token_state_allowed (Tokens.token_bytes t.tag.path t.tag.iteration t.port t.tag.instruction (Tokens.value_field x) (state_of x) ++ rest) ≡ true
    go (Live v) = refl
    go (Spent v) = refl
    go (Deferred c) = refl

-- it is read from the record's own bytes alone
pub allowed_front : (l : List ℕ) → Tokens.token_state_allowed (take token_width l) ≡ Tokens.token_state_allowed l
unfolding Tokens.token_state_allowed
allowed_front l = rw (front token_width l 24 tt, front token_width l 25 tt, front token_width l 26 tt, front token_width l 27 tt)

-- ---- cells

pub cell_proper : (l : List ℕ) → length l ≡ cell_width → Bytes l → Cells.cell_state_allowed l ≡ true → Cells.zero_until_present l ≡ true → ProperCell l
unfolding Cells.cell_state_allowed Cells.zero_until_present
cell_proper l n b e z =
    let h = leb-true (number32 l 4) 2 e in
    record { size = n; small = b; state = omega arith; value = λ k. zero (eqb (byte_at l 4) 2) refl z k; zeros = (omega arith, omega arith, omega arith) }
  where
    zero : (c : Bool) → eqb (byte_at l 4) 2 ≡ c → c || eqb (number32 l 0) 0 ≡ true → byte_at l 4 < 2 → number32 l 0 ≡ 0
    zero true f h k = absurd (omega (arith, eqb-true (byte_at l 4) 2 f))
    zero false f h k = eqb-true (number32 l 0) 0 h

pub cell_allowed_lem : (x : Cell) (rest : List ℕ) → Cells.cell_state_allowed (Cells.encode_cell x ++ rest) ≡ true
unfolding Cells.cell_state_allowed Cells.encode_cell
cell_allowed_lem Absent rest = refl
cell_allowed_lem Waiting rest = refl
cell_allowed_lem (Present v) rest = refl

pub cell_zero : (x : Cell) (rest : List ℕ) → Cells.zero_until_present (Cells.encode_cell x ++ rest) ≡ true
unfolding Cells.zero_until_present Cells.encode_cell
cell_zero Absent rest = refl
cell_zero Waiting rest = refl
cell_zero (Present v) rest = refl
