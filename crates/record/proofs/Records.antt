-- Round trips of each kind of record: a value is read back from its bytes, whatever follows them, and the bytes of a record whose unused bytes are zero
-- are written back from its value. A record is read from its own bytes alone. With these, a table of such records reads as its list. Assumes nothing.
use Rattle.std.proofs.Common.{◌≡◌, ℕ, zero, suc, ◌+◌, ◌*◌, ◌%◌, ◌^◌, ◌<◌, ◌≤◌, T, ltb, List, [], ◌∷◌, ◌++◌, length, get_or, take, set, sym, refl, ap, ◌∙◌, arith, ltb→lt, get_or-take}
use native.Mathlib.Nat.{suc_inj}
use Rattle.number.specs.Number.{byte_at, number32, number64, bits_of, bytes32, bytes64}
use Rattle.buffer.specs.Rows.{put_row, joined, All}
use Rattle.record.specs.GraphRecords as Graph
use Rattle.record.specs.TokensAndTags as Tokens
use Rattle.record.specs.TokensAndTags.{content_of, state_of, value_field, ContentFits, TokenFits, tokens}
use Rattle.record.specs.Cells as Cells
use Rattle.record.specs.Cells.{cell_of, CellFits, cells}
use Rattle.record.specs.declared.instruction.Instruction.{Instruction}
use Rattle.record.specs.declared.token.Token.{Token}
use Rattle.record.specs.declared.token.Content.{Content}
use Rattle.record.specs.declared.token.Content.TheVariants.{Live, Spent, Deferred}
use Rattle.record.specs.declared.cell.Cell.{Cell}
use Rattle.record.specs.declared.cell.Cell.TheVariants.{Absent, Waiting, Present}
use Rattle.number.proofs.Numbers.{number16_bytes, number32_bytes, number64_bytes, fits16, fits32, fits64, number32_small, bytes16_number, bytes32_number, bytes64_number, bits_fit, signed_bits, bits_signed}
use Rattle.buffer.proofs.Tables.{rows_put, rows_end, rows_joined}
use Rattle.record.specs.ReadBack.{instruction_back, token_back, cell_back}
use Rattle.record.specs.Codecs.{ProperRecord, ProperCell, Codecs}
use Rattle.record.specs.Widths.{token_width, cell_width}

-- ---- a list as its elements

-- f 0, f 1, .., n of them
abbrev firsts : ℕ → (ℕ → ℕ) → List ℕ
firsts zero f = []
firsts (suc n) f = f 0 ∷ firsts n (λ k. f (suc k))

elements : (n : ℕ) (l : List ℕ) → length l ≡ n → firsts n (byte_at l) ≡ l
elements zero [] e = refl
elements zero (x ∷ l) e = let z : ◌≡◌ {A = ℕ} 0 1 = omega arith in absurd (omega arith)
elements (suc n) [] e = let z : ◌≡◌ {A = ℕ} 0 1 = omega arith in absurd (omega arith)
elements (suc n) (x ∷ l) e = ap (λ (m : List ℕ). x ∷ m) (elements n l (suc_inj e))

-- a byte of the first w is that of the whole
pub front : (w : ℕ) (l : List ℕ) (k : ℕ) → T (ltb k w) → get_or (take w l) k 0 ≡ get_or l k 0
front w l k t = get_or-take w l k 0 (ltb→lt k w t)

-- ---- instructions

pub length_instruction : (r : Instruction) → length (Graph.encode_instruction r) ≡ 16
unfolding Graph.encode_instruction
length_instruction r = refl

pub instruction_bytes_back : (l : List ℕ) → length l ≡ 16 → ((k : ℕ) → byte_at l k < 256) → Graph.encode_instruction (Graph.decode_instruction l) ≡ l
unfolding Graph.encode_instruction Graph.decode_instruction
instruction_bytes_back l e small =
    let constant = ap (λ (n : ℕ). bytes32 n) (bits_signed (number32 l 8) (number32_small l small 8)) ∙ bytes32_number l small 8 in
    (λ i. byte_at l 0 ∷ byte_at l 1 ∷ byte_at l 2 ∷ byte_at l 3 ∷ bytes16_number l small 4 i ++ bytes16_number l small 6 i ++ constant i ++ bytes32_number l small 12 i)
    ∙ elements 16 l e

-- ---- tokens

pub length_token : (t : Token) → length (Tokens.encode_token t) ≡ token_width
unfolding Tokens.encode_token
length_token t = refl

state_back : (bits s : ℕ) → s < 3 → state_of (content_of bits s) ≡ s
unfolding content_of
state_back bits zero h = refl
state_back bits (suc zero) h = refl
state_back bits (suc (suc zero)) h = refl
state_back bits (suc (suc (suc s))) h = absurd (omega arith)

value_back : (bits s : ℕ) → s < 3 → bits < 2 ^ 32 → value_field (content_of bits s) ≡ bits
unfolding content_of
value_back bits zero k h = bits_signed bits h
value_back bits (suc zero) k h = bits_signed bits h
value_back bits (suc (suc zero)) k h = refl
value_back bits (suc (suc (suc s))) k h = absurd (omega arith)

pub token_bytes_back : (l : List ℕ) → ProperRecord l → Tokens.encode_token (Tokens.decode_token l) ≡ l
unfolding Tokens.encode_token Tokens.decode_token
token_bytes_back l p =
    let bytes = p.small in
    let z = p.zeros in
    let word : (k : ℕ) → bytes64 (number64 l k) ≡ _ = λ k. bytes64_number l bytes k ∙ (λ i. bytes32_number l bytes k i ++ bytes32_number l bytes (k + 4) i) in
    let value = ap (λ (n : ℕ). bytes32 n) (value_back (number32 l 20) (byte_at l 24) p.state (number32_small l bytes 20)) ∙ bytes32_number l bytes 20 in
    let state = state_back (number32 l 20) (byte_at l 24) p.state in
    (λ i. word 0 i ++ word 8 i ++ byte_at l 16 ∷ byte_at l 17 ∷ bytes16_number l bytes 18 i ++ value i ++ state i ∷ sym z.0 i ∷ sym z.1 i ∷ sym z.2 i ∷ [])
    ∙ elements token_width l p.size

-- ---- cells

pub length_cell : (x : Cell) → length (Cells.encode_cell x) ≡ 8
unfolding Cells.encode_cell
length_cell Absent = refl
length_cell Waiting = refl
length_cell (Present v) = refl

cell_bytes_lem : (bits s : ℕ) → s < 3 → (s < 2 → bits ≡ 0) → bits < 2 ^ 32 → Cells.encode_cell (cell_of bits s) ≡ Cells.bytes_of_cell bits s
unfolding Cells.encode_cell cell_of
cell_bytes_lem bits zero k z h = ap (λ (n : ℕ). Cells.bytes_of_cell n 0) (sym (z (omega arith)))
cell_bytes_lem bits (suc zero) k z h = ap (λ (n : ℕ). Cells.bytes_of_cell n 1) (sym (z (omega arith)))
cell_bytes_lem bits (suc (suc zero)) k z h = ap (λ (n : ℕ). Cells.bytes_of_cell n 2) (bits_signed bits h)
cell_bytes_lem bits (suc (suc (suc s))) k z h = absurd (omega arith)

pub cell_bytes_back : (l : List ℕ) → ProperCell l → Cells.encode_cell (Cells.decode_cell l) ≡ l
unfolding Cells.decode_cell
cell_bytes_back l p =
    let z = p.zeros in
    cell_bytes_lem (number32 l 0) (byte_at l 4) p.state p.value (number32_small l p.small 0)
    ∙ (λ i. bytes32_number l p.small 0 i ++ byte_at l 4 ∷ sym z.0 i ∷ sym z.1 i ∷ sym z.2 i ∷ [])
    ∙ elements 8 l p.size

-- ---- a record is read from its own bytes alone

module _ (l : List ℕ) where
  pub token_front : Tokens.decode_token (take token_width l) ≡ Tokens.decode_token l
  unfolding Tokens.decode_token
  token_front =
      rw (
        front token_width l 0 tt,
        front token_width l 1 tt,
        front token_width l 2 tt,
        front token_width l 3 tt,
        front token_width l 4 tt,
        front token_width l 5 tt,
        front token_width l 6 tt,
        front token_width l 7 tt,
        front token_width l 8 tt,
        front token_width l 9 tt,
        front token_width l 10 tt,
        front token_width l 11 tt,
        front token_width l 12 tt,
        front token_width l 13 tt,
        front token_width l 14 tt,
        front token_width l 15 tt,
        front token_width l 16 tt,
        front token_width l 17 tt,
        front token_width l 18 tt,
        front token_width l 19 tt,
        front token_width l 20 tt,
        front token_width l 21 tt,
        front token_width l 22 tt,
        front token_width l 23 tt,
        front token_width l 24 tt,
      )

  cell_front : Cells.decode_cell (take 8 l) ≡ Cells.decode_cell l
  unfolding Cells.decode_cell
  cell_front = rw (front 8 l 0 tt, front 8 l 1 tt, front 8 l 2 tt, front 8 l 3 tt, front 8 l 4 tt)

pub own : {A : Type 0} (w : ℕ) (read : List ℕ → A) → ((l : List ℕ) → read (take w l) ≡ read l) → (l m : List ℕ) → take w l ≡ take w m → read l ≡ read m
own w read front l m e = sym (front l) ∙ ap read e ∙ front m

-- ---- tables of tokens and of cells

module _ (t : Token) (f : TokenFits t) where
  pub tokens_put : (n i : ℕ) (l : List ℕ) → i < n → n * token_width ≤ length l → tokens n (put_row token_width l i (Tokens.encode_token t)) ≡ set (tokens n l) i t
  tokens_put = rows_put token_width Tokens.decode_token (own token_width Tokens.decode_token token_front) (Tokens.encode_token t) t (length_token t) (λ r. token_back t r f)

  pub tokens_end : (n : ℕ) (l : List ℕ) → suc n * token_width ≤ length l → tokens (suc n) (put_row token_width l n (Tokens.encode_token t)) ≡ tokens n l ++ t ∷ []
  tokens_end = rows_end token_width Tokens.decode_token (own token_width Tokens.decode_token token_front) (Tokens.encode_token t) t (length_token t) (λ r. token_back t r f)

pub tokens_joined : (ts : List Token) (r : List ℕ) → All TokenFits ts → tokens (length ts) (joined Tokens.encode_token ts ++ r) ≡ ts
tokens_joined = rows_joined token_width Tokens.encode_token length_token Tokens.decode_token TokenFits token_back

pub cells_put : (x : Cell) → CellFits x → (n i : ℕ) (l : List ℕ) → i < n → n * cell_width ≤ length l → cells n (put_row cell_width l i (Cells.encode_cell x)) ≡ set (cells n l) i x
cells_put x f = rows_put cell_width Cells.decode_cell (own cell_width Cells.decode_cell cell_front) (Cells.encode_cell x) x (length_cell x) (λ r. cell_back x r f)

pub cells_joined : (xs : List Cell) (r : List ℕ) → All CellFits xs → cells (length xs) (joined Cells.encode_cell xs ++ r) ≡ xs
cells_joined = rows_joined cell_width Cells.encode_cell length_cell Cells.decode_cell CellFits cell_back

-- ---- the statement

pub codecs : Codecs
codecs = record {
  instruction = instruction_back;
  token = token_back;
  cell = cell_back;
  instruction_bytes = instruction_bytes_back;
  token_bytes = token_bytes_back;
  cell_bytes = cell_bytes_back;
}
