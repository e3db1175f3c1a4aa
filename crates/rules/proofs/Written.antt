-- What a run leaves in ledger and cells, read back: tokens and cells are those of the state (`state_back`), and each record is allowed (`tokens_allowed`,
-- `cells_allowed`). What is written over what was written is written over what was lent (`over_over`). Assumes nothing.
use Prim.Native.Nat.{ℕ, ◌+◌, ◌-◌, ◌*◌, ◌/◌, ◌≤◌, ◌<◌}
use mathlib.Core.Path.{◌≡◌, refl, sym, ap, ◌∙◌}
use mathlib.Core.Bool.{Bool, true}
use mathlib.Core.List.{List, [], ◌∷◌, ◌++◌, map, append_assoc}
use native.Mathlib.Omega.{arith}
use borrow.Author.Tests.{lt-ltb}
use lib.ListN.{length, drop, length-map, length-append, length-drop}
use lib.Seq.{drop_at, drop-drop, drop-append-add}
use lib.IntN.{ℤ}
use Rattle.record.specs.declared.tag.Tag.{Tag}
use Rattle.record.specs.declared.token.Token as Record
use Rattle.record.specs.declared.cell.Cell as RecordCell
use Rattle.record.specs.declared.instruction.Instruction.{Instruction}
use Rattle.buffer.specs.Rows.{All, rows, all_rows, joined, written_over}
use Rattle.record.specs.TokensAndTags as Tokens
use Rattle.record.specs.TokensAndTags.{TokenFits, ledger_of}
use Rattle.record.specs.Cells as Cells
use Rattle.record.specs.Cells.{CellFits}
use Rattle.record.specs.Widths.{token_width, cell_width}
use Rattle.buffer.proofs.Tables.{length_joined}
use Rattle.record.specs.ReadBack.{token_back}
use Rattle.record.proofs.Records.{length_token, length_cell, tokens_joined, cells_joined}
use Rattle.record.proofs.Allowed.{token_allowed_lem, cell_allowed_lem, cell_zero}
use Rattle.machine.specs.Machine.{Content, live, spent, deferred, Token, Cell, absent, waiting, present, State}
use Rattle.rules.specs.Check.{all, operands_at}
use Rattle.rules.specs.Run.{content_held, content_record, token_held, token_record, cell_held, cell_record}
use Rattle.rules.specs.Saved.{state_saved, token_allowed, cell_allowed}

-- ---- tokens and cells as records, there and back

content_there : (x : Content ℤ) → content_held (content_record x) ≡ x
content_there (live v) = refl
content_there (spent v) = refl
content_there (deferred c) = refl

tokens_there : (ts : List (Token Tag ℤ)) → map token_held (map token_record ts) ≡ ts
tokens_there [] = refl
tokens_there (t ∷ ts) = λ i. record { key = record { tag = t.key.tag; port = t.key.port }; content = content_there t.content i } ∷ tokens_there ts i

cell_there : (x : Cell ℤ) → cell_held (cell_record x) ≡ x
cell_there absent = refl
cell_there waiting = refl
cell_there (present v) = refl

cells_there : (xs : List (Cell ℤ)) → map cell_held (map cell_record xs) ≡ xs
cells_there [] = refl
cells_there (x ∷ xs) = λ i. cell_there x i ∷ cells_there xs i

-- ---- what is written

module _ {A : Type 0} (w : ℕ) (write : A → List ℕ) (len : (a : A) → length (write a) ≡ w) where
  pub length_over : (xs : List A) (lent : List ℕ) → length xs * w ≤ length lent → length (written_over write xs lent) ≡ length lent
  length_over xs lent h =
      let n = length_joined w write len xs in
      omega (arith, length-append (joined write xs) (drop (length (joined write xs)) lent), length-drop (length (joined write xs)) lent, n)

  -- as many or more, written over what was written
  pub over_over : (xs ys : List A) (lent : List ℕ) → length xs * w ≤ length ys * w → written_over write ys (written_over write xs lent) ≡ written_over write ys lent
  over_over xs ys lent h =
      let nx = length_joined w write len xs in
      let ny = length_joined w write len ys in
      ap (λ (l : List ℕ). joined write ys ++ l) (past (joined write xs) (length (joined write ys)) (omega arith))
    where
      past : (p : List ℕ) (n : ℕ) → length p ≤ n → drop n (p ++ drop (length p) lent) ≡ drop n lent
      past p n k =
          let d : n ≡ length p + (n - length p) = omega arith in
          ap (λ (m : ℕ). drop m (p ++ drop (length p) lent)) d
          ∙ drop-append-add p (drop (length p) lent) (n - length p)
          ∙ drop-drop (n - length p) (length p) lent
          ∙ ap (λ (m : ℕ). drop m lent) (sym d)

  -- a test that each record passes
  pub all_written : (test : List ℕ → Bool) (P : A → Type 0) → ((a : A) (r : List ℕ) → P a → test (write a ++ r) ≡ true)
      → (xs : List A) (r : List ℕ) → All P xs → all test (rows w (λ l. l) (length xs) (joined write xs ++ r)) ≡ true
  all_written test P h [] r f = refl
  all_written test P h (x ∷ xs) r f =
      rw (append_assoc (write x) (joined write xs) r, h x (joined write xs ++ r) f.0, drop_at (write x) (joined write xs ++ r) w (len x)) (all_written test P h xs r f.1)

-- ---- a ledger and cells with a state in them

-- the ledger has room for the tokens, and the cells are those of the state
pub record Rooms (s : State Tag ℤ) (ledger cells : List ℕ) : Type 0 where
  pub for_tokens : length s.tokens ≤ length ledger / token_width
  pub for_cells : length s.cells ≡ length cells / cell_width

module _ (s : State Tag ℤ) (ledger cells : List ℕ) (room : Rooms s ledger cells) where
  abbrev ts : List Record.Token
  ts = map token_record s.tokens

  abbrev xs : List RecordCell.Cell
  xs = map cell_record s.cells

  abbrev ledger' : List ℕ
  ledger' = ledger_of ts ledger

  abbrev cells' : List ℕ
  cells' = written_over Cells.encode_cell xs cells

  pub ledger_size : length ledger' ≡ length ledger
  ledger_size = length_over token_width Tokens.encode_token length_token ts ledger (omega (arith, length-map s.tokens token_record, room.for_tokens))

  pub cells_size : length cells' ≡ length cells
  cells_size = length_over cell_width Cells.encode_cell length_cell xs cells (omega (arith, length-map s.cells cell_record, room.for_cells))

  count : length cells' / cell_width ≡ length xs
  count = ap (λ (n : ℕ). n / cell_width) cells_size ∙ sym room.for_cells ∙ sym (length-map s.cells cell_record)

  module _ (tokens_fit : All TokenFits ts) (cellsFit : All CellFits xs) where
    pub tokens_read : Tokens.tokens (length s.tokens) ledger' ≡ ts
    tokens_read = ap (λ (n : ℕ). Tokens.tokens n ledger') (sym (length-map s.tokens token_record)) ∙ tokens_joined ts (drop (length (joined Tokens.encode_token ts)) ledger) tokens_fit

    cells_read : all_rows cell_width Cells.decode_cell cells' ≡ xs
    cells_read = ap (λ (n : ℕ). Cells.cells n cells') count ∙ cells_joined xs (drop (length (joined Cells.encode_cell xs)) cells) cellsFit

    pub state_back : state_saved ledger' cells' (length s.tokens) ≡ s
    unfolding state_saved
    state_back = λ i. record { tokens = (ap (map token_held) tokens_read ∙ tokens_there s.tokens) i; cells = (ap (map cell_held) cells_read ∙ cells_there s.cells) i }

    pub tokens_allowed : (g : List Instruction) → All (λ (t : Record.Token). TokenFits t × (t.port < operands_at g t.tag.instruction)) ts
        → all (token_allowed g) (rows token_width (λ l. l) (length s.tokens) ledger') ≡ true
    unfolding token_allowed
    tokens_allowed g h =
        ap (λ (n : ℕ). all (token_allowed g) (rows token_width (λ l. l) n ledger')) (sym (length-map s.tokens token_record))
        ∙ all_written token_width Tokens.encode_token length_token (token_allowed g) (λ (t : Record.Token). TokenFits t × (t.port < operands_at g t.tag.instruction))
        (λ t r (f, p). rw (token_back t r f, lt-ltb t.port (operands_at g t.tag.instruction) p) (token_allowed_lem t r)) ts (drop (length (joined Tokens.encode_token ts)) ledger) h

  pub cells_allowed : all cell_allowed (all_rows cell_width (λ l. l) cells') ≡ true
  unfolding cell_allowed
  cells_allowed =
      ap (λ (n : ℕ). all cell_allowed (rows cell_width (λ l. l) n cells')) count
      ∙ all_written cell_width Cells.encode_cell length_cell cell_allowed (λ x. Unit {0}) (λ x r f. rw (cell_allowed_lem x r) (cell_zero x r)) xs (drop (length (joined Cells.encode_cell xs)) cells) (each xs)
    where
      each : (ys : List RecordCell.Cell) → All (λ x. Unit {0}) ys
      each [] = tt
      each (y ∷ ys) = (tt, each ys)
