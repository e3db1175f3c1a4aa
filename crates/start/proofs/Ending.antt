-- The end of a run: ledger and cells hold, in every byte, the machine's tokens and cells. Assumes nothing.
use Prim.Native.Nat.{ℕ, ◌*◌, ◌≤◌}
use mathlib.Core.Path.{◌≡◌, refl, sym, ap, ◌∙◌}
use mathlib.Core.List.{List, [], ◌∷◌, ◌++◌, map, append-nil}
use native.Mathlib.Omega.{arith}
use lib.ListN.{length, drop, length-map, drop_of_length-le}
use Rattle.record.specs.declared.token.Token as Record
use Rattle.record.specs.declared.token.Content as RecordContent
use Rattle.record.specs.declared.token.Content.TheVariants.{Live, Spent, Deferred}
use Rattle.record.specs.declared.cell.Cell as RecordCell
use Rattle.record.specs.declared.cell.Cell.TheVariants.{Absent, Waiting, Present}
use Rattle.record.specs.declared.instruction.Instruction.{Instruction}
use Rattle.buffer.specs.Rows.{joined, written_over}
use Rattle.record.specs.TokensAndTags.{tokens, ledger_of}
use Rattle.record.specs.TokensAndTags as Tokens
use Rattle.record.specs.Cells as Cells
use Rattle.buffer.proofs.Tables.{length_rows, length_joined}
use Rattle.record.proofs.Records.{length_token}
use Rattle.record.specs.Widths.{token_width}
use Rattle.store.proofs.Laws.{matching_ledger}
use Rattle.machine.specs.Machine.{Outcome, end}
use Rattle.rules.specs.declared.answer.Refusal.{Refusal}
use Rattle.rules.specs.Run.{content_held, content_record, token_held, token_record, cell_record, outcome_of}
use Rattle.abstraction.specs.States.{cell_held}
use Rattle.fire_outputs.specs.Outputs.{cells_in}
use Rattle.fire.specs.Running.{machine_over, state_in, Running}
use Rattle.start.specs.Ended.{EndedAt}

-- ---- records and the machine's tokens and cells, there and back

content_back : (x : RecordContent.Content) → content_record (content_held x) ≡ x
content_back (Live v) = refl
content_back (Spent v) = refl
content_back (Deferred c) = refl

tokens_back : (ts : List Record.Token) → map token_record (map token_held ts) ≡ ts
tokens_back [] = refl
tokens_back (t ∷ ts) = λ i. record { tag = t.tag; port = t.port; content = content_back t.content i } ∷ tokens_back ts i

cell_back : (x : RecordCell.Cell) → cell_record (cell_held x) ≡ x
cell_back Absent = refl
cell_back Waiting = refl
cell_back (Present v) = refl

cells_back : (cs : List RecordCell.Cell) → map cell_record (map cell_held cs) ≡ cs
cells_back [] = refl
cells_back (c ∷ cs) = λ i. cell_back c i ∷ cells_back cs i

-- ---- the end

module _ (g : List Instruction) {tables links flags ledger' cells' : List ℕ} {n : ℕ}
    (last : Running g tables links flags ledger' cells' n) (ledger cells : List ℕ)
    (rest : drop (n * token_width) ledger' ≡ drop (n * token_width) ledger) (cell_size : length cells' ≡ length cells) where
  size : length (tokens n ledger') ≡ n
  size = length_rows token_width Tokens.decode_token n ledger'

  ledger_left_lem : ledger' ≡ ledger_of (map token_record (map token_held (tokens n ledger'))) ledger
  ledger_left_lem =
      let bytes : length (joined Tokens.encode_token (tokens n ledger')) ≡ n * token_width = length_joined token_width Tokens.encode_token length_token (tokens n ledger') ∙ ap (λ (k : ℕ). k * token_width) size in
      matching_ledger last.matching
      ∙ ap (λ (l : List ℕ). joined Tokens.encode_token (tokens n ledger') ++ l) (rest ∙ ap (λ (k : ℕ). drop k ledger) (sym bytes))
      ∙ sym (ap (λ (ts : List Record.Token). ledger_of ts ledger) (tokens_back (tokens n ledger')))

  cells_left_lem : cells' ≡ written_over Cells.encode_cell (map cell_record (map cell_held (cells_in cells'))) cells
  cells_left_lem =
      let b = last.store.bytes in
      let short : length cells ≤ length (joined Cells.encode_cell (cells_in cells')) = omega (arith, ap length b, cell_size) in
      let none : drop (length (joined Cells.encode_cell (cells_in cells'))) cells ≡ [] = drop_of_length-le cells short in
      b
      ∙ sym (append-nil (joined Cells.encode_cell (cells_in cells')))
      ∙ ap (λ (l : List ℕ). joined Cells.encode_cell (cells_in cells') ++ l) (sym none)
      ∙ sym (ap (λ (cs : List RecordCell.Cell). written_over Cells.encode_cell cs cells) (cells_back (cells_in cells')))

  pub left : (o : Outcome Refusal) (f : ℕ) → EndedAt (end (machine_over g tables ledger cells) o f (state_in ledger' cells' n)) (record { outcome = outcome_of o; firings = f; tokens = n }) ledger cells ledger' cells'
  left o f = record {
    answered = λ i. record { outcome = outcome_of o; firings = f; tokens = sym (length-map (tokens n ledger') token_held ∙ size) i };
    ledger_left = ledger_left_lem;
    cells_left = cells_left_lem;
  }
