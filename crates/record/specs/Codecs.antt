-- Values are read back from their bytes, and bytes from their values: of graph records, tokens and cells. The statement; it is proved in proofs/Records.
-- Assumes nothing.
use Rattle.std.specs.Prelude.{◌≡◌, ℕ, ◌<◌, List, ◌++◌, length}
use Rattle.number.specs.Number.{byte_at, number32}
use Rattle.record.specs.declared.instruction.Instruction.{Instruction}
use Rattle.record.specs.declared.token.Token.{Token}
use Rattle.record.specs.declared.cell.Cell.{Cell}
use Rattle.record.specs.GraphRecords as Graph
use Rattle.record.specs.TokensAndTags as Tokens
use Rattle.record.specs.Cells as Cells
use Rattle.record.specs.Widths.{token_width, cell_width, graph_width}

-- what a record may hold whose bytes are written back: a state of the three, and zeros
pub record ProperRecord (l : List ℕ) : Type 0 where
  pub size : length l ≡ token_width
  pub small : (k : ℕ) → byte_at l k < 256
  pub state : byte_at l 24 < 3
  pub zeros : (byte_at l 25 ≡ 0) × (byte_at l 26 ≡ 0) × (byte_at l 27 ≡ 0)

-- what a record may hold whose bytes are written back: a state of the three, zeros, and the value 0 until present
pub record ProperCell (l : List ℕ) : Type 0 where
  pub size : length l ≡ cell_width
  pub small : (k : ℕ) → byte_at l k < 256
  pub state : byte_at l 4 < 3
  pub value : byte_at l 4 < 2 → number32 l 0 ≡ 0
  pub zeros : (byte_at l 5 ≡ 0) × (byte_at l 6 ≡ 0) × (byte_at l 7 ≡ 0)

-- whatever stands behind a record's bytes
pub record Codecs : Type 0 where
  pub instruction : (r : Instruction) (rest : List ℕ) → Graph.InstructionFits r → Graph.decode_instruction (Graph.encode_instruction r ++ rest) ≡ r
  pub token : (t : Token) (rest : List ℕ) → Tokens.TokenFits t → Tokens.decode_token (Tokens.encode_token t ++ rest) ≡ t
  pub cell : (x : Cell) (rest : List ℕ) → Cells.CellFits x → Cells.decode_cell (Cells.encode_cell x ++ rest) ≡ x
  pub instruction_bytes : (l : List ℕ) → length l ≡ graph_width → ((k : ℕ) → byte_at l k < 256) → Graph.encode_instruction (Graph.decode_instruction l) ≡ l
  pub token_bytes : (l : List ℕ) → ProperRecord l → Tokens.encode_token (Tokens.decode_token l) ≡ l
  pub cell_bytes : (l : List ℕ) → ProperCell l → Cells.encode_cell (Cells.decode_cell l) ≡ l
