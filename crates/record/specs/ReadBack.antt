-- Working definition: no public promise cites it.
-- A value is read back from its bytes, whatever stands behind them: the law of each kind of record that is written (`Encode` in the code). Assumes nothing.
use Rattle.std.proofs.Common.{◌≡◌, ℕ, ◌%◌, List, [], ◌++◌, refl}
use Rattle.number.specs.Number.{bits_of}
use Rattle.number.proofs.Numbers.{number16_bytes, number32_bytes, number64_bytes, fits16, fits32, fits64, bits_fit, signed_bits}
use Rattle.record.specs.declared.instruction.Instruction.{Instruction}
use Rattle.record.specs.declared.token.Token.{Token}
use Rattle.record.specs.declared.token.Content.{Content}
use Rattle.record.specs.declared.token.Content.TheVariants.{Live, Spent, Deferred}
use Rattle.record.specs.declared.cell.Cell.{Cell}
use Rattle.record.specs.declared.cell.Cell.TheVariants.{Absent, Waiting, Present}
use Rattle.record.specs.GraphRecords as Graph
use Rattle.record.specs.TokensAndTags as Tokens
use Rattle.record.specs.TokensAndTags.{content_of, state_of, value_field, ContentFits, TokenFits}
use Rattle.record.specs.Cells as Cells
use Rattle.record.specs.Cells.{CellFits}

pub instruction_back : (r : Instruction) (rest : List ℕ) → Graph.InstructionFits r → Graph.decode_instruction (Graph.encode_instruction r ++ rest) ≡ r
unfolding Graph.encode_instruction Graph.decode_instruction
instruction_back r rest f =
    rw (
      number16_bytes r.first.instruction [],
      fits16 _ f.instruction1,
      number16_bytes r.second.instruction [],
      fits16 _ f.instruction2,
      number32_bytes (bits_of r.constant) [],
      fits32 _ (bits_fit _ f.constant),
      signed_bits _ f.constant,
      number32_bytes r.zeros [],
      fits32 _ f.zeros,
    )

content_back : (x : Content) → ContentFits x → content_of (value_field x % 4294967296) (state_of x) ≡ x
unfolding content_of
content_back (Live v) f = rw (fits32 _ (bits_fit v f), signed_bits v f)
content_back (Spent v) f = rw (fits32 _ (bits_fit v f), signed_bits v f)
content_back (Deferred n) f = rw (fits32 n f)

pub token_back : (t : Token) (rest : List ℕ) → TokenFits t → Tokens.decode_token (Tokens.encode_token t ++ rest) ≡ t
unfolding Tokens.encode_token Tokens.decode_token
token_back t rest f =
    rw (
      number64_bytes t.tag.path.low [],
      fits64 _ f.path.low,
      number64_bytes t.tag.path.high [],
      fits64 _ f.path.high,
      number16_bytes t.tag.instruction [],
      fits16 _ f.instruction,
      number32_bytes (value_field t.content) [],
      content_back _ f.content,
    )

pub cell_back : (x : Cell) (rest : List ℕ) → CellFits x → Cells.decode_cell (Cells.encode_cell x ++ rest) ≡ x
unfolding Cells.encode_cell Cells.decode_cell Cells.cell_of
cell_back Absent rest f = refl
cell_back Waiting rest f = refl
cell_back (Present v) rest f = rw (number32_bytes (bits_of v) [], fits32 _ (bits_fit v f), signed_bits v f)
