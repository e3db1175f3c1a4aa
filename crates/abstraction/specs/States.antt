-- Working definition: no public promise cites it.
-- The machine's state of a list of token records and a list of cells, and what holds of every such state in a run. Assumes nothing.
use Rattle.std.specs.Prelude.{◌<◌, List, [], map, ℤ}
use Rattle.record.specs.declared.tag.Tag.{Tag}
use Rattle.record.specs.declared.token.Token as Record
use Rattle.record.specs.declared.cell.Cell as RecordCell
use Rattle.record.specs.declared.instruction.Instruction.{Instruction}
use Rattle.buffer.specs.Rows.{All}
use Rattle.record.specs.TokensAndTags.{decode_token}
use Rattle.machine.specs.Machine.{State}
use Rattle.rules.specs.InstructionSet.{arity_in}
use Rattle.rules.specs.Run.{token_held}
pub use Rattle.rules.specs.Run.{cell_held}

-- what stands where no token does; it is never looked at
abbrev pub no_token : Record.Token
no_token = decode_token []

abbrev pub state_held : List Record.Token → List RecordCell.Cell → State Tag ℤ
state_held ts cs = record { tokens = map token_held ts; cells = map cell_held cs }

-- a token at an instruction that fires stands at one of its operands' ports
abbrev pub OnPorts : List Instruction → List Record.Token → Type 0
OnPorts g ts = All (λ (t : Record.Token). 0 < arity_in g t.tag → t.port < arity_in g t.tag) ts
