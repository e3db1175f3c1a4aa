-- Working definition: no public promise cites it.
-- Tokens and cells over handles, read through the table of ranges: what a range run leaves of them. Assumes nothing.
use Rattle.std.specs.Prelude.{List, map}
use Rattle.number.specs.Number.{bits_of}
use Rattle.record.specs.declared.tag.Tag.{Tag}
use Rattle.record.specs.declared.token.Token as Record
use Rattle.record.specs.declared.token.Content.{Content}
use Rattle.record.specs.declared.token.Content.TheVariants.{Live, Spent, Deferred}
use Rattle.record.specs.declared.cell.Cell as RecordCell
use Rattle.arithmetic.specs.declared.Range.{Range}
use Rattle.machine.specs.Machine.{Token, Cell}
use Rattle.machine.specs.Handles.{changed_to, meant_content, cell_by}
use Rattle.rules.specs.Run.{token_held, cell_held}
use Rattle.rules.specs.RangeHandles.{meaning}
use Rattle.range_output.specs.declared.Ends.{Ends}

-- "the high in 4 further bytes at its end, the cell number in both if deferred"
unfoldable pub ends_of : List Range → Content → Ends
ends_of t (Live h) = record { low = Live (meaning t h).low; high = bits_of (meaning t h).high }
ends_of t (Spent h) = record { low = Spent (meaning t h).low; high = bits_of (meaning t h).high }
ends_of t (Deferred c) = record { low = Deferred c; high = c }

-- what a token, a cell and lists of them stand for
abbrev pub token_meant : List Range → Record.Token → Token Tag Range
token_meant t u = changed_to (meant_content (meaning t)) (token_held u)

abbrev pub cell_meant : List Range → RecordCell.Cell → Cell Range
cell_meant t c = cell_by (meaning t) (cell_held c)

abbrev pub tokens_meant : List Range → List Record.Token → List (Token Tag Range)
tokens_meant t us = map (token_meant t) us

abbrev pub cells_meant : List Range → List RecordCell.Cell → List (Cell Range)
cells_meant t cs = map (cell_meant t) cs
