-- `range_output::put_cells` meets its contract. The invariant: the first i records are written. Assumes nothing.
use Rattle.record.specs.Cells as Records
use Rattle.record.specs.Widths.{cell_width, range_cell_width}
use Rattle.rules.specs.RangeRun.{encode_range_cell}
use Rattle.range_output.specs.Left.{cell_meant}
use Rattle.range_output.proofs.Written.{Passed, length_cell}
use Rattle.range_output.proofs.put_cells.Given as goal

abbrev pub invariant-loop-i : goal.invariant-loop-i
invariant-loop-i l = Passed cell_width Records.decode_cell (cell_meant l.table) range_cell_width encode_range_cell length_cell l.n l.store l.initial.out l.out l.i
