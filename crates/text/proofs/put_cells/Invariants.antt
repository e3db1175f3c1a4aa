-- `text::put_cells` meets its contract. Assumes nothing.
use Prim.Native.Nat.{◌-◌, ◌/◌, ◌≤◌}
use lib.ListN.{length}
use Rattle.record.specs.Widths.{cell_width}
use Rattle.text.specs.Lines.{AddedText, lines_of_cells}
use Rattle.text.proofs.Whole.{made}
use Rattle.text.proofs.put_cells.Given as goal

abbrev pub invariant-loop-k : goal.invariant-loop-k
invariant-loop-k l = (l.k ≤ length l.cells / cell_width) × AddedText l.initial.out l.out l.from l.at (made (lines_of_cells l.cells) l.k)

abbrev pub decreases-loop-k : goal.decreases-loop-k
decreases-loop-k l = length l.cells / cell_width - l.k
