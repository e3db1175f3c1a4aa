-- `graph_tables::returns` meets its contract. The invariant: the table has the returns of the records from i on. Assumes nothing.
use Prim.Native.Nat.{◌≤◌, ◌/◌}
use mathlib.Core.Path.{◌≡◌}
use lib.ListN.{length, drop}
use Rattle.record.specs.GraphRecords.{graph_of}
use Rattle.record.specs.Widths.{graph_width}
use Rattle.abstraction.specs.Tables.{Returns}
use Rattle.graph_tables.proofs.returns.Given as goal

abbrev pub invariant-loop-i : goal.invariant-loop-i
invariant-loop-i l = (l.i ≤ length l.graph / graph_width) × (length l.out ≡ 641) × Returns (drop l.i (graph_of l.graph)) l.out
