-- `saved::find_sites` meets its contract. The invariant: the table tells of the first i records. Assumes nothing.
use Prim.Native.Nat.{◌≤◌, ◌/◌}
use mathlib.Core.Path.{◌≡◌}
use lib.ListN.{length, take}
use Rattle.record.specs.GraphRecords.{graph_of}
use Rattle.record.specs.Widths.{graph_width}
use Rattle.saved.specs.Passes.{EnteredSites}
use Rattle.saved.proofs.find_sites.Given as goal

abbrev pub invariant-loop-i : goal.invariant-loop-i
invariant-loop-i l = (l.i ≤ length l.graph / graph_width) × (length l.sites ≡ 256) × EnteredSites (take l.i (graph_of l.graph)) l.sites
