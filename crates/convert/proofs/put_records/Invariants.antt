-- `convert::put_records` meets its contract. The invariant: the first i records of `out` are those of `old`, widened. Assumes nothing.
use Prim.Native.Nat.{◌+◌, ◌*◌, ◌/◌, ◌≤◌}
use mathlib.Core.Path.{◌≡◌}
use lib.ListN.{length, take}
use Rattle.buffer.specs.Rows.{rows}
use Rattle.convert.specs.Convert.{widened}
use Rattle.convert.proofs.Records.{together}
use Rattle.convert.proofs.put_records.Given as goal

abbrev pub invariant-loop-i : goal.invariant-loop-i
invariant-loop-i l =
    (l.i ≤ length l.old / (8 + l.layout.rest)) × (length l.out ≡ length l.old / (8 + l.layout.rest) * (16 + l.layout.rest)) × (take (l.i * (16 + l.layout.rest)) l.out ≡ together (rows (8 + l.layout.rest) (widened l.layout.rest) l.i l.old))
