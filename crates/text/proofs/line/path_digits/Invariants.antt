-- `text::line::path_digits` meets its contract: a digit less with each turn, until the lower word holds the rest. Assumes nothing.
use Prim.Native.Nat.{◌+◌}
use mathlib.Core.Path.{◌≡◌}
use lib.ListN.{length}
use Rattle.record.specs.Paths.{path_number}
use Rattle.text.specs.Text.{decimal}
use Rattle.text.proofs.line.path_digits.Given as goal

abbrev pub invariant-loop-rest : goal.invariant-loop-rest
invariant-loop-rest l = l.k + length (decimal (path_number l.rest)) ≡ length (decimal (path_number l.fn.path))

abbrev pub decreases-loop-rest : goal.decreases-loop-rest
decreases-loop-rest l = l.rest.high
