-- `check_inputs::taken` meets its contract. The invariant: none of the first j tokens stands there. Assumes nothing.
use Prim.Native.Nat.{◌≤◌}
use mathlib.Core.Bool.{false}
use mathlib.Core.Path.{◌≡◌}
use lib.ListN.{take}
use Rattle.record.specs.TokensAndTags.{stands_at}
use Rattle.rules.specs.Check.{any}
use Rattle.check_inputs.specs.Inputs.{input_tokens}
use Rattle.check_inputs.proofs.taken.Given as goal

abbrev pub invariant-loop-j : goal.invariant-loop-j
invariant-loop-j l = (l.j ≤ l.n) × (any (stands_at l.tag l.port) (take l.j (input_tokens l.inputs)) ≡ false)
