-- `held::stands_old` meets its contract. The invariant: where the tag found so far stands, the first one stands; its iteration is a byte. The measure is the number of its path. Assumes nothing.
use Prim.Native.Nat.{◌<◌}
use mathlib.Core.Path.{◌≡◌}
use Rattle.record.specs.Paths.{path_number}
use Rattle.rules.specs.Held.{stands_in}
use Rattle.held.proofs.stands_old.Given as goal

abbrev pub invariant-loop-path : goal.invariant-loop-path
invariant-loop-path l = (stands_in l.path l.initial.at ≡ stands_in l.path l.at) × (l.at.iteration < 256)

abbrev pub decreases-loop-path : goal.decreases-loop-path
decreases-loop-path l = path_number l.at.path
