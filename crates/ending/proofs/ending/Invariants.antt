-- `ending::ending` meets its contract. The loop's invariant: the tokens from record i on are proper. The measure is how many are left. Assumes nothing.
use Prim.Native.Nat.{◌≤◌}
use mathlib.Core.Path.{◌≡◌}
use mathlib.Core.Bool.{true}
use lib.ListN.{drop}
use Rattle.record.specs.TokensAndTags.{tokens}
use Rattle.ending.proofs.Laws.{all_by}
use Rattle.ending.proofs.ending.Given as goal

abbrev pub invariant-loop-i : goal.invariant-loop-i
invariant-loop-i l = (l.i ≤ l.used) × (all_by l.tables (drop l.i (tokens l.used l.ledger)) ≡ true)

abbrev pub decreases-loop-i : goal.decreases-loop-i
decreases-loop-i l = l.i
