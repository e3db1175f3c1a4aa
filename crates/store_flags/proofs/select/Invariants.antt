-- `store_flags::select` meets its contract. The loop's invariant: the one sought is number `left` of those from group `g` on; and once a group was
-- passed, what the flags are is known. Assumes nothing.
use Prim.Native.Nat.{◌+◌, ◌*◌, ◌<◌}
use mathlib.Core.Path.{◌≡◌}
use lib.ListN.{drop}
use Rattle.store_flags.specs.Flags.{ones, place, FlagList}
use Rattle.store_flags.proofs.select.Given as goal

abbrev pub invariant-loop-g : goal.invariant-loop-g
invariant-loop-g g l =
    let f = g.S.FlagWords.flags l.set in record {
      left : l.left < ones (drop (l.g * 512) f);
      place : place l.k f ≡ l.g * 512 + place l.left (drop (l.g * 512) f);
      list : 0 < l.g → FlagList f;
    }
