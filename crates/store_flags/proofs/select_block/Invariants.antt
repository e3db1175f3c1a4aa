-- `store_flags::select_block` meets its contract. The loop's invariant: the one sought is number `left` of those from word `b` on; and once a word was
-- passed, what the flags are is known. Assumes nothing.
use Prim.Native.Nat.{◌+◌, ◌*◌, ◌<◌}
use mathlib.Core.Path.{◌≡◌}
use lib.ListN.{drop}
use Rattle.store_flags.specs.Flags.{ones, place, FlagList}
use Rattle.store_flags.proofs.select_block.Given as goal

abbrev pub invariant-loop-b : goal.invariant-loop-b
invariant-loop-b g l =
    let f = g.S.FlagWords.flags l.set in record {
      left : l.left < ones (drop (l.b * 64) f);
      place : l.from * 64 + place l.k (drop (l.from * 64) f) ≡ l.b * 64 + place l.left (drop (l.b * 64) f);
      list : l.from < l.b → FlagList f;
    }
