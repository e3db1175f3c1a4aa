-- `profile::put_places` meets its contract. The invariant: the first k places are written, and the other ones are left (proofs/Places). The measure: the
-- places and the words that are left. Assumes nothing.
use Prim.Native.Nat.{◌+◌, ◌-◌, ◌≤◌}
use mathlib.Core.Path.{◌≡◌}
use lib.ListN.{length}
use Rattle.store_flags.specs.Flags.{places}
use Rattle.profile.proofs.Places.{Left, Copied}
use Rattle.profile.proofs.put_places.Given as goal

abbrev pub invariant-loop-k : goal.invariant-loop-k
invariant-loop-k l = Left l.flags l.b l.rest l.k × Copied l.k (places l.flags) l.out × (length l.out ≡ 2048) × (l.k ≤ l.count)

abbrev pub decreases-loop-k : goal.decreases-loop-k
decreases-loop-k l = (l.count - l.k) + (32 - l.b)
