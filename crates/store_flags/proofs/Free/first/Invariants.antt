-- `store_flags::Free::first` meets its contract. The loop's invariant: those from word `b` on are all; and once a word was passed, what the flags are
-- is known. Assumes nothing.
use Prim.Native.Nat.{◌*◌, ◌<◌}
use mathlib.Core.Path.{◌≡◌}
use lib.ListN.{drop}
use Rattle.store_flags.specs.Flags.{ones, FlagList}
use Rattle.store_flags.proofs.Free.first.Given as goal

abbrev pub invariant-loop-b : goal.invariant-loop-b
invariant-loop-b l = record { all : ones (drop (l.b * 64) l.self) ≡ ones l.self; list : l.initial.b < l.b → FlagList l.self }
