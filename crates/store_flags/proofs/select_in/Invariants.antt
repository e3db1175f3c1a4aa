-- `store_flags::select_in` meets its contract. The loop's invariant: of those that are not taken away yet, as many stand before the one sought as there
-- are turns left. Assumes nothing.
use Prim.Native.Nat.{◌-◌, ◌<◌}
use mathlib.Core.Path.{◌≡◌}
use Rattle.store_flags.specs.Flags.{ones, place, in_word}
use Rattle.store_flags.proofs.select_in.Given as goal

abbrev pub invariant-loop : goal.invariant-loop
invariant-loop l = (l.k - l.counter < ones (in_word l.rest)) × (place (l.k - l.counter) (in_word l.rest) ≡ place l.k (in_word l.word))
