-- `engine::choice::order_of` meets its contract: no bytes are no picks. Assumes nothing.
use Prim.Native.Nat.{ℕ}
use mathlib.Core.Path.{◌≡◌, refl, ap}
use mathlib.Core.List.{List, [], ◌∷◌}
use native.Mathlib.Omega.{arith}
use lib.ListN.{length}
use Rattle.machine.specs.Machine.{by_picks}
use Rattle.machine.specs.Choosers.{by_pick}
use Rattle.rules.specs.InstructionSet.{machine_of}
use Rattle.rules.specs.Run.{picks_of}
use Rattle.engine.proofs.choice.order_of.Goals as goal

none_lent : (picks : List ℕ) → length picks ≡ 0 → [] ≡ picks_of picks
unfolding picks_of
none_lent [] h = refl
none_lent (x ∷ l) h = absurd (omega arith)

pub returns-then-picks-eq0 : goal.returns-then-picks-eq0
returns-then-picks-eq0 c = (λ g table capacity count. ap (by_pick (machine_of g table capacity count) (by_picks (machine_of g table capacity count))) (none_lent c.args.picks.now c.if-picks-eq0.true), tt)

pub returns-else-picks-eq0 : goal.returns-else-picks-eq0
returns-else-picks-eq0 c = (λ g table capacity count. refl, tt)
