-- `store_flags::count` meets its contract: the groups' counts together are the number of ones. Assumes nothing.
use Prim.Native.Nat.{ℕ, ◌+◌, ◌<◌, ◌≤◌, ◌^◌}
use mathlib.Core.Path.{◌≡◌}
use mathlib.Core.List.{List}
use native.Mathlib.Omega.{arith}
use lib.ListN.{take, drop}
use Rattle.store_flags.specs.Flags.{ones, FlagList}
use Rattle.store_flags.proofs.Laws.{ones_places}
use Rattle.store_flags.proofs.Blocks.{four_groups}
use Rattle.store_flags.proofs.count.Goals as goal

pub overflow_add-result : goal.overflow_add-result
overflow_add-result g c = record { fits = omega (arith, four_groups (g.S.FlagWords.flags c.args.set.now) c.ones_in_group.ensures.list, c.ones_in_group.ensures.value, c.ones_in_group-2.ensures.value) }

pub overflow_add-result-2 : goal.overflow_add-result-2
overflow_add-result-2 g c = record { fits = omega (arith, four_groups (g.S.FlagWords.flags c.args.set.now) c.ones_in_group.ensures.list, c.ones_in_group.ensures.value, c.ones_in_group-2.ensures.value, c.ones_in_group-3.ensures.value) }

pub overflow_add-result-3 : goal.overflow_add-result-3
overflow_add-result-3 g c = record { fits = omega (arith, four_groups (g.S.FlagWords.flags c.args.set.now) c.ones_in_group.ensures.list, c.ones_in_group.ensures.value, c.ones_in_group-2.ensures.value, c.ones_in_group-3.ensures.value, c.ones_in_group-4.ensures.value) }

pub returns : goal.returns
returns g c =
    let f = g.S.FlagWords.flags c.args.set.now in
    let list = c.ones_in_group.ensures.list in
    record { value = omega (arith, four_groups f list, c.ones_in_group.ensures.value, c.ones_in_group-2.ensures.value, c.ones_in_group-3.ensures.value, c.ones_in_group-4.ensures.value, ones_places 0 f list.binary); list = list }
