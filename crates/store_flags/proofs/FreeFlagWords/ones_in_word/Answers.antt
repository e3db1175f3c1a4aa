-- `ones_in_word` of a `store_flags::Free` meets its contract. Assumes nothing.
use Prim.Native.Nat.{◌*◌}
use Rattle.store_flags.proofs.Minus.{rest_list, rest_part}
use Rattle.store_flags.proofs.FreeFlagWords.ones_in_word.Goals as goal

pub overflow_sub-result : goal.overflow_sub-result
overflow_sub-result c =
    (rest_part c.ones_in_word-flags.ensures.list c.ones_in_word-held.ensures.list c.self.invariant (c.args.b * 64) 64 _ _ c.ones_in_word-flags.ensures.value c.ones_in_word-held.ensures.value).0

pub returns : goal.returns
returns c =
    rw (← c.self.view_is) record {
      value = (rest_part c.ones_in_word-flags.ensures.list c.ones_in_word-held.ensures.list c.self.invariant (c.args.b * 64) 64 _ _ c.ones_in_word-flags.ensures.value c.ones_in_word-held.ensures.value).1;
      list = rest_list c.ones_in_word-flags.ensures.list c.ones_in_word-held.ensures.list c.self.invariant;
    }
