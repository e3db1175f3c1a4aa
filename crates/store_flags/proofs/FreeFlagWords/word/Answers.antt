-- `word` of a `store_flags::Free` meets its contract. Assumes nothing.
use mathlib.Core.Path.{◌∙◌}
use Rattle.store_flags.proofs.Minus.{rest_list, rest_under, rest_word}
use Rattle.store_flags.proofs.FreeFlagWords.word.Goals as goal

pub without-requires : goal.without-requires
without-requires c = rest_under c.word-word.ensures.list c.word-held.ensures.list c.self.invariant c.args.b _ _ c.word-word.ensures.value c.word-held.ensures.value

pub returns : goal.returns
returns c =
    rw (← c.self.view_is) record {
      value =
          c.without.ensures
          ∙ rest_word c.word-word.ensures.list c.word-held.ensures.list c.self.invariant c.args.b _ _ c.word-word.ensures.value c.word-held.ensures.value;
      list = rest_list c.word-word.ensures.list c.word-held.ensures.list c.self.invariant;
    }
