-- `word` of a `store_flags::Flags` meets its contract. Assumes nothing.
use mathlib.Core.Path.{sym}
use Rattle.store_flags.proofs.Words.{words_word, flag_list}
use Rattle.store_flags.proofs.FlagsFlagWords.word.Goals as goal

pub returns : goal.returns
returns c = rw (← c.self.view_is) record { value = sym (words_word c.self.invariant.0.summed c.args.b c.requires); list = flag_list c.self.invariant.0 }
