-- `store_flags::Flags::new` meets its contract. Assumes nothing.
use Rattle.store_flags.proofs.Back.{words_none}
use Rattle.store_flags.proofs.Words.{none_set, counted_none}
use Rattle.store_flags.proofs.Flags.new.Goals as goal

pub invariant_of-result : goal.invariant_of-result
invariant_of-result c = (counted_none, words_none)

pub returns : goal.returns
returns c = none_set
