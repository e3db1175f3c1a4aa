-- `store_flags::marked` meets its contract. Assumes nothing.
use Rattle.store_flags.proofs.Digits.{word_marked, one_fits}
use Rattle.store_flags.proofs.marked.Goals as goal

pub returns : goal.returns
returns c = rw (one_fits c.args.k c.requires) (word_marked c.args.word c.args.k c.requires)
