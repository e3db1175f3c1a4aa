-- `store_flags::without` meets its contract. Assumes nothing.
use Rattle.store_flags.proofs.Minus.{word_minus}
use Rattle.store_flags.proofs.without.Goals as goal

pub overflow_sub-result : goal.overflow_sub-result
overflow_sub-result c = (word_minus c.args.word c.args.held c.ranges.word.fits c.ranges.held.fits c.requires).0

pub returns : goal.returns
returns c = (word_minus c.args.word c.args.held c.ranges.word.fits c.ranges.held.fits c.requires).1
