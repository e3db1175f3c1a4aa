-- `store_flags::has_none` meets its contract. Assumes nothing.
use Rattle.store_flags.proofs.Digits.{word_empty}
use Rattle.store_flags.proofs.has_none.Goals as goal

pub returns : goal.returns
returns c = word_empty c.args.word c.ranges.word.fits
