-- `store_flags::highest` meets its contract. Assumes nothing.
use native.Mathlib.Omega.{arith}
use Rattle.store_flags.proofs.Digits.{word_highest}
use Rattle.store_flags.proofs.highest.Goals as goal

pub overflow_cast-result : goal.overflow_cast-result
overflow_cast-result c = record { fits = omega (arith, word_highest c.args.word c.requires c.ranges.word.fits) }

pub overflow_sub-result : goal.overflow_sub-result
overflow_sub-result c = omega (arith, word_highest c.args.word c.requires c.ranges.word.fits)

pub returns : goal.returns
returns c = omega (arith, word_highest c.args.word c.requires c.ranges.word.fits)
