-- `store_flags::lowest` meets its contract. Assumes nothing.
use native.Mathlib.Omega.{arith}
use lib.Count.{trailing_le}
use Rattle.store_flags.specs.Flags.{in_word}
use Rattle.store_flags.proofs.Laws.{place_lt}
use Rattle.store_flags.proofs.Digits.{word_size, word_some, word_lowest}
use Rattle.store_flags.proofs.lowest.Goals as goal

pub overflow_cast-result : goal.overflow_cast-result
overflow_cast-result c = record { fits = omega (arith, trailing_le 64 c.args.word) }

pub returns : goal.returns
returns c =
    let w = c.args.word in
    let e = word_lowest w in
    (e, omega (arith, e, word_size w, place_lt 0 (in_word w) (word_some w c.requires c.ranges.word.fits)))
