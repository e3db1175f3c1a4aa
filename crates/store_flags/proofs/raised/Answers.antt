-- `store_flags::raised` meets its contract. Assumes nothing.
use Prim.Native.Nat.{◌+◌, ◌*◌, ◌%◌, ◌^◌, ◌<◌}
use mathlib.Core.Path.{◌≡◌}
use lib.ListN.{set}
use Rattle.store_flags.specs.Flags.{in_word}
use Rattle.store_flags.proofs.Digits.{word_raised, one_fits}
use Rattle.store_flags.proofs.raised.Goals as goal
use Rattle.store_flags.proofs.raised.Goals.{Start}

-- the digit that is put on is one of a word
put : (c : Start) → let w = c.args.word + 1 * 2 ^ c.args.k % 2 ^ 64 in (w < 2 ^ 64) × (in_word w ≡ set (in_word c.args.word) c.args.k 1)
put c = rw (one_fits c.args.k c.requires.0) (word_raised c.args.word c.args.k c.requires.0 c.ranges.word.fits c.requires.1)

pub overflow_add-result : goal.overflow_add-result
overflow_add-result c = record { fits = (put c).0 }

pub returns : goal.returns
returns c = (put c).1
