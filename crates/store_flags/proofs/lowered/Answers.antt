-- `store_flags::lowered` meets its contract. Assumes nothing.
use Prim.Native.Nat.{◌-◌, ◌*◌, ◌%◌, ◌^◌, ◌≤◌}
use mathlib.Core.Path.{◌≡◌}
use lib.ListN.{set}
use Rattle.store_flags.specs.Flags.{in_word}
use Rattle.store_flags.proofs.Digits.{word_lowered, one_fits}
use Rattle.store_flags.proofs.lowered.Goals as goal
use Rattle.store_flags.proofs.lowered.Goals.{Start}

-- the digit that is taken off is one of the word
taken : (c : Start) → let x = 1 * 2 ^ c.args.k % 2 ^ 64 in (x ≤ c.args.word) × (in_word (c.args.word - x) ≡ set (in_word c.args.word) c.args.k 0)
taken c = rw (one_fits c.args.k c.requires.0) (word_lowered c.args.word c.args.k c.requires.0 c.ranges.word.fits c.requires.1)

pub overflow_sub-result : goal.overflow_sub-result
overflow_sub-result c = (taken c).0

pub returns : goal.returns
returns c = (taken c).1
