-- `store_flags::Flags::is_raised` meets its contract. Assumes nothing.
use Prim.Native.Nat.{◌/◌, ◌%◌}
use mathlib.Core.Path.{sym, ◌∙◌}
use native.Mathlib.Omega.{arith}
use lib.ListN.{get_or}
use Rattle.store_flags.proofs.Digits.{word_at}
use Rattle.store_flags.proofs.Words.{words_flag, flag_list}
use Rattle.store_flags.proofs.Flags.is_raised.Goals as goal

pub returns : goal.returns
returns c =
    let i = c.args.i in
    rw (← c.self.view_is) record {
      value = rw (sym (words_flag c.self.invariant.0.summed i c.requires) ∙ word_at (get_or c.self.inside.words (i / 64) 0) (i % 64) (omega arith));
      list = flag_list c.self.invariant.0;
    }
