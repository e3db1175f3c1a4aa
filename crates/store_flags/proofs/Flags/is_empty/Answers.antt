-- `store_flags::Flags::is_empty` meets its contract: the word that says which words have any has none. Assumes nothing.
use Prim.Native.Nat.{ℕ}
use mathlib.Core.Path.{sym, ap, ◌∙◌}
use lib.Dec.{eqb}
use Rattle.store_flags.specs.Flags.{flags_of}
use Rattle.store_flags.proofs.Laws.{ones_places}
use Rattle.store_flags.proofs.Words.{words_empty, flag_list}
use Rattle.store_flags.proofs.Flags.is_empty.Goals as goal

pub returns : goal.returns
returns c =
    rw (← c.self.view_is) record {
      value = c.has_none.ensures ∙ words_empty c.self.invariant.0.summed ∙ ap (λ (x : ℕ). eqb x 0) (sym (ones_places 0 (flags_of c.self.inside.words) c.self.invariant.0.tallied.binary));
      list = flag_list c.self.invariant.0;
    }
