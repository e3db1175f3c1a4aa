-- `store_flags::Flags::first_word` meets its contract. Assumes nothing.
use Prim.Native.Nat.{ℕ, ◌*◌, ◌+◌, ◌<◌}
use mathlib.Core.Path.{◌≡◌, sym, ap, ◌∙◌}
use mathlib.Core.List.{List}
use native.Mathlib.Omega.{arith}
use lib.ListN.{get_or, take, drop}
use Rattle.store_flags.specs.Flags.{ones, place, in_word, flags_of}
use Rattle.store_flags.proofs.Words.{words_first, words_word}
use Rattle.store_flags.proofs.Flags.first_word.Goals as goal

-- there is one in the words too
some : (ws l : List ℕ) → flags_of ws ≡ l → 0 < ones l → 0 < ones (flags_of ws)
some ws l e h = rw e h

pub lowest-requires : goal.lowest-requires
lowest-requires c = (words_first c.self.invariant.0.summed (some c.self.inside.words c.args.self.now c.self.view_is c.requires)).0

pub returns : goal.returns
returns c =
    let ws = c.self.inside.words in
    let b = c.lowest.result in
    let f = words_first c.self.invariant.0.summed (some ws c.args.self.now c.self.view_is c.requires) in
    let e = c.lowest.ensures.0 in
    let low : b < 32 = omega (arith, e, f.1) in
    let there : 0 < ones (in_word (get_or ws b 0)) = rw e f.2 in
    let at : place 0 (flags_of ws) ≡ b * 64 + place 0 (in_word (get_or ws b 0)) = rw e f.3 in
    let word = words_word c.self.invariant.0.summed b low in
    rw (← c.self.view_is) record {
      low = low;
      some = rw word there;
      first = rw word at;
    }
