-- `store_flags::Flags::first` meets its contract. Assumes nothing.
use Prim.Native.Nat.{ℕ, ◌+◌, ◌*◌, ◌<◌}
use mathlib.Core.Path.{◌≡◌, sym, ap, ◌∙◌}
use mathlib.Core.List.{List}
use lib.ListN.{get_or, take, drop}
use Rattle.store_flags.specs.Flags.{ones, place, in_word, flags_of}
use Rattle.store_flags.proofs.Digits.{word_positive}
use Rattle.store_flags.proofs.Words.{words_word, flag_list}
use Rattle.store_flags.proofs.Flags.first.Goals as goal

-- the flags of a word
word_of : (ws l : List ℕ) (b : ℕ) → flags_of ws ≡ l → take 64 (drop (b * 64) (flags_of ws)) ≡ in_word (get_or ws b 0) → take 64 (drop (b * 64) l) ≡ in_word (get_or ws b 0)
word_of ws l b e h = rw (← e) h

pub lowest-requires : goal.lowest-requires
lowest-requires c =
    let b = c.first_word-b in
    let word = word_of c.self.inside.words c.args.self.now b.result c.self.view_is (words_word c.self.invariant.0.summed b.result b.ensures.low) in
    word_positive (get_or c.self.inside.words b.result 0) (rw word at b.ensures.some)

pub returns : goal.returns
returns c =
    let b = c.first_word-b in
    let word = word_of c.self.inside.words c.args.self.now b.result c.self.view_is (words_word c.self.invariant.0.summed b.result b.ensures.low) in
    record {
      value = ap (λ (x : ℕ). b.result * 64 + x) c.lowest.ensures.0 ∙ ap (λ (l : List ℕ). b.result * 64 + place 0 l) (sym word) ∙ sym b.ensures.first;
      list = rw (← c.self.view_is) (flag_list c.self.invariant.0);
    }
