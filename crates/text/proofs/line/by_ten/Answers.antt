-- `text::line::by_ten` meets its contract. Assumes nothing.
use borrow.Author.Rules.{rules}
use mathlib.Core.Path.{refl, sym}
use Rattle.text.proofs.Paths.{tenth_words, tenth_digit}
use Rattle.text.proofs.line.by_ten.Goals as goal

pub returns : goal.returns
returns c = let p = c.args.path in (sym (tenth_words p (search rules)), sym (tenth_digit p (search rules)), refl)
