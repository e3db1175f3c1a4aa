-- `text::most_first` meets its contract. Assumes nothing.
use borrow.Author.Rules.{rules}
use native.Mathlib.Omega.{arith}
use mathlib.Core.Path.{ap}
use lib.ListN.{length}
use Rattle.text.proofs.Decimals.{decimal_digit, short}
use Rattle.text.proofs.Room.{most_first, first_short}
use Rattle.text.proofs.most_first.Goals as goal

pub returns-in-Completed : goal.returns-in-Completed
returns-in-Completed c = (omega (arith, first_short c.args.answer (search rules) (search rules), ap most_first c.in-Completed.is), omega arith)

pub returns-in-Hung : goal.returns-in-Hung
returns-in-Hung c = (omega (arith, first_short c.args.answer (search rules) (search rules), ap most_first c.in-Hung.is), omega arith)

pub returns-in-Spent : goal.returns-in-Spent
returns-in-Spent c = (omega (arith, first_short c.args.answer (search rules) (search rules), ap most_first c.in-Spent.is), omega arith)

pub returns-then-place-lt10 : goal.returns-then-place-lt10
returns-then-place-lt10 c =
    let d = ap length (decimal_digit c.in-Refused.place c.if-place-lt10.true) in
    (omega (arith, first_short c.args.answer (search rules) (search rules), ap most_first c.in-Refused.is, d), omega arith)

pub returns-else-place-lt10 : goal.returns-else-place-lt10
returns-else-place-lt10 c =
    let k = c.in-Refused.known_told-1-own.given in
    let d = short c.in-Refused.place (search rules) in
    (omega (arith, first_short c.args.answer (search rules) (search rules), ap most_first c.in-Refused.is, d), omega arith)
