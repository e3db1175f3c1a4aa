-- `record::tag::Tag::enter` meets its contract. Assumes nothing.
use Rattle.std.proofs.Common.{rules, le-ltb, lt-ltb}
use Rattle.record.specs.Calls.{enter_within}
use Rattle.record.proofs.Paths.{entered_words, shallow, deep}
use Rattle.record.proofs.tag.Tag.enter.Goals as goal

pub returns-then-high-lt-DEEPEST : goal.returns-then-high-lt-DEEPEST
unfolding enter_within
returns-then-high-lt-DEEPEST c =
    let a = c.args in
    let path = a.self.path in
    rw (lt-ltb _ _ (shallow path (search rules) c.if-high-lt-DEEPEST.true), entered_words path a.site a.self.iteration (search rules) (search rules))

pub returns-else-high-lt-DEEPEST : goal.returns-else-high-lt-DEEPEST
unfolding enter_within
returns-else-high-lt-DEEPEST c = rw (le-ltb _ _ (deep c.args.self.path c.if-high-lt-DEEPEST.false))
