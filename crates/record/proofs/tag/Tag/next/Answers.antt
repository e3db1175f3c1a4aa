-- `record::tag::Tag::next` meets its contract. Assumes nothing.
use Rattle.std.proofs.Common.{le-ltb, lt-ltb}
use Rattle.record.specs.Calls.{next_of}
use Rattle.record.proofs.tag.Tag.next.Goals as goal

pub returns-then-iteration-lt255 : goal.returns-then-iteration-lt255
unfolding next_of
returns-then-iteration-lt255 c = rw (lt-ltb _ _ c.if-iteration-lt255.true)

pub returns-else-iteration-lt255 : goal.returns-else-iteration-lt255
unfolding next_of
returns-else-iteration-lt255 c = rw (le-ltb _ _ c.if-iteration-lt255.false)
