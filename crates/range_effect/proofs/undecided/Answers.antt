-- `range_effect::undecided` meets its contract. Assumes nothing.
use Rattle.rules.specs.RangeSet.{is_undecided}
use Rattle.range_effect.proofs.undecided.Goals as goal

pub returns-then-may_be_zero : goal.returns-then-may_be_zero
unfolding is_undecided
returns-then-may_be_zero c = rw (c.is_single.ensures, ← c.may_be_zero.ensures, c.if-may_be_zero.true)

pub returns-else-may_be_zero : goal.returns-else-may_be_zero
unfolding is_undecided
returns-else-may_be_zero c = rw (← c.may_be_zero.ensures, c.if-may_be_zero.false)
