-- `check_fields::fan_out::allowed` meets its contract. Assumes nothing.
use mathlib.Core.Path.{sym}
use borrow.Author.Tests.{le-leb, lt-leb}
use Rattle.rules.specs.Check.{fan_out_allowed}
use Rattle.check_fields.proofs.fan_out.allowed.Goals as goal

pub returns-then-least-r : goal.returns-then-least-r
unfolding fan_out_allowed
returns-then-least-r c = let d = sym c.from-operation.ensures in rw (← c.least.ensures _ d, le-leb _ _ c.if-least-r.true, c.most.ensures _ d)

pub returns-else-least-r : goal.returns-else-least-r
unfolding fan_out_allowed
returns-else-least-r c = rw (← c.least.ensures _ (sym c.from-operation.ensures), lt-leb _ _ c.if-least-r.false)
