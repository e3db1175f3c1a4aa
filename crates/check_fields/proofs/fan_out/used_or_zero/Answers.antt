-- `check_fields::fan_out::used_or_zero` meets its contract. Assumes nothing.
use borrow.Author.Tests.{eq-eqb, ne_eqb}
use Rattle.rules.specs.Check.{is_zero}
use Rattle.check_fields.proofs.fan_out.used_or_zero.Goals as goal

pub returns-then-d-eq0 : goal.returns-then-d-eq0
unfolding is_zero
returns-then-d-eq0 c = rw (c.if-used.false, eq-eqb _ _ c.if-d-eq0.true)

pub returns-else-d-eq0 : goal.returns-else-d-eq0
unfolding is_zero
returns-else-d-eq0 c = rw (c.if-used.false, ne_eqb _ _ c.if-d-eq0.false)
