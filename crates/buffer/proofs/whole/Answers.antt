-- `buffer::whole` meets its contract. Assumes nothing.
use borrow.Author.Tests.{eq-eqb, ne_eqb}
use Rattle.buffer.proofs.whole.Goals as goal

pub returns-then-len-width-eq0 : goal.returns-then-len-width-eq0
returns-then-len-width-eq0 c = rw (eq-eqb _ _ c.if-len-width-eq0.true)

pub returns-else-len-width-eq0 : goal.returns-else-len-width-eq0
returns-else-len-width-eq0 c = rw (ne_eqb _ _ c.if-len-width-eq0.false)
