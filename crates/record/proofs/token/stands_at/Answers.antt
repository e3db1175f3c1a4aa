-- `record::token::stands_at` meets its contract. Assumes nothing.
use Rattle.std.proofs.Common.{◌∙◌, ne_eqb, eq-eqb}
use Rattle.record.specs.TokensAndTags.{stands_at}
use Rattle.record.proofs.Equality.{equal_tags}
use Rattle.record.proofs.token.stands_at.Goals as goal

pub returns-then-t-port : goal.returns-then-t-port
unfolding stands_at
returns-then-t-port c = rw (eq-eqb _ _ c.if-t-port.true) (c.eq.ensures ∙ equal_tags _ _)

pub returns-else-t-port : goal.returns-else-t-port
unfolding stands_at
returns-else-t-port c = rw (ne_eqb _ _ c.if-t-port.false)
