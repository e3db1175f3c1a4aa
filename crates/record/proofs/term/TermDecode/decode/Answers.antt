-- `record::term::decode_term` meets its contract. Assumes nothing.
use Rattle.record.specs.ExpressionRecords.{decode_term}
use Rattle.record.proofs.term.TermDecode.decode.Goals as goal

pub returns : goal.returns
unfolding decode_term
returns c = rw (c.from-2.ensures, c.u32_at.ensures, c.from.ensures)
