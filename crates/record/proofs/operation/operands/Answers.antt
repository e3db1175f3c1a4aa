-- `record::operation::operands` meets its contract. Assumes nothing.
use Rattle.std.proofs.Common.{rules}
use Rattle.record.proofs.Counts.{counts, counted}
use Rattle.record.proofs.operation.operands.Goals as goal

pub returns : goal.returns
unfolding counts
returns c = counted c.args.code (search rules)
