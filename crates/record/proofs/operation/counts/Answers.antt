-- `record::operation::counts` meets its contract. Assumes nothing.
use Rattle.record.proofs.Counts.{counts, counted}
use Rattle.record.proofs.operation.counts.Goals as goal

pub returns : goal.returns
unfolding counts
returns c = counted
