-- `held::Holds::all_still` meets its contract. The invariant: those that were looked at were held, and are. Assumes nothing.
use Rattle.held.proofs.Quiet.{StillTo}
use Rattle.held.proofs.Holds.all_still.Given as goal

abbrev pub invariant-loop-k : goal.invariant-loop-k
invariant-loop-k l = StillTo l.tables l.flags l.ledger l.self.nexts l.self.held l.self.marks l.k
