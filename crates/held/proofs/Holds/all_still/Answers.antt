-- `held::Holds::all_still` meets its contract. The invariant: those that were looked at were held, and are. Assumes nothing.
use native.Mathlib.Omega.{arith}
use Rattle.held.proofs.Quiet.{all_still}
use Rattle.held.proofs.Holds.all_still.Goals as goal

pub returns : goal.returns
returns c =
    λ e.
    let a = c.args in
    all_still a.tables.now a.flags.now a.ledger.now a.self.now.nexts a.self.now.held a.self.now.marks c.loop-k.k c.loop-k.invariant
    (omega (arith, c.loop-k-test.false, c.count-n.ensures.value))
