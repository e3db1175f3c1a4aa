-- `check_fields::arc::good` meets its contract. Assumes nothing.
use Rattle.rules.specs.Check.{good_arc}
use Rattle.check_fields.proofs.arc.good.Goals as goal

pub returns : goal.returns
unfolding good_arc
returns c = rw c.operands_at.ensures
