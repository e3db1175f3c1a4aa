-- `fire_effect::output::key_under` meets its contract. Assumes nothing.
use Rattle.fire_effect.proofs.output.key_under.Goals as goal

pub returns : goal.returns
returns c = rw c.to.ensures
