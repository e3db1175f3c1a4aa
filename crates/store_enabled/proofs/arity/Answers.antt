-- `store_enabled::arity` meets its contract. Assumes nothing.
use Rattle.store_enabled.proofs.arity.Goals as goal

pub returns : goal.returns
returns c = rw (← c.entry_of.ensures) c.waited_for.ensures
