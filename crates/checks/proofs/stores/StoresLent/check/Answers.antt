-- `checks::stores::Stores::check` meets its contract. Assumes nothing.
use Rattle.rules.specs.Check.{check_stores}
use Rattle.checks.proofs.stores.StoresLent.check.Goals as goal

pub returns-then-all_whole : goal.returns-then-all_whole
unfolding check_stores
returns-then-all_whole c = rw (← c.all_whole.ensures, c.if-all_whole.true)

pub returns-else-all_whole : goal.returns-else-all_whole
unfolding check_stores
returns-else-all_whole c = rw (c.at.ensures, ← c.all_whole.ensures, c.if-all_whole.false)
