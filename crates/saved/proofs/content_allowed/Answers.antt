-- `saved::content_allowed` meets its contract. Assumes nothing.
use Rattle.saved.specs.Passes.{content_allowed}
use Rattle.saved.proofs.content_allowed.Goals as goal

pub returns-in-Live : goal.returns-in-Live
unfolding content_allowed
returns-in-Live c = rw c.in-Live.is

pub returns-in-Spent : goal.returns-in-Spent
unfolding content_allowed
returns-in-Spent c = rw (c.in-Spent.is, c.arity.ensures)

pub returns-in-Deferred : goal.returns-in-Deferred
unfolding content_allowed
returns-in-Deferred c = rw c.in-Deferred.is
