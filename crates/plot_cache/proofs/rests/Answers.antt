-- `plot_cache::rests` meets its contract. Assumes nothing.
use borrow.Author.Rules.{rules}
use Rattle.plot_cache.specs.Serves.{rests}
use Rattle.plot_cache.proofs.rests.Goals as goal

pub returns-in-Hung : goal.returns-in-Hung
unfolding rests
returns-in-Hung c = rw c.in-Hung.is
