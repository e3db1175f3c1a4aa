-- `store::any_deferred` meets its contract: the chain of a cell is empty where no token is deferred on it. Assumes nothing.
use mathlib.Core.Path.{ap, ◌∙◌}
use Rattle.std.specs.Prelude.{is_some}
use Rattle.store_chains.proofs.Deferred.{any_on_lem}
use Rattle.store.proofs.Laws.{matching_deferred}
use Rattle.store.proofs.any_deferred.Goals as goal

pub returns : goal.returns
returns c tables flags ledger used m =
    c.is_some.ensures ∙ ap is_some c.place_at.ensures ∙ any_on_lem c.args.cell c.args.links.now _ (matching_deferred m) c.requires
