-- `profile::accepted` meets its contract: it begins as `start` says, proceeds, and what it leaves is said of the buffers as lent. Assumes nothing.
use lib.ListN.{length}
use Rattle.profile.proofs.Accepting.{accepted_by, all_live_lem, as_profile}
use Rattle.profile.proofs.accepted.Goals as goal

pub begin-used-requires : goal.begin-used-requires
begin-used-requires c =
    let a = c.args in
    (accepted_by a.graph.now a.arrays.now a.inputs.now (length a.ledger.now) (length a.cells.now) (length a.profile.now) c.requires, c.new-store.ensures.0, c.new-store.ensures.1)

pub proceed-requires : goal.proceed-requires
proceed-requires c =
    let a = c.args in
    let begun = c.begin-used.ensures in
    (begun.prepared, begun.running, all_live_lem a.graph.now a.arrays.now a.inputs.now a.ledger.now a.cells.now (length a.profile.now) c.requires begun)

pub returns : goal.returns
returns c =
    let a = c.args in
    as_profile a.graph.now a.arrays.now a.inputs.now a.ledger.now a.cells.now (length a.profile.now) c.requires c.begin-used.ensures _ _ _ _ _ c.proceed.ensures
