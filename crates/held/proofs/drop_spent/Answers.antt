-- `held::drop_spent` meets its contract. Assumes nothing.
use Rattle.held.specs.Deciding.{spent_there}
use Rattle.held.proofs.Laws.{spent_state}
use Rattle.held.proofs.drop_spent.Goals as goal

pub returns : goal.returns
returns c =
    let a = c.args in
    let one = spent_state a.ledger.now a.place c.if-ledger-place-ne1.false in
    spent_there one c.put.ensures.held_after c.put-2.ensures.held_after
