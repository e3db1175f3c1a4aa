-- `store::enter` meets its contract. Assumes nothing.
use Rattle.store.proofs.Laws.{matching_stored}
use Rattle.store.proofs.Changes.{arrived}
use Rattle.store.proofs.enter.Goals as goal

pub enter-requires : goal.enter-requires
enter-requires c = let p = c.requires in (matching_stored p.0, p.1, p.2, p.3, p.4, p.5)

pub returns : goal.returns
returns c =
    let a = c.args in
    let p = c.enter in
    arrived a.tables.now a.store.now.links a.store.now.flags a.ledger.now a.used a.t c.requires.4 c.requires.0
    p.new.store.links p.new.store.flags a.ledger.now p.ensures.ledger_value p.ensures.stored p.ensures.waiting
