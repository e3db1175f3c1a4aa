-- `engine::turns::follow` meets its contract. Assumes nothing.
use Rattle.engine.proofs.Bounding.{followed_whole, kept_whole}
use Rattle.engine.proofs.turns.follow.Goals as goal

pub calm-requires : goal.calm-requires
calm-requires c =
    let f = c.requires in
    (f.arities, f.grown, f.room.0, f.room.1, f.bound.0, f.bound.1, f.unspent, f.carried)

pub follow-requires : goal.follow-requires
follow-requires c =
    let f = followed_whole c.args.graph.now c.args.ledger.now c.requires in
    (f.arities, f.grown, f.room.0, f.room.1, f.bound.0, f.bound.1, f.unspent, f.carried)

pub returns-then-not-calm : goal.returns-then-not-calm
returns-then-not-calm c = record { bound = c.requires.bound; kept = kept_whole c.args.graph.now c.args.ledger.now c.follow.ensures }

pub returns-else-not-calm : goal.returns-else-not-calm
returns-else-not-calm c = record { bound = c.requires.bound; kept = c.calm.ensures (c.if-not-calm.false) }
