-- `engine::turns::hold_first` meets its contract. Assumes nothing.
use Rattle.engine.proofs.Bounding.{followed_whole, kept_whole}
use Rattle.engine.proofs.turns.hold_first.Goals as goal

pub follow-requires : goal.follow-requires
follow-requires c =
    let f = followed_whole c.args.graph.now c.args.ledger.now c.requires in
    (f.arities, f.grown, f.room.0, f.room.1, f.bound.0, f.bound.1, f.unspent, f.carried)

pub returns : goal.returns
returns c = record { bound = c.requires.bound; kept = kept_whole c.args.graph.now c.args.ledger.now c.follow.ensures }
