-- `engine::choice::choose` meets its contract. Assumes nothing.
use mathlib.Core.List.{[]}
use Rattle.engine.proofs.choice.choose.Goals as goal

pub oldest-requires : goal.oldest-requires
oldest-requires c = record { links = c.args.store.now.links; matching = c.requires.0 }

pub by_pick-requires : goal.by_pick-requires
by_pick-requires c = record { links = c.args.store.now.links; matching = c.requires.0 }

pub by_record-requires : goal.by_record-requires
by_record-requires c = c.requires.0

pub by_free-requires : goal.by_free-requires
by_free-requires c =
    (record { links = c.args.store.now.links; matching = c.requires.0 }, rw (c.unwrap.ensures) at (rw c.in-Free.is at c.requires.1))

pub returns-in-Oldest : goal.returns-in-Oldest
returns-in-Oldest c = rw c.in-Oldest.is (c.oldest.ensures [] [])

pub returns-in-Picks : goal.returns-in-Picks
returns-in-Picks c = rw c.in-Picks.is (c.by_pick.ensures [] [])

pub returns-in-Log : goal.returns-in-Log
returns-in-Log c = rw c.in-Log.is (c.by_record.ensures [] [])

pub returns-in-Free : goal.returns-in-Free
returns-in-Free c = rw (c.in-Free.is, c.unwrap.ensures) (c.by_free.ensures c.in-Free.field-0)
