-- `held::Holds::follow` meets its contract: the new records are listed, a spent one no more, and those that are listed are looked at. Assumes nothing.
use Rattle.record.specs.GraphRecords.{graph_of}
use Rattle.held.proofs.Following.{marked_more, standing_more, standing_dropped, under_new, listed_new, clear_dropped, under_dropped, listed_dropped, listed_all}
use Rattle.held.proofs.Holds.follow.Goals as goal

pub decide-requires : goal.decide-requires
decide-requires c =
    let at-drop-spent = c.drop_spent in
    let a = c.args in
    let h = c.requires.7 in
    let new = c.list_new.ensures in
    let drop = at-drop-spent.ensures in
    let g = graph_of a.graph.now in
    let nexts = a.self.now.nexts in
    let held = a.self.now.held in
    let right = listed_dropped g a.bound a.ledger.now a.used a.n nexts held _ new a.place _ _ drop (listed_new g a.bound a.ledger.now a.used a.n nexts held _ new h.listed) in
    let clear = clear_dropped g a.bound a.ledger.now a.used a.n nexts held _ new a.place _ _ drop new.clear in
    let under = under_dropped g a.bound a.ledger.now a.used a.n nexts held _ new a.place _ _ drop (under_new g a.bound a.ledger.now a.used a.n nexts held _ new h.clear h.under) in (
      c.requires.0,
      c.requires.2,
      c.requires.3,
      c.requires.4,
      c.requires.5,
      clear,
      under,
      marked_more a.tables.now a.ledger.now a.bound a.used a.n a.self.now.marks c.requires.1 h.marked,
      listed_all g a.bound a.flags.now at-drop-spent.new.nexts a.ledger.now a.n c.requires.6 right,
      standing_dropped g a.bound a.ledger.now a.used a.n nexts held _ new a.place _ _ drop a.self.now.marks (standing_more g a.ledger.now a.bound a.used a.n held a.self.now.marks c.requires.1 h.standing),
    )

pub returns : goal.returns
returns c =
    let a = c.args in
    let h = c.requires.7 in
    let new = c.list_new.ensures in
    let drop = c.drop_spent.ensures in
    let g = graph_of a.graph.now in
    let nexts = a.self.now.nexts in
    let held = a.self.now.held in
    let right = listed_dropped g a.bound a.ledger.now a.used a.n nexts held _ new a.place _ _ drop (listed_new g a.bound a.ledger.now a.used a.n nexts held _ new h.listed) in
    let clear = clear_dropped g a.bound a.ledger.now a.used a.n nexts held _ new a.place _ _ drop new.clear in
    let d = c.decide.ensures in
    record { carried = record { clear = clear; under = d.under.0; listed = right; marked = d.under.1; standing = d.all_standing }; decided = d.held_decided }
