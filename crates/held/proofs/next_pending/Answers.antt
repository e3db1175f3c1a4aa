-- `held::next_pending` meets its contract. The invariant: those before are proper. The measure is how many are left. Assumes nothing.
use mathlib.Core.Path.{sym, ap, ◌∙◌}
use Rattle.held.specs.Searching.{later_of}
use Rattle.held.proofs.Searching.{passed_over}
use Rattle.held.proofs.next_pending.Goals as goal

pub loop-at-preserved : goal.loop-at-preserved
loop-at-preserved c =
    let t = c.loop-at-test.true in
    let a = c.args in
    (passed_over a.tables.now a.ledger.now a.used a.from a.marks.now c.requires.3 c.loop-at.at c.loop-at.invariant t (sym c.proper_at.ensures ∙ c.if-not-proper_at.false) _ (c.later-at.ensures ∙ ap (later_of c.loop-at.at) c.skip.ensures)).1
