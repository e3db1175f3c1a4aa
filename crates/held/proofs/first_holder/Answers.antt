-- `held::first_holder` meets its contract. The invariant: none of those before holds back, and the marks are right. The measure is how many are left. Assumes nothing.
use mathlib.Core.Path.{sym, ◌∙◌}
use Rattle.held.proofs.Searching.{skipped_on, none_holds, this_holds, passes_on}
use Rattle.held.proofs.first_holder.Goals as goal

pub returns-then-pending-used : goal.returns-then-pending-used
returns-then-pending-used c =
    let a = c.args in
    let l = c.loop-at in
    let low = c.loop-at-test.true in
    let found = c.next_pending-pending in record { holder_from = none_holds a.tables.now a.ledger.now a.used a.path a.bound a.m a.from l.at l.invariant.0 found.result found.ensures c.if-pending-used.true; skipped = skipped_on a.tables.now a.ledger.now a.used a.marks.now l.marks l.invariant.1 c.requires.1 l.at found.result low found.ensures _ c.set_skip.ensures.marks_after c.set_skip.ensures.size }

pub returns-then-old_at : goal.returns-then-old_at
returns-then-old_at c =
    let a = c.args in
    let l = c.loop-at in
    let low = c.loop-at-test.true in
    let found = c.next_pending-pending in record { holder_from = this_holds a.tables.now a.ledger.now a.used a.path a.bound a.m a.from l.at l.invariant.0 found.result found.ensures c.if-pending-used.false (sym c.old_at.ensures ∙ c.if-old_at.true); skipped = skipped_on a.tables.now a.ledger.now a.used a.marks.now l.marks l.invariant.1 c.requires.1 l.at found.result low found.ensures _ c.set_skip.ensures.marks_after c.set_skip.ensures.size }

pub loop-at-preserved : goal.loop-at-preserved
loop-at-preserved c =
    let a = c.args in
    let l = c.loop-at in
    let low = c.loop-at-test.true in
    let found = c.next_pending-pending in
    (passes_on a.tables.now a.ledger.now a.used a.path a.bound a.m a.from l.at l.invariant.0 found.result found.ensures c.if-pending-used.false (sym c.old_at.ensures ∙ c.if-old_at.false), skipped_on a.tables.now a.ledger.now a.used a.marks.now l.marks l.invariant.1 c.requires.1 l.at found.result low found.ensures _ c.set_skip.ensures.marks_after c.set_skip.ensures.size)
