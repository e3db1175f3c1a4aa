-- `store_chains::find` meets its contract. The loop's invariant: `at` is on the chain of the tag, and the places past it have found nothing. The measure is
-- `at`, since a chain goes back. Assumes nothing.
use Prim.Native.Nat.{suc, ◌<◌}
use mathlib.Core.Path.{sym, ◌∙◌}
use native.Mathlib.Omega.{arith}
use Rattle.store_chains.proofs.Walks.{Walk, link_of}
use Rattle.store_chains.proofs.Index.{walk_start, walk_step, walk_none, walk_met}
use Rattle.store_chains.proofs.find.Goals as goal
use Rattle.store_chains.proofs.find.Goals.{After-place_at-at-in-Some}

-- the step along the chain, past one that does not stand there
stepped : (c : After-place_at-at-in-Some) → let a = c.args in
    let next = c.place_at-at-in-Some.result in
    (link_of next < suc c.in-Some.i) × Walk a.ledger.now a.used a.tag a.port (link_of next) 0
stepped c =
    let a = c.args in
    let off = rw c.read-t.ensures at (sym c.stands_at.ensures ∙ c.if-stands_at.false) in
    rw off at (walk_step a.ledger.now a.used a.tag a.port a.links.now c.requires.1 c.in-Some.i 0 _ c.place_at-at-in-Some.ensures (rw c.in-Some.is at c.loop-at.invariant))

pub loop-at-init : goal.loop-at-init
loop-at-init c =
    let a = c.args in
    walk_start a.ledger.now a.used a.tag a.port a.links.now c.requires.1 _ (rw c.bucket.ensures.0 at c.place_at-at.ensures)

pub returns-then-stands_at : goal.returns-then-stands_at
returns-then-stands_at c =
    let a = c.args in
    let w : Walk a.ledger.now a.used a.tag a.port (suc c.in-Some.i) 0 = rw c.in-Some.is at c.loop-at.invariant in
    let h : c.in-Some.i < a.used = omega (arith, w.low) in
    let there = rw c.read-t.ensures at (sym c.stands_at.ensures ∙ c.if-stands_at.true) in
    (sym (walk_met a.ledger.now a.used a.tag a.port c.requires.2 c.in-Some.i h there), h)

pub loop-at-smaller : goal.loop-at-smaller
loop-at-smaller c = rw c.in-Some.is (stepped c).0

pub loop-at-preserved : goal.loop-at-preserved
loop-at-preserved c = (stepped c).1

pub returns : goal.returns
returns c =
    let a = c.args in
    (sym (walk_none a.ledger.now a.used a.tag a.port (rw c.in_default.is at c.loop-at.invariant)), tt)
