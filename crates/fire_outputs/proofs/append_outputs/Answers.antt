-- `fire_outputs::append_outputs` meets its contract. The loop's invariant: k outputs have arrived, and the next is at hand with its slot. Assumes nothing.
use native.Mathlib.Omega.{arith}
use mathlib.Core.Path.{◌≡◌}
use Rattle.fire_outputs.proofs.Laws.{kept_same, kept_room, appending_none, appending_all, appending_next, next_low, next_open}
use Rattle.fire_outputs.proofs.append_outputs.Goals as goal

pub loop-k-init : goal.loop-k-init
loop-k-init c = appending_none (kept_same c.requires.0)

pub overflow_add-used : goal.overflow_add-used
overflow_add-used c =
    let p = c.requires in
    omega (arith, p.1, p.2, c.loop-k-test.true)

pub append_one-requires : goal.append_one-requires
append_one-requires c =
    let p = c.requires in
    let w = c.loop-k.invariant in
    let more = c.loop-k-test.true in
    (w.kept.matching, kept_room w.kept (omega (arith, p.1, more)), omega (arith, p.1, p.2, more), next_low w more p.4, p.5, next_open w more p.3 p.6)

pub loop-k-smaller : goal.loop-k-smaller
loop-k-smaller c = omega (arith, c.loop-k-test.true)

pub loop-k-preserved : goal.loop-k-preserved
loop-k-preserved c = appending_next c.loop-k.invariant c.loop-k-test.true c.requires.3 c.append_one.ensures

pub overflow_add-result : goal.overflow_add-result
overflow_add-result c =
    let p = c.requires in
    omega (arith, p.1, p.2)

pub returns : goal.returns
returns c =
    let l = c.loop-k in
    let e : l.k ≡ c.args.outputs.count = omega (arith, l.invariant.most, c.loop-k-test.false) in
    rw e at (appending_all l.invariant (λ h. omega (arith, c.loop-k-test.false)))
