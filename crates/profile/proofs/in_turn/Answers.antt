-- `profile::in_turn` meets its contract. The invariant is what holds after some of the activities (proofs/Stepping). Assumes nothing.
use Prim.Native.Nat.{◌≤◌}
use mathlib.Core.Path.{◌≡◌}
use native.Mathlib.Omega.{arith}
use Rattle.store.proofs.Laws.{matching_list}
use Rattle.profile.proofs.Places.{places_few}
use Rattle.profile.proofs.Stepping.{begun, next_here, fired_on, cut_here, all_done}
use Rattle.profile.proofs.in_turn.Goals as goal

pub loop-firings-init : goal.loop-firings-init
loop-firings-init c = begun _ c.requires.0 c.requires.1 c.requires.2

pub offset_bounds-due-firings : goal.offset_bounds-due-firings
offset_bounds-due-firings c =
    let few : c.args.due.now.count ≤ 2048 = omega (arith, c.requires.2.counted, places_few c.args.store.now.flags (matching_list c.requires.1.matching)) in
    omega (arith, few, c.loop-firings-test.true)

pub bounds-due-firings : goal.bounds-due-firings
bounds-due-firings c =
    let few : c.args.due.now.count ≤ 2048 = omega (arith, c.requires.2.counted, places_few c.args.store.now.flags (matching_list c.requires.1.matching)) in
    omega (arith, few, c.loop-firings-test.true)

pub operands_at-spent-requires : goal.operands_at-spent-requires
operands_at-spent-requires c = let n = next_here _ c.requires.0 c.requires.1 c.requires.2 c.loop-firings.invariant c.loop-firings-test.true in (n.standing.room, n.standing.arity)

pub overflow_add-spent : goal.overflow_add-spent
overflow_add-spent c =
    let few : c.args.due.now.count ≤ 2048 = omega (arith, c.requires.2.counted, places_few c.args.store.now.flags (matching_list c.requires.1.matching)) in
    let here = next_here _ c.requires.0 c.requires.1 c.requires.2 c.loop-firings.invariant c.loop-firings-test.true in
    omega (arith, few, c.loop-firings-test.true, c.loop-firings.invariant.few, c.operands_at-spent.ensures, here.standing.arity.1)

pub fire-fired-requires : goal.fire-fired-requires
fire-fired-requires c =
    let n = next_here _ c.requires.0 c.requires.1 c.requires.2 c.loop-firings.invariant c.loop-firings-test.true in
    (c.requires.0, c.loop-firings.invariant.under.running, n.standing.below, n.standing.leading, record { used = 0; few = omega arith; there = tt })

pub loop-firings-preserved : goal.loop-firings-preserved
loop-firings-preserved c =
    let here = next_here _ c.requires.0 c.requires.1 c.requires.2 c.loop-firings.invariant c.loop-firings-test.true in
    fired_on _ c.requires.0 c.requires.1 c.requires.2 c.loop-firings.invariant here c.operands_at-spent.ensures (rw c.in-Ok.is at c.fire-fired.ensures.stepped)

pub returns-in-Err : goal.returns-in-Err
returns-in-Err c =
    let here = next_here _ c.requires.0 c.requires.1 c.requires.2 c.loop-firings.invariant c.loop-firings-test.true in
    cut_here _ c.requires.0 c.requires.1 c.requires.2 c.loop-firings.invariant here c.requires.3 (rw c.in-Err.is at c.fire-fired.ensures.stepped)

pub returns : goal.returns
returns c =
    let all : c.loop-firings.firings ≡ c.args.due.now.count = omega (arith, c.loop-firings-test.false) in
    rw all at (all_done _ c.requires.0 c.requires.1 c.requires.2 c.loop-firings.invariant c.requires.3 (λ h. omega (arith, h, all)))
