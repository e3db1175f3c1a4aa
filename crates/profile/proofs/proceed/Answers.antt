-- `profile::proceed` meets its contract. The invariant is what holds after some whole steps (proofs/Looping). Assumes nothing.
use Prim.Native.Nat.{◌/◌}
use mathlib.Core.Path.{◌≡◌, ◌∙◌}
use native.Mathlib.Omega.{arith}
use lib.ListN.{length}
use Rattle.store.proofs.Laws.{matching_places, matching_room}
use Rattle.profile.proofs.Looping.{went_joined, firings_few, begun, same_profile, advanced, halted, finished}
use Rattle.record.specs.Widths.{step_width}
use Rattle.profile.proofs.proceed.Goals as goal

pub loop-records-init : goal.loop-records-init
loop-records-init c = begun _ _ _ c.requires.0 c.requires.1 c.requires.2

pub step-ended-requires : goal.step-ended-requires
step-ended-requires c =
    (c.requires.0, c.loop-records.invariant.went.running, c.loop-records.invariant.unspent_left)

pub put_record-requires : goal.put_record-requires
put_record-requires c =
    omega (arith, same_profile _ _ _ c.requires.0 c.requires.1 c.loop-records.invariant (omega arith), c.loop-records-test.true)

pub overflow_add-firings : goal.overflow_add-firings
overflow_add-firings c =
    let w = rw c.in-Ok.is at c.step-ended.ensures in
    omega (arith, firings_few _ c.requires.0 c.requires.1 (went_joined _ _ _ _ c.loop-records.invariant.went w.went))

pub loop-records-smaller : goal.loop-records-smaller
loop-records-smaller c = omega (arith, c.loop-records-test.true)

pub loop-records-preserved : goal.loop-records-preserved
loop-records-preserved c =
    let at-step = c.step-ended in
    let w = rw c.in-Ok.is at at-step.ensures in
    advanced _ _ _ c.requires.0 c.requires.1 c.loop-records.invariant c.loop-records-test.true w c.put_record.ensures

pub overflow_add-firings-in-Err : goal.overflow_add-firings-in-Err
overflow_add-firings-in-Err c =
    let w = rw c.in-Err.is at c.step-ended.ensures in
    omega (arith, firings_few _ c.requires.0 c.requires.1 (went_joined _ _ _ _ c.loop-records.invariant.went w.went))

pub shape_of-ledger-in-Err : goal.shape_of-ledger-in-Err
shape_of-ledger-in-Err c =
    let w = rw c.in-Err.is at c.step-ended.ensures in
    w.went.size ∙ c.loop-records.invariant.went.size

pub shape_of-cells-in-Err : goal.shape_of-cells-in-Err
shape_of-cells-in-Err c =
    let w = rw c.in-Err.is at c.step-ended.ensures in
    w.went.cell_size ∙ c.loop-records.invariant.went.cell_size

pub shape_of-profile-in-Err : goal.shape_of-profile-in-Err
shape_of-profile-in-Err c =
    same_profile _ _ _ c.requires.0 c.requires.1 c.loop-records.invariant (omega arith)

pub returns-in-Err : goal.returns-in-Err
returns-in-Err c =
    let w = rw c.in-Err.is at c.step-ended.ensures in
    rw c.answered.ensures (halted _ _ _ c.requires.0 c.requires.1 c.loop-records.invariant c.loop-records-test.true w)

pub no_record-outcome-requires : goal.no_record-outcome-requires
no_record-outcome-requires c =
    let m = c.loop-records.invariant.went.running.matching in
    (matching_places m, matching_room m)

pub shape_of-ledger : goal.shape_of-ledger
shape_of-ledger c = c.loop-records.invariant.went.size

pub shape_of-cells : goal.shape_of-cells
shape_of-cells c = c.loop-records.invariant.went.cell_size

pub shape_of-profile : goal.shape_of-profile
shape_of-profile c =
    same_profile _ _ _ c.requires.0 c.requires.1 c.loop-records.invariant (omega arith)

pub returns : goal.returns
returns c =
    let all : c.loop-records.records ≡ length c.args.profile.now / step_width = omega (arith, c.loop-records-test.false) in
    rw c.answered-2.ensures (rw all at (finished _ _ _ c.requires.0 c.requires.1 c.loop-records.invariant c.loop-records-test.false _ c.no_record-outcome.ensures))
