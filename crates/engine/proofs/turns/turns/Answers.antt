-- `engine::turns::turns` meets its contract. The invariant is what holds after some firings (proofs/Looping), what is known of the held activities (proofs/Bounding), and that
-- what is kept fits. Assumes nothing.
use mathlib.Core.Path.{◌≡◌, refl, sym, ◌∙◌, subst}
use native.Mathlib.Omega.{arith}
use Rattle.store.proofs.Laws.{matching_places, matching_room}
use Rattle.engine.proofs.Looping.{asked_below_by, begun, noted_none, kept_after, advanced, noted_on, halted, halted_kept, noted_halted, finished, finished_kept, noted_finished}
use Rattle.engine.proofs.Bounding.{back_of, beside_of, fired_on, none_kept, halted_on}
use Rattle.engine.proofs.turns.turns.Goals as goal
use Rattle.engine.proofs.turns.turns.Goals.{Start, in-Free, in_default}

pub loop-firings-init : goal.loop-firings-init
loop-firings-init g c = (begun _ _ _ _ _ _ _ _ _ _ _ c.requires.1, noted_none _ _ _ _ _ _ _ _ _ _ _ _, c.requires.2, refl, c.requires.3)

pub take_turn-turned-requires : goal.take_turn-turned-requires
take_turn-turned-requires g c =
    let l = c.loop-firings in
    let o = c.args.order in
    rw l.invariant.3 (
      c.requires.0,
      l.invariant.0.under.running,
      beside_of c.args.graph.now c.requires.0 l.invariant.0.under.running o l.holds.nexts l.holds.held l.holds.marks l.invariant.2,
      back_of c.args.graph.now c.requires.0 l.invariant.0.under.running o l.holds.nexts l.holds.held l.holds.marks l.invariant.2,
      l.invariant.4,
    )

pub follow-requires : goal.follow-requires
follow-requires g c =
    let l = c.loop-firings in
    let a = rw c.in-Ok.is at c.take_turn-turned.ensures.turned in
    fired_on c.args.graph.now c.requires.0 l.invariant.0.under.running (asked_below_by (g.O.Operate.asks l.by) (g.met.O.Operate.sound l.by) c.args.graph.now c.requires.0.passed c.args.tables.now l.ledger l.cells l.used _) a.went _ l.holds.nexts l.holds.held l.holds.marks (rw (sym l.invariant.3 ∙ c.in-Free.is) at l.invariant.2)

pub note-requires : goal.note-requires
note-requires g c =
    let a = rw c.in-Ok.is at c.take_turn-turned.ensures.turned in
    omega (arith, a.below, matching_room a.went.running.matching)

pub loop-firings-smaller : goal.loop-firings-smaller
loop-firings-smaller g c = omega (arith, c.loop-firings-test.true)

pub loop-firings-preserved : goal.loop-firings-preserved
loop-firings-preserved g c =
    let l = c.loop-firings.invariant in
    let h = c.loop-firings-test.true in
    let t = rw l.3 at c.take_turn-turned.ensures in
    let a = rw c.in-Ok.is at t.turned in (
      advanced _ _ _ _ _ _ _ _ _ _ _ l.0 h a t.kept,
      noted_on _ _ _ _ _ _ _ _ _ _ _ l.0 h a t.kept l.1 _ c.note.ensures,
      elim c.match-order.branch [
        | in-Free w ↦ rw (sym l.3 ∙ w.in-Free.is, w.holds-is) w.follow.ensures
        | in_default w ↦ none_kept c.args.order (λ k e. w.in_default.not-Free k (l.3 ∙ e)) _ _ _ _ _ _ _ _
      ],
      elim c.match-order.branch [ in-Free w ↦ w.order-is ∙ sym w.in-Free.is ∙ l.3 | in_default w ↦ w.order-is ∙ l.3 ],
      subst (λ y. g.O.Operate.fits y c.in-Ok.fired.used) (sym (kept_after _ _ _ _ _ _ _ _ _ _ _ l.0 h a t.kept))
          (g.met.O.Operate.fits_after c.loop-firings.by c.args.graph.now c.requires.0.passed _ _ _ _ _ _ _ _ _ _ _ _ l.0.under.running a.went l.4),
    )

pub returns-in-Err : goal.returns-in-Err
returns-in-Err g c =
    let k = c.loop-firings in
    let l = k.invariant in
    let h = c.loop-firings-test.true in
    let t = rw l.3 at c.take_turn-turned.ensures in
    let a = rw c.in-Err.is at t.turned in record {
      proceeded = rw c.answered.ensures (halted _ _ _ _ _ _ _ _ _ _ _ l.0 h a);
      log_after = noted_halted _ _ _ _ _ _ _ _ _ _ _ l.0 h a l.1;
      kept = halted_kept _ _ _ _ _ _ _ _ _ _ _ l.0 h a t.kept;
      bounding = rw c.answered.ensures (halted_on c.args.graph.now c.requires.0 l.0.under.running c.args.order k.holds.nexts k.holds.held k.holds.marks a.running a.same_ledger l.2);
    }

pub rest-outcome-requires : goal.rest-outcome-requires
rest-outcome-requires g c = let m = c.loop-firings.invariant.0.under.running.matching in (matching_places m, matching_room m)

pub returns : goal.returns
returns g c =
    let l = c.loop-firings.invariant in
    let h = c.loop-firings-test.false in
    let right = c.requires.0.arities_right in
    let all : c.loop-firings.firings ≡ c.args.going.budget = omega (arith, h) in record {
      proceeded = rw c.answered-2.ensures (rw all at (finished _ _ _ _ _ _ _ _ _ _ _ l.0 h right _ c.rest-outcome.ensures));
      log_after = noted_finished _ _ _ _ _ _ _ _ _ _ _ l.0 h l.1;
      kept = finished_kept _ _ _ _ _ _ _ _ _ _ _ l.0 h;
      bounding = rw c.answered-2.ensures l.2;
    }
