-- R-9 in bytes, proved: a run with a bound that completes, or hangs with no held activity left, ends as every order does, in every byte that demand 3 compares. Assumes nothing.
use Rattle.std.proofs.Common.{Ok, Err}
use Prim.Native.Nat.{ℕ, ◌/◌}
use mathlib.Core.Path.{◌≡◌, refl, sym, ap, subst, ◌∙◌}
use mathlib.Core.List.{List}
use native.Mathlib.Omega.{arith}
use lib.ListN.{length}
use Rattle.number.specs.Number.{Bytes}
use Rattle.record.specs.TokensAndTags.{most_tokens, capacity_of}
use Rattle.record.specs.Widths.{token_width, cell_width}
use Rattle.machine.specs.Orders.{Quiescent, Refused}
use Rattle.rules.specs.declared.answer.Answer.{Answer}
use Rattle.rules.specs.Check.{check_graph, check_stores, most_cells, Checked}
use Rattle.rules.specs.Run.{Result, Ran, result, unless_failed}
use Rattle.rules.specs.Log.{LogResult, LogRan}
use Rattle.rules.specs.Runs.{LentToRun, LeftByRun, RanOn, outcome_in}
use Rattle.rules.specs.Orders as Rules
use Rattle.rules.specs.Bounded.{and_bound, check_bounded, bounded, BoundedEndsAs, BoundedOn}
use Rattle.rules.proofs.Passed.{and_then_passed}
use Rattle.rules.proofs.Accepted.{whole_bytes, Whole, stores_whole}
use Rattle.rules.proofs.Fits.{result_fits}
use Rattle.rules.proofs.Bounded.{bound_zero, as_every_order, not_refused, bounded_fits}
use Rattle.rules.proofs.Outcomes.{outcome_said}
use Rattle.listing.specs.Demand3.{AlikeBytes}
use Rattle.listing.specs.BoundedOrders.{NoneHeldLeft, BoundedAsOrders, BoundedUnrefused, ZeroIsNone}
use Rattle.listing.proofs.Demand3.{bytes_alike}

-- a run with a bound that came to an end passed the check of its stores
bounded_stores : (graph arrays inputs picks : List ℕ) (budget k ledger cells : ℕ) → Quiescent (Rules.result_outcome (bounded graph arrays inputs picks budget k ledger cells))
    → Whole (length inputs) (length picks) ledger cells
unfolding bounded unless_failed check_bounded and_bound
bounded_stores graph arrays inputs picks budget k ledger cells rests = go (check_bounded graph arrays inputs picks k ledger cells) refl
  where
    go : (c : Checked) → check_bounded graph arrays inputs picks k ledger cells ≡ c → Whole (length inputs) (length picks) ledger cells
    go (Err fault) e = absurd (rw e at rests)
    go (Ok _) e =
        let a = (and_then_passed (check_graph graph) _ e).1 in
        let b = (and_then_passed (and_bound (check_stores (length inputs) (length picks) ledger cells) k) _ a).0 in
        stores_whole (length inputs) (length picks) ledger cells (and_then_passed (check_stores (length inputs) (length picks) ledger cells) _ b).0

module _ (graph arrays inputs : List ℕ) (graph_bytes : Bytes graph) (input_bytes : Bytes inputs) (budget k : ℕ) (l m : LentToRun) (none : NoneHeldLeft graph arrays inputs budget k l)
    (allowed : Rules.Allowed m.picks (length m.ledger) (length m.cells))
    (capacities : capacity_of (length l.ledger) ≡ capacity_of (length m.ledger)) (counts : length l.cells / cell_width ≡ length m.cells / cell_width)
    (x y : LeftByRun) (ran_x : BoundedOn graph arrays inputs budget k l x) (ranY : RanOn graph arrays inputs 2048 m y) where
  abbrev first : Result
  first = bounded graph arrays inputs l.picks budget k (length l.ledger) (length l.cells)

  abbrev second : Result
  second = result graph arrays inputs m.picks 2048 (length m.ledger) (length m.cells)

  ends : BoundedEndsAs first second
  ends = as_every_order graph arrays inputs l.picks m.picks budget k (length l.ledger) (length m.ledger) (length l.cells) (length m.cells) none allowed capacities counts

  stores : Whole (length inputs) (length l.picks) (length l.ledger) (length l.cells)
  stores = bounded_stores graph arrays inputs l.picks budget k (length l.ledger) (length l.cells) ends.rests

  outcomes : x.answer.outcome ≡ y.answer.outcome
  outcomes = ap (λ (r : Answer). r.outcome) ran_x.answered ∙ ends.outcome ∙ sym (ap (λ (r : Answer). r.outcome) ranY.answered)

  bounded_alike : AlikeBytes x y
  bounded_alike =
      let fits = bounded_fits graph arrays inputs l.picks budget k (length l.ledger) (length l.cells) graph_bytes input_bytes in
      let others = result_fits graph arrays inputs m.picks 2048 (length m.ledger) (length m.cells) graph_bytes input_bytes in
      let few = (whole_bytes token_width most_tokens (length l.ledger) stores.whole_ledger).1 in
      let also = subst Quiescent (sym (outcome_said first) ∙ ap outcome_in ends.outcome ∙ outcome_said second) ends.rests in
      bytes_alike first second ran_x ranY ends.rests also outcomes ends.alike fits.tokens (omega (arith, fits.room, few))
      ((whole_bytes cell_width most_cells (length l.cells) stores.whole_cells).0, fits.cell_count) ((whole_bytes cell_width most_cells (length m.cells) allowed.allowed_cells).0, others.cell_count)

pub bounded_as_orders : BoundedAsOrders
bounded_as_orders graph arrays inputs bg bi budget k l m none allowed c d x y rx ry = bounded_alike graph arrays inputs bg bi budget k l m none allowed c d x y rx ry

pub bounded_unrefused_lem : BoundedUnrefused
bounded_unrefused_lem graph arrays inputs budget k good l m allowed ledgers cells x y ran_x ranY rests refused =
    let first = bounded graph arrays inputs l.picks budget k (length l.ledger) (length l.cells) in
    let second = result graph arrays inputs m.picks 2048 (length m.ledger) (length m.cells) in
    let done = subst Quiescent (ap (λ (r : Answer). outcome_in r.outcome) ranY.answered ∙ outcome_said second) rests in
    not_refused graph arrays inputs l.picks m.picks budget k (length l.ledger) (length l.cells) good allowed (rw (ledgers, cells) done)
    (subst Refused (ap (λ (r : Answer). outcome_in r.outcome) ran_x.answered ∙ outcome_said first) refused)

pub zero_is_none : ZeroIsNone
zero_is_none = record {
  of_runs = λ graph arrays inputs budget l x.
      let e = bound_zero.of_run graph arrays inputs l.picks budget (length l.ledger) (length l.cells) in
      let P : Result → Type 0 = λ r. Ran r x.answer l.ledger x.ledger l.cells x.cells in
      (λ h. subst P e h, λ h. subst P (sym e) h);
  of_logged = λ graph arrays inputs l x.
      let e = bound_zero.of_logged graph arrays inputs l.picks l.budget (length l.ledger) (length l.cells) (length l.log) in
      let P : LogResult → Type 0 = λ r. LogRan r x.answer l.ledger x.ledger l.cells x.cells l.log x.log in
      (λ h. subst P e h, λ h. subst P (sym e) h);
  of_carried = λ graph arrays budget firings tokens l x.
      let e = bound_zero.of_carried graph arrays l.picks l.ledger l.cells budget firings tokens in
      let P : Result → Type 0 = λ r. Ran r x.answer l.ledger x.ledger l.cells x.cells in
      (λ h. subst P e h, λ h. subst P (sym e) h);
}
