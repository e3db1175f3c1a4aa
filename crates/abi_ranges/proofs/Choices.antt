-- 02, R-11, proved in bytes: a range run at rest holds every plain run of inputs within its ranges (`ranges_hold`), and any two orders of a range run agree (`range_orders`).
-- Assumes nothing.
use Prim.Native.Nat.{ℕ}
use mathlib.Core.Path.{◌≡◌, sym, ap, subst, ◌∙◌}
use mathlib.Core.List.{List}
use lib.ListN.{length}
use Rattle.arithmetic.specs.Ranges.{Holds}
use Rattle.machine.specs.Orders.{Quiescent}
use Rattle.machine.specs.InStep.{RelatedToken}
use Rattle.machine.proofs.InStep.{pair_length}
use Rattle.rules.specs.declared.answer.Outcome as AnswerOutcome
use Rattle.rules.specs.Run as Plain
use Rattle.rules.specs.Run.{Ran, outcome_of, answer, ledger_after, cells_after}
use Rattle.rules.specs.Runs.{outcome_in}
use Rattle.rules.specs.Bounded.{bounded}
use Rattle.rules.specs.RangeRun.{RangeResult, refused_at_once, ran_to, range_result, range_answer, range_ledger_after, range_cells_after, RangesRan}
use Rattle.rules.specs.Ranges.{Promised, SameEnds}
use Rattle.rules.proofs.Ranges.{ranges_promise, any_two_range_orders}
use Rattle.rules.proofs.Outcomes.{outcome_back}
use Rattle.range_engine.specs.Promise.{LentToRun, LeftByRun}
use Rattle.abi_ranges.specs.Choices.{WithinRanges, RangesHold, SameRanges, RangeOrders}

rests : (X : RangeResult) (o : AnswerOutcome.Outcome) → o ≡ (range_answer X).outcome → Quiescent (outcome_in o) → Quiescent (outcome_in (range_answer X).outcome)
rests X o e q = subst Quiescent (ap outcome_in e) q

module _ (l m : LentToRun) (x y : LeftByRun) where
  within : (X : RangeResult) (Y : Plain.Result) → Promised X Y → RangesRan X x.answer l.ledger x.ledger l.cells x.cells → Ran Y y.answer m.ledger y.ledger m.cells y.cells
      → Quiescent (outcome_in (range_answer X).outcome) → WithinRanges l x m y
  unfolding range_answer range_ledger_after range_cells_after answer ledger_after cells_after
  within (refused_at_once r p) Y h a b q = absurd q
  within (ran_to d) (Plain.refused_at_once r p) h a b q = absurd h
  within (ran_to d) (Plain.ran_to e) h a b q =
      let alike = h (subst Quiescent (outcome_back d.outcome) q) in
      record {
        answer = a.answered ∙ (λ i. record { outcome = outcome_of (alike.outcome i); firings = alike.firings i; tokens = pair_length (RelatedToken Holds) alike.state.tokens i }) ∙ sym b.answered;
        ranges = d.state.tokens;
        values = e.state.tokens;
        tokens = alike.state.tokens;
        range_ledger = a.ledger_left;
        ledger = b.ledger_left;
        cell_ranges = d.state.cells;
        cell_values = e.state.cells;
        cells = alike.state.cells;
        range_cells = a.cells_left;
        plain_cells = b.cells_left;
      }

  same : (X Y : RangeResult) → SameEnds X Y → RangesRan X x.answer l.ledger x.ledger l.cells x.cells → RangesRan Y y.answer m.ledger y.ledger m.cells y.cells
      → Quiescent (outcome_in (range_answer X).outcome) → SameRanges l x m y
  unfolding range_answer range_ledger_after range_cells_after
  same (refused_at_once r p) Y h a b q = absurd q
  same (ran_to d) (refused_at_once r p) h a b q = absurd h
  same (ran_to d) (ran_to e) h a b q =
      let alike = h.alike (subst Quiescent (outcome_back d.outcome) q) in
      record {
        answer = a.answered ∙ (λ i. record { outcome = outcome_of (alike.outcome i); firings = alike.firings i; tokens = alike.count i }) ∙ sym b.answered;
        tokens = d.state.tokens;
        others = e.state.tokens;
        same = alike.tokens;
        first_ledger = a.ledger_left;
        second_ledger = b.ledger_left;
        cells = d.state.cells;
        first_cells = a.cells_left;
        second_cells = b.cells_left ∙ ap (λ cs. range_cells_after (ran_to (record { outcome = e.outcome; firings = e.firings; state = record { tokens = e.state.tokens; cells = cs } })) m.cells) (sym alike.cells);
      }

pub ranges_hold : RangesHold
ranges_hold graph arrays ranges inputs budget k l m x y c p many a b q =
    let X = range_result graph arrays ranges l.picks budget k (length l.ledger) (length l.cells) in
    let Y = bounded graph arrays inputs m.picks budget k (length m.ledger) (length m.cells) in
    let promised = ranges_promise graph arrays ranges inputs l.picks budget k (length l.ledger) (length l.cells) (length m.ledger) (length m.cells) c many in
    within l m x y X Y (subst (λ (picks : List ℕ). Promised X (bounded graph arrays inputs picks budget k (length m.ledger) (length m.cells))) p promised) a b
    (rests X x.answer.outcome (ap (λ r. r.outcome) a.answered) q)

pub range_orders : RangeOrders
range_orders graph arrays ranges budget l m x y v w sizes cells a b q =
    let X = range_result graph arrays ranges l.picks budget 0 (length l.ledger) (length l.cells) in
    let Y = range_result graph arrays ranges m.picks budget 0 (length m.ledger) (length m.cells) in
    let ends = any_two_range_orders graph arrays ranges l.picks m.picks budget (length l.ledger) (length l.cells) v w in
    same l m x y X Y
    (subst (λ (n : ℕ). SameEnds X (range_result graph arrays ranges m.picks budget 0 (length m.ledger) n)) cells
    (subst (λ (n : ℕ). SameEnds X (range_result graph arrays ranges m.picks budget 0 n (length l.cells))) sizes ends)) a b
    (rests X x.answer.outcome (ap (λ r. r.outcome) a.answered) q)
