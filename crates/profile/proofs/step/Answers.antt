-- `profile::step` meets its contract: the activities at the places fire in turn, joined by proofs/Stepping. Assumes nothing.
use Prim.Native.Nat.{ℕ}
use mathlib.Core.List.{List, [], ◌∷◌}
use mathlib.Core.Logic.{inl, inr}
use native.Mathlib.Omega.{arith}
use borrow.Enum.Refused.{opened}
use denote.Enum.Declared as Declared
use types.Run.{OneOf}
use Rattle.record.specs.declared.instruction.Instruction.{Instruction}
use Rattle.store.proofs.Laws.{matching_room, matching_few}
use Rattle.rules.specs.declared.answer.Outcome.{Outcome}
use Rattle.rules.specs.declared.answer.Outcome.TheVariants as Outcomes
use Rattle.rules.specs.contracts.answer.Outcome as Outcomes-laws
use Rattle.profile.specs.Steps.{AllFired, FiredAs}
use Rattle.profile.proofs.Stepping.{unspent_below, step_none, step_whole}
use Rattle.profile.proofs.step.Goals as goal

no_other : OneOf (0 ∷ 1 ∷ 2 ∷ []) 3 → ⊥
no_other (inl e) = omega arith
no_other (inr (inl e)) = omega arith
no_other (inr (inr e)) = omega arith

-- the other outcomes are no refusal
all_of : (o : Outcome) → OneOf (0 ∷ 1 ∷ 2 ∷ []) (Declared.tag_of Outcomes-laws.the_type o) → {g : List Instruction} {tables links flags ledger' cells' : List ℕ} {count n spent used : ℕ} {ledger cells : List ℕ}
    → FiredAs o g tables links flags ledger' cells' count n spent used ledger cells → AllFired g tables links flags ledger' cells' count n spent used ledger cells
all_of Outcomes.Completed h a = a
all_of Outcomes.Hung h a = a
all_of Outcomes.Spent h a = a
all_of (Outcomes.Refused r p) h a = absurd (no_other h)

pub ending-requires : goal.ending-requires
ending-requires c = matching_room c.requires.1.matching

pub returns-then-due-eq0 : goal.returns-then-due-eq0
returns-then-due-eq0 c = step_none _ c.requires.0 c.requires.1 _ c.fill.ensures.counted c.if-due-eq0.true _ c.ending.ensures

pub overflow_sub-result : goal.overflow_sub-result
overflow_sub-result c =
    let at-in-turn = c.in_turn-done in
    (all_of at-in-turn.result.outcome (opened c.in_default.in_default-own.keys2) at-in-turn.ensures).went.grown

pub overflow_add-result : goal.overflow_add-result
overflow_add-result c =
    let at-in-turn = c.in_turn-done in
    let a = all_of at-in-turn.result.outcome (opened c.in_default.in_default-own.keys2) at-in-turn.ensures in
    omega (arith, unspent_below c.requires.1 c.requires.2, matching_few c.requires.1.matching, matching_few a.went.running.matching)

pub overflow_sub-result-in_default : goal.overflow_sub-result-in_default
overflow_sub-result-in_default c =
    let at-in-turn = c.in_turn-done in
    let a = all_of at-in-turn.result.outcome (opened c.in_default.in_default-own.keys2) at-in-turn.ensures in omega (arith, a.unspent_left, c.requires.2)

pub returns-in-Refused : goal.returns-in-Refused
returns-in-Refused c = rw c.in-Refused.is (rw c.in-Refused.is at c.in_turn-done.ensures)

pub returns-in_default : goal.returns-in_default
returns-in_default c = let at-in-turn = c.in_turn-done in step_whole (all_of at-in-turn.result.outcome (opened c.in_default.in_default-own.keys2) at-in-turn.ensures) c.requires.2
