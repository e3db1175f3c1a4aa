-- R-1: how many steps a profile has (`no_more_steps_lem`), and where it is refused by 18: only with all its records written (`where_full`), and never with 2,048 of
-- them (`never_full`). Assumes nothing.
use Rattle.std.proofs.Common.{Ok, Err}
use Prim.Native.Nat.{ℕ, ◌/◌, ◌≤◌, ◌<◌}
use mathlib.Core.Path.{◌≡◌, refl, sym, ap, ◌∙◌}
use mathlib.Core.List.{List}
use native.Mathlib.Omega.{arith}
use lib.ListN.{length}
use lib.IntN.{ℤ}
use Rattle.record.specs.declared.tag.Tag.{Tag}
use Rattle.record.specs.declared.array.NamedArray.{NamedArray}
use Rattle.record.specs.GraphRecords.{graph_of}
use Rattle.record.specs.Arrays.{arrays_of}
use Rattle.record.specs.TokensAndTags.{most_tokens, capacity_of}
use Rattle.record.specs.Widths.{token_width, cell_width, step_width}
use Rattle.machine.specs.Machine.{Machine, State, Outcome, completed, hung, budget_spent, refused}
use Rattle.machine.specs.Orders.{Quiescent}
use Rattle.machine.specs.Steps.{Profile, firings_in, profile}
use Rattle.machine.proofs.Ending.{ending_rests}
use Rattle.machine.proofs.Sequences.{shorter, no_longer}
use Rattle.machine.proofs.Steps.{every_profile, no_more_than_firings, ProfileStopped, Profiled, none_left_lem, full, one_refused}
use Rattle.rules.specs.Check.{Checked, fault_at}
use Rattle.rules.specs.declared.answer.Refusal.{Refusal}
use Rattle.rules.specs.declared.answer.Refusal.TheVariants.{ProfileFull}
use Rattle.rules.specs.declared.answer.Outcome as AnswerOutcome
use Rattle.rules.specs.declared.answer.Outcome.TheVariants as Outcomes
use Rattle.rules.specs.Answer.{number_of, word_of, place_in}
use Rattle.rules.specs.InstructionSet.{machine_of}
use Rattle.rules.specs.Run.{first_state, outcome_of, answer}
use Rattle.rules.specs.Profile.{check_profile, profile_unless_failed, profiled, NoMoreSteps, Full, WhereFull, NeverFull}
use Rattle.rules.proofs.Accepted.{whole_bytes, Accepted, law, good}
use Rattle.rules.proofs.Profile.{wholes}
use Rattle.rules.proofs.Refusals.{Common, profile_early, firing_early}

-- 18 and place, in an answer's outcome
full_word : (o : AnswerOutcome.Outcome) (place : ℕ) → o ≡ Outcomes.Refused ProfileFull place → (word_of o ≡ 18) × (place_in o ≡ place)
full_word o place e = (ap word_of e, ap place_in e)

-- ---- from inputs that passed

module _ (graph inputs : List ℕ) (table : List NamedArray) (capacity cells : ℕ) (few : capacity ≤ most_tokens) (a : Accepted graph inputs capacity) (left : ℕ) where
  abbrev M : Machine
  M = machine_of (graph_of graph) table capacity cells

  abbrev s : State Tag ℤ
  s = first_state inputs cells

  abbrev p : Profile Refusal Tag ℤ
  p = profile M ProfileFull left 0 s

  steps : Profiled M ProfileFull s left 0 p
  steps = every_profile M (law graph inputs table capacity cells a) ProfileFull s (good graph inputs table capacity cells a) left 0

  counts : (length p.records ≤ p.ended.firings) × (p.ended.firings ≤ most_tokens)
  counts =
      let l = no_longer M (law graph inputs table capacity cells a) s (good graph inputs table capacity cells a) steps.log p.ended.state steps.logged.fires in
      let n = no_more_than_firings M (law graph inputs table capacity cells a) ProfileFull s left 0 p steps in
      (omega (arith, n, steps.logged.firings), omega (arith, steps.logged.firings, l.0, l.1))

  -- where it is refused by 18
  record Stopped (place : ℕ) : Type 0 where
    at_none : place ≡ 0
    written : length p.records ≡ left
    firings : p.ended.firings ≡ firings_in p.records
    goes_on : length steps.log < capacity

  rests_not : (o : Outcome Refusal) → Quiescent o → ¬ (word_of (outcome_of o) ≡ 18)
  rests_not completed q h = omega arith
  rests_not hung q h = omega arith
  rests_not budget_spent q h = absurd q
  rests_not (refused r n) q h = absurd q

  stopped : (place : ℕ) → outcome_of p.ended.outcome ≡ Outcomes.Refused ProfileFull place → Stopped place
  stopped place h = go steps.stopped
    where
      go : ProfileStopped M ProfileFull left (length p.records) steps.cut p.ended.state p.ended.outcome → Stopped place
      go (none_left_lem q c e) = absurd (rests_not p.ended.outcome (rw e (ending_rests M p.ended.state)) (full_word _ place h).0)
      go (full q b m c e) = record {
        at_none = sym (full_word _ place h).1 ∙ ap (λ (o : Outcome Refusal). place_in (outcome_of o)) e;
        written = q;
        firings = omega (arith, steps.logged.firings, steps.counted, c);
        goes_on = shorter M (law graph inputs table capacity cells a) s (good graph inputs table capacity cells a) steps.log p.ended.state steps.logged.fires b m;
      }
      go (one_refused b m r f e) =
          let z : number_of r ≡ 18 = sym (ap (λ (o : Outcome Refusal). word_of (outcome_of o)) e) ∙ (full_word _ place h).0 in
          absurd (omega (arith, z, firing_early (graph_of graph) table capacity cells p.ended.state b.tag r f))

  not_full : (place : ℕ) → most_tokens ≤ left → ¬ (outcome_of p.ended.outcome ≡ Outcomes.Refused ProfileFull place)
  not_full place h e =
      let z = stopped place e in
      omega (arith, z.written, z.goes_on, no_more_than_firings M (law graph inputs table capacity cells a) ProfileFull s left 0 p steps)

-- ---- over bytes

-- no check gives 18
checked_not : (graph arrays inputs : List ℕ) (ledger cells lent place : ℕ) (r : Refusal) (n : ℕ) → check_profile graph arrays inputs ledger cells lent ≡ Err (fault_at r n) → ¬ (Outcomes.Refused r n ≡ Outcomes.Refused ProfileFull place)
checked_not graph arrays inputs ledger cells lent place r n e h =
    let z : number_of r ≡ 18 = (full_word _ place h).0 in
    let common : Common r = rw e at (profile_early graph arrays inputs ledger cells lent) in
    common.not_full_lem z

module _ (graph arrays inputs : List ℕ) (ledger cells lent : ℕ) where
  few_records : (e : check_profile graph arrays inputs ledger cells lent ≡ Ok tt) → capacity_of ledger ≤ most_tokens
  few_records e = (whole_bytes token_width most_tokens ledger (wholes graph arrays inputs ledger cells lent e).0.whole_ledger).1

pub no_more_steps_lem : NoMoreSteps
unfolding profiled profile_unless_failed answer
no_more_steps_lem graph arrays inputs ledger cells lent = go (check_profile graph arrays inputs ledger cells lent) refl
  where
    go : (c : Checked) → check_profile graph arrays inputs ledger cells lent ≡ c
        → (length (profiled graph arrays inputs ledger cells lent).records ≤ (answer (profiled graph arrays inputs ledger cells lent).result).firings) × ((answer (profiled graph arrays inputs ledger cells lent).result).firings ≤ most_tokens)
    go (Err fault) e = rw e (omega arith, omega arith)
    go (Ok _) e = rw e (counts graph inputs (arrays_of arrays) (capacity_of ledger) (cells / cell_width) (few_records graph arrays inputs ledger cells lent e) (wholes graph arrays inputs ledger cells lent e).1.1 (lent / step_width))

pub where_full : WhereFull
unfolding profiled profile_unless_failed answer
where_full graph arrays inputs ledger cells lent place = go (check_profile graph arrays inputs ledger cells lent) refl
  where
    go : (c : Checked) → check_profile graph arrays inputs ledger cells lent ≡ c → (answer (profiled graph arrays inputs ledger cells lent).result).outcome ≡ Outcomes.Refused ProfileFull place
        → Full (profiled graph arrays inputs ledger cells lent) place lent
    go (Err fault) e h = absurd (checked_not graph arrays inputs ledger cells lent place fault.refusal fault.place e (rw e at h))
    go (Ok _) e h =
        let z = stopped graph inputs (arrays_of arrays) (capacity_of ledger) (cells / cell_width) (few_records graph arrays inputs ledger cells lent e) (wholes graph arrays inputs ledger cells lent e).1.1 (lent / step_width) place (rw e at h) in
        rw e (record { at_none = z.at_none; written = z.written; firings = z.firings })

pub never_full : NeverFull
unfolding profiled profile_unless_failed answer
never_full graph arrays inputs ledger cells lent place enough = go (check_profile graph arrays inputs ledger cells lent) refl
  where
    go : (c : Checked) → check_profile graph arrays inputs ledger cells lent ≡ c → ¬ ((answer (profiled graph arrays inputs ledger cells lent).result).outcome ≡ Outcomes.Refused ProfileFull place)
    go (Err fault) e h = checked_not graph arrays inputs ledger cells lent place fault.refusal fault.place e (rw e at h)
    go (Ok _) e h =
        not_full graph inputs (arrays_of arrays) (capacity_of ledger) (cells / cell_width) (few_records graph arrays inputs ledger cells lent e) (wholes graph arrays inputs ledger cells lent e).1.1 (lent / step_width) place (omega arith) (rw e at h)
