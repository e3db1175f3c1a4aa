-- What a run over handles tells of the range run of every state for which its own stands: without a bound (`told_plain`) and with one (`told_bounded`). Assumes nothing.
use Prim.Native.Nat.{ℕ, ◌+◌}
use mathlib.Core.Path.{◌≡◌, sym, ap, ◌∙◌, fun_ext}
use mathlib.Core.List.{List}
use lib.IntN.{ℤ, pos, nat_abs}
use Rattle.record.specs.declared.array.NamedArray.{NamedArray}
use Rattle.record.specs.declared.tag.Tag.{Tag}
use Rattle.record.specs.declared.instruction.Instruction.{Instruction}
use Rattle.arithmetic.specs.declared.Range.{Range}
use Rattle.arithmetic.specs.Ranges.{single}
use Rattle.machine.specs.Machine.{Machine, State, End, by_picks, ending, on_list}
use Rattle.machine.specs.Bounded.{free_of, by_free, settled, run_bounded}
use Rattle.machine.specs.Choosers.{Chooser, run_from, by_pick}
use Rattle.machine.specs.InStep.{RelatedState, RelatedEnds}
use Rattle.machine.specs.Handles.{StandsAt, state_by, Tabled, run_on}
use Rattle.machine.proofs.Choosers.{picks_choose}
use Rattle.machine.proofs.InStep.{enabled_same, ending_same}
use Rattle.machine.proofs.Handles.{stands_at_lem, state_read, handles_in_step, SameChooser}
use Rattle.rules.specs.declared.answer.Refusal.{Refusal}
use Rattle.rules.specs.InstructionSet.{effect_in, machine_of}
use Rattle.rules.specs.Held.{held_in}
use Rattle.rules.specs.RangeSet.{range_machine_of}
use Rattle.rules.specs.RangeHandles.{meaning, step_in}
use Rattle.rules.proofs.Ranges.{none_held}
use Rattle.rules.proofs.RangeSet.{held_same}
use Rattle.rules.proofs.RangeHandles.{steps_related}
use Rattle.range_engine.specs.Over.{StandsFor}

module _ (g : List Instruction) (named : List NamedArray) (capacity n : ℕ) (picks : List ℕ) where
  abbrev M : Machine
  M = range_machine_of g named capacity n

  abbrev N : Machine
  N = machine_of g named capacity n

  abbrev Same : Chooser (range_machine_of g named capacity n) → Chooser (machine_of g named capacity n) → Type 0
  Same c d = SameChooser (range_machine_of g named capacity n) ℤ (effect_in g named n) (pos 0) (step_in g named n) nat_abs c d

  -- the same is enabled, held back and chosen
  picks_same : Same (by_pick M (by_picks M) picks) (by_pick N (by_picks N) picks)
  picks_same t f s u h = rw (enabled_same M ℤ (effect_in g named n) (pos 0) (StandsAt nat_abs t) s u h, ending_same M ℤ (effect_in g named n) (pos 0) (StandsAt nat_abs t) s u h)

  module _ (k : ℕ) where
    free_same_lem : (t : List Range) (s : State Tag Range) (u : State Tag ℤ) → RelatedState (StandsAt nat_abs t) s u → free_of M (held_in g k) s ≡ free_of N (held_in g k) u
    free_same_lem t s u h = rw (fun_ext (held_same (StandsAt nat_abs t) g k s u h), enabled_same M ℤ (effect_in g named n) (pos 0) (StandsAt nat_abs t) s u h)

    held_chosen : Same (by_free M (held_in g k) (by_picks M) picks) (by_free N (held_in g k) (by_picks N) picks)
    held_chosen t f s u h = rw (free_same_lem t s u h, ending_same M ℤ (effect_in g named n) (pos 0) (StandsAt nat_abs t) s u h)

  module _ (t : List Range) (s : State Tag Range) (u : State Tag ℤ) (h : StandsFor t s u) (budget : ℕ) where
    abbrev over : Chooser (machine_of g named capacity n) → Tabled Refusal Tag Range ℤ
    over d = run_on (range_machine_of g named capacity n) ℤ (effect_in g named n) (pos 0) (step_in g named n) d budget 0 t u

    alike : (c : Chooser M) (d : Chooser N) → Same c d → RelatedEnds (StandsAt nat_abs (over d).table) (run_from M c budget 0 s) (over d).ended
    alike c d same = handles_in_step M ℤ (effect_in g named n) (pos 0) (step_in g named n) nat_abs (steps_related g named capacity n) c d same t h.zero s u h.state budget 0

    read : (c : Chooser M) (d : Chooser N) → Same c d → (run_from M c budget 0 s).state ≡ state_by (meaning (over d).table) (over d).ended.state
    read c d same = state_read (StandsAt nat_abs (over d).table) (meaning (over d).table) (λ r a k. sym (stands_at_lem nat_abs (over d).table r (single (pos 0)) a k)) (alike c d same).state

    -- the end over ranges of an end over handles, by its table
    abbrev pub meant : Tabled Refusal Tag Range ℤ → End Refusal Tag Range
    meant x = record { outcome = x.ended.outcome; firings = x.ended.firings; state = state_by (meaning x.table) x.ended.state }

    pub told_plain : (d : Chooser (machine_of g named capacity n)) → d ≡ by_pick (machine_of g named capacity n) (by_picks (machine_of g named capacity n)) picks
        → run_bounded (range_machine_of g named capacity n) (held_in g 0) (by_picks (range_machine_of g named capacity n)) budget picks 0 s ≡ meant (over d)
    told_plain d e =
        let c = by_pick M (by_picks M) picks in
        let b = by_pick N (by_picks N) picks in
        none_held g named capacity n budget picks s
        ∙ (picks_choose M (by_picks M) picks budget s).0
        ∙ (λ i. record { outcome = (alike c b picks_same).outcome i; firings = (alike c b picks_same).firings i; state = read c b picks_same i })
        ∙ ap (λ (x : Chooser N). meant (over x)) (sym e)

    pub told_bounded : (k : ℕ) → run_bounded (range_machine_of g named capacity n) (held_in g k) (by_picks (range_machine_of g named capacity n)) budget picks 0 s
        ≡ (let x = over (by_free (machine_of g named capacity n) (held_in g k) (by_picks (machine_of g named capacity n)) picks) in
        meant (record { table = x.table; ended = settled (machine_of g named capacity n) (held_in g k) 0 x.ended }))
    told_bounded k =
        let c = by_free M (held_in g k) (by_picks M) picks in
        let d = by_free N (held_in g k) (by_picks N) picks in
        let a = alike c d (held_chosen k) in
        let w = (over d).table in
        let e = run_from M c budget 0 s in
        let free : free_of M (held_in g k) e.state ≡ free_of N (held_in g k) (over d).ended.state = free_same_lem k w e.state (over d).ended.state a.state in
        let rests : ending M e.state ≡ ending N (over d).ended.state = ending_same M ℤ (effect_in g named n) (pos 0) (StandsAt nat_abs w) e.state (over d).ended.state a.state in
        λ i. record { outcome = on_list (free i) (rests i) (λ b more. a.outcome i); firings = 0 + a.firings i; state = read c d (held_chosen k) i }
