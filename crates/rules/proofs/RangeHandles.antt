-- 02, R-11: a run over handles goes in step with the range run (`handle_run_lem`): what it leaves, read through its table, is
-- what the range run leaves (`handles_read`), so that a run by picks is told by handles (`by_handles`). A firing adds no more ranges than it has outputs (`steps_add_few`). Assumes nothing.
use Rattle.std.proofs.Common.{Ok}
use Prim.Native.Nat.{ℕ, suc, ◌/◌, ◌<◌, ◌≤◌, zero-le}
use mathlib.Core.Path.{◌≡◌, refl, sym, ◌∙◌}
use mathlib.Core.Bool.{Bool, true, false, cond}
use mathlib.Core.List.{List, [], ◌∷◌, ◌++◌, map, append_assoc}
use native.Mathlib.Omega.{arith}
use lib.ListN.{length, length-append}
use lib.IntN.{ℤ, pos, nat_abs}
use Rattle.std.specs.Prelude.{Option, None, Some}
use Rattle.record.specs.declared.tag.Tag.{Tag}
use Rattle.record.specs.declared.array.NamedArray.{NamedArray}
use Rattle.record.specs.declared.instruction.Instruction.{Instruction}
use Rattle.record.specs.declared.operation.Operation.{Operation}
use Rattle.record.specs.declared.operation.Operation.TheVariants as Operations
use Rattle.record.specs.Calls.{next_of, enter_of, leave_of}
use Rattle.record.specs.GraphRecords.{operation_of, graph_of}
use Rattle.buffer.specs.Rows.{all_rows}
use Rattle.record.specs.TokensAndTags.{content_of}
use Rattle.record.specs.TokensAndTags as Tokens
use Rattle.record.specs.Widths.{range_token_width}
use Rattle.arithmetic.specs.declared.Range.{Range}
use Rattle.arithmetic.specs.Ranges.{single, is_single, range_of}
use Rattle.machine.specs.Machine.{Key, live, refuse, send, read, write}
use Rattle.machine.specs.Machine.{Machine, by_picks}
use Rattle.machine.specs.Choosers.{Chooser, run_from, by_pick}
use Rattle.machine.specs.Bounded.{run_bounded}
use Rattle.machine.specs.Orders.{effect_keys}
use Rattle.machine.specs.InStep.{PlaceByPlace, no_more, pair, RelatedToken, at_key, both_live, RelatedState, RelatedEffect, both_refuse, both_send, both_read, both_write, RelatedEnds}
use Rattle.machine.specs.Handles.{StandsAt, state_by, Tabled}
use Rattle.machine.proofs.Kept.{Each}
use Rattle.machine.proofs.Choosers.{picks_choose}
use Rattle.machine.proofs.InStep.{enabled_same, ending_same}
use Rattle.machine.proofs.Handles.{stands_on, stands_new, stands_at_lem, state_read, handles_in_step, StepsRelated, SameChooser}
use Rattle.rules.specs.declared.answer.Refusal.{Refusal}
use Rattle.rules.specs.declared.answer.Refusal.TheVariants as Refusals
use Rattle.rules.specs.Check.{instruction_at, good_input, check_graph}
use Rattle.rules.specs.InstructionSet.{EffectHere, key_under, all_under, side_of, on_cell, cell_number, effect_of, effect_in, machine_of}
use Rattle.rules.specs.Held.{held_in}
use Rattle.rules.specs.RangeSet.{RangeEffect, send_range, is_undecided, send_side, on_single, range_effect_of, range_effect_in, range_machine_of}
use Rattle.rules.specs.RangeRun.{range_in, decode_range, check_range_inputs, first_ranges}
use Rattle.rules.specs.RangeHandles.{StepHere, meaning, send_new, range_step, step_in, first_table, numbered, first_handles, handle_run}
use Rattle.rules.proofs.RangeSet.{next_related, entered_related, left_related, cell_related}
use Rattle.rules.proofs.Lawful.{ForOne, kind_has_key}
use Rattle.rules.proofs.Ranges.{all_read, zero_state, good_rows, cells_related, sixth_passed, none_held}

abbrev NoRefusal : Refusal → Type 0
NoRefusal r = ⊥

-- the step over handles asks for what the effect of ranges does, and what it sends stands in the table that it leaves
abbrev Right : List Range → RangeEffect → StepHere → Type 0
Right t e s = RelatedEffect (StandsAt nat_abs (t ++ s.added)) NoRefusal e s.asked

-- ---- by operations

new_right_lem : (t : List Range) (q : Option Range) (keys : List (Key Tag)) → Right t (send_range q keys) (send_new t q keys)
unfolding send_range send_new
new_right_lem t None keys = both_refuse
new_right_lem t (Some r) keys = both_send (stands_new nat_abs t r (pos (length t)) refl)

module _ (t : List Range) where
  abbrev R : Range → ℤ → Type 0
  R = StandsAt nat_abs (t ++ [])

  kept : (x : Range) (a : ℤ) → StandsAt nat_abs t x a → R x a
  kept x a h = stands_on nat_abs t [] x a h

  meant : (x : Range) (a : ℤ) → StandsAt nat_abs t x a → meaning t a ≡ x
  meant x a h = stands_at_lem nat_abs t x (single (pos 0)) a h

  side_right : (x y : Range) (a : ℤ) (τ : Tag) (r : Instruction) → R x a
      → RelatedEffect R NoRefusal (send_side y τ r x) (cond (is_undecided y) (refuse Refusals.Undecided) (send a (key_under τ (side_of y.low r) ∷ [])))
  unfolding send_side
  side_right x y a τ r h = go (is_undecided y)
    where
      go : (b : Bool) → RelatedEffect R NoRefusal (cond b (refuse Refusals.Undecided) (send x (key_under τ (side_of y.low r) ∷ []))) (cond b (refuse Refusals.Undecided) (send a (key_under τ (side_of y.low r) ∷ [])))
      go true = both_refuse
      go false = both_send h

  single_right : (cells : ℕ) (number : ℤ → ℤ) (x : Range) (f : ℕ → RangeEffect) (d : ℕ → EffectHere) → ((c : ℕ) → RelatedEffect R NoRefusal (f c) (d c))
      → RelatedEffect R NoRefusal (on_single cells number x f) (cond (is_single x) (on_cell cells (number x.low) d) (refuse Refusals.Undecided))
  unfolding on_single
  single_right cells number x f d h = go (is_single x)
    where
      go : (b : Bool) → RelatedEffect R NoRefusal (cond b (on_cell cells (number x.low) f) (refuse Refusals.Undecided)) (cond b (on_cell cells (number x.low) d) (refuse Refusals.Undecided))
      go true = cell_related R NoRefusal cells (number x.low) f d h
      go false = both_refuse

  step_right : (o : Operation) (g : List Instruction) (table : List NamedArray) (cells : ℕ) (τ : Tag) (r : Instruction) (x y : Range) (a b : ℤ) (keys : List (Key Tag)) → StandsAt nat_abs t x a → StandsAt nat_abs t y b
      → Right t (range_effect_of o g table cells τ r x y keys) (range_step o g table cells t τ r a b keys)
  unfolding range_effect_of range_step effect_of send_range
  step_right Operations.Copy g table cells τ r x y a b keys h k = both_send (kept x a h)
  step_right Operations.Sink g table cells τ r x y a b keys h k = both_send (kept x a h)
  step_right Operations.Out g table cells τ r x y a b keys h k = both_send (kept x a h)
  step_right Operations.Const g table cells τ r x y a b keys h k = new_right_lem t (Some (single r.constant)) keys
  step_right Operations.Switch g table cells τ r x y a b keys h k = rw (meant y b k) (side_right x y a τ r (kept x a h))
  step_right Operations.Gate g table cells τ r x y a b keys h k = both_send (kept x a h)
  step_right Operations.Next g table cells τ r x y a b keys h k = next_related R NoRefusal (kept x a h) (next_of τ) r
  step_right Operations.Enter g table cells τ r x y a b keys h k = entered_related R NoRefusal (kept x a h) (enter_of τ (nat_abs r.constant)) r
  step_right Operations.Leave g table cells τ r x y a b keys h k = left_related R NoRefusal (kept x a h) g (leave_of τ) r
  step_right Operations.Fetch g table cells τ r x y a b keys h k = rw (meant x a h) (single_right cells (cell_number table r.constant) x (λ c. read c keys) (λ c. read c keys) (λ c. both_read))
  step_right Operations.Store g table cells τ r x y a b keys h k = rw (meant x a h) (single_right cells (cell_number table r.constant) x (λ c. write c y keys) (λ c. write c b keys) (λ c. both_write (kept y b k)))
  step_right (Operations.OnTwo o) g table cells τ r x y a b keys h k = rw (meant x a h, meant y b k) (new_right_lem t (range_of o x y) keys)
  step_right (Operations.OnConstant o) g table cells τ r x y a b keys h k = rw (meant x a h) (new_right_lem t (range_of o x (single r.constant)) keys)
  step_right Operations.Unknown g table cells τ r x y a b keys h k = both_send (kept x a h)

pub steps_related : (g : List Instruction) (table : List NamedArray) (capacity cells : ℕ) → StepsRelated (range_machine_of g table capacity cells) ℤ (effect_in g table cells) (pos 0) (step_in g table cells) nat_abs
unfolding range_effect_in step_in
steps_related g table capacity cells t sig τ x y a b h k =
    let r = instruction_at g τ.instruction in
    step_right t (operation_of r.code) g table cells τ r x y a b (all_under τ r) h k

-- ---- a run from inputs

-- the inputs from the row ls on, whose ranges stand in the table behind those in front
numbered_related : (g : List Instruction) (front : List Range) (n : ℕ) → n ≡ length front → (ls : List (List ℕ)) → Each (λ l. good_input g l ≡ true) ls
    → PlaceByPlace (RelatedToken (StandsAt nat_abs (front ++ map range_in ls))) (map decode_range ls) (numbered n (map decode_range ls))
unfolding decode_range Tokens.decode_token content_of
numbered_related g front n e [] h = no_more
numbered_related g front n e (l ∷ ls) h =
    let shifted : (front ++ range_in l ∷ []) ++ map range_in ls ≡ front ++ range_in l ∷ map range_in ls = append_assoc front (range_in l ∷ []) (map range_in ls) in
    let here = stands_on nat_abs (front ++ range_in l ∷ []) (map range_in ls) (range_in l) (pos n) (stands_new nat_abs front (range_in l) (pos n) e) in
    let rest = numbered_related g (front ++ range_in l ∷ []) (suc n) (omega (arith, length-append front (range_in l ∷ []))) ls h.1 in
    pair (at_key {x = (decode_range l).content} {y = live (pos n)} (rw (zero_state g l h.0) (both_live (rw shifted at here)))) (rw shifted at rest)

first_handled : (g : List Instruction) (capacity cells : ℕ) (inputs : List ℕ) → check_range_inputs g capacity inputs ≡ Ok tt
    → RelatedState (StandsAt nat_abs (first_table inputs)) (first_ranges inputs cells) (first_handles inputs cells)
unfolding first_table first_ranges first_handles
first_handled g capacity cells inputs e = record {
  tokens = rw (all_read range_token_width decode_range inputs, all_read range_token_width range_in inputs)
      (numbered_related g (single (pos 0) ∷ []) 1 refl (all_rows range_token_width (λ b. b) inputs) (good_rows g (length inputs / range_token_width) 0 inputs (sixth_passed g capacity inputs e)));
  cells = cells_related (StandsAt nat_abs (first_table inputs)) cells;
}

-- the range run of accepted inputs by any chooser, told by handles and the table
module _ (g : List Instruction) (table : List NamedArray) (capacity cells : ℕ) (c : Chooser (range_machine_of g table capacity cells)) (d : Chooser (machine_of g table capacity cells))
    (same : SameChooser (range_machine_of g table capacity cells) ℤ (effect_in g table cells) (pos 0) (step_in g table cells) nat_abs c d) (budget : ℕ) (inputs : List ℕ)
    (passed : check_range_inputs g capacity inputs ≡ Ok tt) where
  abbrev x : Tabled Refusal Tag Range ℤ
  x = handle_run g table capacity cells d budget inputs

  pub handle_run_lem : RelatedEnds (StandsAt nat_abs x.table) (run_from (range_machine_of g table capacity cells) c budget 0 (first_ranges inputs cells)) x.ended
  unfolding handle_run first_table
  handle_run_lem =
      handles_in_step (range_machine_of g table capacity cells) ℤ (effect_in g table cells) (pos 0) (step_in g table cells) nat_abs (steps_related g table capacity cells) c d same
      (first_table inputs) (record { below = omega arith; there = refl }) (first_ranges inputs cells) (first_handles inputs cells) (first_handled g capacity cells inputs passed) budget 0

  -- so what a range run leaves is what the run over handles leaves, read through its table
  pub handles_read : (run_from (range_machine_of g table capacity cells) c budget 0 (first_ranges inputs cells)).state ≡ state_by (meaning x.table) x.ended.state
  handles_read = state_read (StandsAt nat_abs x.table) (meaning x.table) (λ r h k. sym (stands_at_lem nat_abs x.table r (single (pos 0)) h k)) handle_run_lem.state

-- ---- by picks

module _ (g : List Instruction) (table : List NamedArray) (capacity cells : ℕ) (picks : List ℕ) where
  abbrev M : Machine
  M = range_machine_of g table capacity cells

  abbrev N : Machine
  N = machine_of g table capacity cells

  -- the same is enabled, and so the same is chosen
  picks_same : SameChooser M ℤ (effect_in g table cells) (pos 0) (step_in g table cells) nat_abs (by_pick M (by_picks M) picks) (by_pick N (by_picks N) picks)
  picks_same t f s u h = rw (enabled_same M ℤ (effect_in g table cells) (pos 0) (StandsAt nat_abs t) s u h, ending_same M ℤ (effect_in g table cells) (pos 0) (StandsAt nat_abs t) s u h)

  -- the end of a range run without a bound, read through the table of the run over handles
  pub by_handles : (budget : ℕ) (inputs : List ℕ) → check_range_inputs g capacity inputs ≡ Ok tt
      → let x = handle_run g table capacity cells (by_pick N (by_picks N) picks) budget inputs in
      run_bounded M (held_in g 0) (by_picks M) budget picks 0 (first_ranges inputs cells)
      ≡ record { outcome = x.ended.outcome; firings = x.ended.firings; state = state_by (meaning x.table) x.ended.state }
  by_handles budget inputs e =
      let alike = handle_run_lem g table capacity cells (by_pick M (by_picks M) picks) (by_pick N (by_picks N) picks) picks_same budget inputs e in
      let state = handles_read g table capacity cells (by_pick M (by_picks M) picks) (by_pick N (by_picks N) picks) picks_same budget inputs e in
      none_held g table capacity cells budget picks (first_ranges inputs cells)
      ∙ (picks_choose M (by_picks M) picks budget (first_ranges inputs cells)).0
      ∙ (λ i. record { outcome = alike.outcome i; firings = alike.firings i; state = state i })

-- ---- the table's length

-- a new range comes from CONST and the arithmetic
abbrev adds : Operation → Bool
adds Operations.Copy = false
adds Operations.Sink = false
adds Operations.Out = false
adds Operations.Const = true
adds Operations.Switch = false
adds Operations.Gate = false
adds Operations.Next = false
adds Operations.Enter = false
adds Operations.Leave = false
adds Operations.Fetch = false
adds Operations.Store = false
adds (Operations.OnTwo o) = true
adds (Operations.OnConstant o) = true
adds Operations.Unknown = false

adders_for_one : ForOne adds
adders_for_one = record {
  rows = (refl, (refl, (refl, (refl, (refl, (refl, (refl, (refl, (refl, (refl, (refl, (refl, (refl, (refl, (refl, (refl, (refl, (refl, (refl, (refl, (refl, (refl, (refl, (refl, (refl, (refl, (refl, tt)))))))))))))))))))))))))));
  unknown = refl;
}

-- no more ranges than outputs
abbrev Few : StepHere → Type 0
Few s = length s.added ≤ length (effect_keys (machine_of [] [] 0 0) s.asked)

new_few : (t : List Range) (q : Option Range) (keys : List (Key Tag)) → 0 < length keys → Few (send_new t q keys)
unfolding send_new
new_few t None keys h = zero-le
new_few t (Some r) keys h = h

few_of : (o : Operation) (g : List Instruction) (table : List NamedArray) (cells : ℕ) (t : List Range) (τ : Tag) (r : Instruction) (a b : ℤ) (keys : List (Key Tag)) → (adds o ≡ true → 0 < length keys) → Few (range_step o g table cells t τ r a b keys)
unfolding range_step
few_of Operations.Copy g table cells t τ r a b keys h = zero-le
few_of Operations.Sink g table cells t τ r a b keys h = zero-le
few_of Operations.Out g table cells t τ r a b keys h = zero-le
few_of Operations.Const g table cells t τ r a b keys h = new_few t (Some (single r.constant)) keys (h refl)
few_of Operations.Switch g table cells t τ r a b keys h = zero-le
few_of Operations.Gate g table cells t τ r a b keys h = zero-le
few_of Operations.Next g table cells t τ r a b keys h = zero-le
few_of Operations.Enter g table cells t τ r a b keys h = zero-le
few_of Operations.Leave g table cells t τ r a b keys h = zero-le
few_of Operations.Fetch g table cells t τ r a b keys h = zero-le
few_of Operations.Store g table cells t τ r a b keys h = zero-le
few_of (Operations.OnTwo o) g table cells t τ r a b keys h = new_few t (range_of o (meaning t a) (meaning t b)) keys (h refl)
few_of (Operations.OnConstant o) g table cells t τ r a b keys h = new_few t (range_of o (meaning t a) (single r.constant)) keys (h refl)
few_of Operations.Unknown g table cells t τ r a b keys h = zero-le

-- so the table, which starts with one range more than there are inputs, is never longer than the tokens and one; a firing that is refused may add one more
pub steps_add_few : (graph : List ℕ) → check_graph graph ≡ Ok tt → (table : List NamedArray) (cells : ℕ) (t : List Range) (τ : Tag) (a b : ℤ)
    → length (step_in (graph_of graph) table cells t τ a b).added ≤ length (effect_keys (machine_of [] [] 0 0) (step_in (graph_of graph) table cells t τ a b).asked)
unfolding step_in
steps_add_few graph passed table cells t τ a b =
    let r = instruction_at (graph_of graph) τ.instruction in
    few_of (operation_of r.code) (graph_of graph) table cells t τ r a b (all_under τ r) (kind_has_key graph passed adds adders_for_one τ.instruction τ)
