-- The step of the rules over handles is the operation and then the new tags, with the control's low value (`step_parted`). What it asks for names cells below the
-- count, sends to ports that a token can come to, and reads for some (`asked_fine`). Assumes nothing.
use Rattle.std.proofs.Common.{Ok}
use Prim.Native.Nat.{ℕ, suc, ◌≤◌}
use mathlib.Core.Path.{◌≡◌, refl, sym, ap, subst}
use mathlib.Core.Bool.{Bool, true, false, not, cond}
use mathlib.Core.List.{List, [], ◌∷◌, map, append-nil}
use native.Mathlib.Decide.{dec_le}
use native.Mathlib.Omega.{arith}
use borrow.Author.Tests.{ltb-true}
use lib.ListN.{length, get_or-eq_default}
use lib.IntN.{ℤ}
use Rattle.std.specs.Prelude.{Option, None, Some, Result}
use Rattle.record.specs.declared.array.NamedArray.{NamedArray}
use Rattle.record.specs.declared.tag.Tag.{Tag}
use Rattle.record.specs.declared.instruction.Destination.{Destination}
use Rattle.record.specs.declared.instruction.Instruction.{Instruction}
use Rattle.record.specs.declared.operation.Operation.{Operation}
use Rattle.record.specs.declared.operation.Operation.TheVariants as Operations
use Rattle.buffer.specs.Rows.{All}
use Rattle.record.specs.GraphRecords.{operation_of, graph_of, destinations}
use Rattle.record.specs.GraphRecords as Graph
use Rattle.arithmetic.specs.declared.Range.{Range}
use Rattle.arithmetic.specs.Ranges.{single, is_single, range_of}
use Rattle.machine.specs.Machine.{refuse}
use Rattle.machine.specs.Orders.{CellsBelow, ReadsForSome}
use Rattle.rules.specs.declared.answer.Refusal.TheVariants as Refusals
use Rattle.rules.specs.Check.{all, good_arc, instruction_at, check_graph}
use Rattle.rules.specs.InstructionSet.{EffectHere, key_under, all_under, effect_of, effect_in}
use Rattle.rules.specs.RangeSet.{is_undecided}
use Rattle.rules.specs.RangeHandles.{StepHere, meaning, send_new, range_step, step_in}
use Rattle.rules.proofs.Passed.{both}
use Rattle.rules.proofs.PassedGraph.{of_graph}
use Rattle.rules.proofs.Lawful.{lawful}
use Rattle.rules.specs.declared.answer.Refusal.{Refusal}
use Rattle.fire_effect.specs.declared.operate.Action.{Action}
use Rattle.fire_effect.specs.Effects.{Arrives, AllSent, operated_of, new_tags_of, then_tags}
use Rattle.fire_effect.proofs.Arrives.{all_arrive}
use Rattle.fire_effect.proofs.Parted.{parted}
use Rattle.range_effect.specs.Asked.{Ask, as_is_ask, only_if, new_ask, ask_of, AsksFor}

-- ---- what the code's answer asks for

-- nothing is added
pub asks_as_is : (x : Result Action Refusal) (table : List Range) → AsksFor x (as_is_ask x) table table
asks_as_is x table = record { operated = refl; held = sym (append-nil table) }

-- ---- in two

abbrev joined : Ask → (ℤ → EffectHere) → StepHere
joined x f = record { added = x.added; asked = then_tags x.operated f }

only_parted : (b : Bool) (e : EffectHere) (x : Result Action Refusal) (f : ℤ → EffectHere) → e ≡ then_tags x f → cond b e (refuse Refusals.Undecided) ≡ then_tags (only_if b x) f
only_parted true e x f h = h
only_parted false e x f h = refl

unless_parted : (b : Bool) (e : EffectHere) (x : Result Action Refusal) (f : ℤ → EffectHere) → e ≡ then_tags x f → cond b (refuse Refusals.Undecided) e ≡ then_tags (only_if (not b) x) f
unless_parted true e x f h = refl
unless_parted false e x f h = h

as_is_lem : (e : EffectHere) (d : EffectHere) → e ≡ d → ◌≡◌ {A = StepHere} (record { added = []; asked = e }) (record { added = []; asked = d })
as_is_lem e d h = ap (λ (x : EffectHere). record { added = []; asked = x }) h

pub step_parted : (o : Operation) (g : List Instruction) (table : List NamedArray) (cells : ℕ) (t : List Range) (τ : Tag) (r : Instruction) (a b : ℤ)
    → range_step o g table cells t τ r a b (all_under τ r) ≡ joined (ask_of o table r.constant cells t a b) (new_tags_of o g τ r (meaning t b).low)
unfolding range_step ask_of send_new effect_of operated_of new_tags_of
step_parted Operations.Copy g table cells t τ r a b = refl
step_parted Operations.Sink g table cells t τ r a b = refl
step_parted Operations.Out g table cells t τ r a b = refl
step_parted Operations.Const g table cells t τ r a b = refl
step_parted Operations.Switch g table cells t τ r a b = as_is_lem _ _ (unless_parted (is_undecided (meaning t b)) _ _ _ refl)
step_parted Operations.Gate g table cells t τ r a b = refl
step_parted Operations.Next g table cells t τ r a b = refl
step_parted Operations.Enter g table cells t τ r a b = refl
step_parted Operations.Leave g table cells t τ r a b = refl
step_parted Operations.Fetch g table cells t τ r a b = as_is_lem _ _ (only_parted (is_single (meaning t a)) _ _ _ (parted Operations.Fetch g table cells τ r (meaning t a).low b))
step_parted Operations.Store g table cells t τ r a b = as_is_lem _ _ (only_parted (is_single (meaning t a)) _ _ _ (parted Operations.Store g table cells τ r (meaning t a).low b))
step_parted (Operations.OnTwo o) g table cells t τ r a b = go (range_of o (meaning t a) (meaning t b))
  where
    go : (q : Option Range) → send_new t q (all_under τ r) ≡ joined (new_ask t q) (new_tags_of (Operations.OnTwo o) g τ r (meaning t b).low)
    go (Some x) = refl
    go None = refl
step_parted (Operations.OnConstant o) g table cells t τ r a b = go (range_of o (meaning t a) (single r.constant))
  where
    go : (q : Option Range) → send_new t q (all_under τ r) ≡ joined (new_ask t q) (new_tags_of (Operations.OnConstant o) g τ r (meaning t b).low)
    go (Some x) = refl
    go None = refl
step_parted Operations.Unknown g table cells t τ r a b = refl

-- ---- what holds of what it asks for

pub record Fine (g : List Instruction) (cells : ℕ) (e : EffectHere) : Type 0 where
  pub cells_below : CellsBelow cells e
  pub arrives : AllSent (Arrives g) e
  pub reads_for_some : ReadsForSome e

refused_fine : (g : List Instruction) (cells : ℕ) {r : _} → Fine g cells (refuse r)
refused_fine g cells = record { cells_below = tt; arrives = tt; reads_for_some = tt }

arcs : (g : List Instruction) (τ : Tag) (ds : List Destination) → all (good_arc g) ds ≡ true → All (Arrives g) (map (key_under τ) ds)
unfolding good_arc
arcs g τ [] e = tt
arcs g τ (d ∷ ds) e = let p = both (good_arc g d) (all (good_arc g) ds) e in (ltb-true _ _ p.0, arcs g τ ds p.1)

module _ (graph : List ℕ) (passed : check_graph graph ≡ Ok tt) (table : List NamedArray) (cells : ℕ) (τ : Tag) where
  abbrev g : List Instruction
  g = graph_of graph

  abbrev r : Instruction
  r = instruction_at g τ.instruction

  -- past the graph stands an instruction without a destination
  keys_arrive : All (Arrives g) (all_under τ r)
  unfolding instruction_at Graph.decode_instruction
  keys_arrive = go (dec_le (suc τ.instruction) (length g))
    where
      go : Dec (suc τ.instruction ≤ length g) → All (Arrives g) (all_under τ (instruction_at g τ.instruction))
      go (yes h) = arcs g τ (destinations (instruction_at g τ.instruction)) (of_graph graph passed τ.instruction h).arcs
      go (no n) = rw (get_or-eq_default g (Graph.decode_instruction []) {n = τ.instruction} (omega arith)) tt

  plain_fine : (o : Operation) → operation_of r.code ≡ o → (a b : ℤ) → Fine g cells (effect_of o g table cells τ r a b (all_under τ r))
  unfolding effect_in
  plain_fine o e a b =
      let law = lawful graph passed table 0 cells in
      subst (λ (p : Operation). Fine g cells (effect_of p g table cells τ r a b (all_under τ r))) e
      (record { cells_below = law.cells_below τ a b; arrives = all_arrive graph passed table cells τ a b; reads_for_some = law.reads_for_some τ a b })

  new_fine : (t : List Range) (q : Option Range) → Fine g cells (send_new t q (all_under τ r)).asked
  unfolding send_new
  new_fine t (Some x) = record { cells_below = tt; arrives = keys_arrive; reads_for_some = tt }
  new_fine t None = refused_fine g cells

  only_fine : (b : Bool) (e : EffectHere) → Fine g cells e → Fine g cells (cond b e (refuse Refusals.Undecided))
  only_fine true e f = f
  only_fine false e f = refused_fine g cells

  unless_fine : (b : Bool) (e : EffectHere) → Fine g cells e → Fine g cells (cond b (refuse Refusals.Undecided) e)
  unless_fine true e f = refused_fine g cells
  unless_fine false e f = f

  step_fine : (o : Operation) → operation_of r.code ≡ o → (t : List Range) (a b : ℤ) → Fine g cells (range_step o g table cells t τ r a b (all_under τ r)).asked
  unfolding range_step
  step_fine Operations.Copy e t a b = plain_fine Operations.Copy e a b
  step_fine Operations.Sink e t a b = plain_fine Operations.Sink e a b
  step_fine Operations.Out e t a b = plain_fine Operations.Out e a b
  step_fine Operations.Const e t a b = new_fine t (Some (single r.constant))
  step_fine Operations.Switch e t a b = unless_fine (is_undecided (meaning t b)) _ (plain_fine Operations.Switch e a (meaning t b).low)
  step_fine Operations.Gate e t a b = plain_fine Operations.Gate e a b
  step_fine Operations.Next e t a b = plain_fine Operations.Next e a b
  step_fine Operations.Enter e t a b = plain_fine Operations.Enter e a b
  step_fine Operations.Leave e t a b = plain_fine Operations.Leave e a b
  step_fine Operations.Fetch e t a b = only_fine (is_single (meaning t a)) _ (plain_fine Operations.Fetch e (meaning t a).low b)
  step_fine Operations.Store e t a b = only_fine (is_single (meaning t a)) _ (plain_fine Operations.Store e (meaning t a).low b)
  step_fine (Operations.OnTwo o) e t a b = new_fine t (range_of o (meaning t a) (meaning t b))
  step_fine (Operations.OnConstant o) e t a b = new_fine t (range_of o (meaning t a) (single r.constant))
  step_fine Operations.Unknown e t a b = plain_fine Operations.Unknown e a b

  pub asked_fine : (t : List Range) (a b : ℤ) → Fine g cells (step_in g table cells t τ a b).asked
  unfolding step_in
  asked_fine t a b = step_fine (operation_of r.code) refl t a b
