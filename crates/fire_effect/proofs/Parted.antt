-- An effect of the rules is the operation and then the new tags, as Memo 205-1 has them, and what follows for the code that does one after the other.
-- Assumes nothing.
use Rattle.std.proofs.Common.{Ok}
use Prim.Native.Nat.{ℕ, ◌/◌, ◌<◌}
use mathlib.Core.Path.{◌≡◌, refl, sym, ap, ◌∙◌}
use mathlib.Core.Bool.{Bool, true, false, cond}
use mathlib.Core.List.{List}
use lib.ListN.{length}
use lib.Dec.{ltb}
use lib.IntN.{ℤ, pos, negsuc}
use Rattle.std.specs.Prelude.{Option, None, Some, Result, Ok, Err}
use Rattle.record.specs.declared.array.NamedArray.{NamedArray}
use Rattle.record.specs.declared.tag.Tag.{Tag}
use Rattle.record.specs.declared.instruction.Instruction.{Instruction}
use Rattle.record.specs.declared.operation.Operation.{Operation}
use Rattle.record.specs.declared.operation.Operation.TheVariants as Operations
use Rattle.record.specs.GraphRecords.{graph_of, instruction_in, operation_of}
use Rattle.record.specs.Widths.{graph_width}
use Rattle.arithmetic.specs.Arithmetic.{compute_of}
use Rattle.machine.specs.Machine as Machine
use Rattle.machine.specs.Machine.{refuse, send}
use Rattle.rules.specs.declared.answer.Refusal.{Refusal}
use Rattle.rules.specs.declared.answer.Refusal.TheVariants as Refusals
use Rattle.rules.specs.Check.{check_graph}
use Rattle.rules.specs.InstructionSet.{EffectHere, all_under, send_computed, on_cell, cell_number, effect_of, effect_in}
use Rattle.fire_effect.specs.declared.output.Outputs.{Outputs}
use Rattle.fire_effect.specs.declared.operate.Action.{Action}
use Rattle.fire_effect.specs.declared.operate.Action.TheVariants.{Send, Read, Write}
use Rattle.fire_effect.specs.Effects.{output_keys, action_held, named_of, on_named, on_computed, operated_of, Makes, new_tags_of, then_tags, Effected}
use Rattle.fire_effect.proofs.Passed.{in_bytes}
use Rattle.fire_effect.proofs.Arrives.{cells_below_lem, all_arrive}

-- ---- the rules

-- a request to the cell that an operand names
cell_parted : (cells : ℕ) (a : ℤ) (request : ℕ → Action) (f : ℤ → EffectHere) (x : ℕ → EffectHere) → ((c : ℕ) → x c ≡ then_tags (Ok (request c)) f)
    → on_cell cells a x ≡ then_tags (on_named (named_of cells a) request) f
unfolding on_cell
cell_parted cells (pos c) request f x e = go (ltb c cells)
  where
    go : (t : Bool) → cond t (x c) (refuse Refusals.NoSuchCell) ≡ then_tags (on_named (cond t (Some c) None) request) f
    go true = e c
    go false = refl
cell_parted cells (negsuc c) request f x e = refl

computed_parted : (c : Option ℤ) (keys : List (Machine.Key Tag)) → send_computed c keys ≡ then_tags (on_computed c) (λ v. send v keys)
unfolding send_computed
computed_parted (Some v) keys = refl
computed_parted None keys = refl

pub parted : (o : Operation) (g : List Instruction) (table : List NamedArray) (cells : ℕ) (τ : Tag) (r : Instruction) (a b : ℤ)
    → effect_of o g table cells τ r a b (all_under τ r) ≡ then_tags (operated_of o table r.constant cells a b) (new_tags_of o g τ r b)
unfolding effect_of operated_of new_tags_of
parted Operations.Copy g table cells τ r a b = refl
parted Operations.Sink g table cells τ r a b = refl
parted Operations.Out g table cells τ r a b = refl
parted Operations.Const g table cells τ r a b = refl
parted Operations.Switch g table cells τ r a b = refl
parted Operations.Gate g table cells τ r a b = refl
parted Operations.Next g table cells τ r a b = refl
parted Operations.Enter g table cells τ r a b = refl
parted Operations.Leave g table cells τ r a b = refl
parted Operations.Fetch g table cells τ r a b = cell_parted cells (cell_number table r.constant a) (λ c. Read c) (λ v. send v (all_under τ r)) _ (λ c. refl)
parted Operations.Store g table cells τ r a b = cell_parted cells (cell_number table r.constant a) (λ c. Write c b) (λ v. send v (all_under τ r)) _ (λ c. refl)
parted (Operations.OnTwo o) g table cells τ r a b = computed_parted (compute_of o a b) (all_under τ r)
parted (Operations.OnConstant o) g table cells τ r a b = computed_parted (compute_of o a r.constant) (all_under τ r)
parted Operations.Unknown g table cells τ r a b = refl

-- ---- the code

-- an action with the new tags that were made for it
abbrev done : Action → Result Outputs Refusal → EffectHere
done x (Err q) = refuse q
done x (Ok o) = action_held x (output_keys o)

then_done : (x : Action) (m : Result Outputs Refusal) (f : ℤ → EffectHere) → Makes m f → then_tags (Ok x) f ≡ done x m
then_done (Send v) (Err q) f d = sym (d.held v)
then_done (Send v) (Ok o) f d = sym (d.held v)
then_done (Read c) (Err q) f d = rw (← d.held (pos 0))
then_done (Read c) (Ok o) f d = rw (← d.held (pos 0))
then_done (Write c v) (Err q) f d = rw (← d.held (pos 0))
then_done (Write c v) (Ok o) f d = rw (← d.held (pos 0))

-- an effect that is an operation and then new tags, whoever operates: its refusal by either, and else what the action and the outputs ask for
module _ (y : Result Action Refusal) (f : ℤ → EffectHere) {e : EffectHere} (parts : e ≡ then_tags y f) where
  pub first_refused : {q : Refusal} → y ≡ Err q → e ≡ refuse q
  first_refused h = parts ∙ ap (λ (z : Result Action Refusal). then_tags z f) h

  module _ {x : Action} (operated : y ≡ Ok x) {m : Result Outputs Refusal} (made : Makes m f) where
    both_done : e ≡ done x m
    both_done = parts ∙ ap (λ (z : Result Action Refusal). then_tags z f) operated ∙ then_done x m f made

    pub second_refused : {q : Refusal} → m ≡ Err q → e ≡ refuse q
    second_refused h = both_done ∙ ap (done x) h

    pub both_held : {s : Outputs} → m ≡ Ok s → action_held x (output_keys s) ≡ e
    both_held h = sym (both_done ∙ ap (done x) h)

-- the instruction r of a tag's instruction number, and its operation o
module _ (graph : List ℕ) (table : List NamedArray) (cells : ℕ) (τ : Tag) (inside : τ.instruction < length graph / graph_width) (a b : ℤ) (r : Instruction) (o : Operation)
    (fetched : r ≡ instruction_in graph τ.instruction) (decoded : o ≡ operation_of r.code) where
  in_turn_lem : effect_in (graph_of graph) table cells τ a b ≡ then_tags (operated_of o table r.constant cells a b) (new_tags_of o (graph_of graph) τ r b)
  unfolding effect_in
  in_turn_lem = rw (in_bytes graph τ.instruction inside, ← fetched, ← decoded) (parted o (graph_of graph) table cells τ r a b)

  pub operation_refused : {q : Refusal} → operated_of o table r.constant cells a b ≡ Err q → effect_in (graph_of graph) table cells τ a b ≡ refuse q
  operation_refused e = first_refused _ _ in_turn_lem e

  module _ {x : Action} (operated : operated_of o table r.constant cells a b ≡ Ok x) {m : Result Outputs Refusal} (made : Makes m (new_tags_of o (graph_of graph) τ r b)) where
    pub tags_refused : {q : Refusal} → m ≡ Err q → effect_in (graph_of graph) table cells τ a b ≡ refuse q
    tags_refused e = second_refused _ _ in_turn_lem operated made e

    pub effected : check_graph graph ≡ Ok tt → {s : Outputs} → m ≡ Ok s → Effected (graph_of graph) table cells τ a b x s
    effected passed {s} e =
        let held : action_held x (output_keys s) ≡ effect_in (graph_of graph) table cells τ a b = both_held _ _ in_turn_lem operated made e in
        record {
          held = held;
          counted = rw e at made.counted;
          cells_below = rw held (cells_below_lem graph passed _ _ _ _ _);
          arrives = rw held (all_arrive graph passed _ _ _ _ _);
        }
