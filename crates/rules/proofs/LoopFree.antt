-- What an instruction sends, where it is no NEXT, ENTER or LEAVE: a token to each destination in use, and a SWITCH one token to one of them. So a firing that is
-- not refused has the outputs that 02, R-3 counts (`outputs_counted`). Assumes nothing.
use Prim.Native.Nat.{ℕ, zero, suc, ◌≤◌}
use mathlib.Core.Path.{◌≡◌, refl, sym, ap, ◌∙◌}
use mathlib.Core.Bool.{Bool, true, false, cond}
use mathlib.Core.List.{List, [], map}
use native.Mathlib.Omega.{arith}
use borrow.Author.Tests.{eqb-true, le-leb}
use lib.ListN.{length, length-map}
use lib.Dec.{eqb, ltb}
use lib.IntN.{ℤ, pos, negsuc}
use Rattle.std.specs.Prelude.{Option, None, Some}
use Rattle.record.specs.declared.tag.Tag.{Tag}
use Rattle.record.specs.declared.array.NamedArray.{NamedArray}
use Rattle.record.specs.declared.instruction.Destination.{Destination}
use Rattle.record.specs.declared.instruction.Instruction.{Instruction}
use Rattle.record.specs.declared.operation.Operation.{Operation}
use Rattle.record.specs.declared.operation.Operation.TheVariants as Operations
use Rattle.record.specs.GraphRecords.{in_use, destinations, row_of, operation_of}
use Rattle.arithmetic.specs.Arithmetic.{compute_of}
use Rattle.machine.specs.Machine.{Key, refuse, read, write, Machine}
use Rattle.machine.specs.Orders.{effect_keys}
use Rattle.machine.proofs.View.{false_true}
use Rattle.machine.proofs.Fired.{Done}
use Rattle.rules.specs.declared.answer.Refusal.TheVariants as Refusals
use Rattle.rules.specs.InstructionSet.{EffectHere, key_under, all_under, send_computed, on_cell, cell_number, effect_of, machine_of}
use Rattle.rules.specs.Needs.{outputs_needed, loop_free}
use Rattle.rules.proofs.PassedGraph.{Good, coded, most_fan_out_lem}

none_in_use : (n : ℕ) (d e : Destination) → n ≤ 0 → in_use n d e ≡ []
none_in_use zero d e h = refl
none_in_use (suc n) d e h = absurd (omega arith)

pub no_loop : (r : Instruction) → loop_free r ≡ true → (n : ℕ) → eqb r.code n ≡ true → 7 ≤ n → n ≤ 9 → ⊥
unfolding loop_free
no_loop r free n e least most = false_true (sym (rw (eqb-true r.code n e, le-leb 7 n least, le-leb n 9 most)) ∙ free)

-- an operation whose fan-out is none has no destination in use
pub no_destinations : {g : List Instruction} {i : ℕ} {r : Instruction} → Good g i r → eqb (row_of r.code).most_fan_out 0 ≡ true → destinations r ≡ []
no_destinations {r = r} good e = none_in_use r.fanout r.first r.second (omega (arith, most_fan_out_lem good, eqb-true (row_of r.code).most_fan_out 0 e))

-- SWITCH is code 5
pub not_switch : (n : ℕ) → eqb n 5 ≡ false → ¬ (operation_of n ≡ Operations.Switch)
not_switch n e s = false_true (sym e ∙ coded n s)

five_switches : (n : ℕ) → eqb n 5 ≡ true → operation_of n ≡ Operations.Switch
unfolding row_of
five_switches n e = rw (eqb-true n 5 e)

module _ (g : List Instruction) (table : List NamedArray) (capacity cells : ℕ) where
  abbrev M : Machine
  M = machine_of g table capacity cells

  keys_computed : (c : Option ℤ) (keys : List (Key Tag)) → Done M (send_computed c keys) → effect_keys M (send_computed c keys) ≡ keys
  unfolding send_computed
  keys_computed (Some v) keys d = refl
  keys_computed None keys d = absurd d

  keys_cell : (a : ℤ) (f : ℕ → EffectHere) (keys : List (Key Tag)) → ((c : ℕ) → effect_keys M (f c) ≡ keys) → Done M (on_cell cells a f) → effect_keys M (on_cell cells a f) ≡ keys
  unfolding on_cell
  keys_cell (negsuc c) f keys h d = absurd d
  keys_cell (pos c) f keys h d = go (ltb c cells) d
    where
      go : (b : Bool) → Done M (cond b (f c) (refuse Refusals.NoSuchCell)) → effect_keys M (cond b (f c) (refuse Refusals.NoSuchCell)) ≡ keys
      go true d = h c
      go false d = absurd d

  module _ {i : ℕ} {r : Instruction} (good : Good g i r) (free : loop_free r ≡ true) (τ : Tag) where
    none_under : eqb (row_of r.code).most_fan_out 0 ≡ true → [] ≡ all_under τ r
    none_under e = ap (map (key_under τ)) (sym (no_destinations good e))

    pub keys_sent : (o : Operation) → operation_of r.code ≡ o → ¬ (o ≡ Operations.Switch) → (a b : ℤ) → Done M (effect_of o g table cells τ r a b (all_under τ r))
        → effect_keys M (effect_of o g table cells τ r a b (all_under τ r)) ≡ all_under τ r
    unfolding effect_of
    keys_sent Operations.Copy e n a b d = refl
    keys_sent Operations.Sink e n a b d = none_under (coded r.code e)
    keys_sent Operations.Out e n a b d = none_under (coded r.code e)
    keys_sent Operations.Const e n a b d = refl
    keys_sent Operations.Switch e n a b d = absurd (n refl)
    keys_sent Operations.Gate e n a b d = refl
    keys_sent Operations.Next e n a b d = absurd (no_loop r free 7 (coded r.code e) (omega arith) (omega arith))
    keys_sent Operations.Enter e n a b d = absurd (no_loop r free 8 (coded r.code e) (omega arith) (omega arith))
    keys_sent Operations.Leave e n a b d = absurd (no_loop r free 9 (coded r.code e) (omega arith) (omega arith))
    keys_sent Operations.Fetch e n a b d = keys_cell (cell_number table r.constant a) (λ c. read c (all_under τ r)) (all_under τ r) (λ c. refl) d
    keys_sent Operations.Store e n a b d = keys_cell (cell_number table r.constant a) (λ c. write c b (all_under τ r)) (all_under τ r) (λ c. refl) d
    keys_sent (Operations.OnTwo o) e n a b d = keys_computed (compute_of o a b) (all_under τ r) d
    keys_sent (Operations.OnConstant o) e n a b d = keys_computed (compute_of o a r.constant) (all_under τ r) d
    keys_sent Operations.Unknown e n a b d = none_under (coded r.code e)

    abbrev effect : (a b : ℤ) → EffectHere
    effect a b = effect_of (operation_of r.code) g table cells τ r a b (all_under τ r)

    pub outputs_counted : (a b : ℤ) → Done M (effect a b) → length (effect_keys M (effect a b)) ≡ outputs_needed r
    unfolding outputs_needed effect_of
    outputs_counted a b d = go (eqb r.code 5) refl
      where
        go : (q : Bool) → eqb r.code 5 ≡ q → length (effect_keys M (effect a b)) ≡ cond q 1 (length (destinations r))
        go true e = rw (five_switches r.code e)
        go false e = ap length (keys_sent (operation_of r.code) refl (not_switch r.code e) a b d) ∙ length-map (destinations r) (key_under τ)
