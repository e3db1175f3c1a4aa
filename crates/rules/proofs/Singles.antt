-- 02, R-11: a range run of single values ends as the plain run, whatever its outcome (`singles_alike`). Assumes nothing.
use Prim.Native.Nat.{ℕ}
use mathlib.Core.Path.{◌≡◌, refl}
use mathlib.Core.Bool.{Bool, true, false, ◌&&◌}
use mathlib.Core.List.{List, [], ◌∷◌}
use lib.IntN.{ℤ, pos, nat_abs}
use Rattle.std.specs.Prelude.{Option, None, Some, option_map}
use Rattle.record.specs.declared.tag.Tag.{Tag}
use Rattle.record.specs.declared.array.NamedArray.{NamedArray}
use Rattle.record.specs.declared.instruction.Instruction.{Instruction}
use Rattle.record.specs.declared.operation.Arithmetic.{Arithmetic}
use Rattle.record.specs.declared.operation.Operation.{Operation}
use Rattle.record.specs.declared.operation.Operation.TheVariants as Operations
use Rattle.record.specs.Calls.{next_of, enter_of, leave_of}
use Rattle.record.specs.GraphRecords.{operation_of}
use Rattle.arithmetic.specs.Arithmetic.{compute_of}
use Rattle.arithmetic.specs.declared.Range.{Range}
use Rattle.arithmetic.specs.Ranges.{single, may_be_zero, range_of}
use Rattle.arithmetic.proofs.Ranged.{eq_eq_z}
use Rattle.arithmetic.proofs.Singles.{single_exact}
use Rattle.machine.specs.Machine.{Key, send, read, write, End, by_picks, State}
use Rattle.machine.specs.InStep.{RelatedEffect, both_refuse, both_send, both_read, both_write, RelatedEnds, InStep, alike, stopped, Related, RelatedState}
use Rattle.machine.specs.Bounded.{run_bounded}
use Rattle.machine.proofs.InStep.{in_step}
use Rattle.rules.specs.declared.answer.Refusal.{Refusal}
use Rattle.rules.specs.Check.{instruction_at}
use Rattle.rules.specs.InstructionSet.{EffectHere, key_under, all_under, side_of, send_computed, on_cell, cell_number, effect_of, effect_in, machine_of}
use Rattle.rules.specs.Held.{held_in}
use Rattle.rules.specs.RangeSet.{RangeEffect, send_range, is_undecided, send_side, on_single, range_effect_of, range_effect_in, range_machine_of}
use Rattle.rules.proofs.RangeSet.{next_related, entered_related, left_related, cell_related, held_same}

-- ---- the claims

abbrev pub OnlyValue : Range → ℤ → Type 0
OnlyValue r v = r ≡ single v

-- a range run of single values ends as the plain run, whatever its outcome
abbrev pub SinglesAlike : Type 0
SinglesAlike = (g : List Instruction) (table : List NamedArray) (capacity cells k : ℕ) (s : State Tag Range) (u : State Tag ℤ) → RelatedState OnlyValue s u → (budget : ℕ) (picks : List ℕ)
    → let M = range_machine_of g table capacity cells in
    let N = machine_of g table capacity cells in
    RelatedEnds OnlyValue (run_bounded M (held_in g k) (by_picks M) budget picks 0 s) (run_bounded N (held_in g k) (by_picks N) budget picks 0 u)

-- ---- the proofs

abbrev NoRefusal : Refusal → Type 0
NoRefusal r = ⊥

abbrev Exact : RangeEffect → EffectHere → Type 0
Exact e d = RelatedEffect OnlyValue NoRefusal e d

-- ---- by operations

decided : (y : ℤ) → is_undecided (single y) ≡ false
unfolding is_undecided
decided y = rw (eq_eq_z {a = y} refl) (never (may_be_zero (single y)))
  where
    never : (t : Bool) → t && false ≡ false
    never true = refl
    never false = refl

side_exact : (x y : ℤ) (τ : Tag) (r : Instruction) → Exact (send_side (single y) τ r (single x)) (send x (key_under τ (side_of y r) ∷ []))
unfolding send_side
side_exact x y τ r = rw (decided y) (both_send refl)

cell_exact : (cells : ℕ) (number : ℤ → ℤ) (x : ℤ) (f : ℕ → RangeEffect) (d : ℕ → EffectHere) → ((c : ℕ) → Exact (f c) (d c)) → Exact (on_single cells number (single x) f) (on_cell cells (number x) d)
unfolding on_single
cell_exact cells number x f d h = rw (eq_eq_z {a = x} refl) (cell_related OnlyValue NoRefusal cells (number x) f d h)

computed_exact : (o : Arithmetic) (x y : ℤ) (keys : List (Key Tag)) → Exact (send_range (range_of o (single x) (single y)) keys) (send_computed (compute_of o x y) keys)
unfolding send_range send_computed
computed_exact o x y keys = rw (single_exact o x y) (go (compute_of o x y))
  where
    go : (c : Option ℤ) → Exact (send_range (option_map single c) keys) (send_computed c keys)
    go (Some v) = both_send refl
    go None = both_refuse

operation_exact : (o : Operation) (g : List Instruction) (table : List NamedArray) (cells : ℕ) (τ : Tag) (r : Instruction) (x y : ℤ) (keys : List (Key Tag))
    → Exact (range_effect_of o g table cells τ r (single x) (single y) keys) (effect_of o g table cells τ r x y keys)
unfolding range_effect_of effect_of
operation_exact Operations.Copy g table cells τ r x y keys = both_send refl
operation_exact Operations.Sink g table cells τ r x y keys = both_send refl
operation_exact Operations.Out g table cells τ r x y keys = both_send refl
operation_exact Operations.Const g table cells τ r x y keys = both_send refl
operation_exact Operations.Switch g table cells τ r x y keys = side_exact x y τ r
operation_exact Operations.Gate g table cells τ r x y keys = both_send refl
operation_exact Operations.Next g table cells τ r x y keys = next_related OnlyValue NoRefusal refl (next_of τ) r
operation_exact Operations.Enter g table cells τ r x y keys = entered_related OnlyValue NoRefusal refl (enter_of τ (nat_abs r.constant)) r
operation_exact Operations.Leave g table cells τ r x y keys = left_related OnlyValue NoRefusal refl g (leave_of τ) r
operation_exact Operations.Fetch g table cells τ r x y keys = cell_exact cells (cell_number table r.constant) x (λ c. read c keys) (λ c. read c keys) (λ c. both_read)
operation_exact Operations.Store g table cells τ r x y keys = cell_exact cells (cell_number table r.constant) x (λ c. write c (single y) keys) (λ c. write c y keys) (λ c. both_write refl)
operation_exact (Operations.OnTwo o) g table cells τ r x y keys = computed_exact o x y keys
operation_exact (Operations.OnConstant o) g table cells τ r x y keys = computed_exact o x r.constant keys
operation_exact Operations.Unknown g table cells τ r x y keys = both_send refl

-- ---- the machines

singles_related : (g : List Instruction) (table : List NamedArray) (capacity cells : ℕ) → Related (range_machine_of g table capacity cells) ℤ (effect_in g table cells) (pos 0) OnlyValue NoRefusal
unfolding range_effect_in effect_in
singles_related g table capacity cells = record {
  effects = λ τ a b x y h k. let r = instruction_at g τ.instruction in rw (h, k) (operation_exact (operation_of r.code) g table cells τ r x y (all_under τ r));
  signals = refl;
}

pub singles_alike : SinglesAlike
singles_alike g table capacity cells k s u h budget picks =
    never_alone (in_step (range_machine_of g table capacity cells) ℤ (effect_in g table cells) (pos 0) OnlyValue NoRefusal (singles_related g table capacity cells)
    (by_picks (range_machine_of g table capacity cells)) (by_picks (machine_of g table capacity cells)) (λ x y r pick a more. refl) (held_in g k) (held_in g k) (held_same OnlyValue g k) s u h budget picks 0)
  where
    never_alone : {d : End Refusal Tag Range} {e : End Refusal Tag ℤ} → InStep OnlyValue NoRefusal d e → RelatedEnds OnlyValue d e
    never_alone (alike k) = k
    never_alone (stopped r p f a) = absurd a
