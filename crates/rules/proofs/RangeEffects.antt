-- 02, R-11: an effect of ranges and the plain effect of any choice within them are related (`effects_related`): refused by 12 or 23 alone (`OfRanges`), or of one
-- kind with the same keys and the same cell, and the value sent is in the range sent. Assumes nothing.
use Prim.Native.Nat.{ℕ}
use mathlib.Core.Path.{◌≡◌, refl}
use mathlib.Core.Bool.{Bool, true, false, not, ◌&&◌, cond}
use mathlib.Core.Logic.{inl, inr}
use mathlib.Core.List.{List, [], ◌∷◌}
use native.Mathlib.Omega.{arith}
use lib.IntN.{ℤ, pos, nat_abs}
use lib.Signed.{≤ℤ_refl}
use Rattle.std.specs.Prelude.{Option, None, Some}
use Rattle.record.specs.declared.tag.Tag.{Tag}
use Rattle.record.specs.declared.array.NamedArray.{NamedArray}
use Rattle.record.specs.declared.instruction.Instruction.{Instruction}
use Rattle.record.specs.declared.operation.Arithmetic.{Arithmetic}
use Rattle.record.specs.declared.operation.Operation.{Operation}
use Rattle.record.specs.declared.operation.Operation.TheVariants as Operations
use Rattle.record.specs.Calls.{next_of, enter_of, leave_of}
use Rattle.record.specs.GraphRecords.{operation_of}
use Rattle.arithmetic.specs.Arithmetic.{compute_of, eq_z}
use Rattle.arithmetic.specs.declared.Range.{Range}
use Rattle.arithmetic.specs.Ranges.{Holds, single, is_single, may_be_zero, range_of}
use Rattle.arithmetic.proofs.Ranged.{ne_eq_z}
use Rattle.arithmetic.proofs.Corners.{holds_low, holds_proper}
use Rattle.arithmetic.proofs.Rising.{nonzero}
use Rattle.arithmetic.proofs.Equalities.{same_ends}
use Rattle.arithmetic.proofs.Ranges.{holds_every}
use Rattle.machine.specs.Machine.{Key, refuse, send, read, write}
use Rattle.machine.specs.InStep.{RelatedEffect, refused_alone, both_send, both_read, both_write, Related}
use Rattle.rules.specs.declared.answer.Refusal.TheVariants as Refusals
use Rattle.rules.specs.Check.{instruction_at}
use Rattle.rules.specs.InstructionSet.{EffectHere, key_under, all_under, side_of, send_computed, on_cell, cell_number, effect_of, effect_in}
use Rattle.rules.specs.RangeSet.{RangeEffect, send_range, is_undecided, send_side, on_single, range_effect_of, range_effect_in, range_machine_of}
use Rattle.rules.proofs.RangeSet.{OfRanges, next_related, entered_related, left_related, cell_related}

abbrev pub InRange : RangeEffect → EffectHere → Type 0
InRange e d = RelatedEffect Holds OfRanges e d

pub single_holds : (v : ℤ) → Holds (single v) v
single_holds v = record { above = ≤ℤ_refl v; below = ≤ℤ_refl v }

-- ---- by operations

-- a decided control is 0 exactly if its low end is
decided_side : (b : Range) (y : ℤ) (r : Instruction) → Holds b y → is_undecided b ≡ false → side_of b.low r ≡ side_of y r
unfolding is_undecided side_of
decided_side b y r h e = go (may_be_zero b) (is_single b) refl refl e
  where
    go : (z s : Bool) → may_be_zero b ≡ z → is_single b ≡ s → z && not s ≡ false → cond (eq_z b.low (pos 0)) r.second r.first ≡ cond (eq_z y (pos 0)) r.second r.first
    go z true i j k = rw (same_ends b y j h)
    go true false i j k = let n : ◌≡◌ {A = ℕ} 0 1 = cc in absurd (omega arith)
    go false false i j k =
        rw (ne_eq_z b.low (pos 0) (nonzero b i b.low (holds_low b (holds_proper b y h))), ne_eq_z y (pos 0) (nonzero b i y h))

side_related : (a b : Range) (x y : ℤ) (τ : Tag) (r : Instruction) → Holds a x → Holds b y → InRange (send_side b τ r a) (send x (key_under τ (side_of y r) ∷ []))
unfolding send_side
side_related a b x y τ r h k = go (is_undecided b) refl
  where
    go : (t : Bool) → is_undecided b ≡ t → InRange (cond t (refuse Refusals.Undecided) (send a (key_under τ (side_of b.low r) ∷ []))) (send x (key_under τ (side_of y r) ∷ []))
    go true e = refused_alone (inr refl)
    go false e = rw (decided_side b y r k e) (both_send h)

single_related : (cells : ℕ) (number : ℤ → ℤ) (a : Range) (x : ℤ) (f : ℕ → RangeEffect) (d : ℕ → EffectHere) → Holds a x → ((c : ℕ) → InRange (f c) (d c)) → InRange (on_single cells number a f) (on_cell cells (number x) d)
unfolding on_single
single_related cells number a x f d h k = go (is_single a) refl
  where
    go : (t : Bool) → is_single a ≡ t → InRange (cond t (on_cell cells (number a.low) f) (refuse Refusals.Undecided)) (on_cell cells (number x) d)
    go true e = rw (same_ends a x e h) (cell_related Holds OfRanges cells (number a.low) f d k)
    go false e = refused_alone (inr refl)

computed_related : (o : Arithmetic) (a b : Range) (x y : ℤ) (keys : List (Key Tag)) → Holds a x → Holds b y → InRange (send_range (range_of o a b) keys) (send_computed (compute_of o x y) keys)
unfolding send_range send_computed
computed_related o a b x y keys h k = go (range_of o a b) refl
  where
    go : (q : Option Range) → range_of o a b ≡ q → InRange (send_range q keys) (send_computed (compute_of o x y) keys)
    go None e = refused_alone (inl refl)
    go (Some r) e = let (v, f, l) = holds_every o a b r e x y h k in rw f (both_send l)

operation_related : (o : Operation) (g : List Instruction) (table : List NamedArray) (cells : ℕ) (τ : Tag) (r : Instruction) (a b : Range) (x y : ℤ) (keys : List (Key Tag)) → Holds a x → Holds b y
    → InRange (range_effect_of o g table cells τ r a b keys) (effect_of o g table cells τ r x y keys)
unfolding range_effect_of effect_of
operation_related Operations.Copy g table cells τ r a b x y keys h k = both_send h
operation_related Operations.Sink g table cells τ r a b x y keys h k = both_send h
operation_related Operations.Out g table cells τ r a b x y keys h k = both_send h
operation_related Operations.Const g table cells τ r a b x y keys h k = both_send (single_holds r.constant)
operation_related Operations.Switch g table cells τ r a b x y keys h k = side_related a b x y τ r h k
operation_related Operations.Gate g table cells τ r a b x y keys h k = both_send h
operation_related Operations.Next g table cells τ r a b x y keys h k = next_related Holds OfRanges h (next_of τ) r
operation_related Operations.Enter g table cells τ r a b x y keys h k = entered_related Holds OfRanges h (enter_of τ (nat_abs r.constant)) r
operation_related Operations.Leave g table cells τ r a b x y keys h k = left_related Holds OfRanges h g (leave_of τ) r
operation_related Operations.Fetch g table cells τ r a b x y keys h k = single_related cells (cell_number table r.constant) a x (λ c. read c keys) (λ c. read c keys) h (λ c. both_read)
operation_related Operations.Store g table cells τ r a b x y keys h k = single_related cells (cell_number table r.constant) a x (λ c. write c b keys) (λ c. write c y keys) h (λ c. both_write k)
operation_related (Operations.OnTwo o) g table cells τ r a b x y keys h k = computed_related o a b x y keys h k
operation_related (Operations.OnConstant o) g table cells τ r a b x y keys h k = computed_related o a (single r.constant) x r.constant keys h (single_holds r.constant)
operation_related Operations.Unknown g table cells τ r a b x y keys h k = both_send h

-- ---- the machines

pub effects_related : (g : List Instruction) (table : List NamedArray) (capacity cells : ℕ) → Related (range_machine_of g table capacity cells) ℤ (effect_in g table cells) (pos 0) Holds OfRanges
unfolding range_effect_in effect_in
effects_related g table capacity cells = record {
  effects = λ τ a b x y h k. let r = instruction_at g τ.instruction in operation_related (operation_of r.code) g table cells τ r a b x y (all_under τ r) h k;
  signals = single_holds (pos 0);
}
