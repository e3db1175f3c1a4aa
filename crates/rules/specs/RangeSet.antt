-- 02, R-11, "Inputs known only between limits": the operations over ranges as an instance of the machine. What differs from 01's table: CONST sends a single
-- value, the arithmetic is that of ranges, and refusal 23 comes where control or cell is undecided. Assumes nothing.
use Rattle.std.specs.Prelude.{ℕ, Bool, not, ◌&&◌, cond, List, [], ◌∷◌, ℤ, pos, nat_abs, Option, None, Some}
use Rattle.record.specs.declared.tag.Tag.{Tag}
use Rattle.record.specs.declared.array.NamedArray.{NamedArray}
use Rattle.record.specs.declared.instruction.Instruction.{Instruction}
use Rattle.record.specs.declared.operation.Operation.{Operation}
use Rattle.record.specs.declared.operation.Operation.TheVariants as Operations
use Rattle.record.specs.Calls.{next_of, enter_of, leave_of}
use Rattle.record.specs.GraphRecords.{operation_of}
use Rattle.arithmetic.specs.declared.Range.{Range}
use Rattle.arithmetic.specs.Ranges.{single, is_single, may_be_zero, range_of}
use Rattle.machine.specs.Machine.{Key, refuse, send, read, write, Machine}
use Rattle.machine.specs.InStep.{Over}
use Rattle.rules.specs.declared.answer.Refusal.TheVariants as Refusals
use Rattle.rules.specs.Check.{instruction_at}
use Rattle.rules.specs.InstructionSet.{EffectOver, key_under, all_under, side_of, send_next, send_entered, send_left, on_cell, cell_number, machine_of}

abbrev pub RangeEffect : Type 0
RangeEffect = EffectOver Range

-- 12: "if an outcome is out of range or the divisor's range holds 0"
unfoldable pub send_range : Option Range → List (Key Tag) → RangeEffect
send_range (Some r) keys = send r keys
send_range None keys = refuse Refusals.OutOfRange

-- 23: "a SWITCH control that may be zero or not"
unfoldable pub is_undecided : Range → Bool
is_undecided control = may_be_zero control && not (is_single control)

-- a decided control is 0 exactly if its low end is
unfoldable pub send_side : Range → Tag → Instruction → Range → RangeEffect
send_side control τ r v = cond (is_undecided control) (refuse Refusals.Undecided) (send v (key_under τ (side_of control.low r) ∷ []))

-- 23: "or a cell or index that is not a single value (10 and 11 are judged of single ones only)". `number` makes a cell number of a single operand
unfoldable pub on_single : (cells : ℕ) → (number : ℤ → ℤ) → Range → (ℕ → RangeEffect) → RangeEffect
on_single cells number a f = cond (is_single a) (on_cell cells (number a.low) f) (refuse Refusals.Undecided)

unfoldable pub range_effect_of : Operation → List Instruction → List NamedArray → (cells : ℕ) → Tag → Instruction → (a b : Range) → (keys : List (Key Tag)) → RangeEffect
range_effect_of Operations.Copy g table cells τ r a b keys = send a keys
range_effect_of Operations.Sink g table cells τ r a b keys = send a []
range_effect_of Operations.Out g table cells τ r a b keys = send a []
range_effect_of Operations.Const g table cells τ r a b keys = send (single r.constant) keys
range_effect_of Operations.Switch g table cells τ r a b keys = send_side b τ r a
range_effect_of Operations.Gate g table cells τ r a b keys = send a keys
range_effect_of Operations.Next g table cells τ r a b keys = send_next (next_of τ) r a
range_effect_of Operations.Enter g table cells τ r a b keys = send_entered (enter_of τ (nat_abs r.constant)) r a
range_effect_of Operations.Leave g table cells τ r a b keys = send_left g (leave_of τ) r a
range_effect_of Operations.Fetch g table cells τ r a b keys = on_single cells (cell_number table r.constant) a (λ c. read c keys)
range_effect_of Operations.Store g table cells τ r a b keys = on_single cells (cell_number table r.constant) a (λ c. write c b keys)
range_effect_of (Operations.OnTwo o) g table cells τ r a b keys = send_range (range_of o a b) keys
range_effect_of (Operations.OnConstant o) g table cells τ r a b keys = send_range (range_of o a (single r.constant)) keys
range_effect_of Operations.Unknown g table cells τ r a b keys = send a []

unfoldable pub range_effect_in : List Instruction → List NamedArray → (cells : ℕ) → Tag → (a b : Range) → RangeEffect
range_effect_in g table cells τ a b =
    let r = instruction_at g τ.instruction in
    range_effect_of (operation_of r.code) g table cells τ r a b (all_under τ r)

-- tags, operands, named arrays, capacity and cells are those of the plain machine
abbrev pub range_machine_of : List Instruction → List NamedArray → (capacity cells : ℕ) → Machine
range_machine_of g table capacity cells = Over (machine_of g table capacity cells) Range (range_effect_in g table cells) (single (pos 0))
