-- Working definition: no public promise cites it.
-- 02, R-11, over handles: a token's 32-bit value is the number of a range in a table, so that the engine, which looks at no value, stays as it is. One new range for
-- each input and at most one for each firing; range 0 is that of the single value 0, which is what a signal and an absent cell hold. All but CONST and the
-- arithmetic is the plain effect, with a decided control and a single cell put in their places. Assumes nothing.
use Rattle.std.specs.Prelude.{ℕ, suc, cond, List, [], ◌∷◌, length, get_or, replicate, ℤ, pos, nat_abs, Option, None, Some}
use Rattle.record.specs.declared.tag.Tag.{Tag}
use Rattle.record.specs.declared.array.NamedArray.{NamedArray}
use Rattle.record.specs.declared.instruction.Instruction.{Instruction}
use Rattle.record.specs.declared.operation.Operation.{Operation}
use Rattle.record.specs.declared.operation.Operation.TheVariants as Operations
use Rattle.buffer.specs.Rows.{all_rows}
use Rattle.record.specs.GraphRecords.{operation_of}
use Rattle.record.specs.Widths.{range_token_width}
use Rattle.arithmetic.specs.declared.Range.{Range}
use Rattle.arithmetic.specs.Ranges.{single, is_single, range_of}
use Rattle.machine.specs.Machine.{Key, live, Token, absent, State, refuse, send}
use Rattle.machine.specs.Choosers.{Chooser}
use Rattle.machine.specs.Handles.{Step, Tabled, run_on}
use Rattle.rules.specs.declared.answer.Refusal.{Refusal}
use Rattle.rules.specs.declared.answer.Refusal.TheVariants as Refusals
use Rattle.rules.specs.Check.{instruction_at}
use Rattle.rules.specs.InstructionSet.{EffectHere, all_under, effect_of, effect_in, machine_of}
use Rattle.rules.specs.RangeSet.{is_undecided, range_machine_of}
use Rattle.rules.specs.RangeRun.{range_in, decode_range}

abbrev pub StepHere : Type 0
StepHere = Step Refusal Tag Range ℤ

-- the range for which a handle stands
abbrev pub meaning : List Range → ℤ → Range
meaning table handle = get_or table (nat_abs handle) (single (pos 0))

-- nothing is added
abbrev pub as_is : EffectHere → StepHere
as_is e = record { added = []; asked = e }

-- a new range, at the table's end; 12 if there is none
unfoldable pub send_new : List Range → Option Range → List (Key Tag) → StepHere
send_new table (Some r) keys = record { added = r ∷ []; asked = send (pos (length table)) keys }
send_new table None keys = as_is (refuse Refusals.OutOfRange)

unfoldable pub range_step : Operation → List Instruction → List NamedArray → (cells : ℕ) → List Range → Tag → Instruction → (a b : ℤ) → (keys : List (Key Tag)) → StepHere
range_step Operations.Copy g table cells t τ r a b keys = as_is (effect_of Operations.Copy g table cells τ r a b keys)
range_step Operations.Sink g table cells t τ r a b keys = as_is (effect_of Operations.Sink g table cells τ r a b keys)
range_step Operations.Out g table cells t τ r a b keys = as_is (effect_of Operations.Out g table cells τ r a b keys)
range_step Operations.Const g table cells t τ r a b keys = send_new t (Some (single r.constant)) keys
range_step Operations.Switch g table cells t τ r a b keys = as_is (cond (is_undecided (meaning t b)) (refuse Refusals.Undecided) (effect_of Operations.Switch g table cells τ r a (meaning t b).low keys))
range_step Operations.Gate g table cells t τ r a b keys = as_is (effect_of Operations.Gate g table cells τ r a b keys)
range_step Operations.Next g table cells t τ r a b keys = as_is (effect_of Operations.Next g table cells τ r a b keys)
range_step Operations.Enter g table cells t τ r a b keys = as_is (effect_of Operations.Enter g table cells τ r a b keys)
range_step Operations.Leave g table cells t τ r a b keys = as_is (effect_of Operations.Leave g table cells τ r a b keys)
range_step Operations.Fetch g table cells t τ r a b keys = as_is (cond (is_single (meaning t a)) (effect_of Operations.Fetch g table cells τ r (meaning t a).low b keys) (refuse Refusals.Undecided))
range_step Operations.Store g table cells t τ r a b keys = as_is (cond (is_single (meaning t a)) (effect_of Operations.Store g table cells τ r (meaning t a).low b keys) (refuse Refusals.Undecided))
range_step (Operations.OnTwo o) g table cells t τ r a b keys = send_new t (range_of o (meaning t a) (meaning t b)) keys
range_step (Operations.OnConstant o) g table cells t τ r a b keys = send_new t (range_of o (meaning t a) (single r.constant)) keys
range_step Operations.Unknown g table cells t τ r a b keys = as_is (effect_of Operations.Unknown g table cells τ r a b keys)

unfoldable pub step_in : List Instruction → List NamedArray → (cells : ℕ) → List Range → Tag → (a b : ℤ) → StepHere
step_in g table cells t τ a b =
    let r = instruction_at g τ.instruction in
    range_step (operation_of r.code) g table cells t τ r a b (all_under τ r)

-- ---- a run

unfoldable pub first_table : (inputs : List ℕ) → List Range
first_table inputs = single (pos 0) ∷ all_rows range_token_width range_in inputs

-- input i, counted from n, has the handle of its range
abbrev pub numbered : (n : ℕ) → List (Token Tag Range) → List (Token Tag ℤ)
numbered n [] = []
numbered n (t ∷ ts) = record { key = t.key; content = live (pos n) } ∷ numbered (suc n) ts

unfoldable pub first_handles : (inputs : List ℕ) → (cells : ℕ) → State Tag ℤ
first_handles inputs n = record { tokens = numbered 1 (all_rows range_token_width decode_range inputs); cells = replicate n absent }

-- by any chooser over the state of handles
unfoldable pub handle_run : (g : List Instruction) → (table : List NamedArray) → (capacity cells : ℕ) → Chooser (machine_of g table capacity cells) → (budget : ℕ) → (inputs : List ℕ) → Tabled Refusal Tag Range ℤ
handle_run g table capacity cells choose budget inputs =
    run_on (range_machine_of g table capacity cells) ℤ (effect_in g table cells) (pos 0) (step_in g table cells) choose budget 0 (first_table inputs) (first_handles inputs cells)
