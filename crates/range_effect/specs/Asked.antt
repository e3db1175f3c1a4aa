-- Working definition: no public promise cites it.
-- What an operation over handles asks for and adds to the table, in the order of Memo 205-1: the operation, then the new tags. Assumes nothing.
use Rattle.std.specs.Prelude.{ℕ, ◌≡◌, Bool, not, cond, List, [], ◌∷◌, ◌++◌, length, ℤ, pos, Option, None, Some, Result, Ok, Err}
use Rattle.record.specs.declared.array.NamedArray.{NamedArray}
use Rattle.record.specs.declared.operation.Operation.{Operation}
use Rattle.record.specs.declared.operation.Operation.TheVariants as Operations
use Rattle.arithmetic.specs.declared.Range.{Range}
use Rattle.arithmetic.specs.Ranges.{single, is_single, range_of}
use Rattle.rules.specs.declared.answer.Refusal.TheVariants as Refusals
use Rattle.rules.specs.RangeSet.{is_undecided}
use Rattle.rules.specs.RangeHandles.{meaning}
use Rattle.rules.specs.declared.answer.Refusal.{Refusal}
use Rattle.fire_effect.specs.declared.operate.Action.{Action}
use Rattle.fire_effect.specs.declared.operate.Action.TheVariants.{Send}
use Rattle.fire_effect.specs.Effects.{operated_of}

pub record Ask : Type 0 where
  pub operated : Result Action Refusal
  pub added : List Range

abbrev pub as_is_ask : Result Action Refusal → Ask
as_is_ask x = record { operated = x; added = [] }

-- 23 unless it is decided
abbrev pub only_if : Bool → Result Action Refusal → Result Action Refusal
only_if decided x = cond decided x (Err Refusals.Undecided)

-- the operand on port 0 of a plain operation, if the operand that decides it is decided; x and y are the ranges on ports 0 and 1
unfoldable pub operand_of : Operation → (x y : Range) → (a : ℤ) → Option ℤ
operand_of Operations.Copy x y a = Some a
operand_of Operations.Sink x y a = Some a
operand_of Operations.Out x y a = Some a
operand_of Operations.Const x y a = Some a
operand_of Operations.Switch x y a = cond (not (is_undecided y)) (Some a) None
operand_of Operations.Gate x y a = Some a
operand_of Operations.Next x y a = Some a
operand_of Operations.Enter x y a = Some a
operand_of Operations.Leave x y a = Some a
operand_of Operations.Fetch x y a = cond (is_single x) (Some x.low) None
operand_of Operations.Store x y a = cond (is_single x) (Some x.low) None
operand_of (Operations.OnTwo o) x y a = Some a
operand_of (Operations.OnConstant o) x y a = Some a
operand_of Operations.Unknown x y a = Some a

-- a new range has the handle of the table's end; 12 if there is none
abbrev pub new_ask : List Range → Option Range → Ask
new_ask t (Some r) = record { operated = Ok (Send (pos (length t))); added = r ∷ [] }
new_ask t None = record { operated = Err Refusals.OutOfRange; added = [] }

-- k is the constant, a and b are the handles on ports 0 and 1
unfoldable pub ask_of : Operation → List NamedArray → (k : ℤ) → (cells : ℕ) → List Range → (a b : ℤ) → Ask
ask_of Operations.Copy table k cells t a b = as_is_ask (operated_of Operations.Copy table k cells a b)
ask_of Operations.Sink table k cells t a b = as_is_ask (operated_of Operations.Sink table k cells a b)
ask_of Operations.Out table k cells t a b = as_is_ask (operated_of Operations.Out table k cells a b)
ask_of Operations.Const table k cells t a b = new_ask t (Some (single k))
ask_of Operations.Switch table k cells t a b = as_is_ask (only_if (not (is_undecided (meaning t b))) (operated_of Operations.Switch table k cells a b))
ask_of Operations.Gate table k cells t a b = as_is_ask (operated_of Operations.Gate table k cells a b)
ask_of Operations.Next table k cells t a b = as_is_ask (operated_of Operations.Next table k cells a b)
ask_of Operations.Enter table k cells t a b = as_is_ask (operated_of Operations.Enter table k cells a b)
ask_of Operations.Leave table k cells t a b = as_is_ask (operated_of Operations.Leave table k cells a b)
ask_of Operations.Fetch table k cells t a b = as_is_ask (only_if (is_single (meaning t a)) (operated_of Operations.Fetch table k cells (meaning t a).low b))
ask_of Operations.Store table k cells t a b = as_is_ask (only_if (is_single (meaning t a)) (operated_of Operations.Store table k cells (meaning t a).low b))
ask_of (Operations.OnTwo o) table k cells t a b = new_ask t (range_of o (meaning t a) (meaning t b))
ask_of (Operations.OnConstant o) table k cells t a b = new_ask t (range_of o (meaning t a) (single k))
ask_of Operations.Unknown table k cells t a b = as_is_ask (operated_of Operations.Unknown table k cells a b)

-- the code's answer asks for it, and its table has what is added
pub record AsksFor (r : Result Action Refusal) (x : Ask) (table table' : List Range) : Type 0 where
  pub operated : r ≡ x.operated
  pub held : table' ≡ table ++ x.added
