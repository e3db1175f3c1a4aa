-- `range_effect::operate` meets its contract: each arm asks for what its operation does. Assumes nothing.
use Prim.Native.Nat.{ℕ}
use mathlib.Core.Path.{◌≡◌, refl}
use mathlib.Core.List.{List}
use lib.IntN.{ℤ}
use mir.Syntax.{w32}
use mir.Val.{SFits}
use mir.Facts.{to_z-of_z}
use borrow.Author.Rules.{rules}
use Rattle.record.specs.declared.array.NamedArray.{NamedArray}
use Rattle.record.specs.declared.operation.Arithmetic.{Arithmetic}
use Rattle.record.specs.declared.operation.Operation.{Operation}
use Rattle.record.specs.declared.operation.Operation.TheVariants as Operations
use Rattle.arithmetic.specs.declared.Range.{Range}
use Rattle.arithmetic.specs.Ranges.{is_single}
use Rattle.rules.specs.RangeHandles.{meaning}
use Rattle.abstraction.specs.Tables.{arrays_in}
use Rattle.fire_effect.specs.Effects.{operated_of}
use Rattle.range_effect.specs.Asked.{as_is_ask, only_if, operand_of, ask_of}
use Rattle.rules.specs.RangeSet.{is_undecided}
use Rattle.rules.specs.declared.answer.Refusal.{Refusal}
use Rattle.rules.specs.declared.answer.Refusal.TheVariants as Refusals
use Rattle.fire_effect.specs.declared.operate.Action.{Action}
use Rattle.std.specs.Prelude.{Some, None, Result, Ok, Err, ok_or}
use Rattle.std.proofs.lemmas.Result.{err_from_is_err_and}
use mathlib.Core.Bool.{Bool, true, false, not, cond}
use Rattle.range_effect.proofs.Laws.{asks_as_is}
use Rattle.range_effect.proofs.operate.Goals as goal

-- what is asked of an operand, if there is no refusal before
abbrev asked_of : Result ℤ Refusal → (ℤ → Result Action Refusal) → Result Action Refusal
asked_of (Ok v) f = f v
asked_of (Err r) f = Err r

chosen : (b : Bool) (v : ℤ) (f : ℤ → Result Action Refusal) → as_is_ask (only_if b (f v)) ≡ as_is_ask (asked_of (ok_or (cond b (Some v) None) Refusals.Undecided) f)
chosen true v f = refl
chosen false v f = refl

-- an operation that makes no range is the plain one, with the operand that decides it decided
plain : (o : Operation) (table : List NamedArray) (k : ℤ) (cells : ℕ) (t : List Range) (a b : ℤ) → (o ≡ Operations.Const → ⊥) → ((p : Arithmetic) → o ≡ Operations.OnTwo p → ⊥) → ((p : Arithmetic) → o ≡ Operations.OnConstant p → ⊥)
    → ask_of o table k cells t a b ≡ as_is_ask (asked_of (ok_or (operand_of o (meaning t a) (meaning t b) a) Refusals.Undecided) (λ v. operated_of o table k cells v b))
unfolding ask_of operand_of
plain Operations.Copy table k cells t a b const two one = refl
plain Operations.Sink table k cells t a b const two one = refl
plain Operations.Out table k cells t a b const two one = refl
plain Operations.Const table k cells t a b const two one = absurd (const refl)
plain Operations.Switch table k cells t a b const two one = chosen (not (is_undecided (meaning t b))) a (λ v. operated_of Operations.Switch table k cells v b)
plain Operations.Gate table k cells t a b const two one = refl
plain Operations.Next table k cells t a b const two one = refl
plain Operations.Enter table k cells t a b const two one = refl
plain Operations.Leave table k cells t a b const two one = refl
plain Operations.Fetch table k cells t a b const two one = chosen (is_single (meaning t a)) (meaning t a).low (λ v. operated_of Operations.Fetch table k cells v b)
plain Operations.Store table k cells t a b const two one = chosen (is_single (meaning t a)) (meaning t a).low (λ v. operated_of Operations.Store table k cells v b)
plain (Operations.OnTwo o) table k cells t a b const two one = absurd (two o refl)
plain (Operations.OnConstant o) table k cells t a b const two one = absurd (one o refl)
plain Operations.Unknown table k cells t a b const two one = refl

pub returns-in-Const : goal.returns-in-Const
unfolding ask_of
returns-in-Const c =
    rw c.in-Const.is (rw (to_z-of_z c.ranges.k) at c.anew.ensures)

pub returns-in-OnTwo : goal.returns-in-OnTwo
unfolding ask_of
returns-in-OnTwo c =
    rw c.in-OnTwo.is (rw (c.range.ensures, c.meaning-x.ensures, to_z-of_z c.ranges.a, c.meaning-y.ensures, to_z-of_z c.ranges.b) at c.anew-in-OnTwo.ensures)

pub returns-in-OnConstant : goal.returns-in-OnConstant
unfolding ask_of
returns-in-OnConstant c =
    rw c.in-OnConstant.is (rw (c.range-in-OnConstant.ensures, c.meaning-x.ensures, to_z-of_z c.ranges.a, to_z-of_z c.ranges.k) at c.anew-in-OnConstant.ensures)

pub returns-in_err-a-in_default : goal.returns-in_err-a-in_default
returns-in_err-a-in_default c =
    let a = c.args in
    let x = c.in_default in
    let was = rw (c.ok_or.ensures.value, c.operand.ensures, c.meaning-x.ensures, to_z-of_z c.ranges.a, c.meaning-y.ensures, to_z-of_z c.ranges.b) at c.in_err-a-in_default.was in
    let p = err_from_is_err_and c.from_residual.result c.from_residual.ensures.1 in
    rw (p.1, p.2, plain a.o (arrays_in a.tables.now) a.k a.cells a.table.now a.a a.b x.not-Const x.not-OnTwo x.not-OnConstant, was) (asks_as_is _ _)

pub returns-in_ok-a-in_default : goal.returns-in_ok-a-in_default
returns-in_ok-a-in_default c =
    let a = c.args in
    let x = c.in_default in
    let was = rw (c.ok_or.ensures.value, c.operand.ensures, c.meaning-x.ensures, to_z-of_z c.ranges.a, c.meaning-y.ensures, to_z-of_z c.ranges.b) at c.in_ok-a-in_default.was in
    let v : SFits w32 c.in_ok-a-in_default.a = search rules in
    rw (c.operate.ensures, to_z-of_z c.ranges.k, to_z-of_z c.ranges.b, to_z-of_z v, plain a.o (arrays_in a.tables.now) a.k a.cells a.table.now a.a a.b x.not-Const x.not-OnTwo x.not-OnConstant, was) (asks_as_is _ _)
