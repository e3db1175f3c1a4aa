-- `expression::evaluate::value_at`, which calls itself, meets its contract. Assumes nothing.
use Prim.Native.Nat.{ℕ, ◌≤◌, ◌<◌}
use native.Mathlib.Omega.{arith}
use mathlib.Core.Path.{◌≡◌, sym, ap, subst, ◌∙◌}
use mathlib.Core.List.{List}
use lib.ListN.{length}
use mir.Syntax.{w32}
use mir.Facts.{to_z-of_z}
use borrow.Author.Tests.{le-leb}
use Rattle.std.specs.Prelude.{Option, Some, None}
use Rattle.record.specs.declared.operation.Arithmetic.{Arithmetic}
use Rattle.record.specs.declared.term.Term.{Term}
use Rattle.machine.proofs.View.{false_true}
use Rattle.rules.specs.Expression.{arithmetic_of}
use Rattle.record.specs.ExpressionRecords.{expression_of}
use Rattle.expression.specs.Tables.{OperationOf, NumberedRecords}
use Rattle.expression.proofs.Terms.{length_terms, passed_terms}
use Rattle.expression.proofs.Puts.{names_before, kind_between}
use Rattle.expression.proofs.Values.{variable_at, value_variable, value_operation}
use Rattle.expression.proofs.evaluate.+value_at.Goals as goal

few : (s numbers : List ℕ) → NumberedRecords s numbers → (i : ℕ) → i < length (expression_of s) → i < 100
few s numbers h i low = let most = (passed_terms s h.passed).1 in omega (arith, length_terms s)

operation_is : (t : Term) (r : Option Arithmetic) (o : Arithmetic) → OperationOf t r → r ≡ Some o → o ≡ arithmetic_of t.kind
operation_is t r o h e = (subst (OperationOf t) e h).2

none_between : {X : Type 0} (t : Term) (r : Option Arithmetic) → OperationOf t r → r ≡ None → (16 ≤ t.kind) × (t.kind ≤ 23) → X
none_between t r h e k = false_true (sym (subst (OperationOf t) e h) ∙ rw (le-leb 16 t.kind k.0, le-leb t.kind 23 k.1))

pub read-t-requires : goal.read-t-requires
read-t-requires t c = let low = c.requires.1 in omega (arith, length_terms c.args.expression.now)

pub offset_bounds-numbers-i : goal.offset_bounds-numbers-i
offset_bounds-numbers-i t c =
    let less = few c.args.expression.now c.args.numbers.now c.requires.0 c.args.i c.requires.1 in
    omega arith

pub bounds-numbers-i : goal.bounds-numbers-i
bounds-numbers-i t c = few c.args.expression.now c.args.numbers.now c.requires.0 c.args.i c.requires.1

pub variable-requires : goal.variable-requires
variable-requires t c =
    let n = variable_at c.requires.0 c.args.i c.requires.1 c.read-t.result c.read-t.ensures (sym c.is_variable.ensures ∙ c.if-is_variable.true) in
    let many = c.requires.2 in
    omega arith

pub returns-then-is_variable : goal.returns-then-is_variable
returns-then-is_variable t c =
    rw (to_z-of_z {w = w32} (record { sfits = c.variable.type_inv })) (ap Some c.variable.ensures
    ∙ sym (value_variable c.requires.0 c.args.i c.requires.1 c.read-t.result c.read-t.ensures c.args.values.now (sym c.is_variable.ensures ∙ c.if-is_variable.true)))

pub value_at-left-requires : goal.value_at-left-requires
value_at-left-requires t c =
    let before = (names_before c.requires.0 c.args.i c.requires.1 c.read-t.result c.read-t.ensures (sym c.is_variable.ensures ∙ c.if-is_variable.false)).0 in
    let i = c.decreases in
    let low = c.requires.1 in
    (omega arith, (c.requires.0, omega arith, c.requires.2))

pub value_at-right-requires : goal.value_at-right-requires
value_at-right-requires t c =
    let before = (names_before c.requires.0 c.args.i c.requires.1 c.read-t.result c.read-t.ensures (sym c.is_variable.ensures ∙ c.if-is_variable.false)).1 in
    let i = c.decreases in
    let low = c.requires.1 in
    (omega arith, (c.requires.0, omega arith, c.requires.2))

-- an operation has a kind from 16 to 23, and so `operation_of` finds which
pub returns-in_err-operation_of : goal.returns-in_err-operation_of
returns-in_err-operation_of t c =
    let v = sym c.is_variable.ensures ∙ c.if-is_variable.false in
    let k = kind_between c.requires.0 c.args.i c.requires.1 c.read-t.result c.read-t.ensures v in
    none_between c.read-t.result c.operation_of.result c.operation_of.ensures c.in_err-operation_of.was k

pub returns : goal.returns
returns t c =
    let v = sym c.is_variable.ensures ∙ c.if-is_variable.false in
    let x = c.read-t.result in
    let o = operation_is x c.operation_of.result _ c.operation_of.ensures c.in_ok-operation_of.was in
    c.combine.ensures
    ∙ rw (o, c.value_at-left.ensures, c.value_at-right.ensures)
    (sym (value_operation c.requires.0 c.args.i c.requires.1 x c.read-t.ensures c.args.values.now v))
