-- `expression::check::good_term` meets its contract. Assumes nothing.
use native.Mathlib.Omega.{arith}
use mathlib.Core.Path.{◌≡◌, refl, sym, ◌∙◌}
use mathlib.Core.Bool.{Bool, true, false, not, ◌&&◌}
use borrow.Author.Tests.{eq-eqb, ne_eqb, lt-ltb, le-ltb}
use lib.Dec.{eqb, leb, ltb}
use Prim.Native.Nat.{ℕ}
use mathlib.Core.List.{List}
use Rattle.rules.specs.Check.{any}
use Rattle.std.specs.Prelude.{Option, Some, None, is_some}
use Rattle.record.specs.declared.operation.Arithmetic.{Arithmetic}
use Rattle.record.specs.declared.term.Term.{Term}
use Rattle.machine.proofs.View.{false_true}
use Rattle.rules.specs.Expression.{is_variable, names, good_term, good_operation}
use Rattle.expression.specs.Tables.{OperationOf}
use Rattle.expression.proofs.check.good_term.Goals as goal

-- what `operation_of` says of the kind
an_operation : (t : Term) (o : Option Arithmetic) → OperationOf t o → is_some o ≡ true → (leb 16 t.kind ≡ true) × (leb t.kind 23 ≡ true)
an_operation t (Some o) h e = (h.0, h.1)
an_operation t None h e = false_true e

no_operation : (t : Term) (o : Option Arithmetic) → OperationOf t o → is_some o ≡ false → (rest : Bool) → (leb 16 t.kind && (leb t.kind 23 && rest)) ≡ false
no_operation t (Some o) h e rest = false_true (sym e)
no_operation t None h e rest = go (leb 16 t.kind) (leb t.kind 23) h
  where
    go : (a b : Bool) → (a && b) ≡ false → (a && (b && rest)) ≡ false
    go true true g = false_true (sym g)
    go true false g = refl
    go false b g = refl

-- a record with an operation's kind is good where its names are
operation_good : (earlier : List Term) (i : ℕ) (t : Term) (o : Option Arithmetic) → t.zeros ≡ 0 → is_variable t ≡ false → OperationOf t o → is_some o ≡ true
    → good_term earlier i t ≡ (ltb t.left i && (ltb t.right i && (not (eqb t.left t.right) && (not (any (names t.left) earlier) && not (any (names t.right) earlier)))))
unfolding good_term good_operation
operation_good earlier i t o z v h e = let k = an_operation t o h e in rw (eq-eqb t.zeros 0 z, v, k.0, k.1)

pub returns-then-t-ne0 : goal.returns-then-t-ne0
unfolding good_term good_operation
returns-then-t-ne0 c earlier m = rw (ne_eqb _ 0 c.if-t-ne0.true)

pub returns-then-left-eq0 : goal.returns-then-left-eq0
unfolding good_term good_operation
returns-then-left-eq0 c earlier m =
    let a = c.args in
    rw (eq-eqb a.t.zeros 0 c.if-t-ne0.false, ← c.is_variable.ensures, c.if-is_variable.true, eq-eqb a.t.left 0 c.if-left-eq0.true)

pub returns-else-left-eq0 : goal.returns-else-left-eq0
unfolding good_term good_operation
returns-else-left-eq0 c earlier m =
    let a = c.args in
    rw (eq-eqb a.t.zeros 0 c.if-t-ne0.false, ← c.is_variable.ensures, c.if-is_variable.true, ne_eqb a.t.left 0 c.if-left-eq0.false)

pub returns-then-not-named-left : goal.returns-then-not-named-left
returns-then-not-named-left c earlier m =
    let a = c.args in
    let good = operation_good earlier a.i a.t c.operation_of.result c.if-t-ne0.false (sym c.is_variable.ensures ∙ c.if-is_variable.false) c.operation_of.ensures (sym c.is_some.ensures ∙ c.if-is_some.true) in
    rw (good, lt-ltb a.t.left a.i c.if-left-i.true, lt-ltb a.t.right a.i c.if-right-i.true, ne_eqb a.t.left a.t.right c.if-left-right.true, ← m.says a.t.left (let l = c.if-left-i.true in let h = c.requires in omega arith), c.if-not-named-left.true, ← m.says a.t.right (let l = c.if-right-i.true in let h = c.requires in omega arith))

pub returns-else-not-named-left : goal.returns-else-not-named-left
returns-else-not-named-left c earlier m =
    let a = c.args in
    let good = operation_good earlier a.i a.t c.operation_of.result c.if-t-ne0.false (sym c.is_variable.ensures ∙ c.if-is_variable.false) c.operation_of.ensures (sym c.is_some.ensures ∙ c.if-is_some.true) in
    rw (good, lt-ltb a.t.left a.i c.if-left-i.true, lt-ltb a.t.right a.i c.if-right-i.true, ne_eqb a.t.left a.t.right c.if-left-right.true, ← m.says a.t.left (let l = c.if-left-i.true in let h = c.requires in omega arith), c.if-not-named-left.false)

pub returns-else-left-right : goal.returns-else-left-right
returns-else-left-right c earlier m =
    let a = c.args in
    let good = operation_good earlier a.i a.t c.operation_of.result c.if-t-ne0.false (sym c.is_variable.ensures ∙ c.if-is_variable.false) c.operation_of.ensures (sym c.is_some.ensures ∙ c.if-is_some.true) in
    rw (good, lt-ltb a.t.left a.i c.if-left-i.true, lt-ltb a.t.right a.i c.if-right-i.true, eq-eqb a.t.left a.t.right c.if-left-right.false)

pub returns-else-right-i : goal.returns-else-right-i
returns-else-right-i c earlier m =
    let a = c.args in
    let good = operation_good earlier a.i a.t c.operation_of.result c.if-t-ne0.false (sym c.is_variable.ensures ∙ c.if-is_variable.false) c.operation_of.ensures (sym c.is_some.ensures ∙ c.if-is_some.true) in
    rw (good, lt-ltb a.t.left a.i c.if-left-i.true, le-ltb a.t.right a.i c.if-right-i.false)

pub returns-else-left-i : goal.returns-else-left-i
returns-else-left-i c earlier m =
    let a = c.args in
    let good = operation_good earlier a.i a.t c.operation_of.result c.if-t-ne0.false (sym c.is_variable.ensures ∙ c.if-is_variable.false) c.operation_of.ensures (sym c.is_some.ensures ∙ c.if-is_some.true) in
    rw (good, le-ltb a.t.left a.i c.if-left-i.false)

pub returns-else-is_some : goal.returns-else-is_some
unfolding good_term good_operation
returns-else-is_some c earlier m =
    let a = c.args in
    rw (eq-eqb a.t.zeros 0 c.if-t-ne0.false, ← c.is_variable.ensures, c.if-is_variable.false)
    (c.if-is_some.false ∙ sym (no_operation a.t c.operation_of.result c.operation_of.ensures (sym c.is_some.ensures ∙ c.if-is_some.false) _))
