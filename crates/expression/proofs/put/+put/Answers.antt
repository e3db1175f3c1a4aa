-- `expression::put::put`, which calls itself, meets its contract. Assumes nothing.
use Prim.Native.Nat.{ℕ, ◌<◌}
use native.Mathlib.Omega.{arith}
use mathlib.Core.Path.{ap, ◌∙◌, sym}
use mathlib.Core.List.{List}
use lib.ListN.{length}
use Rattle.record.specs.ExpressionRecords.{expression_of}
use Rattle.rules.specs.Expression.{sending}
use Rattle.expression.specs.Tables.{NumberedRecords}
use Rattle.expression.proofs.Terms.{length_terms, passed_terms}
use Rattle.expression.proofs.Puts.{number_at, names_before, puts_own, length_own, puts_variable, length_lefts, puts_operation}
use Rattle.expression.proofs.put.+put.Goals as goal

few : (s numbers : List ℕ) → NumberedRecords s numbers → (i : ℕ) → i < length (expression_of s) → i < 100
few s numbers h i low = let most = (passed_terms s h.passed).1 in omega (arith, length_terms s)

pub read-t-requires : goal.read-t-requires
read-t-requires t c = let low = c.requires.1 in omega (arith, length_terms c.args.expression.now)

pub bounds-numbers-i : goal.bounds-numbers-i
bounds-numbers-i t c = few c.args.expression.now c.args.numbers.now c.requires.0 c.args.i c.requires.1

pub write-requires : goal.write-requires
write-requires t c =
    let n = number_at c.requires.0 c.args.i c.requires.1 c.read-t.result c.read-t.ensures in
    let room = c.requires.2 in
    omega arith

pub returns-then-is_variable : goal.returns-then-is_variable
returns-then-is_variable t c g rest size is =
    let a = c.args in
    let x = c.read-t.result in
    let told = c.read-t.ensures in
    let own =
    puts_own c.requires.0 a.i c.requires.1 x told a.to g size rest a.graph.now c.write.new.buf is
    c.sending-r.result (c.sending-r.ensures ∙ ap (λ (k : ℕ). sending k a.to) c.code_of.ensures) c.write.ensures.0 in
    puts_variable c.requires.0 a.i c.requires.1 x told a.to g size rest a.graph.now _ is (sym c.is_variable.ensures ∙ c.if-is_variable.true) own

pub put-requires : goal.put-requires
put-requires t c =
    let before = (names_before c.requires.0 c.args.i c.requires.1 c.read-t.result c.read-t.ensures (sym c.is_variable.ensures ∙ c.if-is_variable.false)).0 in
    let i = c.decreases in
    let low = c.requires.1 in
    let room = c.requires.2 in
    let same = c.write.auto.buf in
    (omega arith, (c.requires.0, omega arith, omega arith))

pub put-requires-2 : goal.put-requires-2
put-requires-2 t c =
    let before = (names_before c.requires.0 c.args.i c.requires.1 c.read-t.result c.read-t.ensures (sym c.is_variable.ensures ∙ c.if-is_variable.false)).1 in
    let i = c.decreases in
    let low = c.requires.1 in
    let room = c.requires.2 in
    let same = c.write.auto.buf in
    let same2 = c.put.auto.graph in
    (omega arith, (c.requires.0, omega arith, omega arith))

pub returns : goal.returns
returns t c g rest size is =
    let a = c.args in
    let h = c.requires.0 in
    let low = c.requires.1 in
    let x = c.read-t.result in
    let told = c.read-t.ensures in
    let v = sym c.is_variable.ensures ∙ c.if-is_variable.false in
    let own =
    puts_own h a.i low x told a.to g size rest a.graph.now c.write.new.buf is
    c.sending-r.result (c.sending-r.ensures ∙ ap (λ (k : ℕ). sending k a.to) c.code_of.ensures) c.write.ensures.0 in
    let lefts = c.put.ensures _ rest (length_own h a.i low x told a.to g size rest a.graph.now a.graph.now is) own in
    let rights = c.put-2.ensures _ rest (length_lefts h a.i low x told a.to g size rest a.graph.now a.graph.now is) lefts in
    puts_operation h a.i low x told a.to g size rest a.graph.now c.put-2.new.graph is v rights
