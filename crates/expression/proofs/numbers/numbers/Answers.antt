-- `expression::numbers::numbers` meets its contract. The invariant: the table has the instructions of the first i records, and the variables among them are
-- counted. Assumes nothing.
use Prim.Native.Nat.{◌/◌, ◌<◌}
use native.Mathlib.Omega.{arith}
use mathlib.Core.Path.{sym, ◌∙◌}
use lib.ListN.{length}
use Rattle.record.specs.ExpressionRecords.{expression_of}
use Rattle.record.specs.Widths.{term_width}
use Rattle.expression.proofs.Terms.{length_terms, in_terms, at_terms, passed_terms}
use Rattle.expression.proofs.Counts.{variables_next, instruction_number, upto_none, upto_next, none_yet}
use Rattle.expression.proofs.numbers.numbers.Goals as goal

pub loop-i-init : goal.loop-i-init
loop-i-init c = let s = c.args.expression.now in (omega arith, none_yet (expression_of s), omega arith, upto_none (expression_of s))

pub number_of-requires : goal.number_of-requires
number_of-requires c =
    let few = (passed_terms c.args.expression.now c.requires).1 in
    let n = c.variables-n.ensures.1 in
    let l = c.loop-i.invariant.2 in
    (omega arith, omega arith)

pub overflow_cast-numbers : goal.overflow_cast-numbers
overflow_cast-numbers c =
    let few = (passed_terms c.args.expression.now c.requires).1 in
    let n = c.variables-n.ensures.1 in
    let most = c.number_of.ensures.1 in
    omega arith

pub offset_bounds-numbers-i : goal.offset_bounds-numbers-i
offset_bounds-numbers-i c =
    let few = (passed_terms c.args.expression.now c.requires).1 in
    omega arith

pub bounds-numbers-i : goal.bounds-numbers-i
bounds-numbers-i c =
    let few = (passed_terms c.args.expression.now c.requires).1 in
    omega arith

pub overflow_add-before : goal.overflow_add-before
overflow_add-before c = let few = c.variable_of-before.ensures.1 in let l = c.loop-i.invariant.2 in omega arith

pub loop-i-preserved : goal.loop-i-preserved
loop-i-preserved c =
    let s = c.args.expression.now in
    let ts = expression_of s in
    let l = c.loop-i in
    let x = c.read-t.result in
    let told = c.read-t.ensures in
    let low : l.i < length s / term_width = omega arith in
    let next = variables_next ts l.i x (omega (arith, length_terms s)) (in_terms s l.i low x ∙ sym told) in
    let one = c.variable_of-before.ensures.0 in
    let some = c.variable_of-before.ensures.1 in
    let before = l.invariant.1 in
    let most = l.invariant.2 in
    let few = (passed_terms s c.requires).1 in
    let number = instruction_number ts l.i (omega (arith, length_terms s)) x (at_terms s l.i low ∙ sym told) in (
      omega arith,
      omega arith,
      omega arith,
      upto_next l.invariant.3 (omega arith) c.number_of.result (c.number_of.ensures.0 ∙ rw (before, c.variables-n.ensures.0) (sym number)),
    )

pub returns : goal.returns
returns c =
    let s = c.args.expression.now in
    let l = c.loop-i in
    let u = l.invariant.3 in
    record { passed = c.requires; size = u.size; says = λ i low. u.says i (omega (arith, length_terms s)) }
