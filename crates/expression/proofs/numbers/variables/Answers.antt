-- `expression::numbers::variables` meets its contract. The invariant: the variables among the first i records are counted. Assumes nothing.
use Prim.Native.Nat.{◌/◌, ◌<◌}
use native.Mathlib.Omega.{arith}
use mathlib.Core.Path.{sym, ◌∙◌}
use lib.ListN.{length}
use lib.Seq.{take_all}
use Rattle.record.specs.ExpressionRecords.{expression_of}
use Rattle.record.specs.Widths.{term_width}
use Rattle.expression.proofs.Terms.{length_terms, in_terms}
use Rattle.expression.proofs.Counts.{none_yet, variables_next}
use Rattle.expression.proofs.numbers.variables.Goals as goal

pub loop-i-init : goal.loop-i-init
loop-i-init c = (omega arith, none_yet (expression_of c.args.expression.now), omega arith)

pub overflow_add-n : goal.overflow_add-n
overflow_add-n c = let few = c.variable_of-n.ensures.1 in let l = c.loop-i.invariant.2 in omega arith

pub loop-i-preserved : goal.loop-i-preserved
loop-i-preserved c =
    let s = c.args.expression.now in
    let l = c.loop-i in
    let x = c.read.result in
    let told = c.read.ensures in
    let v = c.variable_of-n.ensures in
    let low : l.i < length s / term_width = omega arith in
    let next = variables_next (expression_of s) l.i x (omega (arith, length_terms s)) (in_terms s l.i low x ∙ sym told) in
    let one = v.0 in
    let few = v.1 in
    let n = l.invariant.1 in
    let most = l.invariant.2 in
    (omega arith, omega arith, omega arith)

pub returns : goal.returns
returns c =
    let s = c.args.expression.now in
    let l = c.loop-i in
    (l.invariant.1 ∙ rw (take_all l.i (expression_of s) (omega (arith, length_terms s))), let most = l.invariant.2 in omega (arith, l.invariant.0))
