-- `expression::evaluate::whole` meets its contract. Assumes nothing.
use native.Mathlib.Omega.{arith}
use lib.ListN.{length}
use Rattle.expression.proofs.Terms.{length_terms, passed_terms, passed_values}
use Rattle.expression.proofs.evaluate.whole.Goals as goal

pub numbers-numbers-requires : goal.numbers-numbers-requires
numbers-numbers-requires c = (passed_values c.args.expression.now (length c.args.values.now) c.requires).0

pub overflow_sub-expression : goal.overflow_sub-expression
overflow_sub-expression c =
    let s = c.args.expression.now in
    let some = (passed_terms s (passed_values s (length c.args.values.now) c.requires).0).0 in
    omega arith

pub value_at-requires : goal.value_at-requires
value_at-requires c =
    let s = c.args.expression.now in
    let (ok, many) = passed_values s (length c.args.values.now) c.requires in
    let some = (passed_terms s ok).0 in
    (c.numbers-numbers.ensures, omega (arith, length_terms s), omega arith)

pub returns : goal.returns
returns c =
    let a = c.args in
    let s = a.expression.now in
    rw (length_terms s) c.value_at.ensures
