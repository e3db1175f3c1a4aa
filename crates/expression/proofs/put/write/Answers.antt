-- `expression::put::write` meets its contract. Assumes nothing.
use native.Mathlib.Omega.{arith}
use mathlib.Core.Path.{sym, ◌∙◌}
use lib.ListN.{length, length-set}
use Rattle.number.specs.Number.{Bytes}
use Rattle.record.specs.ExpressionRecords.{expression_of}
use Rattle.rules.specs.Expression.{out_for, out}
use Rattle.expression.proofs.Terms.{length_terms, passed_terms, passed_made}
use Rattle.expression.proofs.Puts.{lent_graph, behind, length_lent, out_put, whole_graph}
use Rattle.expression.proofs.put.write.Goals as goal

pub numbers-numbers-requires : goal.numbers-numbers-requires
numbers-numbers-requires c = (passed_made c.args.expression.now (length c.args.graph.now) c.requires).0

pub write-requires : goal.write-requires
write-requires c =
    let s = c.args.expression.now in
    let room = (passed_made s (length c.args.graph.now) c.requires).1 in
    omega (arith, length_terms s)

pub overflow_cast-out : goal.overflow_cast-out
overflow_cast-out c =
    let s = c.args.expression.now in
    let few = (passed_terms s (passed_made s (length c.args.graph.now) c.requires).0).1 in
    omega arith

pub overflow_sub-n : goal.overflow_sub-n
overflow_sub-n c =
    let s = c.args.expression.now in
    let some = (passed_terms s (passed_made s (length c.args.graph.now) c.requires).0).0 in
    omega arith

pub put-requires : goal.put-requires
put-requires c =
    let s = c.args.expression.now in
    let (ok, room) = passed_made s (length c.args.graph.now) c.requires in
    let some = (passed_terms s ok).0 in
    let same = c.write.auto.buf in
    (c.numbers-numbers.ensures, omega (arith, length_terms s), omega arith)

pub shape_of-graph : goal.shape_of-graph
shape_of-graph c = c.put.auto.graph ∙ c.write.auto.buf

pub returns : goal.returns
returns c =
    let s = c.args.expression.now in
    let g = c.args.graph.now in
    let (ok, room) = passed_made s (length g) c.requires in
    let bytes : Bytes g = λ k. (c.slice_known-1.given k).fits in
    let outs = out_put s ok g bytes room c.write.new.buf _ (sym (length_terms s)) c.out.result c.out.ensures c.write.ensures.0 in
    whole_graph s ok g bytes room c.put.new.graph _ (sym (length_terms s))
    (c.put.ensures _ (behind s ok g bytes room) (length-set (lent_graph s ok g bytes room) (out_for (expression_of s)) out ∙ length_lent s ok g bytes room) outs)
