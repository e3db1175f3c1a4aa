-- What becomes of an expression as a number, from `to_graph`'s promise: the records are packed as the firings of an answer with word and place 0, a refusal as
-- one without counts. Assumes nothing.
use Rattle.std.proofs.Common.{Result}
use Prim.Native.Nat.{ℕ}
use mathlib.Core.Path.{ap, ◌∙◌}
use Rattle.rules.specs.Answer.{values_of}
use Rattle.rules.specs.declared.answer.Answer.{Answer}
use Rattle.rules.specs.declared.answer.Fault.{Fault}
use Rattle.abi.specs.Numbers.{packed, made_number}
use Rattle.abi.proofs.ttda_expression.Goals as goal

pub shape_of-graph-in-Ok : goal.shape_of-graph-in-Ok
shape_of-graph-in-Ok c = c.to_graph.auto.graph

pub returns-in-Ok : goal.returns-in-Ok
returns-in-Ok c = let m = c.in-Ok.ensures in record { value = c.number_of.ensures ∙ ap (λ (n : Result ℕ Fault). packed (made_number n)) m.answered; graph_after = m.output_left }

pub shape_of-graph-in-Err : goal.shape_of-graph-in-Err
shape_of-graph-in-Err c = c.to_graph.auto.graph

pub returns-in-Err : goal.returns-in-Err
returns-in-Err c =
    let m = c.in-Err.ensures in record {
      value = c.number_of-in-Err.ensures ∙ ap (λ (a : Answer). packed (values_of a)) c.refused.ensures ∙ ap (λ (n : Result ℕ Fault). packed (made_number n)) m.answered;
      graph_after = m.output_left;
    }
