-- The bounds as a number, from `bounds`' promise: the bounds are packed as an answer with word and place 0, a refusal as one without counts. Assumes nothing.
use Rattle.std.proofs.Common.{Result}
use mathlib.Core.Path.{ap, sym, ◌∙◌}
use Rattle.rules.specs.declared.answer.Answer.{Answer}
use Rattle.rules.specs.declared.answer.Fault.{Fault}
use Rattle.rules.specs.declared.answer.Needs.{Needs}
use Rattle.rules.specs.Answer.{values_of, values_needed}
use Rattle.abi.specs.Numbers.{packed}
use Rattle.abi.proofs.ttda_bounds.Goals as goal

pub returns-in-Ok : goal.returns-in-Ok
returns-in-Ok c = c.number_of.ensures ∙ ap (λ (n : Result Needs Fault). packed (values_needed n)) c.in-Ok.ensures.answered

pub returns-in-Err : goal.returns-in-Err
returns-in-Err c =
    c.number_of-in-Err.ensures ∙ ap (λ (a : Answer). packed (values_of a)) c.refused.ensures
    ∙ ap (λ (n : Result Needs Fault). packed (values_needed n)) c.in-Err.ensures.answered
