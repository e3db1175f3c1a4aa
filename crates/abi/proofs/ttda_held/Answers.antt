-- `abi::ttda_held` meets its contract: the counts are packed as an answer with word and place 0, a refusal as one without counts. Assumes nothing.
use Rattle.std.proofs.Common.{Result}
use mathlib.Core.Path.{ap, ◌∙◌}
use Rattle.rules.specs.Answer.{values_of}
use Rattle.rules.specs.declared.answer.Answer.{Answer}
use Rattle.rules.specs.declared.answer.Fault.{Fault}
use Rattle.activities.specs.declared.Tally.{Tally}
use Rattle.abi.specs.Numbers.{packed, tally_number}
use Rattle.abi.proofs.ttda_held.Goals as goal

pub returns-in-Ok : goal.returns-in-Ok
returns-in-Ok c = c.number_of.ensures ∙ ap (λ (t : Result Tally Fault). packed (tally_number t)) c.in-Ok.ensures

pub returns-in-Err : goal.returns-in-Err
returns-in-Err c =
    c.number_of-in-Err.ensures ∙ ap (λ (a : Answer). packed (values_of a)) c.refused.ensures ∙ ap (λ (t : Result Tally Fault). packed (tally_number t)) c.in-Err.ensures
