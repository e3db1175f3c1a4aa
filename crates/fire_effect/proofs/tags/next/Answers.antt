-- `fire_effect::tags::next` meets its contract. Assumes nothing.
use mathlib.Core.Path.{sym, ap, ◌∙◌}
use Rattle.std.proofs.Common.{ok_or}
use Rattle.std.specs.Result.{result_ok}
use Rattle.rules.specs.InstructionSet.{send_next}
use Rattle.rules.specs.declared.answer.Refusal.TheVariants as Refusals
use Rattle.fire_effect.proofs.Does.{refused, passed_on}
use Rattle.fire_effect.proofs.tags.next.Goals as goal

pub returns-in_err-later : goal.returns-in_err-later
unfolding send_next
returns-in_err-later c =
    let none = c.ok_or.ensures.ok_part ∙ ap result_ok c.in_err-later.was in
    rw (passed_on c.from_residual.ensures c.in_err-later.was (c.ok_or.ensures.value ∙ ap (λ o. ok_or o Refusals.Iteration) none), sym c.next.ensures ∙ none) (refused _)

pub returns : goal.returns
unfolding send_next
returns c = rw (sym c.next.ensures ∙ c.ok_or.ensures.ok_part ∙ ap result_ok c.in_ok-later.was) c.to_all.ensures
