-- `fire_effect::tags::enter` meets its contract. Assumes nothing.
use mathlib.Core.Path.{◌≡◌, sym, ap, ◌∙◌}
use mir.Facts.{to_z-of_z}
use mir.Syntax.{w32}
use mir.Val.{SFits}
use lib.IntN.{nat_abs}
use Rattle.record.specs.Calls.{enter_of}
use Rattle.rules.specs.InstructionSet.{send_entered}
use Rattle.std.proofs.Common.{ok_or}
use Rattle.std.specs.Result.{result_ok}
use Rattle.rules.specs.declared.answer.Refusal.TheVariants as Refusals
use Rattle.fire_effect.proofs.Does.{refused, passed_on}
use Rattle.fire_effect.proofs.tags.enter.Goals as goal
use Rattle.fire_effect.proofs.tags.enter.Goals.{After-enter}

pub returns-in_err-inner : goal.returns-in_err-inner
unfolding send_entered
returns-in_err-inner c =
    let gave : c.enter.result ≡ enter_of c.args.tag (nat_abs c.args.r.constant) = let fits : SFits w32 c.args.r.constant = record { sfits = c.struct_told-1.given.1.1.1.1.0.1 } in
    c.enter.ensures ∙ rw (c.byte.ensures, to_z-of_z fits) in
    let none = c.ok_or.ensures.ok_part ∙ ap result_ok c.in_err-inner.was in
    rw (passed_on c.from_residual.ensures c.in_err-inner.was (c.ok_or.ensures.value ∙ ap (λ o. ok_or o Refusals.TooDeep) none), sym gave ∙ none) (refused _)

pub returns : goal.returns
unfolding send_entered
returns c =
    let gave : c.enter.result ≡ enter_of c.args.tag (nat_abs c.args.r.constant) = let fits : SFits w32 c.args.r.constant = record { sfits = c.struct_told-1.given.1.1.1.1.0.1 } in
    c.enter.ensures ∙ rw (c.byte.ensures, to_z-of_z fits) in
    rw (sym gave ∙ c.ok_or.ensures.ok_part ∙ ap result_ok c.in_ok-inner.was) c.to_one.ensures
