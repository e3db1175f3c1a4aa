-- `check_fields::site::Entered::good` meets its contract. Assumes nothing.
use mathlib.Core.Path.{sym, ◌∙◌}
use borrow.Author.Tests.{ne_eqb}
use mir.Facts.{to_z-of_z}
use mir.Val.{SFits}
use mir.Syntax.{w32}
use Rattle.rules.specs.Check.{good_site}
use Rattle.check_fields.proofs.Sites.{enter_good}
use Rattle.check_fields.proofs.Constants.{some_small}
use Rattle.check_fields.proofs.Operations.{enter_code, leave_code, not_enter, not_leave}
use Rattle.check_fields.proofs.site.Entered.good.Goals as goal

pub returns-in-Enter : goal.returns-in-Enter
returns-in-Enter c =
    let fits : SFits w32 c.args.r.constant = record { sfits = c.struct_told-1.given.1.1.1.1.0.1 } in
    λ earlier s. (rw (to_z-of_z fits) at c.good_enter.ensures) ∙ enter_good earlier c.args.self.now s c.args.r (enter_code _ (sym c.from.ensures ∙ c.in-Enter.is))

pub returns-in-Leave : goal.returns-in-Leave
unfolding good_site
returns-in-Leave c =
    let r = c.args.r in
    let fits : SFits w32 r.constant = record { sfits = c.struct_told-in-Leave-1.given.1.1.1.1.0.1 } in
    λ earlier s. c.is_some.ensures ∙ some_small r.constant c.small.result (rw (to_z-of_z fits) at c.small.ensures) ∙ rw (leave_code r.code (sym c.from.ensures ∙ c.in-Leave.is))

pub returns-in_default : goal.returns-in_default
unfolding good_site
returns-in_default c =
    let code = c.args.r.code in
    λ earlier s. rw (ne_eqb code 8 (not_enter code (λ e. c.in_default.not-Enter (c.from.ensures ∙ e))), ne_eqb code 9 (not_leave code (λ e. c.in_default.not-Leave (c.from.ensures ∙ e))))
