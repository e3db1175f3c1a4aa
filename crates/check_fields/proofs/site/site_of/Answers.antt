-- `check_fields::site::site_of` meets its contract. Assumes nothing.
use mathlib.Core.Path.{sym, ◌∙◌}
use mir.Facts.{to_z-of_z}
use mir.Val.{SFits}
use mir.Syntax.{w32}
use Rattle.check_fields.proofs.Operations.{enter_code, not_enter}
use Rattle.check_fields.proofs.Sites.{coded_site}
use Rattle.check_fields.proofs.site.site_of.Goals as goal

pub returns-in-Enter : goal.returns-in-Enter
returns-in-Enter c =
    let fits : SFits w32 c.args.r.constant = record { sfits = c.struct_told-1.given.1.1.1.1.0.1 } in
    coded_site c.small.result c.args.r (enter_code _ (sym c.from.ensures ∙ c.in-Enter.is)) (rw (to_z-of_z fits) at c.small.ensures)

pub returns-in_default : goal.returns-in_default
returns-in_default c = λ both. not_enter c.args.r.code (λ e. c.in_default.not-Enter (c.from.ensures ∙ e)) both.0
