-- `bounds::count::firings_of` meets its contract. Assumes nothing.
use mathlib.Core.Path.{sym, ◌∙◌}
use native.Mathlib.Omega.{arith}
use borrow.Author.Tests.{ne_eqb}
use Rattle.rules.specs.Needs.{firings_needed}
use Rattle.check_fields.proofs.Operations.{out_code, not_out}
use Rattle.bounds.proofs.count.firings_of.Goals as goal

pub returns-in-Out : goal.returns-in-Out
unfolding firings_needed
returns-in-Out c = (rw (out_code c.args.r.code (sym c.from.ensures ∙ c.in-Out.is)), omega arith)

pub returns-in_default : goal.returns-in_default
unfolding firings_needed
returns-in_default c = (rw (ne_eqb _ _ (not_out c.args.r.code (λ e. c.in_default.not-Out (c.from.ensures ∙ e)))), omega arith)
