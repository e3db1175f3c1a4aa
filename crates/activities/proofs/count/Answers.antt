-- `activities::count` meets its contract: a check that failed is told, and a state that passed is counted. Assumes nothing.
use mathlib.Core.Path.{sym, ◌∙◌}
use native.Mathlib.Omega.{arith}
use Rattle.check_fields.proofs.Turns.{handed_on}
use Rattle.activities.proofs.Counting.{is_lent, lent_counts, lent_fails}
use Rattle.activities.proofs.count.Goals as goal

pub returns-in_err-check_lent : goal.returns-in_err-check_lent
returns-in_err-check_lent c =
    let a = c.args in
    handed_on c.from_residual.ensures ∙ lent_fails a.graph.now a.ledger.now a.cells.now a.bound a.firings a.tokens (sym c.check_lent.ensures ∙ c.in_err-check_lent.was)

pub count_taken-requires : goal.count_taken-requires
count_taken-requires c =
    let a = c.args in
    (is_lent a.graph.now a.ledger.now a.cells.now a.bound a.firings a.tokens (sym c.check_lent.ensures ∙ c.in_ok-check_lent.was), omega arith)

pub returns : goal.returns
returns c =
    let a = c.args in
    c.count_taken.ensures ∙ lent_counts a.graph.now a.ledger.now a.cells.now a.bound a.firings a.tokens (sym c.check_lent.ensures ∙ c.in_ok-check_lent.was)
