-- `ending::proper_at` meets its contract: where the state is 1, the token is spent. Assumes nothing.
use mathlib.Core.Path.{sym, ◌∙◌}
use borrow.Author.Tests.{eqb-true}
use Rattle.ending.proofs.Laws.{proper_spent}
use Rattle.ending.proofs.proper_at.Goals as goal

pub returns-then-spent_at : goal.returns-then-spent_at
returns-then-spent_at c = let a = c.args in c.if-spent_at.true ∙ sym (proper_spent a.tables.now a.ledger.now a.i (eqb-true _ 1 (sym c.spent_at.ensures ∙ c.if-spent_at.true)))
