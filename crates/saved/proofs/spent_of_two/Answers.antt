-- `saved::spent_of_two` meets its contract. Assumes nothing.
use Rattle.saved.specs.Passes.{spent_of_two}
use Rattle.saved.proofs.spent_of_two.Goals as goal

pub returns-then-is_spent : goal.returns-then-is_spent
unfolding spent_of_two
returns-then-is_spent c ledger i e = rw (← e, ← c.is_spent.ensures, c.if-is_spent.true, ← c.arity.ensures)

pub returns-else-is_spent : goal.returns-else-is_spent
unfolding spent_of_two
returns-else-is_spent c ledger i e = rw (← e, ← c.is_spent.ensures, c.if-is_spent.false)
