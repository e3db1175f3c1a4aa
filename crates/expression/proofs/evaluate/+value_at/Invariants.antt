-- `expression::evaluate::value_at` calls itself. The measure is the record number: what a record names comes before it. Assumes nothing.
use Rattle.expression.proofs.evaluate.+value_at.Given as goal

abbrev pub decreases-value_at : goal.decreases-value_at
decreases-value_at l = l.i
