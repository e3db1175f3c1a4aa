-- `expression::put::put` calls itself. The measure is the record number: what a record names comes before it. Assumes nothing.
use Rattle.expression.proofs.put.+put.Given as goal

abbrev pub decreases-put : goal.decreases-put
decreases-put l = l.i
