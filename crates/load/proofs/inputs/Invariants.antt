-- `load::inputs` meets its contract. The loop's invariant: the first i inputs are in the ledger.
-- Assumes nothing.
use Rattle.load.proofs.Taken.{Taken}
use Rattle.load.proofs.inputs.Given as goal

abbrev pub invariant-loop-i : goal.invariant-loop-i
invariant-loop-i l =
    Taken l.tables l.store.links l.store.flags l.initial.ledger l.ledger l.inputs l.i
