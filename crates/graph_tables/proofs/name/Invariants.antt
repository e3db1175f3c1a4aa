-- `graph_tables::name` meets its contract. The invariant: the first i arrays are in the table, and what stands before and behind them stays. Assumes nothing.
use Rattle.graph_tables.proofs.Named.{Naming}
use Rattle.graph_tables.proofs.name.Given as goal

abbrev pub invariant-loop-i : goal.invariant-loop-i
invariant-loop-i l = Naming l.arrays l.initial.out l.out l.i
