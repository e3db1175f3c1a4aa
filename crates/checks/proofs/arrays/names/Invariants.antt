-- `checks::arrays::names` meets its contract. The invariant: the first i instructions passed, so that the rest decides. Assumes nothing.
use Prim.Native.Nat.{◌≤◌, ◌/◌}
use mathlib.Core.Path.{◌≡◌}
use lib.ListN.{length, drop}
use Rattle.record.specs.GraphRecords.{graph_of}
use Rattle.record.specs.Widths.{graph_width}
use Rattle.rules.specs.declared.answer.Refusal.TheVariants.{BadArray}
use Rattle.rules.specs.Check.{demand, in_turn, names_good}
use Rattle.checks.proofs.arrays.names.Given as goal

abbrev pub invariant-loop-i : goal.invariant-loop-i
invariant-loop-i l =
    (l.i ≤ length l.graph / graph_width)
    × (in_turn (λ k r. demand (names_good l.n r) BadArray k) 0 (graph_of l.graph) ≡ in_turn (λ k r. demand (names_good l.n r) BadArray k) l.i (drop l.i (graph_of l.graph)))
