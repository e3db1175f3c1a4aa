-- `graph_tables::arities` meets its contract. The invariant: the first i entries are right. Assumes nothing.
use Prim.Native.Nat.{ℕ, ◌≤◌, ◌<◌}
use mathlib.Core.Path.{◌≡◌}
use lib.ListN.{length, get_or}
use Rattle.record.specs.declared.tag.Tag.{Tag}
use Rattle.record.specs.GraphRecords.{graph_of}
use Rattle.rules.specs.InstructionSet.{arity_in}
use Rattle.store_enabled.specs.Enabled.{arity_of}
use Rattle.graph_tables.proofs.arities.Given as goal

abbrev pub invariant-loop-i : goal.invariant-loop-i
invariant-loop-i l =
    (l.i ≤ 256) × (length l.out ≡ 641) × ((τ : Tag) → τ.instruction < l.i → arity_of l.out τ ≡ arity_in (graph_of l.graph) τ) × ((k : ℕ) → k < 256 → get_or l.out k 0 ≡ get_or l.initial.out k 0)
