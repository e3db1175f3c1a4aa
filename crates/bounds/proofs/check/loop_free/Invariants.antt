-- `bounds::check::loop_free` meets its contract. The invariant: the first i records passed, so that the rest decides. Assumes nothing.
use Prim.Native.Nat.{ℕ, ◌≤◌, ◌/◌}
use mathlib.Core.Path.{◌≡◌}
use lib.ListN.{length, drop}
use Rattle.record.specs.declared.instruction.Instruction.{Instruction}
use Rattle.record.specs.GraphRecords.{graph_of}
use Rattle.record.specs.Widths.{graph_width}
use Rattle.rules.specs.declared.answer.Refusal.TheVariants.{NotLoopFree}
use Rattle.rules.specs.Check.{demand, in_turn, Checked}
use Rattle.rules.specs.Needs.{loop_free}
use Rattle.bounds.proofs.check.loop_free.Given as goal

abbrev pub free : ℕ → Instruction → Checked
free i r = demand (loop_free r) NotLoopFree i

abbrev pub invariant-loop-i : goal.invariant-loop-i
invariant-loop-i l = (l.i ≤ length l.graph / graph_width) × (in_turn free 0 (graph_of l.graph) ≡ in_turn free l.i (drop l.i (graph_of l.graph)))
