-- What an instruction of a graph that passed its check has for its operation, as the code reads it. Assumes nothing.
use Rattle.std.proofs.Common.{Ok}
use Prim.Native.Nat.{ℕ, ◌/◌, ◌≤◌, ◌<◌}
use mathlib.Core.Path.{◌≡◌}
use mathlib.Core.List.{List, [], ◌∷◌}
use native.Mathlib.Omega.{arith}
use borrow.Author.Tests.{leb-true}
use lib.ListN.{length}
use lib.Dec.{eqb}
use Rattle.record.specs.declared.instruction.Instruction.{Instruction}
use Rattle.record.specs.declared.operation.Operation.TheVariants.{Switch, Enter}
use Rattle.record.specs.GraphRecords.{row_of, operation_of, graph_of, instruction_in, destinations}
use Rattle.record.specs.GraphRecords as Graph
use Rattle.buffer.proofs.Tables.{get_d_rows}
use Rattle.record.specs.Widths.{graph_width}
use Rattle.rules.specs.Check.{instruction_at, check_graph}
use Rattle.rules.proofs.Passed.{both}
use Rattle.rules.proofs.PassedGraph.{Good, of_graph, at_most, said_of, least_fan_out_lem, enter_site, leave_site}
use Rattle.abstraction.specs.Tables.{Returns}
use Rattle.fire_effect.specs.Effects.{ReadyForTags}
use Rattle.fire_effect.proofs.Does.{both_used, records}

module _ {g : List Instruction} {i : ℕ} {r : Instruction} (good : Good g i r) where
  two : 2 ≤ (row_of r.code).least_fan_out → destinations r ≡ r.first ∷ r.second ∷ []
  two h = both_used r.fanout _ _ (omega (arith, least_fan_out_lem good))

  pub switch_two : operation_of r.code ≡ Switch → destinations r ≡ r.first ∷ r.second ∷ []
  switch_two e = two (leb-true _ _ (said_of good e))

  pub enter_two : operation_of r.code ≡ Enter → destinations r ≡ r.first ∷ r.second ∷ []
  enter_two e = two (leb-true _ _ (both (eqb r.code 8) _ (said_of good e)).1)

-- ---- an instruction, read from the bytes

module _ (graph : List ℕ) (i : ℕ) (inside : i < length graph / graph_width) where
  pub in_bytes : instruction_at (graph_of graph) i ≡ instruction_in graph i
  unfolding instruction_at
  in_bytes = get_d_rows graph_width Graph.decode_instruction (length graph / graph_width) i graph (Graph.decode_instruction []) inside

  pub ready : (tables : List ℕ) → check_graph graph ≡ Ok tt → Returns (graph_of graph) tables → ReadyForTags graph tables (operation_of (instruction_in graph i).code) (instruction_in graph i)
  ready tables passed right =
      let good : Good (graph_of graph) i (instruction_in graph i) = rw in_bytes at (of_graph graph passed i (rw (records graph) inside)) in
      record { records = at_most graph passed; returns = right; of_enter = enter_site good; of_leave = leave_site good }
