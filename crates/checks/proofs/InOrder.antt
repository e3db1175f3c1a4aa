-- Checks in their order: a last one behind those of what is lent. Assumes nothing.
use Rattle.std.proofs.Common.{Ok, Err}
use Prim.Native.Nat.{ℕ}
use mathlib.Core.Path.{◌≡◌, refl}
use mathlib.Core.List.{List}
use Rattle.record.specs.GraphRecords.{graph_of}
use Rattle.rules.specs.declared.answer.Fault.{Fault}
use Rattle.rules.specs.Check.{◌and_then◌, check_graph, check_arrays, check_with, Checked}

last_of_four : (a b c d : Checked) → ((a and_then b and_then c) and_then d) ≡ (a and_then b and_then c and_then d)
last_of_four (Ok _) (Ok _) c d = refl
last_of_four (Ok _) (Err fault) c d = refl
last_of_four (Err fault) b c d = refl

module _ (graph arrays : List ℕ) (cells : ℕ) (lent last : Checked) (e : Checked) (h : e ≡ (check_graph graph and_then lent and_then check_arrays (graph_of graph) cells arrays)) where
  -- one of those before failed: it is the answer
  pub ended_before : {fault : Fault} → e ≡ Err fault → Err fault ≡ check_with graph arrays cells lent last
  ended_before f = rw (← last_of_four (check_graph graph) lent (check_arrays (graph_of graph) cells arrays) last, ← h, f)

  -- they passed: the last is the answer
  pub last_decides : e ≡ Ok tt → last ≡ check_with graph arrays cells lent last
  last_decides f = rw (← last_of_four (check_graph graph) lent (check_arrays (graph_of graph) cells arrays) last, ← h, f)
