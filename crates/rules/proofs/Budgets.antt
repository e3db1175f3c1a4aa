-- Demand 3 with two budgets, over the rules: a run that completes or hangs ends as every order does that may do as many firings (`any_two_budgets`). Assumes nothing.
use Rattle.std.proofs.Common.{Ok}
use Prim.Native.Nat.{ℕ, ◌/◌, ◌≤◌}
use mathlib.Core.Path.{◌≡◌, ap}
use mathlib.Core.List.{List}
use native.Mathlib.Omega.{arith}
use lib.ListN.{length}
use lib.IntN.{ℤ}
use Rattle.record.specs.declared.tag.Tag.{Tag}
use Rattle.record.specs.declared.array.NamedArray.{NamedArray}
use Rattle.record.specs.GraphRecords.{graph_of}
use Rattle.record.specs.Arrays.{arrays_of}
use Rattle.record.specs.TokensAndTags.{most_tokens, capacity_of}
use Rattle.record.specs.Widths.{token_width, cell_width}
use Rattle.machine.specs.Machine.{Machine, State, by_picks, run}
use Rattle.machine.specs.Orders.{Quiescent}
use Rattle.machine.proofs.Orders.{by_picks_lawful, budgets_by}
use Rattle.machine.proofs.Reached.{reached_good, reached_picks}
use Rattle.rules.specs.Check.{check_stores, check_arrays, check, most_cells}
use Rattle.rules.specs.InstructionSet.{machine_of}
use Rattle.rules.specs.Run.{first_state, picks_of, Result, refused_at_once, ran_to, outcome_of, unless_failed, result, answer}
use Rattle.rules.specs.Orders.{result_outcome, Allowed, ResultsEndAlike, AnyTwoBudgetsOfResults}
use Rattle.rules.proofs.Accepted.{whole_bytes, Whole, stores_whole, Accepted, accepted, Begun, begun_passed, law, good}
use Rattle.rules.proofs.Orders.{same_length, same_cells_lem, alike_ends}

pub quiescent_begun : (x : Result) → Quiescent (result_outcome x) → Begun x
quiescent_begun (refused_at_once r p) h = h
quiescent_begun (ran_to e) h = tt

-- ---- from inputs that passed

module _ (graph inputs : List ℕ) (table : List NamedArray) (capacity cells : ℕ) (a : Accepted graph inputs capacity) where
  abbrev M : Machine
  M = machine_of (graph_of graph) table capacity cells

  abbrev s : State Tag ℤ
  s = first_state inputs cells

  ends_alike : (budget budget' : ℕ) (picks picks' : List ℕ) → Quiescent (run M budget picks s).outcome → (run M budget picks s).firings ≤ budget'
      → ResultsEndAlike (ran_to (run M budget picks s)) (ran_to (run M budget' picks' s))
  unfolding answer
  ends_alike b b' ps qs rests enough =
      let lawful = law graph inputs table capacity cells a in
      let first = good graph inputs table capacity cells a in
      let z = budgets_by M lawful (by_picks M) (by_picks M) (by_picks_lawful M) (by_picks_lawful M) s first b b' ps qs 0 rests (omega arith) in
      let e = reached_picks M s b ps in
      let end = reached_good M lawful s first e.done e.sent _ e.reached in
      record { outcomes = ap outcome_of z.outcome; alike = alike_ends (graph_of graph) table capacity cells (run M b ps s) (run M b' qs s) end.distinct z }

-- ---- whole runs

module _ (graph arrays inputs picks : List ℕ) (budget ledger cells : ℕ) (rests : Quiescent (result_outcome (result graph arrays inputs picks budget ledger cells))) where
  passed : check graph arrays inputs picks ledger cells ≡ Ok tt
  passed = begun_passed graph arrays inputs picks budget ledger cells (quiescent_begun (result graph arrays inputs picks budget ledger cells) rests)

  parts : (check_stores (length inputs) (length picks) ledger cells ≡ Ok tt) × ((check_arrays (graph_of graph) (cells / cell_width) arrays ≡ Ok tt) × Accepted graph inputs (capacity_of ledger))
  unfolding check
  parts = accepted graph inputs (capacity_of ledger) (check_stores (length inputs) (length picks) ledger cells) (check_arrays (graph_of graph) (cells / cell_width) arrays) passed

  wholes : Whole (length inputs) (length picks) ledger cells
  wholes = stores_whole (length inputs) (length picks) ledger cells parts.0

  also_passed : (picks' : List ℕ) → Allowed picks' ledger cells → check graph arrays inputs picks' ledger cells ≡ Ok tt
  unfolding check check_stores
  also_passed picks' a = rw (parts.1.1.graph_passed, wholes.whole_inputs, a.allowed_picks, a.allowed_ledger, a.allowed_cells, parts.1.0) parts.1.1.inputs_passed

  with_lengths : (picks' : List ℕ) (budget' : ℕ) → Allowed picks' ledger cells → (answer (result graph arrays inputs picks budget ledger cells)).firings ≤ budget'
      → ResultsEndAlike (result graph arrays inputs picks budget ledger cells) (result graph arrays inputs picks' budget' ledger cells)
  unfolding result unless_failed answer
  with_lengths picks' budget' a enough =
      rw (passed, also_passed picks' a)
      (ends_alike graph inputs (arrays_of arrays) (capacity_of ledger) (cells / cell_width) parts.1.1 budget budget' (picks_of picks) (picks_of picks') (rw passed at rests) (rw passed at enough))

pub any_two_budgets : AnyTwoBudgetsOfResults
any_two_budgets graph arrays inputs picks picks' budget budget' ledger ledger' cells cells' rests a c d enough =
    let w = wholes graph arrays inputs picks budget ledger cells rests in
    let l = same_length ledger ledger' (whole_bytes token_width most_tokens ledger w.whole_ledger).0 (whole_bytes token_width most_tokens ledger' a.allowed_ledger).0 c in
    let k = same_cells_lem cells cells' (whole_bytes cell_width most_cells cells w.whole_cells).0 (whole_bytes cell_width most_cells cells' a.allowed_cells).0 d in
    rw (← l, ← k) (with_lengths graph arrays inputs picks budget ledger cells rests picks' budget' (rw (l, k) a) enough)
