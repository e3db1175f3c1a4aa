-- What a check that passed says of the graph, the stores and the inputs (`accepted`, `stores_whole`): the machine of such a graph is lawful and starts well from
-- such inputs (`law`, `begins`, `good`). A result is a refusal that a check found, or what comes after a check that passed (`by_check`). Assumes nothing.
use Rattle.std.proofs.Common.{Ok, Err}
use Prim.Native.Nat.{ℕ, ◌/◌, ◌%◌, ◌≤◌}
use mathlib.Core.Path.{◌≡◌, refl}
use mathlib.Core.Bool.{true}
use mathlib.Core.List.{List}
use lib.ListN.{length}
use lib.Dec.{eqb, leb}
use borrow.Author.Tests.{eqb-true, leb-true}
use Rattle.buffer.specs.Rows.{whole}
use Rattle.record.specs.declared.array.NamedArray.{NamedArray}
use Rattle.record.specs.GraphRecords.{graph_of}
use Rattle.record.specs.TokensAndTags.{most_tokens, capacity_of}
use Rattle.record.specs.Widths.{token_width, cell_width, pick_width}
use Rattle.machine.specs.Orders.{Lawful, Good, Start}
use Rattle.machine.proofs.Orders.{start_good}
use Rattle.rules.specs.declared.answer.Refusal.{Refusal}
use Rattle.rules.specs.declared.answer.Refusal.TheVariants.{BadStore}
use Rattle.rules.specs.Check.{◌and_then◌, check_graph, check_stores, check_arrays, check_inputs, check, most_cells, Checked, fault_at}
use Rattle.rules.specs.InstructionSet.{machine_of}
use Rattle.rules.specs.Run.{first_state, Result, refused_at_once, ran_to, unless_failed, result}
use Rattle.rules.proofs.Passed.{both, demand_passed, and_then_passed}
use Rattle.rules.proofs.Lawful.{lawful}
use Rattle.rules.proofs.Inputs.{start}

-- ---- the stores

-- whole records: the bytes divide by the width, and the records are no more than the most
pub whole_bytes : (width most n : ℕ) → whole width most n ≡ true → (n % width ≡ 0) × (n / width ≤ most)
whole_bytes width most n e =
    let parts = both (eqb (n % width) 0) (leb (n / width) most) e in
    (eqb-true (n % width) 0 parts.0, leb-true (n / width) most parts.1)

-- by their lengths in bytes
pub record Whole (inputs picks ledger cells : ℕ) : Type 0 where
  pub whole_inputs : whole token_width most_tokens inputs ≡ true
  pub whole_picks : whole pick_width most_tokens picks ≡ true
  pub whole_ledger : whole token_width most_tokens ledger ≡ true
  pub whole_cells : whole cell_width most_cells cells ≡ true

pub stores_whole : (inputs picks ledger cells : ℕ) → check_stores inputs picks ledger cells ≡ Ok tt → Whole inputs picks ledger cells
unfolding check_stores
stores_whole inputs picks ledger cells e =
    let all = both (whole token_width most_tokens inputs) _ (demand_passed _ BadStore 0 e) in
    let later = both (whole pick_width most_tokens picks) _ all.1 in
    let last = both (whole token_width most_tokens ledger) _ later.1 in
    record { whole_inputs = all.0; whole_picks = later.0; whole_ledger = last.0; whole_cells = last.1 }

-- ---- graph and inputs

pub record Accepted (graph inputs : List ℕ) (capacity : ℕ) : Type 0 where
  pub graph_passed : check_graph graph ≡ Ok tt
  pub inputs_passed : check_inputs (graph_of graph) capacity inputs ≡ Ok tt

-- the checks between the two are of the stores and of the table of arrays
pub accepted : (graph inputs : List ℕ) (capacity : ℕ) (stores arrays : Checked) → (check_graph graph and_then stores and_then arrays and_then check_inputs (graph_of graph) capacity inputs) ≡ Ok tt
    → (stores ≡ Ok tt) × ((arrays ≡ Ok tt) × Accepted graph inputs capacity)
accepted graph inputs capacity stores arrays e =
    let parts = and_then_passed (check_graph graph) _ e in
    let later = and_then_passed stores _ parts.1 in
    let last = and_then_passed arrays _ later.1 in
    (later.0, (last.0, record { graph_passed = parts.0; inputs_passed = last.1 }))

module _ (graph inputs : List ℕ) (table : List NamedArray) (capacity cells : ℕ) (a : Accepted graph inputs capacity) where
  pub law : Lawful (machine_of (graph_of graph) table capacity cells)
  law = lawful graph a.graph_passed table capacity cells

  pub begins : Start (machine_of (graph_of graph) table capacity cells) (first_state inputs cells)
  begins = start (graph_of graph) table capacity cells inputs a.inputs_passed

  pub good : Good (machine_of (graph_of graph) table capacity cells) (first_state inputs cells)
  good = start_good (machine_of (graph_of graph) table capacity cells) (first_state inputs cells) begins

-- ---- results

pub by_check : (c : Checked) (x : Result) (P : Result → Type 0) → ((r : Refusal) (p : ℕ) → c ≡ Err (fault_at r p) → P (refused_at_once r p)) → (c ≡ Ok tt → P x) → P (unless_failed c x)
unfolding unless_failed
by_check (Ok _) x P failed passed = passed refl
by_check (Err fault) x P failed passed = failed fault.refusal fault.place refl

-- a run that was not refused before any firing
abbrev pub Begun : Result → Type 0
Begun (refused_at_once r p) = ⊥
Begun (ran_to e) = Unit {0}

-- passed its check
pub begun_passed : (graph arrays inputs picks : List ℕ) (budget ledger cells : ℕ) → Begun (result graph arrays inputs picks budget ledger cells) → check graph arrays inputs picks ledger cells ≡ Ok tt
unfolding result
begun_passed graph arrays inputs picks budget ledger cells =
    by_check (check graph arrays inputs picks ledger cells) _ (λ x. Begun x → check graph arrays inputs picks ledger cells ≡ Ok tt) (λ r p e h. absurd h) (λ e h. e)

-- and that of its stores
pub begun_stores : (graph arrays inputs picks : List ℕ) (budget ledger cells : ℕ) → Begun (result graph arrays inputs picks budget ledger cells) → check_stores (length inputs) (length picks) ledger cells ≡ Ok tt
unfolding result check
begun_stores graph arrays inputs picks budget ledger cells =
    by_check (check graph arrays inputs picks ledger cells) _ (λ x. Begun x → check_stores (length inputs) (length picks) ledger cells ≡ Ok tt) (λ r p e h. absurd h)
    (λ e h. (accepted graph inputs (capacity_of ledger) (check_stores (length inputs) (length picks) ledger cells) (check_arrays (graph_of graph) (cells / cell_width) arrays) e).0)
