-- What is held back and what is free are all that is enabled, and the flags count them. Assumes nothing.
use Rattle.std.proofs.Common.{Ok, Err}
use Prim.Native.Nat.{ℕ, ◌+◌, ◌-◌, ◌/◌, ◌≤◌}
use mathlib.Core.Path.{◌≡◌, refl, sym, ap, ◌∙◌}
use mathlib.Core.Bool.{Bool, true, false, not, cond}
use mathlib.Core.List.{List, [], ◌∷◌, map}
use native.Mathlib.Omega.{arith}
use lib.ListN.{length, get_or, length-map}
use Rattle.record.specs.declared.array.NamedArray.{NamedArray}
use Rattle.record.specs.declared.tag.Tag.{Tag}
use Rattle.record.specs.declared.cell.Cell.{Cell}
use Rattle.record.specs.GraphRecords.{graph_of}
use Rattle.record.specs.TokensAndTags.{tokens, capacity_of}
use Rattle.record.specs.Cells as Cells
use Rattle.record.specs.Widths.{cell_width}
use Rattle.buffer.specs.Rows.{all_rows}
use Rattle.machine.specs.Machine.{Machine, StateOf, Activity, enabled}
use Rattle.machine.specs.Bounded.{without_held, free_of}
use Rattle.rules.specs.declared.answer.Fault.{Fault}
use Rattle.rules.specs.declared.answer.Refusal.TheVariants.{DamagedState}
use Rattle.rules.specs.Check.{check_graph, check_stores, fault_at}
use Rattle.rules.specs.InstructionSet.{machine_of}
use Rattle.rules.specs.Held.{held_in}
use Rattle.rules.specs.Bounded.{and_bound}
use Rattle.rules.specs.Saved.{state_saved, machine_saved, state_taken}
use Rattle.store_flags.specs.Flags.{places, minus, Under}
use Rattle.store.proofs.Laws.{matching_places}
use Rattle.abstraction.specs.States.{no_token, state_held}
use Rattle.abstraction.proofs.Enabled.{held_enabled}
use Rattle.check_fields.proofs.Turns.{both-passed}
use Rattle.checks.proofs.Passed.{passed_stores}
use Rattle.fire.specs.Running.{Prepared, Running}
use Rattle.fire.proofs.Place.{on_ports}
use Rattle.held.specs.Deciding.{HeldDecided}
use Rattle.held.proofs.Free.{held_under, free_places}
use Rattle.activities.specs.Counts.{enabled_in, held_back_in, count_lent_checked, counted, counts, tally_of}
use Rattle.activities.specs.Ready.{LentToCount, ReadyToCount}

-- ---- of any list

module _ (M : Machine) (held : Activity M.Tag → Bool) where
  pub both_ways : (l : List (Activity M.Tag)) → length (without_held M (λ a. not (held a)) l) + length (without_held M held l) ≡ length l
  both_ways [] = refl
  both_ways (a ∷ l) = go (held a) (both_ways l)
    where
      go : (b : Bool) → length (without_held M (λ x. not (held x)) l) + length (without_held M held l) ≡ length l
          → length (cond (not b) (without_held M (λ x. not (held x)) l) (a ∷ without_held M (λ x. not (held x)) l)) + length (cond b (without_held M held l) (a ∷ without_held M held l)) ≡ length (a ∷ l)
      go true h = omega arith
      go false h = omega arith

  pub none_passes : ((a : Activity M.Tag) → held a ≡ false) → (l : List (Activity M.Tag)) → length (without_held M (λ a. not (held a)) l) ≡ 0
  none_passes h [] = refl
  none_passes h (a ∷ l) = rw (h a) (none_passes h l)

-- ---- by the flags

module _ (graph : List ℕ) {tables flags ledger : List ℕ} {used : ℕ} (r : ReadyToCount graph tables flags ledger used) (table : List NamedArray) (capacity count : ℕ) (cs : List Cell) where
  abbrev M₀ : Machine
  M₀ = machine_of (graph_of graph) table capacity count

  abbrev s₀ : StateOf M₀
  s₀ = state_held (tokens used ledger) cs

  abbrev activity : ℕ → Activity Tag
  activity p = record { place = p; tag = (get_or (tokens used ledger) p no_token).tag }

  pub flags_enabled : length (places flags) ≡ length (enabled M₀ s₀)
  flags_enabled =
      let e = held_enabled (graph_of graph) table capacity count tables (tokens used ledger) cs no_token r.prepared.arities_right (on_ports (graph_of graph) (tokens used ledger) r.running.arrived) in
      sym (ap length (e ∙ ap (map activity) (sym (matching_places r.running.matching))) ∙ length-map (places flags) activity)

  module _ (k : ℕ) (held : List ℕ) (d : HeldDecided (graph_of graph) k flags held ledger used) where
    pub flags_under : Under held flags
    flags_under = held_under (graph_of graph) table capacity count k tables r.links flags held ledger used cs r.prepared.arities_right (on_ports (graph_of graph) (tokens used ledger) r.running.arrived) r.running.matching d

    pub flags_free : length (places (minus flags held)) ≡ length (free_of M₀ (held_in (graph_of graph) k) s₀)
    flags_free =
        sym (ap length (free_places (graph_of graph) table capacity count k tables r.links flags held ledger used cs r.prepared.arities_right (on_ports (graph_of graph) (tokens used ledger) r.running.arrived) r.running.matching d)
        ∙ length-map (places (minus flags held)) activity)

-- ---- of a state that is taken

pub ready : {graph tables links flags ledger cells : List ℕ} {used : ℕ} → Prepared graph tables → Running (graph_of graph) tables links flags ledger cells used → ReadyToCount graph tables flags ledger used
ready {links = links} {cells = cells} p r = record { prepared = p; links = links; cells = cells; running = r }

module _ (graph : List ℕ) {tables flags ledger : List ℕ} {used : ℕ} (r : ReadyToCount graph tables flags ledger used) (cells : List ℕ) where
  pub found_enabled : length (places flags) ≡ enabled_in graph ledger cells used
  unfolding state_saved
  found_enabled = flags_enabled graph r [] (capacity_of (length ledger)) (length cells / cell_width) (all_rows cell_width Cells.decode_cell cells)

  module _ (k free : ℕ)
      (told : (table : List NamedArray) (capacity count : ℕ) (cs : List Cell) → free ≡ length (free_of (machine_of (graph_of graph) table capacity count) (held_in (graph_of graph) k) (state_held (tokens used ledger) cs))) where
    all_counted : held_back_in graph k ledger cells used + free ≡ length (places flags)
    unfolding state_saved
    all_counted =
        let M = machine_saved graph [] ledger cells in
        let s = state_saved ledger cells used in
        let e = told [] (capacity_of (length ledger)) (length cells / cell_width) (all_rows cell_width Cells.decode_cell cells) in
        let f = flags_enabled graph r [] (capacity_of (length ledger)) (length cells / cell_width) (all_rows cell_width Cells.decode_cell cells) in
        ap (λ (n : ℕ). held_back_in graph k ledger cells used + n) e ∙ both_ways M (held_in (graph_of graph) k s) (enabled M s) ∙ sym f

    pub free_few : free ≤ length (places flags)
    free_few = omega (arith, all_counted)

    pub found_held : length (places flags) - free ≡ held_back_in graph k ledger cells used
    found_held = omega (arith, all_counted)

pub found_none : (graph ledger cells : List ℕ) (used : ℕ) → 0 ≡ held_back_in graph 0 ledger cells used
unfolding held_in
found_none graph ledger cells used =
    let M = machine_saved graph [] ledger cells in
    sym (none_passes M (held_in (graph_of graph) 0 (state_saved ledger cells used)) (λ a. refl) (enabled M (state_saved ledger cells used)))

-- ---- what is answered

module _ (graph ledger cells : List ℕ) (k firings n : ℕ) where
  pub is_counted : true ≡ state_taken graph ledger cells firings n → (e h : ℕ) → e ≡ enabled_in graph ledger cells n → h ≡ held_back_in graph k ledger cells n → tally_of e h ≡ counted graph k firings n ledger cells
  unfolding counted
  is_counted t e h a b = rw (← t) (λ i. tally_of (a i) (b i))

  pub is_damaged : false ≡ state_taken graph ledger cells firings n → Err (fault_at DamagedState 0) ≡ counted graph k firings n ledger cells
  unfolding counted
  is_damaged t = rw (← t)

  whole_stores : and_bound (check_stores 0 0 (length ledger) (length cells)) k ≡ Ok tt → check_stores 0 0 (length ledger) (length cells) ≡ Ok tt
  unfolding and_bound
  whole_stores e = (both-passed (check_stores 0 0 (length ledger) (length cells)) _ e).0

  pub is_lent : count_lent_checked graph k (length ledger) (length cells) ≡ Ok tt → LentToCount graph (length ledger) (length cells)
  is_lent e =
      let (g, later) = both-passed (check_graph graph) _ e in
      let stores = passed_stores 0 0 (length ledger) (length cells) (whole_stores later) in
      record { graph_passed = g; few = stores.token_records.1; cell_records = stores.cell_records }

  pub lent_counts : count_lent_checked graph k (length ledger) (length cells) ≡ Ok tt → counted graph k firings n ledger cells ≡ counts graph k firings n ledger cells
  unfolding counts
  lent_counts e = rw e

  pub lent_fails : {fault : Fault} → count_lent_checked graph k (length ledger) (length cells) ≡ Err fault → Err fault ≡ counts graph k firings n ledger cells
  unfolding counts
  lent_fails e = rw e
