-- 02, R-13: a run that goes on from a saved state. Its own firings come after those before, so that what the loop does from there is what 02 asks (`goes_on`).
-- Assumes nothing.
use Rattle.std.proofs.Common.{Ok, Err}
use Prim.Native.Nat.{ℕ, ◌+◌, ◌/◌, ◌≤◌}
use mathlib.Core.Path.{◌≡◌, refl, ap, ◌∙◌, subst}
use mathlib.Core.Bool.{true, false}
use mathlib.Core.List.{List}
use native.Mathlib.Omega.{arith}
use lib.ListN.{length}
use lib.IntN.{ℤ}
use Rattle.record.specs.declared.tag.Tag.{Tag}
use Rattle.record.specs.declared.array.NamedArray.{NamedArray}
use Rattle.record.specs.GraphRecords.{graph_of}
use Rattle.record.specs.Arrays.{arrays_of}
use Rattle.record.specs.Widths.{cell_width}
use Rattle.machine.specs.Machine.{Machine, End, by_picks}
use Rattle.machine.specs.Bounded.{run_bounded}
use Rattle.machine.proofs.Bounded.{bounded_logged}
use Rattle.machine.proofs.Orders.{by_picks_lawful}
use Rattle.rules.specs.declared.answer.Refusal.{Refusal}
use Rattle.rules.specs.declared.answer.Refusal.TheVariants.{DamagedState}
use Rattle.rules.specs.declared.answer.Outcome.TheVariants as Outcomes
use Rattle.rules.specs.declared.answer.Answer.{Answer}
use Rattle.rules.specs.Answer.{values_of}
use Rattle.rules.specs.Check.{◌and_then◌, demand, check_graph, check_stores, check_arrays, Checked, fault_at}
use Rattle.rules.specs.Run.{picks_of, Result, refused_at_once, unless_failed, outcome_of, answer, ledger_after, cells_after, Ran}
use Rattle.rules.specs.Held.{held_in}
use Rattle.rules.specs.Saved.{state_saved, machine_saved, state_taken}
use Rattle.rules.specs.Bounded.{and_bound, check_bound_saved, bound_carried, BoundCarriedOn}
use Rattle.check_fields.proofs.Turns.{both-passed}
use Rattle.checks.proofs.Passed.{passed_stores, passed_arrays}
use Rattle.abstraction.specs.Tables.{arrays_in}
use Rattle.start.specs.Ended.{EndedAt}
use Rattle.engine.specs.Turns.{end_bounded}
use Rattle.engine.specs.Resumed.{resume_lent_checked, LentToResume, resumed}

-- ---- the run

module _ (graph arrays picks ledger cells : List ℕ) (budget k firings used : ℕ) where
  abbrev N : Machine
  N = machine_saved graph (arrays_of arrays) ledger cells

  abbrev own : End Refusal Tag ℤ
  own = run_bounded N (held_in (graph_of graph) k) (by_picks N) budget (picks_of picks) 0 (state_saved ledger cells used)

  -- no more than the budget
  few : own.firings ≤ budget
  few = let r = bounded_logged N (held_in (graph_of graph) k) (by_picks N) (by_picks_lawful N) budget (picks_of picks) 0 (state_saved ledger cells used) in omega (arith, r.logged.firings, r.within)

  -- by the tables that the loop goes by
  module _ (tables : List ℕ) (named : arrays_in tables ≡ arrays_of arrays) where
    same_own : end_bounded k picks (graph_of graph) tables ledger cells used budget ≡ own
    unfolding state_saved
    same_own = ap (λ (table : List NamedArray). let M = machine_saved graph table ledger cells in run_bounded M (held_in (graph_of graph) k) (by_picks M) budget (picks_of picks) 0 (state_saved ledger cells used)) named

    pub own_few : (r : Answer) (ledger' cells' : List ℕ) → EndedAt (end_bounded k picks (graph_of graph) tables ledger cells used budget) r ledger cells ledger' cells' → r.firings ≤ budget
    own_few r ledger' cells' h =
        let e : r.firings ≡ (end_bounded k picks (graph_of graph) tables ledger cells used budget).firings = ap (λ (a : Answer). a.firings) h.answered in
        let k : (end_bounded k picks (graph_of graph) tables ledger cells used budget).firings ≡ own.firings = ap (λ (x : End Refusal Tag ℤ). x.firings) same_own in
        omega (arith, few)

    pub goes_on_lem : true ≡ state_taken graph ledger cells firings used → (r a : Answer) (ledger' cells' : List ℕ) → EndedAt (end_bounded k picks (graph_of graph) tables ledger cells used budget) r ledger cells ledger' cells'
        → a ≡ record { outcome = r.outcome; firings = firings + r.firings; tokens = r.tokens } → Ran (resumed graph arrays picks budget k ledger cells firings used) a ledger ledger' cells cells'
    unfolding unless_failed answer ledger_after cells_after
    goes_on_lem t r a ledger' cells' h e =
        let z = subst (λ (x : End Refusal Tag ℤ). EndedAt x r ledger cells ledger' cells') same_own h in
        let told : a ≡ record { outcome = outcome_of own.outcome; firings = firings + own.firings; tokens = length own.state.tokens } =
        e ∙ ap (λ (x : Answer). record { outcome = x.outcome; firings = firings + x.firings; tokens = x.tokens }) z.answered in
        let all : firings + own.firings ≡ (run_bounded N (held_in (graph_of graph) k) (by_picks N) budget (picks_of picks) firings (state_saved ledger cells used)).firings = omega arith in
        let same = told ∙ ap (λ (n : ℕ). record { outcome = outcome_of own.outcome; firings = n; tokens = length own.state.tokens }) all in
        rw (← t) (record { answered = same; numbers = ap values_of same; ledger_left = z.ledger_left; cells_left = z.cells_left })

  pub refuses : false ≡ state_taken graph ledger cells firings used → (a : Answer) (ledger' : List ℕ) → a ≡ record { outcome = Outcomes.Refused DamagedState 0; firings = 0; tokens = 0 } → ledger' ≡ ledger
      → Ran (resumed graph arrays picks budget k ledger cells firings used) a ledger ledger' cells cells
  unfolding unless_failed answer ledger_after cells_after
  refuses t a ledger' e l = rw (← t) (record { answered = e; numbers = ap values_of e; ledger_left = l; cells_left = refl })

  -- ---- the checks before

  whole_stores : and_bound (check_stores 0 (length picks) (length ledger) (length cells)) k ≡ Ok tt → check_stores 0 (length picks) (length ledger) (length cells) ≡ Ok tt
  unfolding and_bound
  whole_stores e = (both-passed (check_stores 0 (length picks) (length ledger) (length cells)) _ e).0

  pub lent : resume_lent_checked graph arrays (length picks) k (length ledger) (length cells) ≡ Ok tt → LentToResume graph arrays (length ledger) (length cells)
  lent e =
      let (g, later) = both-passed (check_graph graph) _ e in
      let (s, named) = both-passed (and_bound (check_stores 0 (length picks) (length ledger) (length cells)) k) _ later in
      let stores = passed_stores 0 (length picks) (length ledger) (length cells) (whole_stores s) in
      record { graph_passed = g; few_arrays = passed_arrays (graph_of graph) (length cells / cell_width) arrays named; few = stores.token_records.1; cell_records = stores.cell_records }

  pub lent_failed : (r : Refusal) (p : ℕ) → resume_lent_checked graph arrays (length picks) k (length ledger) (length cells) ≡ Err (fault_at r p) → bound_carried graph arrays picks budget k ledger cells firings used ≡ refused_at_once r p
  unfolding bound_carried check_bound_saved unless_failed
  lent_failed r p e = go (check_graph graph) (and_bound (check_stores 0 (length picks) (length ledger) (length cells)) k) (check_arrays (graph_of graph) (length cells / cell_width) arrays) e
      (demand (state_taken graph ledger cells firings used) DamagedState 0) _
    where
      go : (c d n : Checked) → (c and_then d and_then n) ≡ Err (fault_at r p) → (x : Checked) (y : Result) → unless_failed (c and_then d and_then n and_then x) y ≡ refused_at_once r p
      go (Err fault) d n h x y = let a : ◌≡◌ {A = Checked} (Err fault) (Err (fault_at r p)) = h in ap (λ (k : Checked). unless_failed k y) a
      go (Ok _) (Err fault) n h x y = let a : ◌≡◌ {A = Checked} (Err fault) (Err (fault_at r p)) = h in ap (λ (k : Checked). unless_failed k y) a
      go (Ok _) (Ok _) (Err fault) h x y = let a : ◌≡◌ {A = Checked} (Err fault) (Err (fault_at r p)) = h in ap (λ (k : Checked). unless_failed k y) a
      go (Ok _) (Ok _) (Ok _) h x y = let z : ◌≡◌ {A = ℕ} 0 1 = cc in absurd (omega arith)

  pub lent_passed : resume_lent_checked graph arrays (length picks) k (length ledger) (length cells) ≡ Ok tt → bound_carried graph arrays picks budget k ledger cells firings used ≡ resumed graph arrays picks budget k ledger cells firings used
  unfolding bound_carried check_bound_saved
  lent_passed e =
      let (g, later) = both-passed (check_graph graph) _ e in
      let (s, named) = both-passed (and_bound (check_stores 0 (length picks) (length ledger) (length cells)) k) _ later in
      rw (g, s, named)

  -- a refusal of the checks
  pub failed : (r : Refusal) (p : ℕ) → resume_lent_checked graph arrays (length picks) k (length ledger) (length cells) ≡ Err (fault_at r p) → (a : Answer) → a ≡ record { outcome = Outcomes.Refused r p; firings = 0; tokens = 0 }
      → BoundCarriedOn graph arrays picks budget k firings used a ledger ledger cells cells
  unfolding answer ledger_after cells_after
  failed r p e a h = rw (lent_failed r p e) (record { answered = h; numbers = ap values_of h; ledger_left = refl; cells_left = refl })
