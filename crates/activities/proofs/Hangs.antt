-- Which hang it was, proved: in what a run with a bound left, all that is enabled is held back, and nothing is exactly where it completed or hung with nothing held
-- (`which_hang`). Assumes nothing.
use Rattle.std.proofs.Common.{Ok}
use Prim.Native.Nat.{ℕ, ◌+◌, ◌/◌, ◌≤◌}
use mathlib.Core.Path.{◌≡◌, refl, sym, ap, subst, ◌∙◌}
use mathlib.Core.Bool.{true, false}
use mathlib.Core.Logic.{◌⊎◌, inl, inr, ◌↔◌}
use mathlib.Core.List.Memᴰ
use mathlib.Core.List.{List, [], ◌∷◌, map, Memᴰ}
use native.Mathlib.Omega.{arith}
use lib.ListN.{length}
use lib.IntN.{ℤ}
use Rattle.number.specs.Number.{Bytes}
use Rattle.buffer.specs.Rows.{whole, written_over}
use Rattle.record.specs.declared.tag.Tag.{Tag}
use Rattle.record.specs.declared.array.NamedArray.{NamedArray}
use Rattle.record.specs.GraphRecords.{graph_of}
use Rattle.record.specs.Arrays.{arrays_of}
use Rattle.record.specs.TokensAndTags.{most_tokens, capacity_of, ledger_of}
use Rattle.record.specs.Cells as Cells
use Rattle.record.specs.Widths.{token_width, cell_width}
use Rattle.machine.specs.Machine.{Machine, StateOf, State, Activity, Outcome, completed, hung, budget_spent, refused, End, enabled, by_picks}
use Rattle.machine.specs.Orders.{Completed, Hung, Quiescent}
use Rattle.machine.specs.Bounded.{Held, free_of, run_bounded, log_bounded}
use Rattle.machine.proofs.Lists.{no_member}
use Rattle.machine.proofs.View.{false_true}
use Rattle.machine.proofs.Orders.{by_picks_lawful}
use Rattle.machine.proofs.Reached.{sequence_reaches}
use Rattle.machine.proofs.Bounded.{only_held, proper_rests, bounded_logged, SaysFree, RanBounded}
use Rattle.rules.specs.declared.answer.Refusal.{Refusal}
use Rattle.rules.specs.declared.answer.Refusal.TheVariants.{BadBound}
use Rattle.rules.specs.declared.answer.Answer.{Answer}
use Rattle.rules.specs.Check.{demand, check_stores, check_arrays, most_cells, Checked}
use Rattle.rules.specs.InstructionSet.{machine_of}
use Rattle.rules.specs.Run.{token_record, cell_record, first_state, picks_of, Result, ran_to, outcome_of, answer, ledger_after, cells_after}
use Rattle.rules.specs.Runs.{outcome_in}
use Rattle.rules.specs.Parts.{left_by}
use Rattle.rules.specs.Held.{held_in}
use Rattle.rules.specs.Saved.{state_taken}
use Rattle.rules.specs.Bounded.{good_bound, and_bound, check_bounded, bounded, LeavesNoneHeld}
use Rattle.rules.proofs.Passed.{demand_passed, and_then_passed}
use Rattle.rules.proofs.Accepted.{whole_bytes, stores_whole, Accepted, accepted, by_check}
use Rattle.rules.proofs.Saved.{Resumable, resumable_reached, resumable_start, resumed, taken_again}
use Rattle.rules.proofs.Written.{Rooms, ledger_size, cells_size}
use Rattle.rules.proofs.Outcomes.{outcome_back}
use Rattle.activities.specs.Counts.{held_of, enabled_in, held_back_in, count_lent_checked, counts, tally_of}
use Rattle.activities.specs.Hangs.{held_left, TellsHang, WhichHang}
use Rattle.activities.proofs.Counting.{both_ways, is_counted, lent_counts}

-- ---- of any machine

module _ (M : Machine) (held : Held M) (x : StateOf M) where
  nil : {A : Type 0} (l : List A) → length l ≡ 0 → l ≡ []
  nil [] h = refl
  nil (a ∷ l) h = absurd (omega arith)

  all_held : free_of M held x ≡ [] → length (held_of M held x) ≡ length (enabled M x)
  all_held f =
      let e : length (free_of M held x) ≡ 0 = ap length f in
      let b : length (held_of M held x) + length (free_of M held x) ≡ length (enabled M x) = both_ways M (held x) (enabled M x) in
      omega arith

  -- completed, or hung with none of the enabled held
  abbrev NoneHeld : Outcome M.Refusal → Type 0
  NoneHeld o = Completed o ⊎ (Hung o × ((a : Activity M.Tag) → Memᴰ a (enabled M x) → held x a ≡ false))

  tells : (o : Outcome M.Refusal) (budget n : ℕ) → Quiescent o → SaysFree M held o budget n x
      → (length (held_of M held x) ≡ length (enabled M x)) × (length (held_of M held x) ≡ 0 ↔ NoneHeld o)
  tells completed budget n q (f, proper) =
      let e = all_held f in
      (e, (λ z. inl tt, λ h. e ∙ ap length (proper_rests M x proper)))
  tells hung budget n q (f, improper) = (e, (forth, back))
    where
      e : length (held_of M held x) ≡ length (enabled M x)
      e = all_held f

      forth : length (held_of M held x) ≡ 0 → NoneHeld hung
      forth z = inr (tt, λ a m. absurd (Memᴰ.not-nil (subst (Memᴰ a) (nil (enabled M x) (sym e ∙ z)) m)))

      back : NoneHeld hung → length (held_of M held x) ≡ 0
      back (inl h) = absurd h
      back (inr (h, none)) = e ∙ ap length (no_member (enabled M x) (λ a m. false_true (sym (none a m) ∙ (only_held M held x).0 f a m)))
  tells budget_spent budget n q s = absurd q
  tells (refused r p) budget n q s = absurd q

-- ---- of a run over bytes that passed its checks

module _ (graph arrays inputs : List ℕ) (graph_bytes : Bytes graph) (input_bytes : Bytes inputs) (picks ledger cells : List ℕ) (budget k : ℕ)
    (a : Accepted graph inputs (capacity_of (length ledger))) (whole_ledger : whole token_width most_tokens (length ledger) ≡ true) (whole_cells : whole cell_width most_cells (length cells) ≡ true)
    (bound : good_bound k ≡ true) where
  abbrev table : List NamedArray
  table = arrays_of arrays

  abbrev capacity : ℕ
  capacity = capacity_of (length ledger)

  abbrev count : ℕ
  count = length cells / cell_width

  abbrev M : Machine
  M = machine_of (graph_of graph) table capacity count

  abbrev e : End Refusal Tag ℤ
  e = run_bounded M (held_in (graph_of graph) k) (by_picks M) budget (picks_of picks) 0 (first_state inputs count)

  abbrev log : List Tag
  log = log_bounded M (held_in (graph_of graph) k) (by_picks M) budget (picks_of picks) (first_state inputs count)

  ran : RanBounded M (held_in (graph_of graph) k) (first_state inputs count) budget 0 log e
  ran = bounded_logged M (held_in (graph_of graph) k) (by_picks M) (by_picks_lawful M) budget (picks_of picks) 0 (first_state inputs count)

  few : count ≤ most_cells
  few = (whole_bytes cell_width most_cells (length cells) whole_cells).1

  goes : Resumable graph graph_bytes a.graph_passed table capacity count e.firings e.state
  goes =
      let start = resumable_start graph graph_bytes a.graph_passed table capacity count inputs input_bytes a in
      let (o, r) = sequence_reaches M log (first_state inputs count) e.state ran.logged.fires in
      subst (λ (n : ℕ). Resumable graph graph_bytes a.graph_passed table capacity count n e.state) (sym ran.logged.firings)
      (resumable_reached graph graph_bytes a.graph_passed table capacity count 0 (first_state inputs count) start (length log) o e.state r)

  room : Rooms e.state ledger cells
  room = record { for_tokens = goes.saved.good.room; for_cells = goes.saved.good.cell_count }

  abbrev ledger' : List ℕ
  ledger' = ledger_of (map token_record e.state.tokens) ledger

  abbrev cells' : List ℕ
  cells' = written_over Cells.encode_cell (map cell_record e.state.cells) cells

  -- what is read back is the state, and no table is looked at
  held_back : held_back_in graph k ledger' cells' (length e.state.tokens) ≡ length (held_of M (held_in (graph_of graph) k) e.state)
  unfolding enabled
  held_back =
      resumed graph graph_bytes a.graph_passed table capacity count few e.firings e.state goes ledger cells room refl refl
      (λ c n (x : State Tag ℤ). length (held_of (machine_of (graph_of graph) [] c n) (held_in (graph_of graph) k) x))

  enabled_back : enabled_in graph ledger' cells' (length e.state.tokens) ≡ length (enabled M e.state)
  unfolding enabled
  enabled_back =
      resumed graph graph_bytes a.graph_passed table capacity count few e.firings e.state goes ledger cells room refl refl
      (λ c n (x : State Tag ℤ). length (enabled (machine_of (graph_of graph) [] c n) x))

  is_taken_lem : state_taken graph ledger' cells' e.firings (length e.state.tokens) ≡ true
  is_taken_lem = taken_again graph graph_bytes a.graph_passed table capacity count few e.firings e.state goes ledger cells room refl refl

  passes : count_lent_checked graph k (length ledger') (length cells') ≡ Ok tt
  unfolding and_bound check_stores
  passes = rw (a.graph_passed, ledger_size e.state ledger cells room, cells_size e.state ledger cells room, whole_ledger, whole_cells, bound)

  said : Quiescent (outcome_in (outcome_of e.outcome)) → (length (held_of M (held_in (graph_of graph) k) e.state) ≡ length (enabled M e.state))
      × (length (held_of M (held_in (graph_of graph) k) e.state) ≡ 0 ↔ NoneHeld M (held_in (graph_of graph) k) e.state e.outcome)
  said h = tells M (held_in (graph_of graph) k) e.state e.outcome budget (length log) (subst Quiescent (outcome_back e.outcome) h) ran.says

  finds : Quiescent (outcome_in (outcome_of e.outcome)) → counts graph k e.firings (length e.state.tokens) ledger' cells' ≡ tally_of (held_back_in graph k ledger' cells' (length e.state.tokens)) (held_back_in graph k ledger' cells' (length e.state.tokens))
  finds h =
      sym (is_counted graph ledger' cells' k e.firings (length e.state.tokens) (sym is_taken_lem) _ _ (held_back ∙ (said h).0 ∙ sym enabled_back) refl
      ∙ lent_counts graph ledger' cells' k e.firings (length e.state.tokens) passes)

  none_left : Quiescent (outcome_in (outcome_of e.outcome)) → held_back_in graph k ledger' cells' (length e.state.tokens) ≡ 0 ↔ LeavesNoneHeld graph arrays k (length ledger) (length cells) (ran_to e)
  none_left h = let (there, back) = (said h).1 in (λ z. there (sym held_back ∙ z), λ n. held_back ∙ back n)

  none_completed : Quiescent (outcome_in (outcome_of e.outcome)) → Completed (outcome_in (outcome_of e.outcome)) → held_back_in graph k ledger' cells' (length e.state.tokens) ≡ 0
  none_completed h c = (none_left h).1 (inl (subst Completed (outcome_back e.outcome) c))

-- ---- of any run

-- a result, and what it leaves
record Tells (graph arrays : List ℕ) (k : ℕ) (ledger cells : List ℕ) (z : Result) : Type 0 where
  found : counts graph k (answer z).firings (answer z).tokens (ledger_after z ledger) (cells_after z cells) ≡ tally_of (held_left graph k (left_by z ledger cells)) (held_left graph k (left_by z ledger cells))
  none : Completed (outcome_in (answer z).outcome) → held_left graph k (left_by z ledger cells) ≡ 0
  exactly : held_left graph k (left_by z ledger cells) ≡ 0 ↔ LeavesNoneHeld graph arrays k (length ledger) (length cells) z

module _ (graph arrays inputs : List ℕ) (graph_bytes : Bytes graph) (input_bytes : Bytes inputs) (picks ledger cells : List ℕ) (budget k : ℕ) where
  abbrev stores : Checked
  stores = check_stores (length inputs) (length picks) (length ledger) (length cells)

  parts : check_bounded graph arrays inputs picks k (length ledger) (length cells) ≡ Ok tt → (stores ≡ Ok tt) × (good_bound k ≡ true) × Accepted graph inputs (capacity_of (length ledger))
  unfolding check_bounded and_bound
  parts e =
      let (p, (n, a)) = accepted graph inputs (capacity_of (length ledger)) (and_bound stores k) (check_arrays (graph_of graph) (length cells / cell_width) arrays) e in
      let (s, b) = and_then_passed stores (demand (good_bound k) BadBound 0) p in
      (s, demand_passed (good_bound k) BadBound 0 b, a)

  result_tells : Quiescent (outcome_in (answer (bounded graph arrays inputs picks budget k (length ledger) (length cells))).outcome)
      → Tells graph arrays k ledger cells (bounded graph arrays inputs picks budget k (length ledger) (length cells))
  unfolding bounded answer ledger_after cells_after
  result_tells =
      by_check (check_bounded graph arrays inputs picks k (length ledger) (length cells)) _ (λ z. Quiescent (outcome_in (answer z).outcome) → Tells graph arrays k ledger cells z) (λ r p e h. absurd h) (λ e h.
      let (s, b, a) = parts e in
      let w = stores_whole (length inputs) (length picks) (length ledger) (length cells) s in
      record {
        found = finds graph arrays inputs graph_bytes input_bytes picks ledger cells budget k a w.whole_ledger w.whole_cells b h;
        none = none_completed graph arrays inputs graph_bytes input_bytes picks ledger cells budget k a w.whole_ledger w.whole_cells b h;
        exactly = none_left graph arrays inputs graph_bytes input_bytes picks ledger cells budget k a w.whole_ledger w.whole_cells b h;
      })

pub which_hang : WhichHang
which_hang graph arrays inputs graph_bytes input_bytes budget k l x ran done =
    let z = bounded graph arrays inputs l.picks budget k (length l.ledger) (length l.cells) in
    let same : x ≡ left_by z l.ledger l.cells = λ i. record { answer = ran.answered i; ledger = ran.ledger_left i; cells = ran.cells_left i } in
    let t = result_tells graph arrays inputs graph_bytes input_bytes l.picks l.ledger l.cells budget k (subst (λ (r : Answer). Quiescent (outcome_in r.outcome)) ran.answered done) in
    subst (TellsHang graph arrays inputs budget k l) (sym same) (record { found = t.found; completed = t.none; exactly = t.exactly })
