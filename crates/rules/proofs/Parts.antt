-- 02, R-13, proved in bytes: a run in parts ends as the uncut run (`cut_runs`, `cut_again`), and what a run leaves is taken (`leaves_taken`) and fits its records (`carried_fits`). Assumes nothing.
use Rattle.std.proofs.Common.{Ok, Err}
use Prim.Native.Nat.{ℕ, ◌+◌, ◌*◌, ◌/◌, ◌%◌, ◌≤◌}
use mathlib.Core.Path.{◌≡◌, refl, sym, ap, ◌∙◌, subst}
use mathlib.Core.Bool.{true}
use mathlib.Core.List.{List, [], ◌∷◌, map}
use native.Mathlib.Omega.{arith}
use native.Mathlib.Decide.{dec_le}
use borrow.Author.Tests.{eq-eqb, le-leb}
use lib.ListN.{length, take, drop, length-map, length-drop}
use lib.Seq.{take_all, length-take-le}
use lib.IntN.{ℤ}
use Rattle.record.specs.declared.tag.Tag.{Tag}
use Rattle.number.specs.Number.{Bytes}
use Rattle.buffer.specs.Rows.{whole, written_over}
use Rattle.record.specs.GraphRecords.{graph_of}
use Rattle.record.specs.Arrays.{arrays_of}
use Rattle.record.specs.TokensAndTags as Tokens
use Rattle.record.specs.TokensAndTags.{most_tokens, capacity_of, ledger_of}
use Rattle.record.specs.Cells as Cells
use Rattle.record.specs.Widths.{token_width, cell_width, pick_width}
use Rattle.record.proofs.Records.{length_token, length_cell}
use Rattle.machine.specs.Machine.{Machine, State, Outcome, completed, hung, budget_spent, refused, End, by_picks, run_by}
use Rattle.machine.specs.Saved.{if_refused, sum, in_parts}
use Rattle.machine.proofs.Orders.{by_picks_lawful}
use Rattle.machine.proofs.Reached.{reached_run, reached_count}
use Rattle.machine.proofs.Cut.{picks_taken}
use Rattle.machine.proofs.Cut as Cut
use Rattle.rules.specs.declared.answer.Refusal.{Refusal}
use Rattle.rules.specs.declared.answer.Refusal.TheVariants.{DamagedState}
use Rattle.rules.specs.Check.{check_graph, check_stores, check_arrays, check, most_cells, Checked}
use Rattle.rules.specs.InstructionSet.{machine_of}
use Rattle.rules.specs.Run.{token_record, cell_record, first_state, picks_of, Result, refused_at_once, ran_to, unless_failed, result, outcome_of, answer, ledger_after, cells_after}
use Rattle.rules.specs.Runs.{LeftByRun}
use Rattle.rules.specs.Saved.{state_saved, machine_saved, state_taken, check_saved, carried}
use Rattle.rules.specs.Fits.{AllFit, CarriedFit}
use Rattle.rules.specs.Parts.{left_by, next_part, followed_unless_refused, later_parts, CutRuns, CutAgain, Began, TakenAfter, LeavesTaken}
use Rattle.rules.proofs.Passed.{demand_passed, and_then_passed}
use Rattle.rules.proofs.Lawful.{lawful}
use Rattle.rules.proofs.Accepted.{whole_bytes, Whole, stores_whole, accepted, by_check}
use Rattle.rules.proofs.Fits.{none_fits}
use Rattle.rules.proofs.Rows.{picks_take, picks_drop}
use Rattle.rules.proofs.Written.{Rooms, ledger_size, cells_size, over_over}
use Rattle.rules.proofs.Saved.{Resumable, resumable_reached, resumable_start, resumable_saved, tokens_fit_lem, cells_fit, resumed, taken_again}

-- ---- picks divided are whole

whole_of : (n : ℕ) → n % pick_width ≡ 0 → n / pick_width ≤ most_tokens → whole pick_width most_tokens n ≡ true
whole_of n a b = rw (eq-eqb (n % pick_width) 0 a) (le-leb (n / pick_width) most_tokens b)

pub whole_take : (a : ℕ) (l : List ℕ) → whole pick_width most_tokens (length l) ≡ true → whole pick_width most_tokens (length (take (a * pick_width) l)) ≡ true
whole_take a l e = go (dec_le (a * pick_width) (length l))
  where
    go : Dec (a * pick_width ≤ length l) → whole pick_width most_tokens (length (take (a * pick_width) l)) ≡ true
    go (yes h) =
        let (p, q) = whole_bytes pick_width most_tokens (length l) e in
        let n = length-take-le (a * pick_width) l h in
        whole_of (length (take (a * pick_width) l)) (omega arith) (omega arith)
    go (no h) = ap (λ (m : List ℕ). whole pick_width most_tokens (length m)) (take_all (a * pick_width) l (omega arith)) ∙ e

whole_drop : (a : ℕ) (l : List ℕ) → whole pick_width most_tokens (length l) ≡ true → whole pick_width most_tokens (length (drop (a * pick_width) l)) ≡ true
whole_drop a l e =
    let (p, q) = whole_bytes pick_width most_tokens (length l) e in
    let n = length-drop (a * pick_width) l in
    whole_of (length (drop (a * pick_width) l)) (omega arith) (omega arith)

-- ---- what follows a part

by_outcome : {A : Type 0} (o : Outcome Refusal) (f : A → LeftByRun) (e z : A) (y : LeftByRun) → y ≡ f z → followed_unless_refused (outcome_of o) (f e) y ≡ f (if_refused o e z)
by_outcome completed f e z y h = h
by_outcome hung f e z y h = h
by_outcome budget_spent f e z y h = h
by_outcome (refused r p) f e z y h = refl

module _ (graph : List ℕ) (bytes : Bytes graph) (passed : check_graph graph ≡ Ok tt) (arrays ledger cells : List ℕ)
    (whole_ledger : whole token_width most_tokens (length ledger) ≡ true) (whole_cells : whole cell_width most_cells (length cells) ≡ true)
    (named : check_arrays (graph_of graph) (length cells / cell_width) arrays ≡ Ok tt) where
  abbrev capacity : ℕ
  capacity = capacity_of (length ledger)

  abbrev count : ℕ
  count = length cells / cell_width

  abbrev M : Machine
  M = machine_saved graph (arrays_of arrays) ledger cells

  abbrev Goes : ℕ → State Tag ℤ → Type 0
  Goes f s = Resumable graph bytes passed (arrays_of arrays) capacity count f s

  few : count ≤ most_cells
  few = (whole_bytes cell_width most_cells (length cells) whole_cells).1

  abbrev goes_to : (budget : ℕ) → List ℕ → ℕ → State Tag ℤ → End Refusal Tag ℤ
  goes_to b ps f s = run_by M (by_picks M) b ps f s

  goes_on_lem : (b : ℕ) (ps : List ℕ) (f : ℕ) (s : State Tag ℤ) → Goes f s → Goes (goes_to b ps f s).firings (goes_to b ps f s).state
  goes_on_lem b ps f s h =
      let e = reached_run M (by_picks M) (by_picks_lawful M) s b ps f in
      subst (λ (n : ℕ). Goes n (goes_to b ps f s).state) (sym e.firings) (resumable_reached graph bytes passed (arrays_of arrays) capacity count f s h e.done e.sent _ e.reached)

  module _ (f : ℕ) (s : State Tag ℤ) (h : Goes f s) where
    abbrev ledger' : List ℕ
    ledger' = ledger_of (map token_record s.tokens) ledger

    abbrev cells' : List ℕ
    cells' = written_over Cells.encode_cell (map cell_record s.cells) cells

    room : Rooms s ledger cells
    room = record { for_tokens = h.saved.good.room; for_cells = h.saved.good.cell_count }

    pub is_taken_lem : state_taken graph ledger' cells' f (length s.tokens) ≡ true
    is_taken_lem = taken_again graph bytes passed (arrays_of arrays) capacity count few f s h ledger cells room refl refl

    check_passes : (picks : List ℕ) → whole pick_width most_tokens (length picks) ≡ true → check_saved graph arrays picks ledger' cells' f (length s.tokens) ≡ Ok tt
    unfolding check_saved check_stores
    check_passes picks w = rw (passed, w, ledger_size s ledger cells room, cells_size s ledger cells room, whole_ledger, whole_cells, named, is_taken_lem)

    goes_from : (picks : List ℕ) (b : ℕ) → whole pick_width most_tokens (length picks) ≡ true
        → carried graph arrays picks b ledger' cells' f (length s.tokens) ≡ ran_to (goes_to b (picks_of picks) f s)
    unfolding carried unless_failed
    goes_from picks b w =
        rw (check_passes picks w)
        (resumed graph bytes passed (arrays_of arrays) capacity count few f s h ledger cells room refl refl (λ m k x. ran_to (run_by (machine_of (graph_of graph) (arrays_of arrays) m k) (by_picks (machine_of (graph_of graph) (arrays_of arrays) m k)) b (picks_of picks) f x)))

    -- what it leaves is written over what was lent first
    written_on : (b : ℕ) (ps : List ℕ) → left_by (ran_to (goes_to b ps f s)) ledger' cells' ≡ left_by (ran_to (goes_to b ps f s)) ledger cells
    unfolding ledger_after cells_after
    written_on b ps =
        let e = reached_run M (by_picks M) (by_picks_lawful M) s b ps f in
        let x = (goes_to b ps f s).state in
        let grown = reached_count M (lawful graph passed (arrays_of arrays) capacity count) s h.saved.good e.done e.sent x e.reached in
        let k = (goes_on_lem b ps f s h).saved.good.cell_count in
        let c = h.saved.good.cell_count in
        let l = over_over token_width Tokens.encode_token length_token (map token_record s.tokens) (map token_record x.tokens) ledger (omega (arith, length-map s.tokens token_record, length-map x.tokens token_record, grown)) in
        let m = over_over cell_width Cells.encode_cell length_cell (map cell_record s.cells) (map cell_record x.cells) cells (omega (arith, length-map s.cells cell_record, length-map x.cells cell_record, k, c)) in
        λ i. record { answer = answer (ran_to (goes_to b ps f s)); ledger = l i; cells = m i }

  next_part_lem : (picks : List ℕ) (b : ℕ) → whole pick_width most_tokens (length picks) ≡ true → (e : End Refusal Tag ℤ) → Goes e.firings e.state
      → next_part graph arrays picks b (left_by (ran_to e) ledger cells) ≡ left_by (ran_to (goes_to b (picks_of picks) e.firings e.state)) ledger cells
  unfolding answer ledger_after cells_after
  next_part_lem picks b w e h =
      ap (λ (x : Result). left_by x (ledger' e.firings e.state h) (cells' e.firings e.state h)) (goes_from e.firings e.state h picks b w)
      ∙ written_on e.firings e.state h b (picks_of picks)

  abbrev left : End Refusal Tag ℤ → LeftByRun
  left e = left_by (ran_to e) ledger cells

  all_parts : (bs : List ℕ) (a : ℕ) (picks : List ℕ) → whole pick_width most_tokens (length picks) ≡ true → (f : ℕ) (s : State Tag ℤ) → Goes f s
      → later_parts graph arrays bs (drop (a * pick_width) picks) (left (goes_to a (take a (picks_of picks)) f s)) ≡ left (in_parts M (by_picks M) a bs (picks_of picks) f s)
  unfolding answer
  all_parts [] a picks w f s h = ap left (picks_taken M (by_picks M) a (picks_of picks) f s)
  all_parts (b ∷ bs) a picks w f s h =
      let e = goes_to a (take a (picks_of picks)) f s in
      let more = drop (a * pick_width) picks in
      let wm = whole_drop a picks w in
      let k = goes_on_lem a (take a (picks_of picks)) f s h in
      let next : next_part graph arrays (take (b * pick_width) more) b (left e) ≡ left (goes_to b (take b (picks_of more)) e.firings e.state) =
      next_part_lem (take (b * pick_width) more) b (whole_take b more wm) e k ∙ ap (λ (ps : List ℕ). left (goes_to b ps e.firings e.state)) (picks_take b more) in
      by_outcome e.outcome left e (in_parts M (by_picks M) b bs (drop a (picks_of picks)) e.firings e.state) _
      (ap (later_parts graph arrays bs (drop (b * pick_width) more)) next
      ∙ all_parts bs b more wm e.firings e.state k
      ∙ ap (λ (ps : List ℕ). left (in_parts M (by_picks M) b bs ps e.firings e.state)) (picks_drop a picks))

  -- in all
  pub from_here : (later : List ℕ) (a : ℕ) (picks : List ℕ) → whole pick_width most_tokens (length picks) ≡ true → (f : ℕ) (s : State Tag ℤ) → Goes f s
      → later_parts graph arrays later (drop (a * pick_width) picks) (left (goes_to a (picks_of (take (a * pick_width) picks)) f s)) ≡ left (goes_to (a + sum later) (picks_of picks) f s)
  from_here later a picks w f s h =
      ap (λ (ps : List ℕ). later_parts graph arrays later (drop (a * pick_width) picks) (left (goes_to a ps f s))) (picks_take a picks)
      ∙ all_parts later a picks w f s h
      ∙ ap left (Cut.cut_runs M (by_picks M) a later (picks_of picks) f s)

  pub taken_left : (b : ℕ) (ps : List ℕ) (f : ℕ) (s : State Tag ℤ) → Goes f s → TakenAfter graph (left (goes_to b ps f s))
  unfolding answer ledger_after cells_after
  taken_left b ps f s h = is_taken_lem (goes_to b ps f s).firings (goes_to b ps f s).state (goes_on_lem b ps f s h)

  pub left_fits : (b : ℕ) (ps : List ℕ) (f : ℕ) (s : State Tag ℤ) → Goes f s → AllFit (ran_to (goes_to b ps f s)) capacity count
  left_fits b ps f s h =
      let x = (goes_to b ps f s).state in
      let k = goes_on_lem b ps f s h in
      record {
        tokens = tokens_fit_lem graph bytes passed (arrays_of arrays) capacity count few (goes_to b ps f s).firings x k;
        cells = cells_fit graph bytes passed (arrays_of arrays) capacity count few (goes_to b ps f s).firings x k;
        room = rw (length-map x.tokens token_record) k.saved.good.room;
        cell_count = length-map x.cells cell_record ∙ k.saved.good.cell_count;
      }

-- ---- a part that was refused before any firing

ends_there : (graph arrays : List ℕ) (later picks : List ℕ) (r : Refusal) (p : ℕ) (ledger cells : List ℕ) → later_parts graph arrays later picks (left_by (refused_at_once r p) ledger cells) ≡ left_by (refused_at_once r p) ledger cells
unfolding answer
ends_there graph arrays [] picks r p ledger cells = refl
ends_there graph arrays (b ∷ bs) picks r p ledger cells = refl

-- ---- from inputs

module _ (graph arrays inputs ledger cells : List ℕ) (graph_bytes : Bytes graph) (input_bytes : Bytes inputs) (picks : List ℕ) where
  abbrev stores : Checked
  stores = check_stores (length inputs) (length picks) (length ledger) (length cells)

  begun : check graph arrays inputs picks (length ledger) (length cells) ≡ Ok tt
      → (passed : check_graph graph ≡ Ok tt) × (wl : whole token_width most_tokens (length ledger) ≡ true) × (wc : whole cell_width most_cells (length cells) ≡ true)
      × (named : check_arrays (graph_of graph) (length cells / cell_width) arrays ≡ Ok tt) × Resumable graph graph_bytes passed (arrays_of arrays) (capacity_of (length ledger)) (length cells / cell_width) 0 (first_state inputs (length cells / cell_width))
  unfolding check
  begun e =
      let (s, (named, a)) = accepted graph inputs (capacity_of (length ledger)) stores (check_arrays (graph_of graph) (length cells / cell_width) arrays) e in
      let w = stores_whole (length inputs) (length picks) (length ledger) (length cells) s in
      (a.graph_passed, w.whole_ledger, w.whole_cells, named, resumable_start graph graph_bytes a.graph_passed (arrays_of arrays) (capacity_of (length ledger)) (length cells / cell_width) inputs input_bytes a)

-- the check looks at the length of the picks alone
same_check : (graph arrays inputs picks picks' : List ℕ) (ledger cells : ℕ) → whole pick_width most_tokens (length picks) ≡ true → whole pick_width most_tokens (length picks') ≡ true
    → check graph arrays inputs picks ledger cells ≡ check graph arrays inputs picks' ledger cells
unfolding check check_stores
same_check graph arrays inputs picks picks' ledger cells a b = rw (a, b)

pub cut_runs : CutRuns
unfolding result unless_failed
cut_runs graph arrays inputs picks ledger cells a later graph_bytes input_bytes w = go (check graph arrays inputs picks (length ledger) (length cells)) refl
  where
    same : check graph arrays inputs (take (a * pick_width) picks) (length ledger) (length cells) ≡ check graph arrays inputs picks (length ledger) (length cells)
    same = same_check graph arrays inputs (take (a * pick_width) picks) picks (length ledger) (length cells) (whole_take a picks w) w

    go : (c : Checked) → check graph arrays inputs picks (length ledger) (length cells) ≡ c
        → later_parts graph arrays later (drop (a * pick_width) picks) (left_by (result graph arrays inputs (take (a * pick_width) picks) a (length ledger) (length cells)) ledger cells)
        ≡ left_by (result graph arrays inputs picks (a + sum later) (length ledger) (length cells)) ledger cells
    go (Err fault) e = rw (same, e) (ends_there graph arrays later (drop (a * pick_width) picks) fault.refusal fault.place ledger cells)
    go (Ok _) e =
        let (passed, wl, wc, named, h) = begun graph arrays inputs ledger cells graph_bytes input_bytes picks e in
        rw (same, e) (from_here graph graph_bytes passed arrays ledger cells wl wc named later a picks w 0 (first_state inputs (length cells / cell_width)) h)

-- ---- from a saved state

module _ (graph arrays ledger cells : List ℕ) (graph_bytes : Bytes graph) (ledger_bytes : Bytes ledger) (cell_bytes : Bytes cells) (picks : List ℕ) (firings n : ℕ) where
  goes : check_saved graph arrays picks ledger cells firings n ≡ Ok tt
      → (passed : check_graph graph ≡ Ok tt) × (wl : whole token_width most_tokens (length ledger) ≡ true) × (wc : whole cell_width most_cells (length cells) ≡ true)
      × (named : check_arrays (graph_of graph) (length cells / cell_width) arrays ≡ Ok tt) × Resumable graph graph_bytes passed (arrays_of arrays) (capacity_of (length ledger)) (length cells / cell_width) firings (state_saved ledger cells n)
  unfolding check_saved
  goes e =
      let (passed, later) = and_then_passed (check_graph graph) _ e in
      let (s, t) = and_then_passed (check_stores 0 (length picks) (length ledger) (length cells)) _ later in
      let w = stores_whole 0 (length picks) (length ledger) (length cells) s in
      let (named, d) = and_then_passed (check_arrays (graph_of graph) (length cells / cell_width) arrays) _ t in
      (passed, w.whole_ledger, w.whole_cells, named, resumable_saved graph ledger cells graph_bytes passed (arrays_of arrays) ledger_bytes cell_bytes firings n (demand_passed (state_taken graph ledger cells firings n) DamagedState 0 d))

same_saved : (graph arrays picks picks' ledger cells : List ℕ) (firings n : ℕ) → whole pick_width most_tokens (length picks) ≡ true → whole pick_width most_tokens (length picks') ≡ true
    → check_saved graph arrays picks ledger cells firings n ≡ check_saved graph arrays picks' ledger cells firings n
unfolding check_saved check_stores
same_saved graph arrays picks picks' ledger cells firings n a b = rw (a, b)

pub cut_again : CutAgain
unfolding carried unless_failed
cut_again graph arrays picks ledger cells firings n a later graph_bytes ledger_bytes cell_bytes w = go (check_saved graph arrays picks ledger cells firings n) refl
  where
    same : check_saved graph arrays (take (a * pick_width) picks) ledger cells firings n ≡ check_saved graph arrays picks ledger cells firings n
    same = same_saved graph arrays (take (a * pick_width) picks) picks ledger cells firings n (whole_take a picks w) w

    go : (c : Checked) → check_saved graph arrays picks ledger cells firings n ≡ c
        → later_parts graph arrays later (drop (a * pick_width) picks) (left_by (carried graph arrays (take (a * pick_width) picks) a ledger cells firings n) ledger cells)
        ≡ left_by (carried graph arrays picks (a + sum later) ledger cells firings n) ledger cells
    go (Err fault) e = rw (same, e) (ends_there graph arrays later (drop (a * pick_width) picks) fault.refusal fault.place ledger cells)
    go (Ok _) e =
        let (passed, wl, wc, named, h) = goes graph arrays ledger cells graph_bytes ledger_bytes cell_bytes picks firings n e in
        rw (same, e) (from_here graph graph_bytes passed arrays ledger cells wl wc named later a picks w firings (state_saved ledger cells n) h)

-- ---- what a run leaves is taken

pub leaves_taken : LeavesTaken
unfolding result carried
leaves_taken = record {
  by_run = λ graph arrays inputs picks ledger cells budget graph_bytes input_bytes.
      by_check (check graph arrays inputs picks (length ledger) (length cells)) _ (λ x. Began x → TakenAfter graph (left_by x ledger cells)) (λ r p e b. absurd b) (λ e b.
      let (passed, wl, wc, named, h) = begun graph arrays inputs ledger cells graph_bytes input_bytes picks e in
      taken_left graph graph_bytes passed arrays ledger cells wl wc named budget (picks_of picks) 0 (first_state inputs (length cells / cell_width)) h);
  by_carried = λ graph arrays picks ledger cells budget firings n graph_bytes ledger_bytes cell_bytes.
      by_check (check_saved graph arrays picks ledger cells firings n) _ (λ x. Began x → TakenAfter graph (left_by x ledger cells)) (λ r p e b. absurd b) (λ e b.
      let (passed, wl, wc, named, h) = goes graph arrays ledger cells graph_bytes ledger_bytes cell_bytes picks firings n e in
      taken_left graph graph_bytes passed arrays ledger cells wl wc named budget (picks_of picks) firings (state_saved ledger cells n) h);
}

-- ---- and fits its records

pub carried_fits : CarriedFit
unfolding carried
carried_fits graph arrays picks ledger cells budget firings n graph_bytes ledger_bytes cell_bytes =
    by_check (check_saved graph arrays picks ledger cells firings n) _ (λ x. AllFit x (capacity_of (length ledger)) (length cells / cell_width)) (λ r p e. none_fits r p (capacity_of (length ledger)) (length cells / cell_width)) (λ e.
    let (passed, wl, wc, named, h) = goes graph arrays ledger cells graph_bytes ledger_bytes cell_bytes picks firings n e in
    left_fits graph graph_bytes passed arrays ledger cells wl wc named budget (picks_of picks) firings (state_saved ledger cells n) h)

-- one that began passed the check of its stores
pub carried_stores : (graph arrays picks ledger cells : List ℕ) (budget firings n : ℕ) → Began (carried graph arrays picks budget ledger cells firings n) → Whole 0 (length picks) (length ledger) (length cells)
unfolding carried check_saved
carried_stores graph arrays picks ledger cells budget firings n =
    by_check (check_saved graph arrays picks ledger cells firings n) _ (λ x. Began x → Whole 0 (length picks) (length ledger) (length cells)) (λ r p e b. absurd b) (λ e b.
    stores_whole 0 (length picks) (length ledger) (length cells) (and_then_passed (check_stores 0 (length picks) (length ledger) (length cells)) _ (and_then_passed (check_graph graph) _ e).1).0)
