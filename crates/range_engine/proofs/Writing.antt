-- From a run over handles to what a range run leaves: as ranges (`as_ranges`), of the engine's loop (`loop_tells`), from inputs (`told_first`), in bytes (`written_as`),
-- and that checked inputs as handles stand for the range run's first state (`inputs_stand`). Assumes nothing.
use Rattle.std.proofs.Common.{Ok, Err}
use Prim.Native.Nat.{ℕ, ◌+◌, ◌-◌, ◌*◌, ◌/◌, ◌%◌, ◌≤◌}
use mathlib.Core.Path.{◌≡◌, refl, sym, ap, subst, ◌∙◌}
use mathlib.Core.List.{List, [], ◌∷◌, ◌++◌, map, append-nil}
use native.Mathlib.Omega.{arith}
use native.Mathlib.Nat.{mul-div_cancel, sub-zero}
use lib.ListN.{length, take, replicate, length-map, length-replicate, drop_of_length-le}
use lib.Seq.{length-take-le}
use lib.IntN.{ℤ, nat_abs}
use lib.Dec.{eqb}
use mathlib.Core.Bool.{true}
use borrow.Author.Tests.{leb-true}
use Rattle.record.specs.declared.array.NamedArray.{NamedArray}
use Rattle.record.specs.declared.tag.Tag.{Tag}
use Rattle.record.specs.declared.instruction.Instruction.{Instruction}
use Rattle.record.specs.GraphRecords.{graph_of}
use Rattle.record.specs.Arrays.{arrays_of}
use Rattle.record.specs.TokensAndTags.{tokens, most_tokens, capacity_of}
use Rattle.record.specs.TokensAndTags as Tokens
use Rattle.record.specs.Widths.{token_width, cell_width, pick_width, range_token_width, range_cell_width}
use Rattle.buffer.specs.Rows.{whole, written_over, all_rows}
use Rattle.buffer.proofs.Tables.{length_rows}
use Rattle.arithmetic.specs.declared.Range.{Range}
use Rattle.machine.specs.Machine.{Machine, State, StateOf, End, Activity, Token, Cell, on_list, end, ending, completed, budget_spent, enabled}
use Rattle.machine.specs.Choosers.{ends, rests_at, run_from}
use Rattle.machine.specs.InStep.{RelatedState}
use Rattle.machine.specs.Handles.{StandsAt, changed_to, meant_content, cell_by, state_by, Tabled, run_on}
use Rattle.rules.specs.declared.answer.Refusal.{Refusal}
use Rattle.rules.specs.declared.answer.Answer.{Answer}
use Rattle.rules.specs.declared.answer.Refusal.TheVariants.{BadInput}
use Rattle.rules.specs.Check.{demand, ◌and_then◌, in_turn, check_graph, check_arrays, good_input, check_inputs, most_cells, Checked, fault_at}
use Rattle.rules.specs.Bounded.{and_bound}
use Rattle.rules.specs.InstructionSet.{machine_of}
use Rattle.rules.specs.Run.{picks_of, token_held, cell_held, first_state}
use Rattle.rules.specs.RangeSet.{range_machine_of}
use Rattle.rules.specs.RangeRun.{encode_range, encode_range_cell, range_in, range_capacity_of, check_range_stores, check_range_inputs, check_ranges, first_ranges, refused_at_once, ranges_unless_failed, range_result}
use Rattle.rules.specs.RangeHandles.{meaning, first_table, first_handles, handle_run}
use Rattle.rules.proofs.Passed.{and_then_passed}
use Rattle.check_fields.proofs.Turns.{and_true_left, and_true_right, demanded}
use Rattle.checks.proofs.Passed.{passed_arrays}
use Rattle.rules.proofs.Ranges.{same_fields}
use Rattle.rules.proofs.RangeHandles.{handle_run_lem}
use Rattle.abstraction.specs.Tables.{arrays_in}
use Rattle.store.proofs.Laws.{matching_room}
use Rattle.fire_outputs.specs.Outputs.{cells_in}
use Rattle.fire.specs.Running.{state_in}
use Rattle.start.specs.Begun.{Accepted, Begun}
use Rattle.engine.specs.declared.choice.Order.{Order}
use Rattle.engine.specs.declared.choice.Order.TheVariants.{Oldest, Picks, Log, Free}
use Rattle.engine.specs.Turns.{chooser_for, ByPicks, ByBound, Proceeded}
use Rattle.engine.specs.Keeping.{Kept, end_keeping, settled_by}
use Rattle.range_inputs.specs.Handles.{handles_of, check_proper, Narrow}
use Rattle.range_inputs.proofs.Rows.{fields_each, handles_count}
use Rattle.range_inputs.proofs.First.{first_state_lem}
use Rattle.range_output.specs.Left.{tokens_meant, cells_meant}
use Rattle.range_fire.specs.Ranges.{ranges_ask, ranges_keep}
use Rattle.range_engine.specs.Over.{end_over, settled_over, range_end, AsRanges, Fits, StandsFor, Tells, own_bytes, store_bytes, AsManyHandles, LeftAs, Leaves, LentToRanges, with_inputs, ranges_lent_checked}
use Rattle.range_engine.proofs.Handles.{end_handles}
use Rattle.range_engine.proofs.Telling.{told_plain, told_bounded}

-- ---- as ranges

module _ (r : Answer) (E : End Refusal Tag Range) (x : Tabled Refusal Tag Range ℤ) {g : List Instruction} {tables links flags ledger' cells' : List ℕ} (table' : List Range) {used : ℕ} {ledger cells : List ℕ}
    (p : Proceeded x.ended r g tables links flags ledger' cells' used ledger cells) (tabled : x.table ≡ table')
    (told : E ≡ record { outcome = x.ended.outcome; firings = x.ended.firings; state = state_by (meaning x.table) x.ended.state }) where
  abbrev here : End Refusal Tag Range
  here = record { outcome = p.outcome; firings = r.firings; state = state_by (meaning table') (state_in ledger' cells' r.tokens) }

  same : E ≡ here
  same = told ∙ (λ i. record { outcome = (p.ends i).outcome; firings = (p.ends i).firings; state = state_by (meaning (tabled i)) (p.ends i).state })

  size : length here.state.tokens ≡ r.tokens
  size =
      length-map (map token_held (tokens r.tokens ledger')) (changed_to (meant_content (meaning table')))
      ∙ length-map (tokens r.tokens ledger') token_held ∙ length_rows token_width Tokens.decode_token r.tokens ledger'

  pub as_ranges : AsRanges E r ledger' cells' table'
  as_ranges = subst (λ (e : End Refusal Tag Range). AsRanges e r ledger' cells' table') (sym same)
      (record { answered = λ i. record { outcome = sym p.told i; firings = r.firings; tokens = sym size i }; state = refl })

-- ---- from state to state

-- by an order, which has the bound or, where it is 0, none
module _ (picks : List ℕ) (k : ℕ) (g : List Instruction) (tables links flags ledger' cells' : List ℕ) (table' : List Range) (ledger cells : List ℕ) (used budget : ℕ) (t : List Range) (r : Answer) where
  abbrev over : Order → Tabled Refusal Tag Range ℤ
  over order = end_over order picks g tables ledger cells used budget t

  abbrev Told : ℕ → Type 0
  Told n = Tells n picks budget g (arrays_in tables) (length ledger / token_width) (length cells / cell_width) t (state_in ledger cells used) r ledger' cells' table'

  tells_plain : (order : Order) → (k ≡ 0) × ByPicks order picks → Proceeded (over order).ended r g tables links flags ledger' cells' used ledger cells → (over order).table ≡ table' → Told k
  tells_plain order by p tabled =
      let m = length ledger / token_width in
      let q = length cells / cell_width in
      subst Told (sym by.0)
      (λ s h. as_ranges r (range_end 0 picks budget g (arrays_in tables) m q s) (over order) table' p tabled
      (told_plain g (arrays_in tables) m q (picks_of picks) t s (state_in ledger cells used) h budget (chooser_for order picks g tables ledger cells) (by.1 g (arrays_in tables) m q)))

  tells_bounded : (j : ℕ) → Proceeded (settled_over j g tables ledger cells (over (Free j))).ended r g tables links flags ledger' cells' used ledger cells → (over (Free j)).table ≡ table' → Told j
  tells_bounded j p tabled s h =
      let m = length ledger / token_width in
      let q = length cells / cell_width in
      as_ranges r (range_end j picks budget g (arrays_in tables) m q s) (settled_over j g tables ledger cells (over (Free j))) table' p tabled
      (told_bounded g (arrays_in tables) m q (picks_of picks) t s (state_in ledger cells used) h budget j)

  told_by : (order : Order) → ByBound order picks k → Proceeded (settled_by order g tables ledger cells (over order).ended) r g tables links flags ledger' cells' used ledger cells → (over order).table ≡ table' → Told k
  told_by Oldest by p tabled = tells_plain Oldest by p tabled
  told_by Picks by p tabled = tells_plain Picks by p tabled
  told_by Log by p tabled = tells_plain Log by p tabled
  told_by (Free j) by p tabled = subst Told by.0 (tells_bounded j p tabled)

  -- the engine's loop by the operation over ranges
  pub loop_tells : (order : Order) → ByBound order picks k
      → Proceeded (settled_by order g tables ledger cells (end_keeping ranges_ask ranges_keep order picks g tables ledger cells used budget t).ended) r g tables links flags ledger' cells' used ledger cells
      → table' ≡ (end_keeping ranges_ask ranges_keep order picks g tables ledger cells used budget t).kept → Told k
  loop_tells order by p kept =
      let same = end_handles order picks g tables ledger cells used budget t in
      told_by order by
      (subst (λ (e : End Refusal Tag ℤ). Proceeded (settled_by order g tables ledger cells e) r g tables links flags ledger' cells' used ledger cells) (ap (λ (x : Kept (List Range) Refusal Tag ℤ). x.ended) same) p)
      (sym (kept ∙ ap (λ (x : Kept (List Range) Refusal Tag ℤ). x.kept) same))

pub fits_left : {e : End Refusal Tag ℤ} {r : Answer} {g : List Instruction} {tables links flags ledger' cells' : List ℕ} {used : ℕ} {ledger cells : List ℕ}
    → Proceeded e r g tables links flags ledger' cells' used ledger cells → Fits r ledger' cells' ledger cells
fits_left p = record { room = matching_room p.running.matching; size = p.size; cell_size = p.cell_size }

-- ---- from inputs

module _ (graph arrays handles : List ℕ) {tables links flags ledger ledger₁ cells cells₁ : List ℕ} {used : ℕ} (b : Begun graph arrays handles tables links flags ledger ledger₁ cells cells₁ used) where
  pub told_first : (k : ℕ) (picks : List ℕ) (budget : ℕ) (t : List Range) (r : Answer) (ledger' cells' : List ℕ) (table' : List Range)
      → Tells k picks budget (graph_of graph) (arrays_in tables) (length ledger₁ / token_width) (length cells₁ / cell_width) t (state_in ledger₁ cells₁ used) r ledger' cells' table'
      → Tells k picks budget (graph_of graph) (arrays_of arrays) (length ledger / token_width) (length cells / cell_width) t (first_state handles (length cells / cell_width)) r ledger' cells' table'
  told_first k picks budget t r ledger' cells' table' h =
      subst (λ (a : List NamedArray). T a (length ledger) (length cells) first) b.named
      (subst (λ (l : ℕ). T (arrays_in tables) l (length cells) first) b.size
      (subst (λ (c : ℕ). T (arrays_in tables) (length ledger₁) c first) b.cell_size
      (subst (λ (u : State Tag ℤ). T (arrays_in tables) (length ledger₁) (length cells₁) u) b.state h)))
    where
      first : State Tag ℤ
      first = first_state handles (length cells / cell_width)

      T : List NamedArray → (l c : ℕ) → State Tag ℤ → Type 0
      T a l c u = Tells k picks budget (graph_of graph) a (l / token_width) (c / cell_width) t u r ledger' cells' table'

-- ---- in bytes

twice : {A B C : Type 0} (f : A → B) (h : B → C) (xs : List A) → map (λ x. h (f x)) xs ≡ map h (map f xs)
twice f h [] = refl
twice f h (x ∷ xs) = ap (λ (l : List _). h (f x) ∷ l) (twice f h xs)

pub written_as : (E : End Refusal Tag Range) (r : Answer) (own store : List ℕ) (table : List Range) (ledger cells ledger' cells' : List ℕ) → AsRanges E r own store table
    → ledger' ≡ written_over encode_range (tokens_meant table (tokens r.tokens own)) ledger
    → cells' ≡ written_over encode_range_cell (cells_meant table (cells_in store)) cells
    → LeftAs E r ledger cells ledger' cells'
written_as E r own store table ledger cells ledger' cells' a l c =
    let m = meaning table in
    record {
      answered = a.answered;
      ledger_left =
          l ∙ ap (λ (ts : List (Token Tag Range)). written_over encode_range ts ledger) (twice token_held (changed_to (meant_content m)) (tokens r.tokens own) ∙ sym (ap (λ (s : State Tag Range). s.tokens) a.state));
      cells_left =
          c ∙ ap (λ (cs : List (Cell Range)). written_over encode_range_cell cs cells) (twice cell_held (cell_by m) (cells_in store) ∙ sym (ap (λ (s : State Tag Range). s.cells) a.state));
    }

-- ---- buffers of its own

abbrev zeros : ℕ → List ℕ
zeros m = replicate m 0

-- the first k bytes of one
pub own_part : (k m : ℕ) → k ≤ m → length (take (k - 0) (zeros m)) ≡ k
own_part k m h = rw (sub-zero k) (length-take-le k (zeros m) (omega (arith, length-replicate {A = ℕ} m 0)))

-- of as many records as are lent
pub as_many_lem : (own store ledger cells : ℕ) → own ≡ own_bytes ledger → store ≡ store_bytes cells → AsManyHandles own store ledger cells
as_many_lem own store ledger cells o s = record { tokens = omega (arith, o); cell_count = omega (arith, s) }

pub accepted_in : (graph arrays handles : List ℕ) (own store ledger cells : ℕ) → own ≡ own_bytes ledger → store ≡ store_bytes cells → Accepted graph arrays handles (own_bytes ledger) (store_bytes cells) → Accepted graph arrays handles own store
accepted_in graph arrays handles own store ledger cells o s a =
    subst (λ (x : ℕ). Accepted graph arrays handles x store) (sym o) (subst (λ (y : ℕ). Accepted graph arrays handles (own_bytes ledger) y) (sym s) a)

-- said of the lengths of the lent buffers
pub leaves : (k : ℕ) (picks : List ℕ) (budget : ℕ) (graph arrays handles : List ℕ) (t : List Range) (own store ledger cells : List ℕ) (r : Answer) (own' store' : List ℕ) (table' : List Range) (ledger' cells' : List ℕ)
    → AsManyHandles (length own) (length store) (length ledger) (length cells)
    → Tells k picks budget (graph_of graph) (arrays_of arrays) (length own / token_width) (length store / cell_width) t (first_state handles (length store / cell_width)) r own' store' table'
    → ledger' ≡ written_over encode_range (tokens_meant table' (tokens r.tokens own')) ledger
    → cells' ≡ written_over encode_range_cell (cells_meant table' (cells_in store')) cells
    → Leaves k picks budget graph arrays handles t r ledger cells ledger' cells'
leaves k picks budget graph arrays handles t own store ledger cells r own' store' table' ledger' cells' many tells l c s h =
    written_as _ r own' store' table' ledger cells ledger' cells' (lent s h) l c
  where
    lent : Tells k picks budget (graph_of graph) (arrays_of arrays) (range_capacity_of (length ledger)) (length cells / range_cell_width) t (first_state handles (length cells / range_cell_width)) r own' store' table'
    lent =
        subst (λ (p : ℕ). Tells k picks budget (graph_of graph) (arrays_of arrays) p (length cells / range_cell_width) t (first_state handles (length cells / range_cell_width)) r own' store' table') many.tokens
        (subst (λ (q : ℕ). Tells k picks budget (graph_of graph) (arrays_of arrays) (length own / token_width) q t (first_state handles q) r own' store' table') many.cell_count tells)

-- ---- the inputs

-- a run of no firings leaves its first state: so the law of runs over handles tells what inputs as handles stand for
rests_state : (M : Machine) (f : ℕ) (s : StateOf M) → (rests_at M f s).state ≡ s
rests_state M f s = go (enabled M s)
  where
    go : (l : List (Activity M.Tag)) → (on_list l (end M (ending M s) f s) (λ a more. end M budget_spent f s)).state ≡ s
    go [] = refl
    go (a ∷ more) = refl

first_stands : (g : List Instruction) (capacity n : ℕ) (inputs : List ℕ) → check_range_inputs g capacity inputs ≡ Ok tt → StandsFor (first_table inputs) (first_ranges inputs n) (first_handles inputs n)
unfolding handle_run run_on run_from first_table
first_stands g capacity n inputs passed =
    let M = range_machine_of g [] capacity n in
    let N = machine_of g [] capacity n in
    let none-fires = handle_run_lem g [] capacity n (λ f s. ends completed) (λ f s. ends completed) (λ t f s u h. refl) 0 inputs passed in
    record {
      zero = record { below = omega arith; there = refl };
      state =
          subst (λ (u : State Tag ℤ). RelatedState (StandsAt nat_abs (first_table inputs)) (first_ranges inputs n) u) (rests_state N 0 (first_handles inputs n))
          (subst (λ (s : State Tag Range). RelatedState (StandsAt nat_abs (first_table inputs)) s (rests_at N 0 (first_handles inputs n)).state) (rests_state M 0 (first_ranges inputs n)) none-fires.state);
    }

module _ (graph arrays inputs : List ℕ) (ledger cells : ℕ) (lent : LentToRanges graph arrays (length inputs) ledger cells) (passed : check_range_inputs (graph_of graph) (range_capacity_of ledger) inputs ≡ Ok tt) where
  proper : check_proper inputs ≡ Ok tt
  unfolding check_range_inputs
  proper =
      let six = and_then_passed (in_turn (λ i good. demand good BadInput i) 0 (all_rows range_token_width (good_input (graph_of graph)) inputs)) _ passed in
      (and_then_passed (check_proper inputs) _ six.1).0

  -- a plain run of the handles is accepted
  pub accepted_handles : Accepted graph arrays (handles_of inputs) (own_bytes ledger) (store_bytes cells)
  accepted_handles = record {
    graph_passed = lent.graph_passed;
    few_arrays = lent.few_arrays;
    inputs_passed =
        subst (λ (p : ℕ). check_inputs (graph_of graph) p (handles_of inputs) ≡ Ok tt) (sym (mul-div_cancel (ledger / range_token_width) (omega arith)))
        (sym (same_fields inputs (handles_of inputs) (fields_each inputs) (graph_of graph) (range_capacity_of ledger) proper) ∙ passed);
    few = omega (arith, lent.few);
    cell_records = (omega arith, omega (arith, lent.few_cells));
  }

  module _ (table : List Range) (ranges : table ≡ first_table inputs) where
    -- the handles stand for the first state over ranges
    pub inputs_stand : (n : ℕ) → StandsFor table (first_ranges inputs n) (first_state (handles_of inputs) n)
    inputs_stand n =
        subst (λ (x : List Range). StandsFor x (first_ranges inputs n) (first_state (handles_of inputs) n)) (sym ranges)
        (subst (λ (u : State Tag ℤ). StandsFor (first_table inputs) (first_ranges inputs n) u) (sym (first_state_lem (graph_of graph) (range_capacity_of ledger) n inputs lent.few_inputs passed))
        (first_stands (graph_of graph) (range_capacity_of ledger) n inputs passed))

    -- a range of each, and one for the value 0
    pub ranges_few : length table ≤ length (handles_of inputs) / token_width + 1
    unfolding first_table
    ranges_few = omega (arith, ap length ranges, length_rows range_token_width range_in (length inputs / range_token_width) inputs, handles_count inputs)

-- the buffer of the handles holds nothing else
pub only_handles : (inputs handles handles' : List ℕ) (table : List Range) → length handles ≡ own_bytes (length inputs) → Narrow inputs handles handles' table → handles' ≡ handles_of inputs
only_handles inputs handles handles' table e w =
    let short : length handles ≤ length inputs / range_token_width * token_width = omega (arith, e) in
    w.held ∙ ap (λ (l : List ℕ). handles_of inputs ++ l) (drop_of_length-le handles short) ∙ append-nil (handles_of inputs)

-- ---- the checks

module _ (graph arrays : List ℕ) (inputs picks k ledger cells : ℕ) where
  pub lent_passed : ranges_lent_checked graph arrays inputs picks k ledger cells ≡ Ok tt → LentToRanges graph arrays inputs ledger cells
  unfolding check_range_stores and_bound
  lent_passed e =
      let a = and_then_passed (check_graph graph) _ e in
      let b = and_then_passed (and_bound (check_range_stores inputs picks ledger cells) k) _ a.1 in
      let w = demanded _ _ _ (and_then_passed (check_range_stores inputs picks ledger cells) _ b.0).0 in
      let x = and_true_right (whole range_token_width most_tokens inputs) _ w in
      let y = and_true_right (whole pick_width most_tokens picks) _ x in
      record {
        graph_passed = a.0;
        few_arrays = passed_arrays (graph_of graph) (cells / range_cell_width) arrays b.1;
        few_inputs = few_whole range_token_width most_tokens inputs (and_true_left (whole range_token_width most_tokens inputs) _ w);
        few = few_whole range_token_width most_tokens ledger (and_true_left (whole range_token_width most_tokens ledger) _ y);
        few_cells = few_whole range_cell_width most_cells cells (and_true_right (whole range_token_width most_tokens ledger) _ y);
      }
    where
      few_whole : (width most n : ℕ) → whole width most n ≡ true → n / width ≤ most
      few_whole width most n h = leb-true (n / width) most (and_true_right (eqb (n % width) 0) _ h)

joined : (a b c d : Checked) → ((a and_then b and_then c) and_then d) ≡ (a and_then b and_then c and_then d)
joined (Err fault) b c d = refl
joined (Ok _) (Err fault) c d = refl
joined (Ok _) (Ok _) c d = refl

module _ (graph arrays inputs picks : List ℕ) (budget k ledger cells : ℕ) where
  parts : check_ranges graph arrays inputs picks k ledger cells ≡ (ranges_lent_checked graph arrays (length inputs) (length picks) k ledger cells and_then check_range_inputs (graph_of graph) (range_capacity_of ledger) inputs)
  unfolding check_ranges
  parts = sym (joined (check_graph graph) (and_bound (check_range_stores (length inputs) (length picks) ledger cells) k) (check_arrays (graph_of graph) (cells / range_cell_width) arrays) (check_range_inputs (graph_of graph) (range_capacity_of ledger) inputs))

  pub result_failed : {r : Refusal} {p : ℕ} → ranges_lent_checked graph arrays (length inputs) (length picks) k ledger cells ≡ Err (fault_at r p) → range_result graph arrays inputs picks budget k ledger cells ≡ refused_at_once r p
  unfolding range_result ranges_unless_failed
  result_failed e = rw (parts, e)

  pub result_passed : ranges_lent_checked graph arrays (length inputs) (length picks) k ledger cells ≡ Ok tt → range_result graph arrays inputs picks budget k ledger cells ≡ with_inputs k picks budget graph arrays inputs ledger cells
  unfolding range_result
  result_passed e = rw (parts, e)
