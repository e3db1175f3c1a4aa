-- The start of an accepted run: the inputs are in the ledger and all cells absent, and that is the state from which 01's run starts; and the end of what is
-- fired from there, said of the buffers as lent. Assumes nothing.
use Rattle.std.proofs.Common.{Ok}
use Prim.Native.Nat.{ℕ, zero, suc, ◌+◌, ◌*◌, ◌/◌, ◌≤◌, ◌<◌}
use mathlib.Core.Path.{◌≡◌, refl, sym, ap, ◌∙◌, subst}
use mathlib.Core.List.{List, [], ◌∷◌, ◌++◌, map}
use mathlib.Core.Option.{some}
use native.Mathlib.Omega.{arith}
use native.Mathlib.Nat.{mul-div_cancel}
use lib.Seq.{drop-drop}
use lib.ListN.{length, take, drop, replicate, length-replicate, length-map, drop_of_length-le}
use lib.IntN.{ℤ}
use Rattle.record.specs.declared.tag.Tag.{Tag}
use Rattle.record.specs.declared.array.NamedArray.{NamedArray}
use Rattle.record.specs.declared.token.Token as Record
use Rattle.record.specs.declared.token.Content as RecordContent
use Rattle.record.specs.declared.token.Content.TheVariants.{Live, Spent, Deferred}
use Rattle.record.specs.declared.cell.Cell.TheVariants.{Absent}
use Rattle.buffer.specs.Rows.{All, rows, all_rows, joined}
use Rattle.record.specs.GraphRecords.{graph_of}
use Rattle.record.specs.Arrays.{arrays_of}
use Rattle.record.specs.TokensAndTags.{tokens, tag_in, root_of}
use Rattle.record.specs.TokensAndTags as Tokens
use Rattle.record.specs.Cells as Cells
use Rattle.buffer.proofs.Tables.{length_rows, length_joined}
use Rattle.record.proofs.Records.{length_token, length_cell}
use Rattle.record.specs.Widths.{token_width, cell_width}
use Rattle.store_chains.specs.Deferred.{LowCell}
use Rattle.machine.specs.Machine.{Machine, State, End, absent}
use Rattle.machine.specs.Orders as Orders
use Rattle.machine.specs.Orders.{Good, Reached}
use Rattle.machine.proofs.Orders.{start_good}
use Rattle.machine.specs.Sequences.{Fires}
use Rattle.machine.proofs.Reached.{reached_good, reached_count, sequence_reaches}
use Rattle.rules.specs.declared.answer.Refusal.{Refusal}
use Rattle.rules.specs.declared.answer.Answer.{Answer}
use Rattle.rules.specs.Check.{check_inputs, check, operands_at}
use Rattle.rules.specs.InstructionSet.{arity_in, machine_of}
use Rattle.rules.specs.Run.{content_held, token_held, token_record, cell_record, first_state}
use Rattle.rules.proofs.Inputs.{start}
use Rattle.rules.proofs.Lawful.{lawful}
use Rattle.checks.proofs.Passed.{GoodInputs, passed_inputs, passed_input, passed_check, passed_stores}
use Rattle.fire_effect.proofs.Arrives.{arrives_port}
use Rattle.abstraction.specs.States.{cell_held, OnPorts}
use Rattle.abstraction.specs.Tables.{Arities, arrays_in, TablesOf}
use Rattle.abstraction.proofs.Keys.{alone_free}
use Rattle.fire_outputs.specs.Outputs.{cells_in, CellStore}
use Rattle.fire_outputs.proofs.Laws.{rest_on}
use Rattle.load.specs.Loaded.{ProperArrival, Alone, Loaded}
use Rattle.load.proofs.Laws.{zeros_joined, absent_fit, zeros_cells}
use Rattle.fire.specs.Running.{state_in, Arrived, Running}
use Rattle.fire.proofs.Place.{on_ports}
use Rattle.start.specs.Begun.{machine_lent, Accepted, Begun}
use Rattle.start.specs.Ended.{EndedAt}

-- ---- the inputs

rows_all : (P : Record.Token → Type 0) (n : ℕ) (l : List ℕ) → ((i : ℕ) → i < n → P (Tokens.decode_token (drop (i * token_width) l))) → All P (rows token_width Tokens.decode_token n l)
rows_all P zero l h = tt
rows_all P (suc n) l h = (
  h 0 (omega arith),
  rows_all P n (drop token_width l) (λ i k.
      let m : suc i * token_width ≡ token_width + i * token_width = omega arith in
      subst (λ (b : List ℕ). P (Tokens.decode_token b)) (ap (λ (j : ℕ). drop j l) m ∙ sym (drop-drop (i * token_width) token_width l)) (h (suc i) (omega arith))),
)

low_live : (x : RecordContent.Content) → Orders.Live (some (content_held x)) → LowCell x
low_live (Live v) h = tt
low_live (Spent v) h = tt
low_live (Deferred c) h = let z : ◌≡◌ {A = ℕ} 0 1 = cc h.1 in absurd (omega arith)

module _ (graph inputs : List ℕ) (capacity count : ℕ) (accepted : check_inputs (graph_of graph) capacity inputs ≡ Ok tt) where
  inputs_good : GoodInputs (graph_of graph) capacity inputs
  inputs_good = passed_inputs (graph_of graph) capacity inputs accepted

  inputs_arrive : Arrived (graph_of graph) (all_rows token_width Tokens.decode_token inputs)
  unfolding Tokens.decode_token
  inputs_arrive = rows_all (λ (t : Record.Token). t.port < operands_at (graph_of graph) t.tag.instruction) (length inputs / token_width) inputs
      (λ i h. (passed_input (graph_of graph) (drop (i * token_width) inputs) (inputs_good.good i h)).port)

  abbrev Rooted : Record.Token → Type 0
  Rooted t = t.tag ≡ root_of t.tag.instruction

  inputs_rooted : All Rooted (all_rows token_width Tokens.decode_token inputs)
  unfolding Tokens.decode_token
  inputs_rooted = rows_all Rooted (length inputs / token_width) inputs (λ i h.
      let l = drop (i * token_width) inputs in
      let p = passed_input (graph_of graph) l (inputs_good.good i h) in
      λ k. record { path = p.path k; iteration = p.iteration k; instruction = (tag_in l).instruction })

  low_cells : (ts : List Record.Token) → Orders.AllLive (machine_of (graph_of graph) [] capacity count) (map token_held ts) → All (λ (t : Record.Token). LowCell t.content) ts
  low_cells [] a = tt
  low_cells (t ∷ ts) a = (low_live t.content a.0, low_cells ts a.1)

  module _ (tables : List ℕ) (arities : Arities (graph_of graph) tables) where
    -- where one operand is waited for, a token is on port 0
    proper_one_lem : (t : Record.Token) → t.port < operands_at (graph_of graph) t.tag.instruction → (0 < arity_in (graph_of graph) t.tag → t.port < arity_in (graph_of graph) t.tag) → LowCell t.content
        → t.tag ≡ root_of t.tag.instruction → ProperArrival tables t
    proper_one_lem t a b c r = record {
      root = r;
      low = arrives_port (graph_of graph) (record { tag = t.tag; port = t.port }) a;
      cell = c;
      alone = λ e. let one : arity_in (graph_of graph) t.tag ≡ 1 = sym (arities t.tag) ∙ e in omega (arith, one, b (omega (arith, one)));
    }

    proper_all_lem : (ts : List Record.Token) → Arrived (graph_of graph) ts → OnPorts (graph_of graph) ts → All (λ (t : Record.Token). LowCell t.content) ts
        → All Rooted ts → All (ProperArrival tables) ts
    proper_all_lem [] a b c r = tt
    proper_all_lem (t ∷ ts) a b c r = (proper_one_lem t a.0 b.0 c.0 r.0, proper_all_lem ts a.1 b.1 c.1 r.1)

    pub inputs_proper : All (ProperArrival tables) (all_rows token_width Tokens.decode_token inputs)
    unfolding first_state
    inputs_proper =
        let ts = all_rows token_width Tokens.decode_token inputs in
        proper_all_lem ts inputs_arrive (on_ports (graph_of graph) ts inputs_arrive) (low_cells ts (start (graph_of graph) [] capacity count inputs accepted).all_live) inputs_rooted

  pub inputs_alone : Alone inputs
  inputs_alone i h = alone_free (take i (all_rows token_width Tokens.decode_token inputs)) (Tokens.token_at inputs i) (inputs_good.alone i h)

  pub inputs_fit : length inputs / token_width ≤ capacity
  inputs_fit = omega (arith, inputs_good.fit, length_rows token_width Tokens.decode_token (length inputs / token_width) inputs)

-- ---- the state

absent_held : (n : ℕ) → map cell_held (replicate n Absent) ≡ replicate n absent
absent_held zero = refl
absent_held (suc n) = ap (λ l. absent ∷ l) (absent_held n)

zeros_in : (l : List ℕ) (n : ℕ) → l ≡ replicate (n * cell_width) 0 → cells_in l ≡ replicate n Absent
zeros_in l n e =
    let size : length l / cell_width ≡ n = ap (λ (b : List ℕ). length b / cell_width) e ∙ ap (λ (k : ℕ). k / cell_width) (length-replicate {A = ℕ} (n * cell_width) 0) ∙ mul-div_cancel n (omega arith) in
    ap (λ (k : ℕ). Cells.cells k l) size ∙ ap (Cells.cells n) e ∙ zeros_cells n

zeros_store : (l : List ℕ) (n : ℕ) → l ≡ replicate (n * cell_width) 0 → n ≤ 1024 → CellStore l
zeros_store l n e h =
    let inside = zeros_in l n e in
    record {
      bytes = e ∙ zeros_joined n ∙ sym (ap (joined Cells.encode_cell) inside);
      fits = subst (λ cs. All Cells.CellFits cs) (sym inside) (absent_fit n);
      few = omega (arith, ap length e, length-replicate {A = ℕ} (n * cell_width) 0);
    }

module _ (graph arrays inputs ledger cells : List ℕ) (accepted : Accepted graph arrays inputs (length ledger) (length cells)) where
  abbrev M : Machine
  M = machine_lent graph arrays ledger cells

  bytes : length cells ≡ (length cells / cell_width) * cell_width
  bytes = omega (arith, accepted.cell_records)

  pub good_start : Good M (first_state inputs (length cells / cell_width))
  good_start = start_good M (first_state inputs (length cells / cell_width)) (start (graph_of graph) (arrays_of arrays) (length ledger / token_width) (length cells / cell_width) inputs accepted.inputs_passed)

  module _ {tables links flags ledger₁ cells₁ : List ℕ} {used : ℕ} (a : Loaded tables links flags ledger ledger₁ inputs used)
      (cleared : cells₁ ≡ replicate (length cells) 0) (right : TablesOf graph arrays tables) where
    zeros : cells₁ ≡ replicate ((length cells / cell_width) * cell_width) 0
    zeros = cleared ∙ ap (λ (n : ℕ). replicate n 0) bytes

    cell_size_lem : length cells₁ ≡ length cells
    cell_size_lem = ap length cleared ∙ length-replicate {A = ℕ} (length cells) 0

    same_state : state_in ledger₁ cells₁ used ≡ first_state inputs (length cells / cell_width)
    unfolding first_state
    same_state = λ i. record { tokens = map token_held (a.taken i); cells = (ap (map cell_held) (zeros_in cells₁ (length cells / cell_width) zeros) ∙ absent_held (length cells / cell_width)) i }

    started : Running (graph_of graph) tables links flags ledger₁ cells₁ used
    started = record {
      matching = a.matching;
      few = omega (arith, a.size, accepted.few);
      store = zeros_store cells₁ (length cells / cell_width) zeros (omega (arith, accepted.cell_records));
      arrived = subst (Arrived (graph_of graph)) (sym a.taken) (inputs_arrive graph inputs (length ledger / token_width) (length cells / cell_width) accepted.inputs_passed);
      good =
          subst (λ (n : ℕ). Good (machine_of (graph_of graph) (arrays_in tables) (n / token_width) (length cells₁ / cell_width)) (state_in ledger₁ cells₁ used)) (sym a.size)
          (subst (λ (n : ℕ). Good (machine_of (graph_of graph) (arrays_in tables) (length ledger / token_width) (n / cell_width)) (state_in ledger₁ cells₁ used)) (sym cell_size_lem)
          (subst (λ (t : List NamedArray). Good (machine_of (graph_of graph) t (length ledger / token_width) (length cells / cell_width)) (state_in ledger₁ cells₁ used)) (sym right.named)
          (subst (λ (x : State Tag ℤ). Good M x) (sym same_state) good_start)));
    }

    pub begun : Begun graph arrays inputs tables links flags ledger ledger₁ cells cells₁ used
    begun = record {
      prepared = record { passed = accepted.graph_passed; returns_right = right.returns; arities_right = right.arities };
      named = right.named;
      running = started;
      state = same_state;
      size = a.size;
      rest = a.rest;
      cell_size = cell_size_lem;
    }

-- a run's check says so
pub accepted_by : (graph arrays inputs picks : List ℕ) (ledger cells : ℕ) → check graph arrays inputs picks ledger cells ≡ Ok tt → Accepted graph arrays inputs ledger cells
accepted_by graph arrays inputs picks ledger cells e =
    let parts = passed_check graph arrays inputs picks ledger cells e in
    let stores = passed_stores (length inputs) (length picks) ledger cells parts.1 in
    record { graph_passed = parts.0; few_arrays = parts.3; inputs_passed = parts.2; few = stores.token_records.1; cell_records = stores.cell_records }

-- ---- the end

-- the machine's end from the state that `begin` left is the end from 01's first state, and what it leaves is said of the buffers as lent
module _ (graph arrays inputs ledger cells : List ℕ) (accepted : Accepted graph arrays inputs (length ledger) (length cells))
    {tables links flags ledger₁ cells₁ : List ℕ} {used : ℕ} (b : Begun graph arrays inputs tables links flags ledger ledger₁ cells cells₁ used) where
  abbrev N : Machine
  N = machine_lent graph arrays ledger cells

  abbrev s₀ : State Tag ℤ
  s₀ = first_state inputs (length cells / cell_width)

  -- whatever is made of a machine and of a state
  pub from_start : {A : Type 0} (f : List NamedArray → (capacity count : ℕ) → State Tag ℤ → A)
      → f (arrays_in tables) (length ledger₁ / token_width) (length cells₁ / cell_width) (state_in ledger₁ cells₁ used) ≡ f (arrays_of arrays) (length ledger / token_width) (length cells / cell_width) s₀
  from_start f = λ i. f (b.named i) (b.size i / token_width) (b.cell_size i / cell_width) (b.state i)

  module _ (e : End Refusal Tag ℤ) (τs : List Tag) (fires : Fires N s₀ τs e.state) where
    reached : (sent : ℕ) × Reached N s₀ (length τs) sent e.state
    reached = sequence_reaches N τs s₀ e.state fires

    token_count : used ≤ length e.state.tokens
    unfolding first_state
    token_count =
        let n = reached_count N (lawful graph accepted.graph_passed (arrays_of arrays) (length ledger / token_width) (length cells / cell_width)) s₀ (good_start graph arrays inputs ledger cells accepted) (length τs) reached.0 e.state reached.1 in
        omega (arith, n, ap (λ (x : State Tag ℤ). length x.tokens) b.state, length-map (tokens used ledger₁) token_held, length_rows token_width Tokens.decode_token used ledger₁)

    cell_count_lem : length e.state.cells ≡ length cells / cell_width
    cell_count_lem = (reached_good N (lawful graph accepted.graph_passed (arrays_of arrays) (length ledger / token_width) (length cells / cell_width)) s₀ (good_start graph arrays inputs ledger cells accepted) (length τs) reached.0 e.state reached.1).cell_count

    pub as_lent : (r : Answer) (ledger' cells' : List ℕ) → EndedAt e r ledger₁ cells₁ ledger' cells' → EndedAt e r ledger cells ledger' cells'
    as_lent r ledger' cells' h =
        let ts = map token_record e.state.tokens in
        let cs = map cell_record e.state.cells in
        let token_bytes : length (joined Tokens.encode_token ts) ≡ length e.state.tokens * token_width = length_joined token_width Tokens.encode_token length_token ts ∙ ap (λ (n : ℕ). n * token_width) (length-map e.state.tokens token_record) in
        let cell_bytes : length (joined Cells.encode_cell cs) ≡ length cells = length_joined cell_width Cells.encode_cell length_cell cs ∙ ap (λ (n : ℕ). n * cell_width) (length-map e.state.cells cell_record ∙ cell_count_lem) ∙ sym (bytes graph arrays inputs ledger cells accepted) in
        let rest : drop (length (joined Tokens.encode_token ts)) ledger₁ ≡ drop (length (joined Tokens.encode_token ts)) ledger =
        ap (λ (n : ℕ). drop n ledger₁) token_bytes ∙ rest_on ledger₁ ledger used (length e.state.tokens) token_count b.rest ∙ sym (ap (λ (n : ℕ). drop n ledger) token_bytes) in
        let short₁ : length cells₁ ≤ length (joined Cells.encode_cell cs) = omega (arith, cell_bytes, b.cell_size) in
        let short : length cells ≤ length (joined Cells.encode_cell cs) = omega (arith, cell_bytes) in
        record {
          answered = h.answered;
          ledger_left = h.ledger_left ∙ ap (λ (l : List ℕ). joined Tokens.encode_token ts ++ l) rest;
          cells_left = h.cells_left ∙ ap (λ (l : List ℕ). joined Cells.encode_cell cs ++ l) (drop_of_length-le cells₁ short₁ ∙ sym (drop_of_length-le cells short));
        }
