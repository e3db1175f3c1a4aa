-- 02, R-13: what holds of the inputs and of a saved state that is taken (`Resumable`: `resumable_start`, `resumable_saved`) holds of all that is reached from there
-- (`resumable_reached`); and a state of which it holds, written to ledger and cells, is taken (`taken_again`). The test says what
-- 02 lists (`saved_exactly`). Assumes nothing.
use Rattle.std.proofs.Common.{Ok}
use Prim.Native.Nat.{ℕ, zero, suc, ◌+◌, ◌/◌, ◌≤◌, ◌<◌}
use mathlib.Core.Path.{◌≡◌, refl, sym, ◌∙◌}
use mathlib.Core.Logic.{◌↔◌}
use mathlib.Core.Bool.{Bool, true, ◌&&◌}
use mathlib.Core.List.{List, [], ◌∷◌, map}
use native.Mathlib.Omega.{arith}
use borrow.Author.Tests.{ltb-true, lt-ltb}
use lib.Dec.{ltb}
use lib.ListN.{length, drop}
use lib.IntN.{ℤ}
use mir.Syntax.{w32}
use mir.Val.{SFits}
use Rattle.record.specs.declared.tag.Tag.{Tag}
use Rattle.record.specs.declared.array.NamedArray.{NamedArray}
use Rattle.record.specs.declared.token.Token as Record
use Rattle.record.specs.declared.token.Content as RecordContent
use Rattle.record.specs.declared.token.Content.TheVariants as Contents
use Rattle.record.specs.declared.cell.Cell as RecordCell
use Rattle.record.specs.declared.cell.Cell.TheVariants as Cells'
use Rattle.record.specs.declared.instruction.Instruction.{Instruction}
use Rattle.number.specs.Number.{Bytes}
use Rattle.buffer.specs.Rows.{All, rows, all_rows, written_over}
use Rattle.record.specs.GraphRecords.{graph_of}
use Rattle.record.specs.Paths.{path_number}
use Rattle.record.specs.TokensAndTags as Tokens
use Rattle.record.specs.TokensAndTags.{ContentFits, TokenFits, capacity_of, ledger_of}
use Rattle.record.specs.Cells as Cells
use Rattle.record.specs.Cells.{CellFits}
use Rattle.record.specs.Calls.{most_levels}
use Rattle.record.specs.Widths.{token_width, cell_width}
use Rattle.record.proofs.Paths.{root_number}
use Rattle.record.proofs.Fitting.{token_fits, cell_fits, rows_fit, bytes_drop}
use Rattle.machine.specs.Machine.{Key, Content, live, spent, deferred, Token, Cell, absent, waiting, present, Machine, State}
use Rattle.machine.specs.Orders.{Reached}
use Rattle.machine.specs.Saved.{Saved, all_tokens, names_cell, is_saved}
use Rattle.machine.proofs.Saved.{saved_start, saved_reached}
use Rattle.machine.proofs.Taken.{tested, taken_exactly}
use Rattle.machine.proofs.Kept.{Each, OfContent, OfCell, OfToken, OfState, reached_keeps}
use Rattle.rules.specs.Check.{all, operands_at, check_graph, most_cells}
use Rattle.rules.specs.InstructionSet.{machine_of}
use Rattle.rules.specs.Run.{content_held, token_held, token_record, cell_held, cell_record, first_state}
use Rattle.rules.specs.Callers.{PathIn}
use Rattle.rules.specs.Saved.{state_saved, machine_saved, token_allowed, cell_allowed, path_made, state_taken, TakesState, TakenExactly}
use Rattle.rules.proofs.Passed.{both}
use Rattle.rules.proofs.Lists.{each_all}
use Rattle.rules.proofs.Lawful.{lawful}
use Rattle.rules.proofs.Inputs.{start_keys}
use Rattle.rules.proofs.Accepted.{Accepted, begins}
use Rattle.rules.proofs.Callers as Callers
use Rattle.rules.proofs.Callers.{Called, root_path_lem}
use Rattle.rules.proofs.Proper as Proper
use Rattle.rules.proofs.Proper.{AtPort}
use Rattle.rules.proofs.Fits as Fits
use Rattle.rules.proofs.Fits.{KeyFits, start_fits, token_records_lem, cell_records_lem}
use Rattle.rules.proofs.Paths.{path_made_lem, path_in_lem}
use Rattle.rules.proofs.Written.{Rooms, ledger_size, cells_size, tokens_read, state_back, tokens_allowed, cells_allowed}

-- no table is looked at
any_table : (g : List Instruction) (table : List NamedArray) (capacity count f : ℕ) (s : State Tag ℤ) → is_saved (machine_of g [] capacity count) f s ≡ is_saved (machine_of g table capacity count) f s
unfolding is_saved
any_table g table capacity count f s = refl

module _ (graph : List ℕ) (bytes : Bytes graph) (passed : check_graph graph ≡ Ok tt) (table : List NamedArray) (capacity count : ℕ) where
  abbrev g : List Instruction
  g = graph_of graph

  abbrev M : Machine
  M = machine_of g table capacity count

  abbrev Any : {A : Type 0} → A → Type 0
  Any x = Unit {0}

  -- after f firings in all
  pub record Resumable (f : ℕ) (s : State Tag ℤ) : Type 0 where
    pub saved : Saved M f s
    pub called : OfState M (Called graph passed) Any Any s
    pub placed : OfState M (AtPort g) Any Any s
    pub fits : OfState M KeyFits (SFits w32) (λ c. c < count) s

  pub resumable_reached : (f : ℕ) (s : State Tag ℤ) → Resumable f s → (n o : ℕ) (x : State Tag ℤ) → Reached M s n o x → Resumable (f + n) x
  resumable_reached f s h n o x r = record {
    saved = saved_reached M (lawful graph passed table capacity count) f s h.saved n o x r;
    called = reached_keeps M (Called graph passed) Any Any (Callers.keeps graph passed table capacity count) s h.called n o x r;
    placed = reached_keeps M (AtPort g) Any Any (Proper.keeps graph passed table capacity count) s h.placed n o x r;
    fits = reached_keeps M KeyFits (SFits w32) (λ c. c < count) (Fits.keeps graph bytes passed table capacity count) s h.fits n o x r;
  }

  pub resumable_start : (inputs : List ℕ) → Bytes inputs → Accepted graph inputs capacity → Resumable 0 (first_state inputs count)
  resumable_start inputs input_bytes a = record {
    saved = saved_start M (first_state inputs count) (begins graph inputs table capacity count a);
    called = start_keys g table capacity count (Called graph passed) Any inputs (λ t e l h. rw (e, root_number) (root_path_lem g, omega arith)) a.inputs_passed;
    placed = start_keys g table capacity count (AtPort g) Any inputs (λ t root port own. port) a.inputs_passed;
    fits = start_fits graph bytes passed table capacity count inputs input_bytes (begins graph inputs table capacity count a);
  }

  -- ---- it is taken again

  module _ (few : count ≤ most_cells) (f : ℕ) (s : State Tag ℤ) (h : Resumable f s) where
    pub tokens_fit_lem : All TokenFits (map token_record s.tokens)
    tokens_fit_lem = token_records_lem graph bytes passed table capacity count few s.tokens h.fits.tokens

    pub cells_fit : All CellFits (map cell_record s.cells)
    cells_fit = cell_records_lem graph bytes passed table capacity count s.cells h.fits.cells

    at_ports : (ts : List (Token Tag ℤ)) → Each (OfToken M (AtPort g) Any Any) ts → All TokenFits (map token_record ts)
        → All (λ (t : Record.Token). TokenFits t × (t.port < operands_at g t.tag.instruction)) (map token_record ts)
    at_ports [] k l = tt
    at_ports (t ∷ ts) k l = ((l.0, k.0.0), at_ports ts k.1 l.1)

    paths : (ts : List (Token Tag ℤ)) → Each (OfToken M (Called graph passed) Any Any) ts → all (λ (t : Record.Token). path_made g most_levels t.tag) (map token_record ts) ≡ true
    paths [] k = refl
    paths (t ∷ ts) k = rw (path_made_lem g t.key.tag k.0.0.0) (paths ts k.1)

    module _ (ledger cells : List ℕ) (room : Rooms s ledger cells) (here : capacity ≡ capacity_of (length ledger)) (there : count ≡ length cells / cell_width) where
      -- the state is what is read back
      pub resumed : {A : Type 0} (P : (capacity count : ℕ) → State Tag ℤ → A)
          → P (capacity_of (length (ledger_of (map token_record s.tokens) ledger))) (length (written_over Cells.encode_cell (map cell_record s.cells) cells) / cell_width)
          (state_saved (ledger_of (map token_record s.tokens) ledger) (written_over Cells.encode_cell (map cell_record s.cells) cells) (length s.tokens)) ≡ P capacity count s
      resumed P =
          (λ i. P (capacity_of (ledger_size s ledger cells room i)) (cells_size s ledger cells room i / cell_width) (state_back s ledger cells room tokens_fit_lem cells_fit i))
          ∙ (λ i. P (sym here i) (sym there i) s)

      pub taken_again : state_taken graph (ledger_of (map token_record s.tokens) ledger) (written_over Cells.encode_cell (map cell_record s.cells) cells) f (length s.tokens) ≡ true
      unfolding state_taken
      taken_again =
          rw (
            tokens_allowed s ledger cells room tokens_fit_lem cells_fit g (at_ports s.tokens h.placed.tokens tokens_fit_lem),
            tokens_read s ledger cells room tokens_fit_lem cells_fit,
            paths s.tokens h.called.tokens,
            cells_allowed s ledger cells room,
          )
          (resumed (λ m n x. is_saved (machine_of g [] m n) f x) ∙ any_table g table capacity count f s ∙ (taken_exactly M f s).1 h.saved)

-- ---- what is taken

module _ {A : Type 0} (test : List ℕ → Bool) (P : A → Type 0) (read : List ℕ → A) (w : ℕ) (h : (l : List ℕ) → Bytes l → test l ≡ true → P (read l)) where
  rows_hold : (n : ℕ) (l : List ℕ) → Bytes l → all test (rows w (λ b. b) n l) ≡ true → All P (rows w read n l)
  rows_hold zero l b e = tt
  rows_hold (suc n) l b e =
      let (here, later) = both (test l) (all test (rows w (λ b. b) n (drop w l))) e in
      (h l b here, rows_hold n (drop w l) (bytes_drop w l b) later)

-- what it says of ledger and cells
pub record Tests (graph ledger cells : List ℕ) (firings n : ℕ) : Type 0 where
  pub fields : all (token_allowed (graph_of graph)) (rows token_width (λ l. l) n ledger) ≡ true
  pub paths : all (λ (t : Record.Token). path_made (graph_of graph) most_levels t.tag) (Tokens.tokens n ledger) ≡ true
  pub cell_fields : all cell_allowed (all_rows cell_width (λ l. l) cells) ≡ true
  pub machine : is_saved (machine_saved graph [] ledger cells) firings (state_saved ledger cells n) ≡ true

pub tests : (graph ledger cells : List ℕ) (firings n : ℕ) → state_taken graph ledger cells firings n ≡ true → Tests graph ledger cells firings n
unfolding state_taken
tests graph ledger cells firings n e =
    let (a, e1) = both (all (token_allowed (graph_of graph)) (rows token_width (λ l. l) n ledger)) _ e in
    let (b, e2) = both (all (λ (t : Record.Token). path_made (graph_of graph) most_levels t.tag) (Tokens.tokens n ledger)) _ e1 in
    let (c, d) = both (all cell_allowed (all_rows cell_width (λ l. l) cells)) _ e2 in
    record { fields = a; paths = b; cell_fields = c; machine = d }

-- whatever the table is
saved_so : (graph : List ℕ) (table : List NamedArray) (ledger cells : List ℕ) (firings n : ℕ) → state_taken graph ledger cells firings n ≡ true
    → is_saved (machine_saved graph table ledger cells) firings (state_saved ledger cells n) ≡ true
saved_so graph table ledger cells firings n e =
    sym (any_table (graph_of graph) table (capacity_of (length ledger)) (length cells / cell_width) firings (state_saved ledger cells n)) ∙ (tests graph ledger cells firings n e).machine

pub saved_under : (graph : List ℕ) (table : List NamedArray) (ledger cells : List ℕ) (firings n : ℕ) → state_taken graph ledger cells firings n ≡ true
    → Saved (machine_saved graph table ledger cells) firings (state_saved ledger cells n)
saved_under graph table ledger cells firings n e =
    (taken_exactly (machine_saved graph table ledger cells) firings (state_saved ledger cells n)).0 (saved_so graph table ledger cells firings n e)

-- ---- by each condition

-- a test of all is one of each
module _ {A B : Type 0} (test : A → Bool) (P : B → Type 0) (f : A → B) (w : ℕ) where
  each_row : (read : List ℕ → A) → ((l : List ℕ) → (test (read l) ≡ true) ↔ P (f (read l))) → (n : ℕ) (l : List ℕ) → (all test (rows w read n l) ≡ true) ↔ All P (rows w (λ b. f (read b)) n l)
  each_row read h zero l = (λ e. tt, λ k. refl)
  each_row read h (suc n) l =
      let (to, fro) = each_row read h n (drop w l) in
      (λ e. let (a, b) = both (test (read l)) (all test (rows w read n (drop w l))) e in ((h l).0 a, to b), λ (a, b). rw ((h l).1 a) (fro b))

-- two tests of all are tests of both
all_both : {A : Type 0} (p q : A → Bool) (xs : List A) → (all (λ x. p x && q x) xs ≡ true) ↔ ((all p xs ≡ true) × (all q xs ≡ true))
all_both p q [] = (λ e. (refl, refl), λ e. refl)
all_both p q (x ∷ xs) =
    let (to, fro) = all_both p q xs in (
      λ e.
          let (a, b) = both (p x && q x) (all (λ y. p y && q y) xs) e in
          let (c, d) = both (p x) (q x) a in
          let (s, t) = to b in
          (rw c s, rw d t),
      λ (a, b).
          let (c, s) = both (p x) (all p xs) a in
          let (d, t) = both (q x) (all q xs) b in
          rw (c, d) (fro (s, t)),
    )

module _ (graph ledger cells : List ℕ) (firings n : ℕ) (passed : check_graph graph ≡ Ok tt) where
  abbrev gs : List Instruction
  gs = graph_of graph

  abbrev there : List ℕ → Bool
  there l = ltb (Tokens.decode_token l).port (operands_at gs (Tokens.decode_token l).tag.instruction)

  ports_exactly : (all there (rows token_width (λ l. l) n ledger) ≡ true) ↔ All (λ (t : Record.Token). t.port < operands_at gs t.tag.instruction) (Tokens.tokens n ledger)
  ports_exactly = each_row there (λ (t : Record.Token). t.port < operands_at gs t.tag.instruction) Tokens.decode_token token_width (λ l. l) (λ l. (λ e. ltb-true _ _ e, λ h. lt-ltb _ _ h)) n ledger

  states_exactly : (all Tokens.token_state_allowed (rows token_width (λ l. l) n ledger) ≡ true) ↔ All (λ l. Tokens.token_state_allowed l ≡ true) (rows token_width (λ l. l) n ledger)
  states_exactly = each_row Tokens.token_state_allowed (λ l. Tokens.token_state_allowed l ≡ true) (λ l. l) token_width (λ l. l) (λ l. (λ e. e, λ e. e)) n ledger

  cell_states_lem : (all Cells.cell_state_allowed (all_rows cell_width (λ l. l) cells) ≡ true) ↔ All (λ l. Cells.cell_state_allowed l ≡ true) (all_rows cell_width (λ l. l) cells)
  cell_states_lem = each_row Cells.cell_state_allowed (λ l. Cells.cell_state_allowed l ≡ true) (λ l. l) cell_width (λ l. l) (λ l. (λ e. e, λ e. e)) (length cells / cell_width) cells

  cell_values_lem : (all Cells.zero_until_present (all_rows cell_width (λ l. l) cells) ≡ true) ↔ All (λ l. Cells.zero_until_present l ≡ true) (all_rows cell_width (λ l. l) cells)
  cell_values_lem = each_row Cells.zero_until_present (λ l. Cells.zero_until_present l ≡ true) (λ l. l) cell_width (λ l. l) (λ l. (λ e. e, λ e. e)) (length cells / cell_width) cells

  paths_exactly : (all (λ (t : Record.Token). path_made gs most_levels t.tag) (Tokens.tokens n ledger) ≡ true) ↔ All (λ (t : Record.Token). PathIn gs (path_number t.tag.path)) (Tokens.tokens n ledger)
  paths_exactly = each_row (λ (t : Record.Token). path_made gs most_levels t.tag) (λ (t : Record.Token). PathIn gs (path_number t.tag.path)) (λ t. t) token_width Tokens.decode_token
      (λ l. (λ e. path_in_lem graph passed (Tokens.decode_token l).tag e, λ p. path_made_lem gs (Tokens.decode_token l).tag p)) n ledger

  words : Tests graph ledger cells firings n → TakesState graph ledger cells firings n
  unfolding token_allowed cell_allowed
  words t =
      let (a, b) = (all_both there Tokens.token_state_allowed (rows token_width (λ l. l) n ledger)).0 t.fields in
      let (c, d) = (all_both Cells.cell_state_allowed Cells.zero_until_present (all_rows cell_width (λ l. l) cells)).0 t.cell_fields in
      record {
        ports = ports_exactly.0 a;
        token_states = states_exactly.0 b;
        cell_states = cell_states_lem.0 c;
        paths = paths_exactly.0 t.paths;
        cell_values = cell_values_lem.0 d;
        saved = (taken_exactly (machine_saved graph [] ledger cells) firings (state_saved ledger cells n)).0 t.machine;
      }

  passes : TakesState graph ledger cells firings n → state_taken graph ledger cells firings n ≡ true
  unfolding state_taken token_allowed cell_allowed
  passes h =
      rw (
        (all_both there Tokens.token_state_allowed (rows token_width (λ l. l) n ledger)).1 (ports_exactly.1 h.ports, states_exactly.1 h.token_states),
        paths_exactly.1 h.paths,
        (all_both Cells.cell_state_allowed Cells.zero_until_present (all_rows cell_width (λ l. l) cells)).1 (cell_states_lem.1 h.cell_states, cell_values_lem.1 h.cell_values),
      )
      ((taken_exactly (machine_saved graph [] ledger cells) firings (state_saved ledger cells n)).1 h.saved)

pub saved_exactly : TakenExactly
saved_exactly graph ledger cells firings n passed = (λ e. words graph ledger cells firings n passed (tests graph ledger cells firings n e), λ h. passes graph ledger cells firings n passed h)

-- ---- what is taken goes on

module _ (graph ledger cells : List ℕ) (graph_bytes : Bytes graph) (passed : check_graph graph ≡ Ok tt) (table : List NamedArray) (ledger_bytes : Bytes ledger) (cell_bytes : Bytes cells) (firings n : ℕ) (e : state_taken graph ledger cells firings n ≡ true) where
  abbrev c₀ : ℕ
  c₀ = capacity_of (length ledger)

  abbrev k₀ : ℕ
  k₀ = length cells / cell_width

  abbrev N : Machine
  N = machine_of (graph_of graph) table c₀ k₀

  told : Tests graph ledger cells firings n
  told = tests graph ledger cells firings n e

  at_port : (l : List ℕ) → Bytes l → token_allowed (graph_of graph) l ≡ true → AtPort (graph_of graph) (token_held (Tokens.decode_token l)).key
  unfolding token_allowed
  at_port l b h = ltb-true (Tokens.decode_token l).port _ (both (ltb (Tokens.decode_token l).port (operands_at (graph_of graph) (Tokens.decode_token l).tag.instruction)) (Tokens.token_state_allowed l) h).0

  tokens_fit : All TokenFits (Tokens.tokens n ledger)
  tokens_fit = rows_fit TokenFits Tokens.decode_token token_fits token_width n ledger ledger_bytes

  any_content : (x : Content ℤ) → OfContent N (AtPort (graph_of graph)) (λ v. Unit {0}) (λ d. Unit {0}) x
  any_content (live v) = tt
  any_content (spent v) = tt
  any_content (deferred d) = tt

  any_cell : (x : Cell ℤ) → OfCell N (AtPort (graph_of graph)) (λ v. Unit {0}) (λ d. Unit {0}) x
  any_cell absent = tt
  any_cell waiting = tt
  any_cell (present v) = tt

  placed_all : (ts : List Record.Token) → All (λ (t : Record.Token). AtPort (graph_of graph) (token_held t).key) ts → Each (OfToken N (AtPort (graph_of graph)) (λ v. Unit {0}) (λ d. Unit {0})) (map token_held ts)
  placed_all [] h = tt
  placed_all (t ∷ ts) h = ((h.0, any_content (content_held t.content)), placed_all ts h.1)

  called_all : (ts : List Record.Token) → All TokenFits ts → all (λ (t : Record.Token). path_made (graph_of graph) most_levels t.tag) ts ≡ true
      → Each (OfToken N (Called graph passed) (λ v. Unit {0}) (λ d. Unit {0})) (map token_held ts)
  called_all [] f h = tt
  called_all (t ∷ ts) f h =
      let (here, later) = both (path_made (graph_of graph) most_levels t.tag) (all (λ (u : Record.Token). path_made (graph_of graph) most_levels u.tag) ts) h in
      (((path_in_lem graph passed t.tag here, let z = f.0.iteration in omega arith), any_content (content_held t.content)), called_all ts f.1 later)

  content_fits : (k : Key Tag) (x : RecordContent.Content) → ContentFits x → names_cell N k (content_held x) ≡ true → OfContent N KeyFits (SFits w32) (λ d. d < k₀) (content_held x)
  content_fits k (Contents.Live v) f h = f
  content_fits k (Contents.Spent v) f h = f
  content_fits k (Contents.Deferred d) f h = ltb-true d k₀ h

  fits_all : (ts : List Record.Token) → All TokenFits ts → all_tokens N (names_cell N) (map token_held ts) ≡ true → Each (OfToken N KeyFits (SFits w32) (λ d. d < k₀)) (map token_held ts)
  fits_all [] f h = tt
  fits_all (t ∷ ts) f h =
      let k = f.0 in
      let (here, later) = both (names_cell N (token_held t).key (content_held t.content)) (all_tokens N (names_cell N) (map token_held ts)) h in
      ((((k.path, k.iteration), k.instruction, k.port), content_fits (token_held t).key t.content k.content here), fits_all ts f.1 later)

  cell_fit : (x : RecordCell.Cell) → CellFits x → OfCell N KeyFits (SFits w32) (λ d. d < k₀) (cell_held x)
  cell_fit Cells'.Absent f = tt
  cell_fit Cells'.Waiting f = tt
  cell_fit (Cells'.Present v) f = f

  cells_fit_all : (xs : List RecordCell.Cell) → All CellFits xs → Each (OfCell N KeyFits (SFits w32) (λ d. d < k₀)) (map cell_held xs)
  cells_fit_all [] f = tt
  cells_fit_all (x ∷ xs) f = (cell_fit x f.0, cells_fit_all xs f.1)

  pub resumable_saved : Resumable graph graph_bytes passed table c₀ k₀ firings (state_saved ledger cells n)
  unfolding state_saved
  resumable_saved = record {
    saved = saved_under graph table ledger cells firings n e;
    called = record { tokens = called_all (Tokens.tokens n ledger) tokens_fit told.paths; cells = each_all (OfCell N (AtPort (graph_of graph)) (λ v. Unit {0}) (λ d. Unit {0})) any_cell (map cell_held (all_rows cell_width Cells.decode_cell cells)) };
    placed = record {
      tokens = placed_all (Tokens.tokens n ledger) (rows_hold (token_allowed (graph_of graph)) (λ (t : Record.Token). AtPort (graph_of graph) (token_held t).key) Tokens.decode_token token_width at_port n ledger ledger_bytes told.fields);
      cells = each_all (OfCell N (AtPort (graph_of graph)) (λ v. Unit {0}) (λ d. Unit {0})) any_cell (map cell_held (all_rows cell_width Cells.decode_cell cells));
    };
    fits = record {
      tokens = fits_all (Tokens.tokens n ledger) tokens_fit (tested N firings (state_saved ledger cells n) (saved_so graph table ledger cells firings n e)).named;
      cells = cells_fit_all (all_rows cell_width Cells.decode_cell cells) (rows_fit CellFits Cells.decode_cell cell_fits cell_width k₀ cells cell_bytes);
    };
  }
