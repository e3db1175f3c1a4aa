-- Every token and every cell of a run, of a profile and of a replay fits its record, where graph and inputs are bytes: so that the bytes of a token tell which token it is.
-- The tokens fit the ledger, and the cells are as many as there are. Assumes nothing.
use Rattle.std.proofs.Common.{Ok, Err}
use Prim.Native.Nat.{ℕ, zero, suc, ◌/◌, ◌%◌, ◌^◌, ◌<◌, ◌≤◌}
use mathlib.Core.Path.{◌≡◌, refl, sym, subst, ◌∙◌}
use mathlib.Core.Bool.{Bool, true, false, cond}
use mathlib.Core.List.{List, [], ◌∷◌, map}
use mathlib.Core.Option.{some}
use native.Mathlib.Omega.{arith}
use native.Mathlib.Decide.{dec_le}
use lib.ListN.{length, get_or, length-map}
use lib.Dec.{leb}
use lib.IntN.{ℤ, pos, negsuc, nat_abs}
use mir.Syntax.{w32}
use mir.Val.{SFits}
use borrow.Author.Tests.{leb-true}
use Rattle.record.specs.declared.tag.Tag.{Tag}
use Rattle.record.specs.declared.array.NamedArray.{NamedArray}
use Rattle.record.specs.declared.tag.Caller.{Caller}
use Rattle.std.specs.Prelude.{Option, Some, None}
use Rattle.record.specs.declared.instruction.Destination.{Destination}
use Rattle.record.specs.declared.instruction.Instruction.{Instruction}
use Rattle.record.specs.declared.operation.Operation.TheVariants as Operations
use Rattle.record.specs.declared.token.Token as Record
use Rattle.record.specs.declared.token.Content as RecordContent
use Rattle.record.specs.declared.token.Content.TheVariants as Contents
use Rattle.number.specs.Number.{Bytes}
use Rattle.buffer.specs.Rows.{All, all_rows}
use Rattle.record.specs.TokensAndTags as Tokens
use Rattle.record.specs.TokensAndTags.{ContentFits, TokenFits, capacity_of}
use Rattle.record.specs.Cells.{CellFits}
use Rattle.record.specs.Paths.{path_number, path_words, is_root, PathFits}
use Rattle.record.specs.Calls.{entered, leave_of}
use Rattle.record.specs.GraphRecords.{in_use, operation_of, graph_of, InstructionFits}
use Rattle.record.specs.Arrays.{arrays_of}
use Rattle.record.specs.GraphRecords as Graph
use Rattle.record.proofs.Calls.{same_caller}
use Rattle.record.proofs.Paths.{entered_fits, left_fits}
use Rattle.record.proofs.Fitting.{token_fits, instruction_fits, rows_fit}
use Rattle.buffer.proofs.Tables.{length_rows}
use Rattle.record.specs.Widths.{token_width, cell_width, graph_width}
use Rattle.arithmetic.proofs.Ranged.{value_fits}
use Rattle.machine.specs.Machine.{Key, Content, live, spent, deferred, Token, Cell, absent, waiting, present, State, End, run}
use Rattle.machine.specs.Orders.{Live, AllLive, Start, Reached}
use Rattle.machine.specs.Steps.{Profile, profile}
use Rattle.machine.specs.Replay.{replay}
use Rattle.machine.proofs.Orders.{start_good}
use Rattle.machine.proofs.Reached.{reached_good}
use Rattle.machine.proofs.Kept.{Each, OfContent, OfToken, OfCell, OfState, Keeps, reached_keeps}
use Rattle.rules.specs.declared.answer.Refusal.{Refusal}
use Rattle.rules.specs.declared.answer.Refusal.TheVariants.{ProfileFull, NotEnabled}
use Rattle.rules.specs.Check.{instruction_at, within, check_graph, check_stores, check_arrays, check, most_cells, Checked}
use Rattle.rules.specs.InstructionSet.{key_under, all_under, machine_of}
use Rattle.rules.specs.Run.{content_held, content_record, token_held, token_record, cell_record, first_state, picks_of, refused_at_once, ran_to, result}
use Rattle.rules.specs.Profile.{check_profile_stores, check_profile, profile_unless_failed, profiled}
use Rattle.rules.specs.Log.{names_in, replayed}
use Rattle.rules.specs.Invariants.{LawfulResult}
use Rattle.rules.specs.Fits.{AllFit, ResultsFit}
use Rattle.rules.proofs.Passed.{both, and_then_passed}
use Rattle.rules.proofs.PassedGraph.{past_operation, of_graph, at_most, enter_site}
use Rattle.rules.proofs.Effects.{later, Asked, keeps_asked}
use Rattle.rules.proofs.Lawful.{lawful}
use Rattle.rules.proofs.Inputs.{absent_of}
use Rattle.rules.proofs.Accepted.{whole_bytes, stores_whole, Accepted, accepted, begins, by_check}
use Rattle.rules.proofs.Invariants.{result_invariants, profile_invariants, replay_invariants}

-- ---- keys

-- path and iteration, which an output has of its activity
abbrev pub Path : Tag → Type 0
Path τ = PathFits τ.path × (τ.iteration < 2 ^ 8)

abbrev pub KeyFits : Key Tag → Type 0
KeyFits k = Path k.tag × (k.tag.instruction < 2 ^ 16) × (k.port < 2 ^ 8)

abbrev DestinationFits : Destination → Type 0
DestinationFits d = (d.instruction < 2 ^ 16) × (d.port < 2 ^ 8)

under : (τ : Tag) → Path τ → (d : Destination) → DestinationFits d → KeyFits (key_under τ d)
under τ p d f = (p, f.0, f.1)

used_fit : (τ : Tag) → Path τ → (n : ℕ) (d e : Destination) → DestinationFits d → DestinationFits e → Each KeyFits (map (key_under τ) (in_use n d e))
used_fit τ p zero d e f g = tt
used_fit τ p (suc zero) d e f g = (under τ p d f, tt)
used_fit τ p (suc (suc n)) d e f g = (under τ p d f, (under τ p e g, tt))

module _ (r : Instruction) (f : InstructionFits r) where
  first_fits : DestinationFits r.first
  first_fits = (f.instruction1, f.port1)

  second_fits : DestinationFits r.second
  second_fits = (f.instruction2, f.port2)

  all_fit : (τ : Tag) → Path τ → Each KeyFits (all_under τ r)
  all_fit τ p = used_fit τ p r.fanout r.first r.second first_fits second_fits

-- LEAVE's caller
left : (τ : Tag) (site : ℕ) (caller : Tag) → Path τ → leave_of τ ≡ Some (record { site = site; tag = caller }) → Path caller
unfolding leave_of
left τ site caller p e = go (is_root τ.path) e
  where
    n : ℕ
    n = path_number τ.path

    parent : Tag
    parent = record { path = path_words (n / 65536); iteration = n % 256; instruction = τ.instruction }

    go : (b : Bool) → cond {A = Option Caller} b None (Some (record { site = n / 256 % 256; tag = parent })) ≡ Some (record { site = site; tag = caller }) → Path caller
    go true f = let z : ◌≡◌ {A = ℕ} 0 1 = cc in absurd (omega arith)
    go false f = let z = (same_caller f).1 in subst Path z (left_fits τ.path p.0, omega arith)

-- ---- of a graph that passed

byte_site : (k : ℤ) → within 0 255 k ≡ true → nat_abs k < 256
unfolding within
byte_site (pos n) e = omega (arith, leb-true n 255 (both (leb 0 n) (leb n 255) e).1)
byte_site (negsuc n) e = let z : ◌≡◌ {A = ℕ} 0 1 = cc in absurd (omega arith)

module _ (graph : List ℕ) (bytes : Bytes graph) (passed : check_graph graph ≡ Ok tt) (table : List NamedArray) (capacity cells : ℕ) where
  abbrev g : List Instruction
  g = graph_of graph

  few : length g ≤ 256
  few = rw (length_rows graph_width Graph.decode_instruction (length graph / graph_width) graph) (at_most graph passed)

  each_fits : (rs : List Instruction) (i : ℕ) → All InstructionFits rs → InstructionFits (Graph.decode_instruction []) → InstructionFits (get_or rs i (Graph.decode_instruction []))
  each_fits [] i h d = d
  each_fits (r ∷ rs) zero h d = h.0
  each_fits (r ∷ rs) (suc i) h d = each_fits rs i h.1 d

  at_fits : (i : ℕ) → InstructionFits (instruction_at g i)
  unfolding instruction_at
  at_fits i = each_fits g i (rows_fit InstructionFits Graph.decode_instruction instruction_fits 16 (length graph / graph_width) graph bytes) (instruction_fits [] (λ k. omega arith))

  enters_site_lem : (i : ℕ) → operation_of (instruction_at g i).code ≡ Operations.Enter → nat_abs (instruction_at g i).constant < 256
  enters_site_lem i e = go (dec_le (suc i) (length g))
    where
      go : Dec (suc i ≤ length g) → nat_abs (instruction_at g i).constant < 256
      go (yes h) = byte_site _ (enter_site (of_graph graph passed i h) e)
      go (no n) = let z : Operations.Enter ≡ Operations.Unknown = sym e ∙ past_operation g i (omega arith) in let y : ◌≡◌ {A = ℕ} 0 1 = cc in absurd (omega arith)

  pub keeps : Keeps (machine_of g table capacity cells) KeyFits (SFits w32) (λ c. c < cells)
  keeps = keeps_asked g table capacity cells KeyFits (SFits w32) (λ c. c < cells) (λ τ (waits, keys). asked τ (keys 0 waits).0) (record { sfits = omega arith })
    where
      asked : (τ : Tag) → Path τ → Asked g table capacity cells KeyFits (SFits w32) (λ c. c < cells) τ (instruction_at g τ.instruction)
      asked τ p =
          let r = instruction_at g τ.instruction in
          let f = at_fits τ.instruction in
          record {
            all = all_fit r f τ p;
            sides = λ e. (under τ p r.first (first_fits r f), under τ p r.second (second_fits r f));
            next = λ e h. all_fit r f (later τ) (p.0, omega arith);
            enter = λ e h. under (entered τ (nat_abs r.constant)) (entered_fits τ.path p.0 h (nat_abs r.constant) τ.iteration (enters_site_lem τ.instruction e) p.1, omega arith) r.first (first_fits r f);
            leave = λ e site caller h i l. (left τ site caller p h, omega (arith, few), omega arith);
            fetch = λ e c h. h;
            constant = f.constant;
            computed = λ o a b v e. value_fits o a b v e;
          }

  -- ---- from the inputs on

  abbrev pub Fits : State Tag ℤ → Type 0
  Fits s = OfState (machine_of g table capacity cells) KeyFits (SFits w32) (λ c. c < cells) s

  -- an input is live: it names no cell
  content_fits : (x : RecordContent.Content) → ContentFits x → Live (some (content_held x)) → OfContent (machine_of g table capacity cells) KeyFits (SFits w32) (λ c. c < cells) (content_held x)
  content_fits (Contents.Live v) f h = f
  content_fits (Contents.Spent v) f h = f
  content_fits (Contents.Deferred c) f (v, e) = let z : ◌≡◌ {A = ℕ} 0 1 = cc in absurd (omega arith)

  inputs_fit : (ts : List Record.Token) → All TokenFits ts → AllLive (machine_of g table capacity cells) (map token_held ts) → Each (OfToken (machine_of g table capacity cells) KeyFits (SFits w32) (λ c. c < cells)) (map token_held ts)
  inputs_fit [] f h = tt
  inputs_fit (t ∷ ts) f h =
      let k = f.0 in
      ((((k.path, k.iteration), k.instruction, k.port), content_fits t.content k.content h.0), inputs_fit ts f.1 h.1)

  pub start_fits : (inputs : List ℕ) → Bytes inputs → Start (machine_of g table capacity cells) (first_state inputs cells) → Fits (first_state inputs cells)
  unfolding first_state
  start_fits inputs b s = record {
    tokens = inputs_fit (all_rows token_width Tokens.decode_token inputs) (rows_fit TokenFits Tokens.decode_token token_fits token_width (length inputs / token_width) inputs b) s.all_live;
    cells = absent_of g table capacity cells KeyFits (SFits w32) (λ c. c < cells) cells;
  }

  -- ---- as records

  module _ (few-cells : cells ≤ 1024) where
    content_record_lem : (x : Content ℤ) → OfContent (machine_of g table capacity cells) KeyFits (SFits w32) (λ c. c < cells) x → ContentFits (content_record x)
    content_record_lem (live v) h = h
    content_record_lem (spent v) h = h
    content_record_lem (deferred c) h = omega arith

    pub token_records_lem : (ts : List (Token Tag ℤ)) → Each (OfToken (machine_of g table capacity cells) KeyFits (SFits w32) (λ c. c < cells)) ts → All TokenFits (map token_record ts)
    token_records_lem [] h = tt
    token_records_lem (t ∷ ts) h =
        let k = h.0.0 in
        (record { path = k.0.0; iteration = k.0.1; instruction = k.1; port = k.2; content = content_record_lem t.content h.0.1 }, token_records_lem ts h.1)

  cell_record_lem : (x : Cell ℤ) → OfCell (machine_of g table capacity cells) KeyFits (SFits w32) (λ c. c < cells) x → CellFits (cell_record x)
  cell_record_lem absent h = tt
  cell_record_lem waiting h = tt
  cell_record_lem (present v) h = h

  pub cell_records_lem : (xs : List (Cell ℤ)) → Each (OfCell (machine_of g table capacity cells) KeyFits (SFits w32) (λ c. c < cells)) xs → All CellFits (map cell_record xs)
  cell_records_lem [] h = tt
  cell_records_lem (x ∷ xs) h = (cell_record_lem x h.0, cell_records_lem xs h.1)

-- ---- whole runs

-- of every end that is reached from the inputs
pub ended_fits : (graph : List ℕ) → Bytes graph → check_graph graph ≡ Ok tt → (table : List NamedArray) (capacity cells : ℕ) → cells ≤ most_cells → (inputs : List ℕ) → Bytes inputs
    → Start (machine_of (graph_of graph) table capacity cells) (first_state inputs cells) → (e : End Refusal Tag ℤ) (n o : ℕ) → Reached (machine_of (graph_of graph) table capacity cells) (first_state inputs cells) n o e.state
    → AllFit (ran_to e) capacity cells
ended_fits graph graph_bytes passed table capacity cells few inputs input_bytes begun e n o r =
    let M = machine_of (graph_of graph) table capacity cells in
    let s = first_state inputs cells in
    let x = e.state in
    let fits = reached_keeps M KeyFits (SFits w32) (λ c. c < cells) (keeps graph graph_bytes passed table capacity cells) s (start_fits graph graph_bytes passed table capacity cells inputs input_bytes begun) n o x r in
    let good = reached_good M (lawful graph passed table capacity cells) s (start_good M s begun) n o x r in
    record {
      tokens = token_records_lem graph graph_bytes passed table capacity cells few x.tokens fits.tokens;
      cells = cell_records_lem graph graph_bytes passed table capacity cells x.cells fits.cells;
      room = rw (length-map x.tokens token_record) good.room;
      cell_count = length-map x.cells cell_record ∙ good.cell_count;
    }

pub none_fits : (r : Refusal) (p capacity count : ℕ) → AllFit (refused_at_once r p) capacity count
none_fits r p capacity count = record { tokens = tt; cells = tt; room = omega arith; cell_count = tt }

module _ (graph arrays inputs : List ℕ) (ledger cells : ℕ) (graph_bytes : Bytes graph) (input_bytes : Bytes inputs) where
  -- what is lawful fits, where the check passed
  pub lawful_fits : (picks : ℕ) → check_stores (length inputs) picks ledger cells ≡ Ok tt → Accepted graph inputs (capacity_of ledger) → (e : End Refusal Tag ℤ) → LawfulResult graph arrays inputs ledger cells (ran_to e)
      → AllFit (ran_to e) (capacity_of ledger) (cells / cell_width)
  lawful_fits picks stores a e h =
      ended_fits graph graph_bytes a.graph_passed (arrays_of arrays) (capacity_of ledger) (cells / cell_width) (whole_bytes cell_width most_cells cells (stores_whole (length inputs) picks ledger cells stores).whole_cells).1 inputs input_bytes
      (begins graph inputs (arrays_of arrays) (capacity_of ledger) (cells / cell_width) a) e e.firings h.sent h.reached

  pub profile_result_fits : (lent : ℕ) → AllFit (profiled graph arrays inputs ledger cells lent).result (capacity_of ledger) (cells / cell_width)
  unfolding profiled profile_unless_failed check_profile check_profile_stores
  profile_result_fits lent = go (check_profile graph arrays inputs ledger cells lent) refl (profile_invariants graph arrays inputs ledger cells lent)
    where
      p : Profile Refusal Tag ℤ
      p = profile (machine_of (graph_of graph) (arrays_of arrays) (capacity_of ledger) (cells / cell_width)) ProfileFull (lent / 4) 0 (first_state inputs (cells / cell_width))

      go : (c : Checked) → check_profile graph arrays inputs ledger cells lent ≡ c → LawfulResult graph arrays inputs ledger cells (profile_unless_failed c p).result → AllFit (profile_unless_failed c p).result (capacity_of ledger) (cells / cell_width)
      go (Err fault) e h = none_fits fault.refusal fault.place (capacity_of ledger) (cells / cell_width)
      go (Ok _) e h =
          let (stores, (named, a)) = accepted graph inputs (capacity_of ledger) (check_profile_stores (length inputs) ledger cells lent) (check_arrays (graph_of graph) (cells / cell_width) arrays) e in
          lawful_fits 0 (and_then_passed (check_stores (length inputs) 0 ledger cells) _ stores).0 a p.ended h

  pub replay_result_fits : (log : List ℕ) → AllFit (replayed graph arrays inputs log ledger cells) (capacity_of ledger) (cells / cell_width)
  unfolding replayed check
  replay_result_fits log =
      by_check (check graph arrays inputs [] ledger cells) _ (λ x. LawfulResult graph arrays inputs ledger cells x → AllFit x (capacity_of ledger) (cells / cell_width)) (λ r n e h. none_fits r n (capacity_of ledger) (cells / cell_width)) (λ e h.
      let (stores, (named, a)) = accepted graph inputs (capacity_of ledger) (check_stores (length inputs) 0 ledger cells) (check_arrays (graph_of graph) (cells / cell_width) arrays) e in
      lawful_fits 0 stores a (replay (machine_of (graph_of graph) (arrays_of arrays) (capacity_of ledger) (cells / cell_width)) NotEnabled (names_in log) 0 (first_state inputs (cells / cell_width))) h)
      (replay_invariants graph arrays inputs log ledger cells)

pub result_fits : ResultsFit
unfolding result check
result_fits graph arrays inputs picks budget ledger cells graph_bytes input_bytes =
    by_check (check graph arrays inputs picks ledger cells) _ (λ x. LawfulResult graph arrays inputs ledger cells x → AllFit x (capacity_of ledger) (cells / cell_width)) (λ r n e h. none_fits r n (capacity_of ledger) (cells / cell_width)) (λ e h.
    let (stores, (named, a)) = accepted graph inputs (capacity_of ledger) (check_stores (length inputs) (length picks) ledger cells) (check_arrays (graph_of graph) (cells / cell_width) arrays) e in
    lawful_fits graph arrays inputs ledger cells graph_bytes input_bytes (length picks) stores a (run (machine_of (graph_of graph) (arrays_of arrays) (capacity_of ledger) (cells / cell_width)) budget (picks_of picks) (first_state inputs (cells / cell_width))) h)
    (result_invariants graph arrays inputs picks budget ledger cells)
