-- R-8: a run that gave neither 7 nor 14 before it is the same with its inputs converted and buffers of as many records (`keeps_result`), and what it leaves in
-- the ledger is converted (`keeps_ledger`); so is the log of one that writes a log (`keeps_logged`, `keeps_log`). Assumes nothing.
use Rattle.std.proofs.Common.{Ok, Err}
use Prim.Native.Nat.{ℕ, suc, ◌+◌, ◌*◌, ◌/◌, ◌%◌, ◌^◌, ◌≤◌, ◌<◌}
use mathlib.Core.Path.{◌≡◌, refl, sym, ap, ◌∙◌, subst}
use mathlib.Core.Bool.{Bool, true, false, ◌&&◌, cond}
use mathlib.Core.Logic.{◌⊎◌, inl, inr}
use mathlib.Core.List.{List, [], ◌∷◌, ◌++◌, map}
use native.Mathlib.Omega.{arith}
use native.Mathlib.Nat.{add-zero}
use native.Mathlib.Decide.{dec_le}
use lib.ListN.{length, length-map}
use lib.Dec.{eqb, leb}
use lib.IntN.{ℤ, pos, negsuc, nat_abs}
use borrow.Author.Tests.{eq-eqb, le-leb, leb-true, leb-false}
use Rattle.number.specs.Number.{number64}
use Rattle.buffer.specs.Rows.{rows, all_rows, whole, All}
use Rattle.buffer.proofs.Tables.{length_joined}
use Rattle.record.specs.declared.array.NamedArray.{NamedArray}
use Rattle.record.specs.declared.tag.Tag.{Tag}
use Rattle.record.specs.declared.tag.Caller.{Caller}
use Rattle.std.specs.Prelude.{Option, Some, None}
use Rattle.record.specs.declared.token.Token as Record
use Rattle.record.specs.declared.instruction.Instruction.{Instruction}
use Rattle.record.specs.declared.instruction.Destination.{Destination}
use Rattle.record.specs.declared.operation.Operation.TheVariants as Operations
use Rattle.record.specs.Paths.{path_number, path_words, is_root}
use Rattle.record.specs.TokensAndTags as Tokens
use Rattle.record.specs.TokensAndTags.{is_input, most_tokens, capacity_of, root_of}
use Rattle.record.specs.Calls.{leave_of}
use Rattle.record.specs.Arrays.{arrays_of}
use Rattle.record.specs.GraphRecords.{graph_of, operation_of, destinations}
use Rattle.record.proofs.Calls.{same_caller}
use Rattle.record.proofs.Paths.{number_words, root_number}
use Rattle.record.proofs.Records.{length_token}
use Rattle.record.specs.Logs as Logs
use Rattle.record.specs.Widths.{token_width, cell_width, pick_width, log_width}
use Rattle.machine.specs.Machine.{Key, Token, End, State, Machine, refused, refuse, by_picks, run}
use Rattle.machine.specs.Sequences.{log_of}
use Rattle.machine.proofs.Kept.{Each, OfToken, OfState, OfEffect, Keeps, run_keeps}
use Rattle.rules.specs.declared.answer.Refusal.{Refusal}
use Rattle.rules.specs.declared.answer.Refusal.TheVariants as Refusals
use Rattle.rules.specs.Check.{demand, ◌and_then◌, within, instruction_at, check_graph, check_arrays, check_stores, check_inputs, check, good_input, most_cells, Checked, fault_at}
use Rattle.rules.specs.InstructionSet.{key_under, effect_in, machine_of}
use Rattle.rules.specs.Run.{token_record, first_state, picks_of, ran_to, unless_failed, result, answer, ledger_after}
use Rattle.rules.specs.Log.{LogResult, log_suffices, check_log_stores, check_logged, log_unless_failed, logged, log_after}
use Rattle.rules.specs.Invariants.{LawfulResult}
use Rattle.record.proofs.LogRecords.{length_record}
use Rattle.rules.proofs.Log.{log_fits}
use Rattle.rules.proofs.Passed.{both, demand_passed, and_then_passed}
use Rattle.rules.proofs.Accepted.{whole_bytes}
use Rattle.rules.proofs.PassedGraph.{past_operation, of_graph, enter_code, enter_site}
use Rattle.rules.proofs.Effects.{later, Asked, effect_asked}
use Rattle.rules.proofs.Inputs.{start_keys}
use Rattle.rules.proofs.Invariants.{result_invariants}
use Rattle.convert.specs.Convert.{token_rest, log_rest, widened, converted}
use Rattle.convert.specs.Before.{old_width, decode_before, encode_before, is_input_before, good_input_before, check_stores_before, check_inputs_before, check_before, at_four_levels, effect_before, machine_before, first_state_before, result_before, ledger_before, Neither7Nor14, as_many, KeepsResult, KeepsLedger, encode_tag_before, old_log_width, log_suffices_before, check_log_stores_before, check_logged_before, logged_before, log_before, as_many_logs, KeepsLogged, KeepsLog}
use Rattle.convert.proofs.Records.{wide, together, length_widened, length_wide, wide_written, rows_wide}
use Rattle.convert.proofs.Stricter.{as_freely}
use Rattle.convert.proofs.Fired.{log_keeps}

-- ---- what is read from a converted record is what was read from the old one

decode_wide : (l r : List ℕ) → Tokens.decode_token (wide l ++ r) ≡ decode_before l
unfolding Tokens.decode_token decode_before
decode_wide l r = refl

good_wide : (g : List Instruction) (l r : List ℕ) → good_input g (wide l ++ r) ≡ good_input_before g l
unfolding good_input is_input is_root path_number good_input_before is_input_before
good_wide g l r = rw (add-zero (number64 l 0))

converted_length : (l : List ℕ) → length (converted token_rest l) ≡ as_many (length l)
unfolding converted
converted_length l = length_wide old_width token_width (widened token_rest) (length_widened token_rest) (length l / old_width) l (omega arith)

-- as many records as there were
records_count : (n : ℕ) → as_many n / token_width ≡ n / old_width
records_count n = omega arith

module _ {A : Type 0} (f h : List ℕ → A) (reads : (l r : List ℕ) → f (wide l ++ r) ≡ h l) where
  all_wide : (l : List ℕ) → all_rows token_width f (converted token_rest l) ≡ all_rows old_width h l
  unfolding converted
  all_wide l =
      let n : length (together (rows old_width (widened token_rest) (length l / old_width) l)) / token_width ≡ length l / old_width = omega (arith, length_wide old_width token_width (widened token_rest) (length_widened token_rest) (length l / old_width) l (omega arith)) in
      rw n (rows_wide f h reads (length l / old_width) l (omega arith))

-- ---- the check

same_inputs : (g : List Instruction) (capacity : ℕ) (inputs : List ℕ) → check_inputs g capacity (converted token_rest inputs) ≡ check_inputs_before g capacity inputs
unfolding check_inputs check_inputs_before
same_inputs g capacity inputs = rw (all_wide Tokens.decode_token decode_before decode_wide inputs, all_wide (good_input g) (good_input_before g) (good_wide g) inputs)

same_first : (inputs : List ℕ) (cells : ℕ) → first_state (converted token_rest inputs) cells ≡ first_state_before inputs cells
unfolding first_state first_state_before
same_first inputs cells = rw (all_wide Tokens.decode_token decode_before decode_wide inputs)

still_whole : (n : ℕ) → whole old_width most_tokens n ≡ true → whole token_width most_tokens (as_many n) ≡ true
still_whole n e =
    let few = (whole_bytes old_width most_tokens n e).1 in
    let rest : as_many n % token_width ≡ 0 = omega arith in
    rw (eq-eqb (as_many n % token_width) 0 rest, le-leb (as_many n / token_width) most_tokens (rw (records_count n) few))

-- stores that passed pass with as many records
same_stores : (inputs picks ledger cells : ℕ) → check_stores_before inputs picks ledger cells ≡ Ok tt → check_stores (as_many inputs) picks (as_many ledger) cells ≡ Ok tt
unfolding check_stores_before check_stores
same_stores inputs picks ledger cells e =
    let all = both (whole old_width most_tokens inputs) _ (demand_passed _ Refusals.BadStore 0 e) in
    let later = both (whole pick_width most_tokens picks) _ all.1 in
    let last = both (whole old_width most_tokens ledger) _ later.1 in
    rw (still_whole inputs all.0, later.0, still_whole ledger last.0, last.1)

-- a check of stores that did not pass gives 7
by_stores : (inputs picks ledger cells : ℕ) → (check_stores_before inputs picks ledger cells ≡ Ok tt) ⊎ (check_stores_before inputs picks ledger cells ≡ Err (fault_at Refusals.BadStore 0))
unfolding check_stores_before
by_stores inputs picks ledger cells =
    by (whole old_width most_tokens inputs && (whole pick_width most_tokens picks && (whole old_width most_tokens ledger && whole cell_width most_cells cells)))
  where
    by : (b : Bool) → (demand b Refusals.BadStore 0 ≡ Ok tt) ⊎ (demand b Refusals.BadStore 0 ≡ Err (fault_at Refusals.BadStore 0))
    by true = inl refl
    by false = inr refl

-- the whole check, by what it says of the stores
same_checks : (graph inputs : List ℕ) (ledger : ℕ) (named before after : Checked) → (check_graph graph ≡ Ok tt → before ≡ Ok tt) → (before ≡ Ok tt → after ≡ Ok tt)
    → (check_graph graph and_then after and_then named and_then check_inputs (graph_of graph) (capacity_of (as_many ledger)) (converted token_rest inputs))
    ≡ (check_graph graph and_then before and_then named and_then check_inputs_before (graph_of graph) (ledger / old_width) inputs)
same_checks graph inputs ledger named before after passes also = go (check_graph graph) refl
  where
    g : List Instruction
    g = graph_of graph

    go : (c : Checked) → check_graph graph ≡ c
        → (c and_then after and_then named and_then check_inputs g (capacity_of (as_many ledger)) (converted token_rest inputs)) ≡ (c and_then before and_then named and_then check_inputs_before g (ledger / old_width) inputs)
    go (Err fault) e = refl
    go (Ok _) e = let stores = passes e in rw (also stores, stores, records_count ledger, same_inputs g (ledger / old_width) inputs)

-- ---- a run

-- four levels are stricter than eight
stricter : (g : List Instruction) (table : List NamedArray) (cells : ℕ) (τ : Tag) (v w : ℤ) → (effect_before g table cells τ v w ≡ refuse Refusals.TooDeep) ⊎ (effect_before g table cells τ v w ≡ effect_in g table cells τ v w)
unfolding effect_before
stricter g table cells τ v w = by (at_four_levels g τ)
  where
    by : (b : Bool) → (cond b (refuse Refusals.TooDeep) (effect_in g table cells τ v w) ≡ refuse Refusals.TooDeep) ⊎ (cond b (refuse Refusals.TooDeep) (effect_in g table cells τ v w) ≡ effect_in g table cells τ v w)
    by true = inl refl
    by false = inr refl

module _ (graph arrays inputs picks : List ℕ) (budget ledger cells : ℕ) where
  abbrev g : List Instruction
  g = graph_of graph

  abbrev Now : Machine
  Now = machine_of g (arrays_of arrays) (ledger / old_width) (cells / cell_width)

  abbrev Was : Machine
  Was = machine_before g (arrays_of arrays) (ledger / old_width) (cells / cell_width)

  abbrev first : State Tag ℤ
  first = first_state_before inputs (cells / cell_width)

  -- the run and its log
  same_run_lem : ((place : ℕ) → (run Was budget (picks_of picks) first).outcome ≡ refused Refusals.TooDeep place → ⊥)
      → (run Now budget (picks_of picks) first ≡ run Was budget (picks_of picks) first)
      × (log_of Now (by_picks Now) budget (picks_of picks) first ≡ log_of Was (by_picks Was) budget (picks_of picks) first)
  same_run_lem h = as_freely Now (effect_before g (arrays_of arrays) (cells / cell_width)) Refusals.TooDeep (stricter g (arrays_of arrays) (cells / cell_width)) (by_picks Now) budget (picks_of picks) 0 first h

  module _ (allowed : Neither7Nor14 (answer (result_before graph arrays inputs picks budget ledger cells))) where
    stores_passed : check_graph graph ≡ Ok tt → check_stores_before (length inputs) (length picks) ledger cells ≡ Ok tt
    unfolding result_before check_before unless_failed answer
    stores_passed p = go (by_stores (length inputs) (length picks) ledger cells)
      where
        go : (check_stores_before (length inputs) (length picks) ledger cells ≡ Ok tt) ⊎ (check_stores_before (length inputs) (length picks) ledger cells ≡ Err (fault_at Refusals.BadStore 0))
            → check_stores_before (length inputs) (length picks) ledger cells ≡ Ok tt
        go (inl e) = e
        go (inr e) = absurd (allowed.not7 0 (rw (p, e)))

    same_check : check graph arrays (converted token_rest inputs) picks (as_many ledger) cells ≡ check_before graph arrays inputs picks ledger cells
    unfolding check check_before
    same_check =
        rw (converted_length inputs) (same_checks graph inputs ledger (check_arrays (graph_of graph) (cells / cell_width) arrays) (check_stores_before (length inputs) (length picks) ledger cells) (check_stores (as_many (length inputs)) (length picks) (as_many ledger) cells)
        stores_passed (same_stores (length inputs) (length picks) ledger cells))

    same_result : result graph arrays (converted token_rest inputs) picks budget (as_many ledger) cells ≡ result_before graph arrays inputs picks budget ledger cells
    unfolding result result_before unless_failed answer
    same_result = rw (same_check, records_count ledger, same_first inputs (cells / cell_width)) (go (check_before graph arrays inputs picks ledger cells) refl)
      where
        go : (c : Checked) → check_before graph arrays inputs picks ledger cells ≡ c → unless_failed c (ran_to (run Now budget (picks_of picks) first)) ≡ unless_failed c (ran_to (run Was budget (picks_of picks) first))
        go (Err fault) e = refl
        go (Ok _) e = ap ran_to (same_run_lem (λ place q. allowed.not14 place (rw (e, q)))).0

pub keeps_result : KeepsResult
keeps_result = same_result

-- ---- paths of four levels stay in the lower word

abbrev ShallowTag : Tag → Type 0
ShallowTag τ = (path_number τ.path < 65536 ^ 4) × (τ.iteration < 256)

abbrev Shallow : Key Tag → Type 0
Shallow k = ShallowTag k.tag

abbrev Any : {A : Type 0} → A → Type 0
Any x = Unit {0}

under_all : (τ : Tag) → ShallowTag τ → (ds : List Destination) → Each Shallow (map (key_under τ) ds)
under_all τ h [] = tt
under_all τ h (d ∷ ds) = (h, under_all τ h ds)

left_shallow : (τ : Tag) (site : ℕ) (caller : Tag) → ShallowTag τ → leave_of τ ≡ Some (record { site = site; tag = caller }) → ShallowTag caller
unfolding leave_of
left_shallow τ site caller h e = go (is_root τ.path) e
  where
    n : ℕ
    n = path_number τ.path

    parent : Tag
    parent = record { path = path_words (n / 65536); iteration = n % 256; instruction = τ.instruction }

    go : (b : Bool) → cond {A = Option Caller} b None (Some (record { site = n / 256 % 256; tag = parent })) ≡ Some (record { site = site; tag = caller }) → ShallowTag caller
    go true f = let z : ◌≡◌ {A = ℕ} 0 1 = cc in absurd (omega arith)
    go false f = let z = (same_caller f).1 in subst ShallowTag z (rw (number_words (n / 65536)) (omega (arith, h.0)), omega arith)

one_level_more : (n site iteration : ℕ) → n < 65536 ^ 3 → site < 256 → iteration < 256 → n * 65536 + site * 256 + iteration < 65536 ^ 4
one_level_more n site iteration h s i = omega arith

byte_site : (k : ℤ) → within 0 255 k ≡ true → nat_abs k < 256
unfolding within
byte_site (pos n) e = omega (arith, leb-true n 255 (both (leb 0 n) (leb n 255) e).1)
byte_site (negsuc n) e = let z : ◌≡◌ {A = ℕ} 0 1 = cc in absurd (omega arith)

module _ (graph : List ℕ) (passed : check_graph graph ≡ Ok tt) (table : List NamedArray) (capacity cells : ℕ) where
  abbrev gr : List Instruction
  gr = graph_of graph

  -- an ENTER has a site below 256, and one that is not refused is below four levels
  record Enters (τ : Tag) : Type 0 where
    site : nat_abs (instruction_at gr τ.instruction).constant < 256
    fewer : path_number τ.path < 65536 ^ 3

  enters : (τ : Tag) → operation_of (instruction_at gr τ.instruction).code ≡ Operations.Enter → at_four_levels gr τ ≡ false → Enters τ
  unfolding at_four_levels
  enters τ e n = go (dec_le (suc τ.instruction) (length gr))
    where
      go : Dec (suc τ.instruction ≤ length gr) → Enters τ
      go (yes h) =
          let good = of_graph graph passed τ.instruction h in
          record { site = byte_site _ (enter_site good e); fewer = leb-false (65536 ^ 3) (path_number τ.path) (rw (enter_code good e) at n) }
      go (no h) = let z : Operations.Enter ≡ Operations.Unknown = sym e ∙ past_operation gr τ.instruction (omega arith) in let y : ◌≡◌ {A = ℕ} 0 1 = cc in absurd (omega arith)

  asked : (τ : Tag) → ShallowTag τ → at_four_levels gr τ ≡ false → Asked gr table capacity cells Shallow Any Any τ (instruction_at gr τ.instruction)
  asked τ h n =
      let r = instruction_at gr τ.instruction in
      record {
        all = under_all τ h (destinations r);
        sides = λ e. (h, h);
        next = λ e l. under_all (later τ) (h.0, omega arith) (destinations r);
        enter = λ e l. let k = enters τ e n in (rw (number_words (path_number τ.path * 65536 + nat_abs r.constant * 256 + τ.iteration)) (one_level_more (path_number τ.path) (nat_abs r.constant) τ.iteration k.fewer k.site h.1), omega arith);
        leave = λ e site caller q i l. left_shallow τ site caller h q;
        fetch = λ e c l. tt;
        constant = tt;
        computed = λ o a b v e. tt;
      }

  abbrev N : Machine
  N = machine_before gr table capacity cells

  keeps_shallow : Keeps N Shallow Any Any
  unfolding effect_before
  keeps_shallow = record { effect = λ τ v w keys qv qw. by τ v w (keys.1 0 keys.0) (at_four_levels gr τ) refl; signal = tt }
    where
      by : (τ : Tag) (v w : ℤ) → ShallowTag τ → (b : Bool) → at_four_levels gr τ ≡ b → OfEffect N Shallow Any Any (cond b (refuse Refusals.TooDeep) (effect_in gr table cells τ v w))
      by τ v w h true e = tt
      by τ v w h false e = effect_asked gr table capacity cells Shallow Any Any τ (asked τ h e) v w tt tt

  first_shallow : (inputs : List ℕ) → check_inputs gr capacity (converted token_rest inputs) ≡ Ok tt → OfState N Shallow Any Any (first_state_before inputs cells)
  first_shallow inputs e =
      let o = rw (same_first inputs cells) at (start_keys gr table capacity cells Shallow Any (converted token_rest inputs) (λ t root l h. rw (root, root_number) (omega arith, omega arith)) e) in
      record { tokens = o.tokens; cells = o.cells }

  -- every token that a run leaves
  left_paths : (ts : List (Token Tag ℤ)) → Each (OfToken N Shallow Any Any) ts → All (λ t. path_number t.tag.path < 65536 ^ 4) (map token_record ts)
  left_paths [] h = tt
  left_paths (t ∷ ts) h = (h.0.0.0, left_paths ts h.1)

-- ---- the ledger

length_before : (t : Record.Token) → length (encode_before t) ≡ old_width
unfolding encode_before
length_before t = refl

-- the record of a token of four levels at most, converted
encode_wide : (t : Record.Token) → path_number t.tag.path < 65536 ^ 4 → (r : List ℕ) → widened token_rest (encode_before t ++ r) ≡ Tokens.encode_token t
unfolding path_number widened encode_before Tokens.encode_token
encode_wide t h r = let high : t.tag.path.high ≡ 0 = omega arith in rw high

pub keeps_ledger : KeepsLedger
unfolding result_before check_before unless_failed ledger_after ledger_before converted
keeps_ledger graph arrays inputs picks budget ledger cells allowed =
    rw (same_result graph arrays inputs picks budget (length ledger) cells allowed) (go (check_before graph arrays inputs picks (length ledger) cells) refl)
  where
    M : Machine
    M = machine_before (graph_of graph) (arrays_of arrays) (length ledger / old_width) (cells / cell_width)

    e : End Refusal Tag ℤ
    e = run M budget (picks_of picks) (first_state_before inputs (cells / cell_width))

    go : (c : Checked) → check_before graph arrays inputs picks (length ledger) cells ≡ c
        → ledger_after (unless_failed c (ran_to e)) (converted token_rest ledger) ≡ converted token_rest (ledger_before (unless_failed c (ran_to e)) ledger)
    go (Err fault) q = refl
    go (Ok _) q =
        let g = graph_of graph in
        let capacity = length ledger / old_width in
        let count = cells / cell_width in
        let ts = map token_record e.state.tokens in
        let parts = and_then_passed (check_graph graph) _ q in
        let inputs_passed = same_inputs g capacity inputs ∙ (and_then_passed (check_arrays g count arrays) _ (and_then_passed (check_stores_before (length inputs) (length picks) (length ledger) cells) _ parts.1).1).1 in
        let first = first_shallow graph parts.0 (arrays_of arrays) capacity count inputs inputs_passed in
        let shallow = run_keeps M Shallow Any Any (keeps_shallow graph parts.0 (arrays_of arrays) capacity count) (first_state_before inputs count) first budget (picks_of picks) in
        let ran : result_before graph arrays inputs picks budget (length ledger) cells ≡ ran_to e = rw q in
        let lawful = subst (LawfulResult graph arrays (converted token_rest inputs) (as_many (length ledger)) cells) (same_result graph arrays inputs picks budget (length ledger) cells allowed ∙ ran)
        (result_invariants graph arrays (converted token_rest inputs) picks budget (as_many (length ledger)) cells) in
        let room : length ts ≤ capacity = subst (λ (k : ℕ). k ≤ capacity) (sym (length-map e.state.tokens token_record)) (subst (λ (k : ℕ). length e.state.tokens ≤ k) (records_count (length ledger)) lawful.invariants.room) in
        wide_written old_width token_width (widened token_rest) (length_widened token_rest) (λ t. path_number t.tag.path < 65536 ^ 4) encode_before Tokens.encode_token length_before length_token encode_wide
        ts (left_paths graph parts.0 (arrays_of arrays) capacity count e.state.tokens shallow.tokens) ledger room (omega arith) (omega (arith, length_joined old_width encode_before length_before ts))

-- ---- a run that writes a log

logs_count : (n : ℕ) → as_many_logs n / log_width ≡ n / old_log_width
logs_count n = omega arith

still_suffices : (budget lent : ℕ) → log_suffices_before budget lent ≡ true → log_suffices budget (as_many_logs lent) ≡ true
still_suffices budget lent e =
    let rest : as_many_logs lent % log_width ≡ 0 = omega arith in
    rw (eq-eqb (as_many_logs lent % log_width) 0 rest, logs_count lent) (both (eqb (lent % old_log_width) 0) _ e).1

same_log_stores : (inputs picks ledger cells budget lent : ℕ) → check_log_stores_before inputs picks ledger cells budget lent ≡ Ok tt
    → check_log_stores (as_many inputs) picks (as_many ledger) cells budget (as_many_logs lent) ≡ Ok tt
unfolding check_log_stores_before check_log_stores
same_log_stores inputs picks ledger cells budget lent e =
    let parts = and_then_passed (check_stores_before inputs picks ledger cells) _ e in
    rw (same_stores inputs picks ledger cells parts.0, still_suffices budget lent (demand_passed _ Refusals.BadStore 0 parts.1))

by_log_stores : (inputs picks ledger cells budget lent : ℕ)
    → (check_log_stores_before inputs picks ledger cells budget lent ≡ Ok tt) ⊎ (check_log_stores_before inputs picks ledger cells budget lent ≡ Err (fault_at Refusals.BadStore 0))
unfolding check_log_stores_before
by_log_stores inputs picks ledger cells budget lent = go (by_stores inputs picks ledger cells)
  where
    by : (b : Bool) → (demand b Refusals.BadStore 0 ≡ Ok tt) ⊎ (demand b Refusals.BadStore 0 ≡ Err (fault_at Refusals.BadStore 0))
    by true = inl refl
    by false = inr refl

    go : (check_stores_before inputs picks ledger cells ≡ Ok tt) ⊎ (check_stores_before inputs picks ledger cells ≡ Err (fault_at Refusals.BadStore 0))
        → ((check_stores_before inputs picks ledger cells and_then demand (log_suffices_before budget lent) Refusals.BadStore 0) ≡ Ok tt)
        ⊎ ((check_stores_before inputs picks ledger cells and_then demand (log_suffices_before budget lent) Refusals.BadStore 0) ≡ Err (fault_at Refusals.BadStore 0))
    go (inl e) = rw e (by (log_suffices_before budget lent))
    go (inr e) = inr (rw e)

module _ (graph arrays inputs picks : List ℕ) (budget ledger cells lent : ℕ) (allowed : Neither7Nor14 (answer (logged_before graph arrays inputs picks budget ledger cells lent).result)) where
  log_stores_passed : check_graph graph ≡ Ok tt → check_log_stores_before (length inputs) (length picks) ledger cells budget lent ≡ Ok tt
  unfolding logged_before check_logged_before log_unless_failed answer
  log_stores_passed p = go (by_log_stores (length inputs) (length picks) ledger cells budget lent)
    where
      go : (check_log_stores_before (length inputs) (length picks) ledger cells budget lent ≡ Ok tt) ⊎ (check_log_stores_before (length inputs) (length picks) ledger cells budget lent ≡ Err (fault_at Refusals.BadStore 0))
          → check_log_stores_before (length inputs) (length picks) ledger cells budget lent ≡ Ok tt
      go (inl e) = e
      go (inr e) = absurd (allowed.not7 0 (rw (p, e)))

  same_log_check : check_logged graph arrays (converted token_rest inputs) picks budget (as_many ledger) cells (as_many_logs lent) ≡ check_logged_before graph arrays inputs picks budget ledger cells lent
  unfolding check_logged check_logged_before
  same_log_check =
      rw (converted_length inputs) (same_checks graph inputs ledger (check_arrays (graph_of graph) (cells / cell_width) arrays) (check_log_stores_before (length inputs) (length picks) ledger cells budget lent)
      (check_log_stores (as_many (length inputs)) (length picks) (as_many ledger) cells budget (as_many_logs lent)) log_stores_passed (same_log_stores (length inputs) (length picks) ledger cells budget lent))

  same_logged : logged graph arrays (converted token_rest inputs) picks budget (as_many ledger) cells (as_many_logs lent) ≡ logged_before graph arrays inputs picks budget ledger cells lent
  unfolding logged logged_before log_unless_failed answer
  same_logged = rw (same_log_check, records_count ledger, same_first inputs (cells / cell_width)) (go (check_logged_before graph arrays inputs picks budget ledger cells lent) refl)
    where
      M : Machine
      M = Now graph arrays inputs picks budget ledger cells

      N : Machine
      N = Was graph arrays inputs picks budget ledger cells

      s : State Tag ℤ
      s = first graph arrays inputs picks budget ledger cells

      go : (c : Checked) → check_logged_before graph arrays inputs picks budget ledger cells lent ≡ c
          → log_unless_failed c (run M budget (picks_of picks) s) (log_of M (by_picks M) budget (picks_of picks) s) ≡ log_unless_failed c (run N budget (picks_of picks) s) (log_of N (by_picks N) budget (picks_of picks) s)
      go (Err fault) e = refl
      go (Ok _) e = let (runs, logs) = same_run_lem graph arrays inputs picks budget ledger cells (λ place q. allowed.not14 place (rw (e, q))) in λ i. record { result = ran_to (runs i); log = logs i }

pub keeps_logged : KeepsLogged
keeps_logged = same_logged

-- ---- its bytes

length_tag_before : (τ : Tag) → length (encode_tag_before τ) ≡ old_log_width
unfolding encode_tag_before
length_tag_before τ = refl

tag_wide : (τ : Tag) → ShallowTag τ → (r : List ℕ) → widened log_rest (encode_tag_before τ ++ r) ≡ Logs.encode_activity τ
unfolding path_number widened encode_tag_before Logs.encode_activity
tag_wide τ h r = let p = h.0 in let high : τ.path.high ≡ 0 = omega arith in rw high

pub keeps_log : KeepsLog
unfolding logged_before check_logged_before log_unless_failed log_after log_before converted
keeps_log graph arrays inputs picks budget ledger cells log allowed =
    rw (same_logged graph arrays inputs picks budget ledger cells (length log) allowed) (go (check_logged_before graph arrays inputs picks budget ledger cells (length log)) refl)
  where
    N : Machine
    N = Was graph arrays inputs picks budget ledger cells

    s : State Tag ℤ
    s = first graph arrays inputs picks budget ledger cells

    e : End Refusal Tag ℤ
    e = run N budget (picks_of picks) s

    τs : List Tag
    τs = log_of N (by_picks N) budget (picks_of picks) s

    go : (c : Checked) → check_logged_before graph arrays inputs picks budget ledger cells (length log) ≡ c
        → log_after (log_unless_failed c e τs) (converted log_rest log) ≡ converted log_rest (log_before (log_unless_failed c e τs) log)
    go (Err fault) q = refl
    go (Ok _) q =
        let capacity = ledger / old_width in
        let count = cells / cell_width in
        let parts = and_then_passed (check_graph graph) _ q in
        let inputs_passed = same_inputs (graph_of graph) capacity inputs ∙ (and_then_passed (check_arrays (graph_of graph) count arrays) _ (and_then_passed (check_log_stores_before (length inputs) (length picks) ledger cells budget (length log)) _ parts.1).1).1 in
        let shallow = log_keeps N Shallow Any Any (keeps_shallow graph parts.0 (arrays_of arrays) capacity count) (by_picks N) budget (picks_of picks) s (first_shallow graph parts.0 (arrays_of arrays) capacity count inputs inputs_passed) in
        let ran : (logged_before graph arrays inputs picks budget ledger cells (length log)).log ≡ τs = rw q in
        let fits = subst (λ (x : List Tag). length x * log_width ≤ as_many_logs (length log)) (ap (λ (x : LogResult). x.log) (same_logged graph arrays inputs picks budget ledger cells (length log) allowed) ∙ ran)
        (log_fits graph arrays (converted token_rest inputs) picks budget (as_many ledger) cells (as_many_logs (length log))) in
        let room : length τs ≤ length log / old_log_width = omega arith in
        wide_written old_log_width log_width (widened log_rest) (length_widened log_rest) ShallowTag encode_tag_before Logs.encode_activity length_tag_before length_record tag_wide
        τs shallow log room (omega arith) (omega (arith, length_joined old_log_width encode_tag_before length_tag_before τs))
