-- The graph of an expression is read back from its bytes (`graphs_read_back`), and 01's check lets it by (`graphs_accepted`), and what feeds it
-- (`inputs_accepted`). Assumes nothing.
use Rattle.std.proofs.Common.{Ok}
use Prim.Native.Nat.{ℕ, zero, suc, ◌+◌, ◌*◌, ◌/◌, ◌%◌, ◌^◌, ◌≤◌, ◌<◌}
use mathlib.Core.Path.{◌≡◌, refl, sym, ap, ◌∙◌, subst}
use mathlib.Core.Bool.{Bool, true, false, not, ◌&&◌, cond}
use mathlib.Core.List.{List, [], ◌∷◌, ◌++◌, append-nil}
use native.Mathlib.Decide.{dec_le}
use native.Mathlib.Omega.{arith}
use native.Mathlib.Nat.{zero-add, add-suc, suc-add, add-zero}
use lib.ListN.{length, get_or, take}
use lib.Seq.{drop_at}
use lib.IntN.{ℤ, pos}
use lib.Dec.{eqb, leb, ltb}
use mir.Syntax.{w32}
use mir.Val.{SFits}
use mir.Facts.{sfits_lit}
use borrow.Author.Tests.{lt-ltb, le-ltb, le-leb, eq-eqb, ne_eqb}
use Rattle.record.specs.declared.token.Token.{Token}
use Rattle.record.specs.declared.token.Content.TheVariants.{Live}
use Rattle.record.specs.declared.instruction.Destination.{Destination}
use Rattle.record.specs.declared.instruction.Instruction.{Instruction}
use Rattle.number.proofs.Numbers.{number16_bytes, fits16}
use Rattle.buffer.specs.Rows.{rows, all_rows, joined, All}
use Rattle.buffer.proofs.Tables.{length_joined, rows_joined}
use Rattle.record.specs.GraphRecords.{Row, row_of, names_array, uses_constant, operands_of, graph_of, is_graph_length, InstructionFits}
use Rattle.record.specs.GraphRecords as Graph
use Rattle.record.specs.TokensAndTags.{root_of, is_input, same_tag, stands_at, TokenFits}
use Rattle.record.specs.TokensAndTags as Tokens
use Rattle.record.specs.Paths.{is_root, path_number, same_path}
use Rattle.record.proofs.Paths.{root_fits}
use Rattle.record.specs.declared.term.Term.{Term}
use Rattle.record.specs.ExpressionRecords.{decode_term, expression_of}
use Rattle.record.specs.Widths.{graph_width, token_width}
use Rattle.record.specs.ReadBack.{instruction_back}
use Rattle.record.proofs.Records.{length_instruction, length_token, tokens_joined}
use Rattle.rules.specs.declared.answer.Refusal.TheVariants as Refusals
use Rattle.rules.specs.Check.{demand, any, in_turn, operands_at, fan_out_allowed, is_zero, unused_are_zero, good_arc, good_site, check_record, check_graph, names_good, check_arrays, good_input, second_input, check_inputs, Checked}
use Rattle.rules.specs.Expression.{term_at, is_variable, is_operation, instruction_for, goes_to, code_for, sending, out, made, graph_for, graph_bytes, inputs_for, input_bytes, ValuesFor}
use Rattle.rules.specs.Expression.{OfEvery}
use Rattle.rules.proofs.Lists.{or_right}
use Rattle.rules.proofs.ExpressionPassed.{Proper, passed}
use Rattle.rules.proofs.ExpressionGraph.{counted, count_both, length_graph, all_made, variable_number_lem, number_low}
use Rattle.rules.proofs.ExpressionTree.{copy_row, arithmetic_row_lem, number, ports_of, operands_number, goes_to_lem}

-- ---- the claims

-- the bytes of the graph are read back
abbrev pub GraphsReadBack : Type 0
GraphsReadBack = OfEvery (λ ts. Graph.graph_of (graph_bytes ts) ≡ graph_for ts)

-- 01's check lets the graph by
abbrev pub GraphsAccepted : Type 0
GraphsAccepted = OfEvery (λ ts. check_graph (graph_bytes ts) ≡ Ok tt)

-- and what feeds it
abbrev pub InputsAccepted : Type 0
InputsAccepted = OfEvery (λ ts. (values : List ℤ) → ValuesFor ts values → (capacity : ℕ) → length values ≤ capacity → check_inputs (graph_for ts) capacity (input_bytes values) ≡ Ok tt)

-- ---- what passes in turn

module _ {A : Type 0} (f : ℕ → A → Checked) where
  turn_passes : (i : ℕ) (xs : List A) → All (λ x. (k : ℕ) → f k x ≡ Ok tt) xs → in_turn f i xs ≡ Ok tt
  turn_passes i [] h = refl
  turn_passes i (x ∷ xs) h = rw (h.0 i) (turn_passes (suc i) xs h.1)

  turn_passes_at : (d : A) (i : ℕ) (xs : List A) → ((k : ℕ) → k < length xs → f (i + k) (get_or xs k d) ≡ Ok tt) → in_turn f i xs ≡ Ok tt
  turn_passes_at d i [] h = refl
  turn_passes_at d i (x ∷ xs) h =
      rw (subst (λ (m : ℕ). f m x ≡ Ok tt) (add-zero i) (h 0 (omega arith)))
      (turn_passes_at d (suc i) xs (λ k l. subst (λ (m : ℕ). f m (get_or xs k d) ≡ Ok tt) (add-suc i k ∙ sym (suc-add i k)) (h (suc k) (omega arith))))

all_append : {A : Type 0} (P : A → Type 0) (xs ys : List A) → All P xs → All P ys → All P (xs ++ ys)
all_append P [] ys h k = k
all_append P (x ∷ xs) ys h k = (h.0, all_append P xs ys h.1 k)

-- ---- the graph

module _ (ts : List Term) (ok : Proper ts) where
  abbrev n : ℕ
  n = length ts

  -- what the instructions of all records have, and OUT has, all of the graph have
  each_instruction : (P : Instruction → Type 0) → ((j : ℕ) → j < n → P (sending (code_for (term_at ts j)) (goes_to ts j))) → P out → All P (graph_for ts)
  unfolding graph_for term_at
  each_instruction P h k = all_append P (made ts is_variable 0 ts) _ (all_of is_variable) (all_append P (made ts is_operation 0 ts) (out ∷ []) (all_of is_operation) (k, tt))
    where
      all_of : (f : Term → Bool) → All P (made ts f 0 ts)
      all_of f = all_made ts f P (decode_term []) 0 ts (λ j l. subst (λ (m : ℕ). P (sending (code_for (get_or ts j (decode_term []))) (goes_to ts m))) (sym (zero-add j)) (h j l))

  -- ---- the instruction of a record, by its kind

  by_kind : (P : (code : ℕ) → Type 0) (j : ℕ) → j < n → P 1 → ((code : ℕ) → 16 ≤ code → code ≤ 23 → P code) → P (code_for (term_at ts j))
  by_kind P j l copy operation = go (is_variable (term_at ts j)) refl
    where
      go : (b : Bool) → is_variable (term_at ts j) ≡ b → P (code_for (term_at ts j))
      go true v = rw v copy
      go false v = let o = ok.operation j l v in rw v (operation (term_at ts j).kind o.least o.most)

  -- it goes to a port that is there
  record Goes (d : Destination) : Type 0 where
    number_small : d.instruction < 2 ^ 16
    port_small : d.port < 2 ^ 8
    there : good_arc (graph_for ts) d ≡ true

  goes : (j : ℕ) → j < n → Goes (goes_to ts j)
  unfolding good_arc
  goes j l =
      let (i, p, li, lp, e, f) = goes_to_lem ts ok j l in
      let low = number_most i li in
      let few = ok.few in
      let two = two_ports i in
      record {
        number_small = rw e (omega arith);
        port_small = rw f (omega arith);
        there = rw (e, f, operands_number ts ok i li) (lt-ltb p (ports_of ts i) lp);
      }
    where
      number_most : (i : ℕ) → i ≤ n → number ts i ≤ n
      number_most i li = go (dec_le (suc i) n)
        where
          go : Dec (suc i ≤ n) → number ts i ≤ n
          go (yes h) = rw (lt-ltb i n h) (let z = number_low ts i h in omega arith)
          go (no h) = rw (le-ltb i n (omega arith)) (omega arith)

      two_ports : (i : ℕ) → ports_of ts i ≤ 2
      two_ports i = go (ltb i n) (is_variable (term_at ts i))
        where
          go : (a b : Bool) → cond a (cond b 1 2) 1 ≤ 2
          go true true = omega arith
          go true false = omega arith
          go false b = omega arith

  pub fits : All InstructionFits (graph_for ts)
  fits = each_instruction InstructionFits
      (λ j l.
      let d = goes j l in
      record {
        code = by_kind (λ code. code < 2 ^ 8) j l (omega arith) (λ code least most. omega arith);
        fanout = omega arith;
        port1 = d.port_small;
        port2 = omega arith;
        instruction1 = d.number_small;
        instruction2 = omega arith;
        constant = sfits_lit tt;
        zeros = omega arith;
      })
      (record { code = omega arith; fanout = omega arith; port1 = omega arith; port2 = omega arith; instruction1 = omega arith; instruction2 = omega arith; constant = sfits_lit tt; zeros = omega arith })

  -- ---- its bytes

  length_bytes : length (graph_bytes ts) ≡ suc n * graph_width
  unfolding graph_bytes
  length_bytes = length_joined graph_width Graph.encode_instruction length_instruction (graph_for ts) ∙ ap (λ (m : ℕ). m * graph_width) (length_graph ts)

  pub graph_back : graph_of (graph_bytes ts) ≡ graph_for ts
  unfolding graph_bytes
  graph_back =
      let back = rows_joined graph_width Graph.encode_instruction length_instruction Graph.decode_instruction InstructionFits instruction_back (graph_for ts) [] fits in
      let records : length (graph_bytes ts) / graph_width ≡ length (graph_for ts) = let a = length_bytes in let b = length_graph ts in omega arith in
      ap (λ (m : ℕ). rows graph_width Graph.decode_instruction m (graph_bytes ts)) records ∙ ap (λ (l : List ℕ). rows graph_width Graph.decode_instruction (length (graph_for ts)) l) (sym (append-nil (joined Graph.encode_instruction (graph_for ts)))) ∙ back

  -- ---- the check

  passes : (code : ℕ) (d : Destination) → leb 1 (operands_of code) ≡ true → leb (row_of code).least_fan_out 1 && leb 1 (row_of code).most_fan_out ≡ true → eqb code 8 ≡ false → eqb code 9 ≡ false
      → good_arc (graph_for ts) d ≡ true → (k : ℕ) → check_record (graph_for ts) k (sending code d) ≡ Ok tt
  unfolding check_record fan_out_allowed unused_are_zero is_zero good_site
  passes code d known fan enter leave there k = rw (known, fan, or_right (uses_constant code) true refl, there, enter, leave)

  record_passes : (j : ℕ) → j < n → (k : ℕ) → check_record (graph_for ts) k (sending (code_for (term_at ts j)) (goes_to ts j)) ≡ Ok tt
  record_passes j l =
      by_kind (λ code. (k : ℕ) → check_record (graph_for ts) k (sending code (goes_to ts j)) ≡ Ok tt) j l
      (passes 1 (goes_to ts j) (ap (λ (r : Row). leb 1 r.operands) copy_row) (ap (λ (r : Row). leb r.least_fan_out 1 && leb 1 r.most_fan_out) copy_row) refl refl (goes j l).there)
      (λ code least most.
      let row = arithmetic_row_lem code least most in
      passes code (goes_to ts j) (ap (λ (r : Row). leb 1 r.operands) row) (ap (λ (r : Row). leb r.least_fan_out 1 && leb 1 r.most_fan_out) row)
      (ne_eqb code 8 (λ q. omega arith)) (ne_eqb code 9 (λ q. omega arith)) (goes j l).there)

  out_passes : (k : ℕ) → check_record (graph_for ts) k out ≡ Ok tt
  unfolding check_record fan_out_allowed unused_are_zero is_zero good_site names_array uses_constant row_of
  out_passes k = refl

  pub graph_passes : check_graph (graph_bytes ts) ≡ Ok tt
  unfolding check_graph
  graph_passes = rw (size, graph_back) (turn_passes (check_record (graph_for ts)) 0 (graph_for ts) (each_instruction (λ r. (k : ℕ) → check_record (graph_for ts) k r ≡ Ok tt) record_passes out_passes))
    where
      size : is_graph_length (length (graph_bytes ts)) ≡ true
      size =
          let few = ok.few in
          let a = length_bytes in
          rw (le-leb 1 (length (graph_bytes ts)) (omega arith), eq-eqb (length (graph_bytes ts) % graph_width) 0 (omega arith), le-leb (length (graph_bytes ts) / graph_width) 256 (omega arith))

  -- it has no FETCH and no STORE, so it names no array
  none_named : (r : Instruction) → names_array r.code ≡ false → (k : ℕ) → demand (names_good 0 r) Refusals.BadArray k ≡ Ok tt
  unfolding names_good
  none_named r h k = rw h

  record_names_none : (j : ℕ) → j < n → (k : ℕ) → demand (names_good 0 (sending (code_for (term_at ts j)) (goes_to ts j))) Refusals.BadArray k ≡ Ok tt
  unfolding names_array
  record_names_none j l =
      by_kind (λ code. (k : ℕ) → demand (names_good 0 (sending code (goes_to ts j))) Refusals.BadArray k ≡ Ok tt) j l
      (none_named (sending 1 (goes_to ts j)) refl)
      (λ code least most. none_named (sending code (goes_to ts j)) (rw (ne_eqb code 10 (λ q. omega arith), ne_eqb code 11 (λ q. omega arith))))

  out_names_none : (k : ℕ) → demand (names_good 0 out) Refusals.BadArray k ≡ Ok tt
  unfolding names_array
  out_names_none = none_named out refl

  pub arrays_pass : (cells : ℕ) → check_arrays (graph_for ts) cells [] ≡ Ok tt
  unfolding check_arrays
  arrays_pass cells =
      turn_passes (λ i r. demand (names_good 0 r) Refusals.BadArray i) 0 (graph_for ts)
      (each_instruction (λ r. (k : ℕ) → demand (names_good 0 r) Refusals.BadArray k ≡ Ok tt) record_names_none out_names_none)

pub graphs_read_back : GraphsReadBack
graphs_read_back expression e = graph_back (expression_of expression) (passed expression e)

pub graphs_accepted : GraphsAccepted
graphs_accepted expression e = graph_passes (expression_of expression) (passed expression e)

-- ---- the inputs

pub length_inputs : (i : ℕ) (values : List ℤ) → length (inputs_for i values) ≡ length values
length_inputs i [] = refl
length_inputs i (v ∷ values) = ap suc (length_inputs (suc i) values)

pub inputs_fit : (i : ℕ) (values : List ℤ) → i + length values ≤ 2 ^ 16 → All (SFits w32) values → All TokenFits (inputs_for i values)
inputs_fit i [] l f = tt
inputs_fit i (v ∷ values) l f = (record { path = root_fits; iteration = omega arith; instruction = omega arith; port = omega arith; content = f.0 }, inputs_fit (suc i) values (omega arith) f.1)

-- no input stands where a later one does
alone : (i k m : ℕ) (values : List ℤ) → i + k ≤ m → any (stands_at (root_of m) 0) (take k (inputs_for i values)) ≡ false
unfolding stands_at same_tag same_path
alone i zero m values l = none_taken (inputs_for i values)
  where
    none_taken : (us : List Token) → any (stands_at (root_of m) 0) (take 0 us) ≡ false
    none_taken [] = refl
    none_taken (u ∷ us) = refl
alone i (suc k) m [] l = refl
alone i (suc k) m (v ∷ values) l = rw (ne_eqb i m (λ q. omega arith)) (alone (suc i) k m values (omega arith))

input_at : (i : ℕ) (values : List ℤ) (d : Token) (k : ℕ) → k < length values → get_or (inputs_for i values) k d ≡ record { tag = root_of (i + k); port = 0; content = Live (get_or values k (pos 0)) }
input_at i [] d k l = absurd (omega arith)
input_at i (v ∷ values) d zero l = ap (λ (m : ℕ). record { tag = root_of m; port = 0; content = Live v }) (sym (add-zero i))
input_at i (v ∷ values) d (suc k) l = input_at (suc i) values d k (omega arith) ∙ ap (λ (m : ℕ). record { tag = root_of m; port = 0; content = Live (get_or values k (pos 0)) }) (suc-add i k ∙ sym (add-suc i k))

module _ (g : List Instruction) where
  good_input_lem : (i : ℕ) (v : ℤ) (rest : List ℕ) → i < 2 ^ 16 → 0 < operands_at g i → good_input g (Tokens.encode_token (record { tag = root_of i; port = 0; content = Live v }) ++ rest) ≡ true
  unfolding good_input is_input is_root path_number Tokens.encode_token
  good_input_lem i v rest l h = rw (number16_bytes i [], fits16 i l) (lt-ltb 0 (operands_at g i) h)

  good_inputs : (i : ℕ) (values : List ℤ) → i + length values ≤ 2 ^ 16 → ((k : ℕ) → k < length values → 0 < operands_at g (i + k))
      → All (λ (b : Bool). b ≡ true) (rows token_width (good_input g) (length values) (joined Tokens.encode_token (inputs_for i values)))
  good_inputs i [] l h = tt
  good_inputs i (v ∷ values) l h = (
    good_input_lem i v (joined Tokens.encode_token (inputs_for (suc i) values)) (omega arith) (subst (λ (m : ℕ). 0 < operands_at g m) (add-zero i) (h 0 (omega arith))),
    rw (drop_at (Tokens.encode_token first) (joined Tokens.encode_token (inputs_for (suc i) values)) token_width (length_token first))
        (good_inputs (suc i) values (omega arith) (λ k lk. subst (λ (m : ℕ). 0 < operands_at g m) (add-suc i k ∙ sym (suc-add i k)) (h (suc k) (omega arith)))),
  )
    where
      first : Token
      first = record { tag = root_of i; port = 0; content = Live v }

module _ (ts : List Term) (ok : Proper ts) (values : List ℤ) (fit : ValuesFor ts values) where
  pub few_values : length values ≤ 100
  few_values = let few = ok.few in let number = fit.number in omega (arith, count_both ts)

  pub length_input_bytes : length (input_bytes values) ≡ length values * token_width
  unfolding input_bytes
  length_input_bytes = length_joined token_width Tokens.encode_token length_token (inputs_for 0 values) ∙ ap (λ (m : ℕ). m * token_width) (length_inputs 0 values)

  input_records_lem : length (input_bytes values) / token_width ≡ length values
  input_records_lem = let a = length_input_bytes in omega arith

  pub inputs_back : all_rows token_width Tokens.decode_token (input_bytes values) ≡ inputs_for 0 values
  unfolding input_bytes
  inputs_back =
      let few = few_values in
      let back = tokens_joined (inputs_for 0 values) [] (inputs_fit 0 values (omega arith) fit.each) in
      let records = input_records_lem ∙ sym (length_inputs 0 values) in
      ap (λ (m : ℕ). rows token_width Tokens.decode_token m (input_bytes values)) records
      ∙ ap (λ (l : List ℕ). rows token_width Tokens.decode_token (length (inputs_for 0 values)) l) (sym (append-nil (joined Tokens.encode_token (inputs_for 0 values)))) ∙ back

  -- each variable's number is that of a COPY
  copies : (k : ℕ) → k < length values → 0 < operands_at (graph_for ts) (0 + k)
  unfolding term_at
  copies k l =
      let number = fit.number in
      let (i, low, v, e) = counted is_variable (decode_term []) ts k (omega arith) in
      let same : instruction_for ts i ≡ 0 + k = variable_number_lem ts i v ∙ e ∙ sym (zero-add k) in
      let ports : operands_at (graph_for ts) (instruction_for ts i) ≡ 1 = rw (lt-ltb i (length ts) low, v) at (operands_number ts ok i (omega arith)) in
      subst (λ (m : ℕ). 0 < operands_at (graph_for ts) m) same (rw ports (omega arith))

  pub inputs_pass : (capacity : ℕ) → length values ≤ capacity → check_inputs (graph_for ts) capacity (input_bytes values) ≡ Ok tt
  unfolding check_inputs second_input input_bytes
  inputs_pass capacity room =
      rw (
        input_records_lem,
        turn_passes (λ i good. demand good Refusals.BadInput i) 0 _ (all_true (rows token_width (good_input (graph_for ts)) (length values) (input_bytes values)) (good_inputs (graph_for ts) 0 values (let few = few_values in omega arith) copies)),
        back,
        le-leb (length (inputs_for 0 values)) capacity (rw (length_inputs 0 values) room),
      )
      (turn_passes_at (λ i t. demand (not (second_input (take i (inputs_for 0 values)) t)) Refusals.SecondToken i) (Tokens.decode_token []) 0 (inputs_for 0 values) (λ k l. apart k (rw (length_inputs 0 values) at l)))
    where
      back : rows token_width Tokens.decode_token (length values) (input_bytes values) ≡ inputs_for 0 values
      back = rw input_records_lem at inputs_back

      all_true : (bs : List Bool) → All (λ (b : Bool). b ≡ true) bs → All (λ b. (i : ℕ) → demand b Refusals.BadInput i ≡ Ok tt) bs
      all_true [] h = tt
      all_true (b ∷ bs) h = (λ i. rw h.0, all_true bs h.1)

      apart : (k : ℕ) → k < length values → demand (not (second_input (take (0 + k) (inputs_for 0 values)) (get_or (inputs_for 0 values) k (Tokens.decode_token [])))) Refusals.SecondToken (0 + k) ≡ Ok tt
      apart k l = rw (input_at 0 values (Tokens.decode_token []) k l, alone 0 (0 + k) (0 + k) values (omega arith))

pub inputs_accepted : InputsAccepted
inputs_accepted expression e values fit capacity room = inputs_pass (expression_of expression) (passed expression e) values fit capacity room
