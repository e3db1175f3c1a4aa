-- The graph in bytes, one call of `put` at a time (`puts_variable`, `puts_operation`), and whole (`whole_graph`). Assumes nothing.
use Rattle.std.proofs.Common.{Ok}
use Prim.Native.Nat.{ℕ, zero, suc, ◌+◌, ◌-◌, ◌*◌, ◌≤◌, ◌<◌}
use mathlib.Core.Path.{◌≡◌, refl, sym, ap, ◌∙◌}
use mathlib.Core.Bool.{true, false}
use mathlib.Core.List.{List, ◌++◌}
use native.Mathlib.Decide.{dec_le}
use native.Mathlib.Omega.{arith}
use native.Mathlib.Nat.{suc-mul, add_comm}
use lib.ListN.{length, get_or, take, drop, set, length-set, length-drop, take-append-drop}
use lib.Seq.{take-add, length-take-le, get_or-take}
use Rattle.number.specs.Number.{Bytes, byte_at}
use Rattle.buffer.specs.Rows.{put_row, rows, joined, written_over}
use Rattle.buffer.proofs.Tables.{length_joined, put_joined, length_rows}
use Rattle.record.specs.declared.term.Term.{Term}
use Rattle.record.specs.declared.instruction.Destination.{Destination}
use Rattle.record.specs.declared.instruction.Instruction.{Instruction}
use Rattle.record.specs.ExpressionRecords.{expression_of, term_in}
use Rattle.record.specs.GraphRecords as Graph
use Rattle.record.specs.Widths.{graph_width}
use Rattle.record.proofs.Records.{length_instruction, instruction_bytes_back}
use Rattle.record.proofs.Fitting.{bytes_drop}
use Rattle.rules.specs.Expression.{term_at, is_variable, instruction_for, out_for, code_for, sending, out, put_at, put_graph, graph_for, check_expression}
use Rattle.rules.proofs.Passed.{get_d_past}
use Rattle.rules.proofs.ExpressionPassed.{OperationAt, passed}
use Rattle.rules.proofs.ExpressionGraph.{length_graph, number_low}
use Rattle.rules.proofs.ExpressionPut.{length_put, put_variable, put_operation, graphs_put}
use Rattle.expression.specs.Tables.{NumberedRecords}
use Rattle.expression.proofs.Terms.{length_terms, at_terms}

module _ {s numbers : List ℕ} (h : NumberedRecords s numbers) (i : ℕ) (low : i < length (expression_of s)) (t : Term) (told : t ≡ term_in s i) where
  abbrev ts : List Term
  ts = expression_of s

  pub at_i : term_at ts i ≡ t
  at_i = at_terms s i (omega (arith, length_terms s)) ∙ sym told

  pub number_at : get_or numbers i 0 < length ts
  number_at = rw (h.says i low) (number_low ts i low)

  -- what an operation names comes before it
  pub names_before : is_variable t ≡ false → (t.left < i) × (t.right < i)
  names_before v =
      let o : OperationAt ts i = (passed s h.passed).operation i low (rw at_i v) in
      (rw at_i at o.left, rw at_i at o.right)

  -- its kind is that of an operation
  pub kind_between : is_variable t ≡ false → (16 ≤ t.kind) × (t.kind ≤ 23)
  kind_between v =
      let o : OperationAt ts i = (passed s h.passed).operation i low (rw at_i v) in
      (rw at_i at o.least, rw at_i at o.most)

  module _ (to : Destination) (g : List Instruction) (size : length g ≡ suc (length ts)) (rest before after : List ℕ) (is : before ≡ joined Graph.encode_instruction g ++ rest) where
    abbrev own : List Instruction
    own = set g (instruction_for ts i) (sending (code_for (term_at ts i)) to)

    -- its own instruction
    pub puts_own : (r : Instruction) → r ≡ sending (code_for t) to → after ≡ put_row graph_width before (get_or numbers i 0) (Graph.encode_instruction r) → after ≡ joined Graph.encode_instruction own ++ rest
    puts_own r e put =
        let m = number_low ts i low in
        put ∙ rw (h.says i low, e, is, at_i) (put_joined graph_width Graph.encode_instruction length_instruction g rest (instruction_for ts i) (sending (code_for t) to) (omega arith))

    pub length_own : length own ≡ suc (length ts)
    length_own = length-set g (instruction_for ts i) (sending (code_for (term_at ts i)) to) ∙ size

    pub puts_variable : is_variable t ≡ true → after ≡ joined Graph.encode_instruction own ++ rest → after ≡ joined Graph.encode_instruction (put_at ts i to g) ++ rest
    puts_variable v e = e ∙ ap (λ (x : List Instruction). joined Graph.encode_instruction x ++ rest) (sym (put_variable ts (passed s h.passed) i (rw at_i v) to g))

    -- then those that it names
    abbrev left_to : Destination
    left_to = record { instruction = get_or numbers i 0; port = 0 }

    abbrev right_to : Destination
    right_to = record { instruction = get_or numbers i 0; port = 1 }

    abbrev lefts : List Instruction
    lefts = put_at ts t.left left_to own

    pub length_lefts : length lefts ≡ suc (length ts)
    length_lefts = length_put (suc t.left) ts t.left left_to own ∙ length_own

    pub puts_operation : is_variable t ≡ false → after ≡ joined Graph.encode_instruction (put_at ts t.right right_to lefts) ++ rest → after ≡ joined Graph.encode_instruction (put_at ts i to g) ++ rest
    puts_operation v e =
        let same : put_at ts t.right right_to lefts ≡ put_at ts i to g = rw (h.says i low, ← at_i) (sym (put_operation ts (passed s h.passed) i low (rw at_i v) to g)) in
        e ∙ ap (λ (x : List Instruction). joined Graph.encode_instruction x ++ rest) same

-- ---- bytes that are lent are those of some instructions

take_bytes : (n : ℕ) (l : List ℕ) → n ≤ length l → Bytes l → Bytes (take n l)
take_bytes n l long b k = go (dec_le (suc k) n)
  where
    go : Dec (k < n) → byte_at (take n l) k < 256
    go (yes h) = rw (get_or-take n l k 0 h) (b k)
    go (no h) = rw (get_d_past (take n l) k 0 (omega (arith, length-take-le n l long))) (omega arith)

abbrev first : List ℕ → Instruction
first l = Graph.decode_instruction (take graph_width l)

lent_rows : (n : ℕ) (l : List ℕ) → Bytes l → n * graph_width ≤ length l → joined Graph.encode_instruction (rows graph_width first n l) ≡ take (n * graph_width) l
lent_rows zero l b long = refl
lent_rows (suc n) l b long =
    let enough : n * graph_width + graph_width ≤ length l = rw (suc-mul n graph_width) at long in
    let own = instruction_bytes_back (take graph_width l) (length-take-le graph_width l (omega arith)) (take_bytes graph_width l (omega arith) b) in
    rw (own, lent_rows n (drop graph_width l) (bytes_drop graph_width l b) (omega (arith, length-drop graph_width l)), suc-mul n graph_width, add_comm (n * graph_width) graph_width)
    (sym (take-add graph_width (n * graph_width) l))

-- ---- the whole graph

module _ (s : List ℕ) (ok : check_expression s ≡ Ok tt) (lent : List ℕ) (b : Bytes lent) (room : graph_width * suc (length (expression_of s)) ≤ length lent) where
  abbrev us : List Term
  us = expression_of s

  abbrev pub lent_graph : List Instruction
  lent_graph = rows graph_width first (suc (length us)) lent

  abbrev pub behind : List ℕ
  behind = drop (suc (length us) * graph_width) lent

  pub length_lent : length lent_graph ≡ suc (length us)
  length_lent = length_rows graph_width first (suc (length us)) lent

  pub lent_is : lent ≡ joined Graph.encode_instruction lent_graph ++ behind
  lent_is = sym (rw (lent_rows (suc (length us)) lent b (omega arith)) (take-append-drop (suc (length us) * graph_width) lent))

  -- OUT is put first
  pub out_put : (after : List ℕ) (n : ℕ) → n ≡ length us → (r : Instruction) → r ≡ out → after ≡ put_row graph_width lent n (Graph.encode_instruction r) → after ≡ joined Graph.encode_instruction (set lent_graph (out_for us) out) ++ behind
  out_put after n e r f put =
      put ∙ rw (e, f) (ap (λ (l : List ℕ). put_row graph_width l (length us) (Graph.encode_instruction out)) lent_is
      ∙ put_joined graph_width Graph.encode_instruction length_instruction lent_graph behind (length us) out (omega (arith, length_lent)))

  pub whole_graph : (after : List ℕ) (n : ℕ) → n ≡ length us
      → after ≡ joined Graph.encode_instruction (put_at us (n - 1) (record { instruction = n; port = 0 }) (set lent_graph (out_for us) out)) ++ behind → after ≡ written_over Graph.encode_instruction (graph_for us) lent
  unfolding put_graph
  whole_graph after n e put =
      let size : length (joined Graph.encode_instruction (graph_for us)) ≡ suc (length us) * graph_width = length_joined graph_width Graph.encode_instruction length_instruction (graph_for us) ∙ ap (λ (m : ℕ). m * graph_width) (length_graph us) in
      put ∙ rw (e, size) (ap (λ (x : List Instruction). joined Graph.encode_instruction x ++ behind) (graphs_put s ok lent_graph length_lent))
