-- The graph of an expression is a tree of activities, each record's value that of its activity (`is_tree`). An expression has no value exactly if an operation
-- in it is out of range (`values_tell`). Assumes nothing.
use Prim.Native.Nat.{ℕ, zero, suc, ◌+◌, ◌-◌, ◌≤◌, ◌<◌}
use mathlib.Core.Path.{◌≡◌, refl, sym, ap, ◌∙◌, subst}
use mathlib.Core.Bool.{Bool, true, false, ◌&&◌, ◌||◌, cond}
use mathlib.Core.List.{List, [], ◌∷◌}
use mathlib.Core.Option.{none, some}
use mathlib.Core.Option as maybe
use mathlib.Core.Logic.{◌⊎◌, inl, inr, ◌↔◌}
use native.Mathlib.Decide.{ℕ_discrete, dec_le}
use native.Mathlib.Omega.{arith}
use lib.ListN.{length, get_or}
use lib.IntN.{ℤ, pos}
use lib.Dec.{eqb, ltb}
use borrow.Author.Tests.{lt-ltb, le-ltb, eq-eqb, ne_eqb, not-true}
use Rattle.std.specs.Prelude.{Option, None, Some}
use Rattle.record.specs.declared.tag.Tag.{Tag}
use Rattle.record.specs.declared.instruction.Destination.{Destination}
use Rattle.record.specs.declared.operation.Arithmetic.{Arithmetic}
use Rattle.record.specs.declared.operation.Operation.TheVariants as Operations
use Rattle.record.specs.GraphRecords.{Row, row, row_of, operands_of}
use Rattle.record.specs.TokensAndTags.{root_of}
use Rattle.record.specs.Paths.{is_root, path_number}
use Rattle.record.specs.declared.term.Term.{Term}
use Rattle.record.specs.ExpressionRecords.{decode_term, expression_of}
use Rattle.arithmetic.specs.Arithmetic.{compute_of}
use Rattle.machine.specs.Machine.{Key, refuse, send, Machine, Operands, on_option, two_values, at}
use Rattle.machine.proofs.View.{none_some}
use Rattle.machine.proofs.Trees.{climbs, Source, comes, Tree, IsTree, input, from}
use Rattle.rules.specs.declared.answer.Refusal.TheVariants as Refusals
use Rattle.rules.specs.Check.{instruction_at, operands_at}
use Rattle.rules.specs.InstructionSet.{key_under, send_computed, effect_of, effect_in, is_result, arity_in, machine_of}
use Rattle.rules.specs.Expression.{term_at, is_variable, names, arithmetic_of, combined, variable_number, value_below, value_at, expression_value, instruction_for, out_for, goes_to, code_for, sending, graph_for}
use Rattle.rules.specs.Expression.{OfEvery, is_operation}
use Rattle.rules.proofs.ExpressionPassed.{none_of, OperationAt, Proper, named_by, passed}
use Rattle.rules.proofs.ExpressionGraph.{at_record, at_out, number_low, numbers_apart, goes_named, goes_out}

-- ---- the claims

-- the operation of record i is out of range, or has the divisor 0
pub record OutAt (ts : List Term) (values : List ℤ) (i : ℕ) : Type 0 where
  pub low : i < length ts
  pub operation : is_operation (term_at ts i) ≡ true
  pub left : ℤ
  pub right : ℤ
  pub left_value : value_at ts values (term_at ts i).left ≡ Some left
  pub right_value : value_at ts values (term_at ts i).right ≡ Some right
  pub out_of_range : compute_of (arithmetic_of (term_at ts i).kind) left right ≡ None

-- an expression has no value exactly if an operation is: "each operation in it" is each of its records
abbrev pub ValuesTell : Type 0
ValuesTell = OfEvery (λ ts. (values : List ℤ) → (expression_value ts values ≡ None) ↔ ((i : ℕ) × OutAt ts values i))

-- ---- the rows of COPY, of OUT, and of the codes 16 to 23

pub copy_row : row_of 1 ≡ row 1 Operations.Copy 1 1 2
unfolding row_of
copy_row = refl

pub out_row : row_of 3 ≡ row 3 Operations.Out 1 0 0
unfolding row_of
out_row = refl

abbrev arithmetic_row : (code : ℕ) → Row
arithmetic_row code = row code (Operations.OnTwo (arithmetic_of code)) 2 1 2

eight : (d : ℕ) → d < 8 → row_of (16 + d) ≡ arithmetic_row (16 + d)
unfolding row_of
eight zero l = refl
eight (suc zero) l = refl
eight (suc (suc zero)) l = refl
eight (suc (suc (suc zero))) l = refl
eight (suc (suc (suc (suc zero)))) l = refl
eight (suc (suc (suc (suc (suc zero))))) l = refl
eight (suc (suc (suc (suc (suc (suc zero)))))) l = refl
eight (suc (suc (suc (suc (suc (suc (suc zero))))))) l = refl
eight (suc (suc (suc (suc (suc (suc (suc (suc d)))))))) l = absurd (omega arith)

pub arithmetic_row_lem : (code : ℕ) → 16 ≤ code → code ≤ 23 → row_of code ≡ arithmetic_row code
arithmetic_row_lem code l m = subst (λ (n : ℕ). row_of n ≡ arithmetic_row n) (omega arith) (eight (code - 16) (omega arith))

-- ---- values

-- the same for the machine, whose trees speak of the logic's own option
abbrev pub optional : Option ℤ → maybe.Option ℤ
optional (Some v) = some v
optional None = none

pub combined_none : (o : Arithmetic) (a b : Option ℤ) → (optional a ≡ none) ⊎ (optional b ≡ none) → optional (combined o a b) ≡ none
combined_none o (Some a) (Some b) (inl e) = none_some (sym e)
combined_none o (Some a) (Some b) (inr e) = none_some (sym e)
combined_none o (Some a) None e = refl
combined_none o None b e = refl

module _ (ts : List Term) (ok : Proper ts) (values : List ℤ) where
  -- a greater bound is of no account
  stable : (m n i : ℕ) → i < m → i < n → i < length ts → value_below m ts values i ≡ value_below n ts values i
  unfolding value_below
  stable zero n i l h low = absurd (omega arith)
  stable (suc m) zero i l h low = absurd (omega arith)
  stable (suc m) (suc n) i l h low = go (is_variable (term_at ts i)) refl (λ j lj k low. stable m n j lj k low)
    where
      go : (b : Bool) → is_variable (term_at ts i) ≡ b → ((j : ℕ) → j < m → j < n → j < length ts → value_below m ts values j ≡ value_below n ts values j)
          → cond b (Some (get_or values (variable_number ts i) (pos 0))) (combined (arithmetic_of (term_at ts i).kind) (value_below m ts values (term_at ts i).left) (value_below m ts values (term_at ts i).right))
          ≡ cond b (Some (get_or values (variable_number ts i) (pos 0))) (combined (arithmetic_of (term_at ts i).kind) (value_below n ts values (term_at ts i).left) (value_below n ts values (term_at ts i).right))
      go true e rest = refl
      go false e rest =
          let o = ok.operation i low e in
          let left = o.left in
          let right = o.right in
          rw (rest (term_at ts i).left (omega arith) (omega arith) (omega arith), rest (term_at ts i).right (omega arith) (omega arith) (omega arith))

  pub variable_value : (i : ℕ) → is_variable (term_at ts i) ≡ true → value_at ts values i ≡ Some (get_or values (variable_number ts i) (pos 0))
  unfolding value_below
  variable_value i e = rw e

  pub operation_value : (i : ℕ) → i < length ts → is_variable (term_at ts i) ≡ false
      → value_at ts values i ≡ combined (arithmetic_of (term_at ts i).kind) (value_at ts values (term_at ts i).left) (value_at ts values (term_at ts i).right)
  unfolding value_below
  operation_value i low e =
      let o = ok.operation i low e in
      let left = o.left in
      let right = o.right in
      rw (e, stable i (suc (term_at ts i).left) (term_at ts i).left left (omega arith) (omega arith), stable i (suc (term_at ts i).right) (term_at ts i).right right (omega arith) (omega arith))

-- ---- the tree

-- what comes to a port of an operation
abbrev pub side : Term → (port : ℕ) → ℕ
side t zero = t.left
side t (suc p) = t.right

module _ (ts : List Term) where
  -- the instruction of record i, and of OUT, which stands behind the records
  abbrev pub number : (i : ℕ) → ℕ
  number i = cond (ltb i (length ts)) (instruction_for ts i) (out_for ts)

  abbrev pub ports_of : (i : ℕ) → ℕ
  ports_of i = cond (ltb i (length ts)) (cond (is_variable (term_at ts i)) 1 2) 1

  abbrev pub source_of : List ℤ → (i p : ℕ) → Source ℤ
  source_of values i p = cond (ltb i (length ts)) (cond (is_variable (term_at ts i)) (input (get_or values (variable_number ts i) (pos 0))) (from (side (term_at ts i) p))) (from (length ts - 1))

  abbrev pub out_of : (j : ℕ) → Key Tag
  out_of j = record { tag = root_of (goes_to ts j).instruction; port = (goes_to ts j).port }

module _ (ts : List Term) (ok : Proper ts) where
  abbrev n : ℕ
  n = length ts

  inside : (i : ℕ) → i < n → number ts i ≡ instruction_for ts i
  inside i l = rw (lt-ltb i n l)

  outside : number ts n ≡ out_for ts
  outside = rw (le-ltb n n (omega arith))

  -- ---- numbers

  pub apart : (i j : ℕ) → i ≤ n → j ≤ n → number ts i ≡ number ts j → i ≡ j
  apart i j li lj e = go (dec_le (suc i) j) (dec_le (suc j) i)
    where
      below : (i j : ℕ) → i < j → j ≤ n → ¬ (number ts i ≡ number ts j)
      below i j l lj e = by_end (ℕ_discrete j n)
        where
          by_end : Dec (j ≡ n) → ⊥
          by_end (yes q) = omega (arith, number_low ts i (omega arith), sym (inside i (omega arith)) ∙ e ∙ ap (number ts) q ∙ outside)
          by_end (no q) = numbers_apart ts i j l (omega arith) (sym (inside i (omega arith)) ∙ e ∙ inside j (omega arith))

      go : Dec (i < j) → Dec (j < i) → i ≡ j
      go (yes l) h = absurd (below i j l lj e)
      go (no l) (yes h) = absurd (below j i h li (sym e))
      go (no l) (no h) = omega arith

  -- ---- the instructions

  module _ (i : ℕ) (low : i < n) where
    instruction : instruction_at (graph_for ts) (number ts i) ≡ sending (code_for (term_at ts i)) (goes_to ts i)
    instruction = ap (instruction_at (graph_for ts)) (inside i low) ∙ at_record ts i low

    pub operation_row : is_variable (term_at ts i) ≡ false → row_of (term_at ts i).kind ≡ arithmetic_row (term_at ts i).kind
    operation_row v = let o = ok.operation i low v in arithmetic_row_lem (term_at ts i).kind o.least o.most

  pub operands_number : (i : ℕ) → i ≤ n → operands_at (graph_for ts) (number ts i) ≡ ports_of ts i
  unfolding operands_at
  operands_number i l = go (ℕ_discrete i n)
    where
      by_kind : (low : i < n) (b : Bool) → is_variable (term_at ts i) ≡ b → operands_of (code_for (term_at ts i)) ≡ cond b 1 2
      by_kind low true v = rw v (ap (λ (r : Row). r.operands) copy_row)
      by_kind low false v = rw v (ap (λ (r : Row). r.operands) (operation_row i low v))

      go : Dec (i ≡ n) → operands_of (instruction_at (graph_for ts) (number ts i)).code ≡ ports_of ts i
      go (yes q) = rw (q, le-ltb n n (omega arith), at_out ts) (ap (λ (r : Row). r.operands) out_row)
      go (no q) = rw (lt-ltb i n (omega arith), at_record ts i (omega arith)) (by_kind (omega arith) (is_variable (term_at ts i)) refl)

  -- ---- operands

  pub arity_number : (i : ℕ) → i < n → arity_in (graph_for ts) (root_of (number ts i)) ≡ ports_of ts i
  unfolding arity_in is_result operands_at is_root path_number
  arity_number i low = ap (λ (b : Bool). cond b 0 (operands_of (instruction_at (graph_for ts) (number ts i)).code)) no_result ∙ operands_number i (omega arith)
    where
      by_kind : (b : Bool) → is_variable (term_at ts i) ≡ b → eqb (code_for (term_at ts i)) 3 || eqb (code_for (term_at ts i)) 9 && true ≡ false
      by_kind true v = rw v
      by_kind false v =
          let o = ok.operation i low v in
          let least = o.least in
          rw (v, ne_eqb (term_at ts i).kind 3 (λ q. omega arith), ne_eqb (term_at ts i).kind 9 (λ q. omega arith))

      no_result : is_result (instruction_at (graph_for ts) (number ts i)) (root_of (number ts i)) ≡ false
      no_result = rw (instruction i low) (by_kind (is_variable (term_at ts i)) refl)

  pub arity_out : arity_in (graph_for ts) (root_of (number ts n)) ≡ 0
  unfolding arity_in is_result
  arity_out = rw (outside, at_out ts)

  -- ---- where each goes

  -- the operation i takes the values of its left and its right
  pub goes_side : (i p : ℕ) → i < n → is_variable (term_at ts i) ≡ false → p < 2 → (side (term_at ts i) p < i) × (goes_to ts (side (term_at ts i) p) ≡ record { instruction = instruction_for ts i; port = p })
  goes_side i p low v l = go p l
    where
      o : OperationAt ts i
      o = ok.operation i low v

      to : (j : ℕ) → names j (term_at ts i) ≡ true → goes_to ts j ≡ record { instruction = instruction_for ts i; port = cond (eqb (term_at ts i).left j) 0 1 }
      to j e = goes_named ts j i low e (λ m h. ok.once i j m low h e)

      left_named : names (term_at ts i).left (term_at ts i) ≡ true
      left_named = rw (v, eq-eqb (term_at ts i).left (term_at ts i).left refl)

      right_named : names (term_at ts i).right (term_at ts i) ≡ true
      right_named = rw (v, ne_eqb (term_at ts i).left (term_at ts i).right o.apart, eq-eqb (term_at ts i).right (term_at ts i).right refl)

      go : (p : ℕ) → p < 2 → (side (term_at ts i) p < i) × (goes_to ts (side (term_at ts i) p) ≡ record { instruction = instruction_for ts i; port = p })
      go zero h = (o.left, to (term_at ts i).left left_named ∙ rw (eq-eqb (term_at ts i).left (term_at ts i).left refl))
      go (suc zero) h = (o.right, to (term_at ts i).right right_named ∙ rw (ne_eqb (term_at ts i).left (term_at ts i).right o.apart))
      go (suc (suc p)) h = absurd (omega arith)

  -- nobody names the last: it goes to OUT
  pub goes_last : goes_to ts (n - 1) ≡ record { instruction = out_for ts; port = 0 }
  unfolding term_at
  goes_last = goes_out ts (n - 1) (none_of (names (n - 1)) (decode_term []) ts (λ i l. go i l (names (n - 1) (term_at ts i)) refl))
    where
      before : (i : ℕ) → i < n → (is_variable (term_at ts i) ≡ false) × (((term_at ts i).left ≡ n - 1) ⊎ ((term_at ts i).right ≡ n - 1)) → ⊥
      before i l (v, inl q) = let h = (ok.operation i l v).left in omega arith
      before i l (v, inr q) = let h = (ok.operation i l v).right in omega arith

      go : (i : ℕ) → i < n → (b : Bool) → names (n - 1) (term_at ts i) ≡ b → names (n - 1) (term_at ts i) ≡ false
      go i l true e = absurd (before i l (named_by (n - 1) (term_at ts i) e))
      go i l false e = e

  out_at : (j i p m : ℕ) → goes_to ts j ≡ record { instruction = m; port = p } → number ts i ≡ m → out_of ts j ≡ record { tag = root_of (number ts i); port = p }
  out_at j i p m e q = ap (λ (d : Destination). record { tag = root_of d.instruction; port = d.port }) e ∙ ap (λ (k : ℕ). record { tag = root_of k; port = p }) (sym q)

  -- ---- effects

  module _ (cells : ℕ) (τ : Tag) (d : Destination) (a b : ℤ) where
    copies : instruction_at (graph_for ts) τ.instruction ≡ sending 1 d → effect_in (graph_for ts) [] cells τ a b ≡ send a (key_under τ d ∷ [])
    unfolding effect_in effect_of row_of
    copies e = rw e

    computes : (code : ℕ) → row_of code ≡ arithmetic_row code → instruction_at (graph_for ts) τ.instruction ≡ sending code d
        → effect_in (graph_for ts) [] cells τ a b ≡ send_computed (compute_of (arithmetic_of code) a b) (key_under τ d ∷ [])
    unfolding effect_in effect_of
    computes code row e = rw e (ap (λ (r : Row). effect_of r.operation (graph_for ts) [] cells τ (sending code d) a b (key_under τ d ∷ [])) row)

  sent : (c : Option ℤ) (keys : List (Key Tag)) → send_computed c keys ≡ on_option (optional c) (refuse Refusals.OutOfRange) (λ v. send v keys)
  unfolding send_computed
  sent (Some v) keys = refl
  sent None keys = refl

  both_values : (x y : Option ℤ) (o : Operands ℤ) → two_values 2 (optional x) (optional y) ≡ some o → (x ≡ Some o.left) × (y ≡ Some o.right)
  both_values (Some a) (Some b) o e = (cc, cc)
  both_values (Some a) None o e = none_some e
  both_values None y o e = none_some e

  -- ---- the tree of an expression and the values of its variables

  module _ (values : List ℤ) (capacity cells : ℕ) where
    abbrev M : Machine
    M = machine_of (graph_for ts) [] capacity cells

    abbrev pub tree : Tree M
    tree = record {
      size = length ts;
      tag = λ i. root_of (number ts i);
      ports = ports_of ts;
      source = source_of ts values;
      out = out_of ts;
      value = λ i. optional (value_at ts values i);
      refusal = Refusals.OutOfRange;
    }

    by_kind : (P : ℕ → Type 0) → ((i : ℕ) → i < n → is_variable (term_at ts i) ≡ true → P i) → ((i : ℕ) → i < n → is_variable (term_at ts i) ≡ false → P i) → (i : ℕ) → i < n → P i
    by_kind P f g i low = go (is_variable (term_at ts i)) refl
      where
        go : (b : Bool) → is_variable (term_at ts i) ≡ b → P i
        go true e = f i low e
        go false e = g i low e

    positive : (i : ℕ) → i < n → 0 < ports_of ts i
    positive = by_kind (λ i. 0 < ports_of ts i) (λ i low v. rw (lt-ltb i n low, v) (omega arith)) (λ i low v. rw (lt-ltb i n low, v) (omega arith))

    feeds : (j : ℕ) → j < n → (i : ℕ) × (p : ℕ) × (i ≤ n) × (p < ports_of ts i) × (source_of ts values i p ≡ from j)
    feeds j l = go (dec_le (suc (suc j)) n)
      where
        named : (i : ℕ) → i < n → (is_variable (term_at ts i) ≡ false) × (((term_at ts i).left ≡ j) ⊎ ((term_at ts i).right ≡ j)) → (i : ℕ) × (p : ℕ) × (i ≤ n) × (p < ports_of ts i) × (source_of ts values i p ≡ from j)
        named i low (v, inl q) = (i, 0, omega arith, rw (lt-ltb i n low, v) (omega arith), rw (lt-ltb i n low, v, q))
        named i low (v, inr q) = (i, 1, omega arith, rw (lt-ltb i n low, v) (omega arith), rw (lt-ltb i n low, v, q))

        go : Dec (suc j < n) → (i : ℕ) × (p : ℕ) × (i ≤ n) × (p < ports_of ts i) × (source_of ts values i p ≡ from j)
        go (yes h) = let (i, low, e) = ok.named j h in named i low (named_by j (term_at ts i) e)
        go (no h) = (n, 0, omega arith, rw (le-ltb n n (omega arith)) (omega arith), rw (le-ltb n n (omega arith)) (ap from (omega arith)))

    same_from : (i j : ℕ) → ◌≡◌ {A = Source ℤ} (from i) (from j) → i ≡ j
    same_from i j e = cc

    once : (i p j : ℕ) → i ≤ n → p < ports_of ts i → source_of ts values i p ≡ from j → (j < i) × (out_of ts j ≡ at M (root_of (number ts i)) p)
    once i p j l lp e = go (ℕ_discrete i n)
      where
        inner : i < n → (b : Bool) → is_variable (term_at ts i) ≡ b → (j < i) × (out_of ts j ≡ at M (root_of (number ts i)) p)
        inner low true v = let f = rw (lt-ltb i n low, v) at e in let z : ◌≡◌ {A = ℕ} 0 1 = cc in absurd (omega arith)
        inner low false v =
            let q = same_from (side (term_at ts i) p) j (rw (lt-ltb i n low, v) at e) in
            let two : p < 2 = rw (lt-ltb i n low, v) at lp in
            let (a, b) = goes_side i p low v two in
            (subst (λ (k : ℕ). k < i) q a, out_at j i p (instruction_for ts i) (ap (goes_to ts) (sym q) ∙ b) (inside i low))

        result : i ≡ n → (j < i) × (out_of ts j ≡ at M (root_of (number ts i)) p)
        result q =
            let past : ltb i n ≡ false = le-ltb i n (omega arith) in
            let last = same_from (n - 1) j (rw past at e) in
            let one : p < 1 = rw past at lp in
            let zero-port : p ≡ 0 = omega arith in
            let some = ok.some in
            (omega arith, out_at j i p (out_for ts) (ap (goes_to ts) (sym last) ∙ goes_last ∙ ap (λ (k : ℕ). record { instruction = out_for ts; port = k }) (sym zero-port)) (ap (number ts) q ∙ outside))

        go : Dec (i ≡ n) → (j < i) × (out_of ts j ≡ at M (root_of (number ts i)) p)
        go (yes q) = result q
        go (no q) = inner (omega arith) (is_variable (term_at ts i)) refl

    abbrev Does : (i : ℕ) → Type 0
    Does i = (o : Operands ℤ) → two_values (ports_of ts i) (comes tree.value (source_of ts values i 0)) (comes tree.value (source_of ts values i 1)) ≡ some o
        → effect_in (graph_for ts) [] cells (root_of (number ts i)) o.left o.right ≡ on_option (optional (value_at ts values i)) (refuse Refusals.OutOfRange) (λ v. send v (out_of ts i ∷ []))

    variable_does : (i : ℕ) → i < n → is_variable (term_at ts i) ≡ true → Does i
    variable_does i low v o e =
        let w = get_or values (variable_number ts i) (pos 0) in
        let same : o.left ≡ w = let f = rw (lt-ltb i n low, v) at e in cc in
        copies cells (root_of (number ts i)) (goes_to ts i) o.left o.right (instruction i low ∙ ap (λ (c : ℕ). sending c (goes_to ts i)) (rw v))
        ∙ rw (variable_value ts ok values i v, same)

    operation_does : (i : ℕ) → i < n → is_variable (term_at ts i) ≡ false → Does i
    operation_does i low v o e =
        let t = term_at ts i in
        let (l, r) = both_values (value_at ts values t.left) (value_at ts values t.right) o (rw (lt-ltb i n low, v) at e) in
        computes cells (root_of (number ts i)) (goes_to ts i) o.left o.right t.kind (operation_row i low v) (instruction i low ∙ ap (λ (c : ℕ). sending c (goes_to ts i)) (rw v))
        ∙ sent (compute_of (arithmetic_of t.kind) o.left o.right) (out_of ts i ∷ [])
        ∙ sym (rw (operation_value ts ok values i low v, l, r))

    strict : (i p : ℕ) → i < n → p < ports_of ts i → comes tree.value (source_of ts values i p) ≡ none → optional (value_at ts values i) ≡ none
    strict i p low lp e = go (is_variable (term_at ts i)) refl
      where
        one_none : (q : ℕ) → q < 2 → optional (value_at ts values (side (term_at ts i) q)) ≡ none → (optional (value_at ts values (term_at ts i).left) ≡ none) ⊎ (optional (value_at ts values (term_at ts i).right) ≡ none)
        one_none zero l f = inl f
        one_none (suc q) l f = inr f

        go : (b : Bool) → is_variable (term_at ts i) ≡ b → optional (value_at ts values i) ≡ none
        go true v = none_some (sym (rw (lt-ltb i n low, v) at e))
        go false v =
            ap optional (operation_value ts ok values i low v)
            ∙ combined_none (arithmetic_of (term_at ts i).kind) (value_at ts values (term_at ts i).left) (value_at ts values (term_at ts i).right) (one_none p (rw (lt-ltb i n low, v) at lp) (rw (lt-ltb i n low, v) at e))

    pub is_tree : IsTree M tree
    is_tree = record {
      apart = λ i j li lj e. apart i j li lj (ap (λ (k : Tag). k.instruction) e);
      positive = positive;
      waits = arity_number;
      one = rw (le-ltb n n (omega arith));
      rests = arity_out;
      feeds = feeds;
      once = once;
      effect = by_kind Does variable_does operation_does;
      strict = strict;
    }

  -- every record goes to a port that is there
  pub goes_to_lem : (j : ℕ) → j < n → (i : ℕ) × (p : ℕ) × (i ≤ n) × (p < ports_of ts i) × ((goes_to ts j).instruction ≡ number ts i) × ((goes_to ts j).port ≡ p)
  goes_to_lem j l =
      let (i, p, li, lp, e) = feeds [] 0 0 j l in
      let k = (once [] 0 0 i p j li lp e).1 in
      (i, p, li, lp, ap (λ (k : Key Tag). k.tag.instruction) k, ap (λ (k : Key Tag). k.port) k)

  -- ---- where there is no value, an operation is out of range

  module _ (values : List ℤ) where
    abbrev Out : Type 0
    Out = (i : ℕ) × OutAt ts values i

    -- looked for from record i down
    falls : (bound i : ℕ) → i < bound → i < n → value_at ts values i ≡ None → Out
    falls zero i l low e = absurd (omega arith)
    falls (suc bound) i l low e = go (is_variable (term_at ts i)) refl (λ j lj k f. falls bound j lj k f)
      where
        t : Term
        t = term_at ts i

        by_values : is_variable t ≡ false → (x y : Option ℤ) → value_at ts values t.left ≡ x → value_at ts values t.right ≡ y → combined (arithmetic_of t.kind) x y ≡ None
            → ((j : ℕ) → j < bound → j < n → value_at ts values j ≡ None → Out) → Out
        by_values v (Some a) (Some b) p q f rest = (i, record { low = low; operation = rw v; left = a; right = b; left_value = p; right_value = q; out_of_range = f })
        by_values v (Some a) None p q f rest = let z = (ok.operation i low v).right in rest t.right (omega arith) (omega arith) q
        by_values v None y p q f rest = let z = (ok.operation i low v).left in rest t.left (omega arith) (omega arith) p

        go : (b : Bool) → is_variable t ≡ b → ((j : ℕ) → j < bound → j < n → value_at ts values j ≡ None → Out) → Out
        go true v rest = let z : ◌≡◌ {A = ℕ} 0 1 = cc (variable_value ts ok values i v, e) in absurd (omega arith)
        go false v rest = by_values v (value_at ts values t.left) (value_at ts values t.right) refl refl (sym (operation_value ts ok values i low v) ∙ e) rest

    no_value : (x : Option ℤ) → optional x ≡ none → x ≡ None
    no_value (Some v) e = none_some (sym e)
    no_value None e = refl

    -- and an operation out of range leaves the last record without a value
    rises : (i : ℕ) → OutAt ts values i → expression_value ts values ≡ None
    rises i o =
        let low = o.low in
        let v = not-true (is_variable (term_at ts i)) o.operation in
        let own : optional (value_at ts values i) ≡ none = rw (operation_value ts ok values i low v, o.left_value, o.right_value, o.out_of_range) in
        let top = climbs (M values 0 0) (tree values 0 0) (is_tree values 0 0) n i (omega arith) low own in
        no_value (expression_value ts values) (rw (le-ltb n n (omega arith)) at top)

pub values_tell : ValuesTell
values_tell expression e values =
    let ts = expression_of expression in
    let ok = passed expression e in
    let some = ok.some in
    (falls ts ok values (length ts) (length ts - 1) (omega arith) (omega arith), λ (i, o). rises ts ok values i o)
