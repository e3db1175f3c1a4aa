-- The graph of an expression, record by record: the instruction of each record stands at its number (`at_record`, `at_out`), different records have different
-- numbers (`numbers_apart`), and each goes to the port of the record that names it (`goes_named`), the last to OUT (`goes_out`). Assumes nothing.
use Prim.Native.Nat.{ℕ, zero, suc, ◌+◌, ◌≤◌, ◌<◌}
use mathlib.Core.Path.{◌≡◌, refl, sym, ap, ◌∙◌, subst}
use mathlib.Core.Bool.{Bool, true, false, not, cond}
use mathlib.Core.List.{List, [], ◌∷◌, ◌++◌}
use native.Mathlib.Omega.{arith}
use native.Mathlib.Nat.{zero-add, add-zero, add-suc, suc-add}
use lib.ListN.{length, get_or, take, length-append, get_or-append}
use lib.Seq.{get_or-append-add, get_or_at, get_or-take, take-take, length-take-le}
use lib.Dec.{eqb}
use Rattle.record.specs.declared.instruction.Instruction.{Instruction}
use Rattle.buffer.specs.Rows.{All}
use Rattle.record.specs.GraphRecords as Graph
use Rattle.record.specs.declared.term.Term.{Term}
use Rattle.record.specs.ExpressionRecords.{decode_term}
use Rattle.rules.specs.Check.{any, instruction_at}
use Rattle.rules.specs.Expression.{term_at, is_variable, is_operation, names, count, variable_number, instruction_for, out_for, feeds, goes_to, code_for, sending, out, made, graph_for}
use Rattle.rules.proofs.Lists.{neither}

-- ---- counting

module _ (f : Term → Bool) (d : Term) where
  -- one that counts is counted
  pub count_less : (ts : List Term) (k : ℕ) → k < length ts → f (get_or ts k d) ≡ true → count f (take k ts) < count f ts
  count_less [] k l e = absurd (omega arith)
  count_less (t ∷ ts) zero l e = rw e (omega arith)
  count_less (t ∷ ts) (suc k) l e = go (f t) (count_less ts k (omega arith) e)
    where
      go : (b : Bool) → count f (take k ts) < count f ts → cond b (suc (count f (take k ts))) (count f (take k ts)) < cond b (suc (count f ts)) (count f ts)
      go true h = omega arith
      go false h = h

  -- and so a later one has a greater number
  pub count_apart : (ts : List Term) (i j : ℕ) → i < j → j ≤ length ts → f (get_or ts i d) ≡ true → count f (take i ts) < count f (take j ts)
  count_apart ts i j l h e =
      subst (λ (l : List Term). count f l < count f (take j ts)) (take-take i j ts (omega arith))
      (count_less (take j ts) i (rw (length-take-le j ts h) l) (rw (get_or-take j ts i d l) e))

  -- each number below the count is that of one
  pub counted : (ts : List Term) (m : ℕ) → m < count f ts → (i : ℕ) × (i < length ts) × (f (get_or ts i d) ≡ true) × (count f (take i ts) ≡ m)
  counted [] m l = absurd (omega arith)
  counted (t ∷ ts) m l = go (f t) refl m l (λ k h. counted ts k h)
    where
      go : (b : Bool) → f t ≡ b → (m : ℕ) → m < cond b (suc (count f ts)) (count f ts) → ((k : ℕ) → k < count f ts → (i : ℕ) × (i < length ts) × (f (get_or ts i d) ≡ true) × (count f (take i ts) ≡ k))
          → (i : ℕ) × (i < suc (length ts)) × (f (get_or (t ∷ ts) i d) ≡ true) × (count f (take i (t ∷ ts)) ≡ m)
      go true e zero h rest = (0, omega arith, e, refl)
      go true e (suc m) h rest = let (i, l, g, q) = rest m (omega arith) in (suc i, omega arith, g, rw e (ap suc q))
      go false e m h rest = let (i, l, g, q) = rest m h in (suc i, omega arith, g, rw e q)

pub count_both : (ts : List Term) → count is_variable ts + count is_operation ts ≡ length ts
count_both [] = refl
count_both (t ∷ ts) = go (is_variable t) (count_both ts)
  where
    go : (b : Bool) → count is_variable ts + count is_operation ts ≡ length ts
        → cond b (suc (count is_variable ts)) (count is_variable ts) + cond (not b) (suc (count is_operation ts)) (count is_operation ts) ≡ suc (length ts)
    go true h = omega arith
    go false h = omega arith

-- ---- the instructions of one sort

module _ (ts : List Term) (f : Term → Bool) where
  pub length_made : (i : ℕ) (rest : List Term) → length (made ts f i rest) ≡ count f rest
  unfolding made
  length_made i [] = refl
  length_made i (t ∷ rest) = go (f t) (length_made (suc i) rest)
    where
      go : (b : Bool) → length (made ts f (suc i) rest) ≡ count f rest
          → length (cond b (sending (code_for t) (goes_to ts i) ∷ made ts f (suc i) rest) (made ts f (suc i) rest)) ≡ cond b (suc (count f rest)) (count f rest)
      go true h = ap suc h
      go false h = h

  get_d_made : (i : ℕ) (rest : List Term) (d : Term) (e : Instruction) (k : ℕ) → k < length rest → f (get_or rest k d) ≡ true
      → get_or (made ts f i rest) (count f (take k rest)) e ≡ sending (code_for (get_or rest k d)) (goes_to ts (i + k))
  unfolding made
  get_d_made i [] d e k l h = absurd (omega arith)
  get_d_made i (t ∷ rest) d e zero l h = rw (h, add-zero i)
  get_d_made i (t ∷ rest) d e (suc k) l h = go (f t) (get_d_made (suc i) rest d e k (omega arith) h)
    where
      go : (b : Bool) → get_or (made ts f (suc i) rest) (count f (take k rest)) e ≡ sending (code_for (get_or rest k d)) (goes_to ts (suc i + k))
          → get_or (cond b (sending (code_for t) (goes_to ts i) ∷ made ts f (suc i) rest) (made ts f (suc i) rest)) (cond b (suc (count f (take k rest))) (count f (take k rest))) e
          ≡ sending (code_for (get_or rest k d)) (goes_to ts (i + suc k))
      go true g = g ∙ ap (λ (m : ℕ). sending (code_for (get_or rest k d)) (goes_to ts m)) (suc-add i k ∙ sym (add-suc i k))
      go false g = g ∙ ap (λ (m : ℕ). sending (code_for (get_or rest k d)) (goes_to ts m)) (suc-add i k ∙ sym (add-suc i k))

  -- what all instructions for records have, these have
  pub all_made : (P : Instruction → Type 0) (d : Term) (i : ℕ) (rest : List Term) → ((k : ℕ) → k < length rest → P (sending (code_for (get_or rest k d)) (goes_to ts (i + k)))) → All P (made ts f i rest)
  unfolding made
  all_made P d i [] h = tt
  all_made P d i (t ∷ rest) h = go (f t) (all_made P d (suc i) rest (λ k l. subst (λ (m : ℕ). P (sending (code_for (get_or rest k d)) (goes_to ts m))) (add-suc i k ∙ sym (suc-add i k)) (h (suc k) (omega arith))))
    where
      go : (b : Bool) → All P (made ts f (suc i) rest) → All P (cond b (sending (code_for t) (goes_to ts i) ∷ made ts f (suc i) rest) (made ts f (suc i) rest))
      go true g = (subst (λ (m : ℕ). P (sending (code_for t) (goes_to ts m))) (add-zero i) (h 0 (omega arith)), g)
      go false g = g

-- ---- the graph

module _ (ts : List Term) where
  pub length_graph : length (graph_for ts) ≡ suc (length ts)
  unfolding graph_for
  length_graph =
      simp (length-append)
      (omega (arith, length_made ts is_variable 0 ts, length_made ts is_operation 0 ts, count_both ts))

  pub at_record : (i : ℕ) → i < length ts → instruction_at (graph_for ts) (instruction_for ts i) ≡ sending (code_for (term_at ts i)) (goes_to ts i)
  unfolding graph_for instruction_at instruction_for term_at
  at_record i l = go (is_variable (get_or ts i (decode_term []))) refl
    where
      d : Instruction
      d = Graph.decode_instruction []

      vs : List Instruction
      vs = made ts is_variable 0 ts

      os : List Instruction
      os = made ts is_operation 0 ts

      go : (b : Bool) → is_variable (get_or ts i (decode_term [])) ≡ b
          → get_or (vs ++ (os ++ out ∷ [])) (cond b (variable_number ts i) (count is_variable ts + count is_operation (take i ts))) d ≡ sending (code_for (get_or ts i (decode_term []))) (goes_to ts i)
      go true e =
          get_or-append vs (os ++ out ∷ []) d (variable_number ts i) (rw (length_made ts is_variable 0 ts) (count_less is_variable (decode_term []) ts i l e))
          ∙ get_d_made ts is_variable 0 ts (decode_term []) d i l e ∙ ap (λ (m : ℕ). sending (code_for (get_or ts i (decode_term []))) (goes_to ts m)) (zero-add i)
      go false e =
          let o : is_operation (get_or ts i (decode_term [])) ≡ true = rw e in
          rw (← length_made ts is_variable 0 ts) (get_or-append-add vs (os ++ out ∷ []) (count is_operation (take i ts)) d)
          ∙ get_or-append os (out ∷ []) d (count is_operation (take i ts)) (rw (length_made ts is_operation 0 ts) (count_less is_operation (decode_term []) ts i l o))
          ∙ get_d_made ts is_operation 0 ts (decode_term []) d i l o ∙ ap (λ (m : ℕ). sending (code_for (get_or ts i (decode_term []))) (goes_to ts m)) (zero-add i)

  pub at_out : instruction_at (graph_for ts) (out_for ts) ≡ out
  unfolding graph_for instruction_at
  at_out =
      let vs = made ts is_variable 0 ts in
      let os = made ts is_operation 0 ts in
      let place : length ts ≡ length vs + length os = omega (arith, length_made ts is_variable 0 ts, length_made ts is_operation 0 ts, count_both ts) in
      rw place (get_or-append-add vs (os ++ out ∷ []) (length os) (Graph.decode_instruction []) ∙ get_or_at os out [] (Graph.decode_instruction []) (length os) refl)

  -- ---- numbers

  pub variable_number_lem : (i : ℕ) → is_variable (term_at ts i) ≡ true → instruction_for ts i ≡ variable_number ts i
  unfolding instruction_for
  variable_number_lem i e = rw e

  pub operation_number : (i : ℕ) → is_variable (term_at ts i) ≡ false → instruction_for ts i ≡ count is_variable ts + count is_operation (take i ts)
  unfolding instruction_for
  operation_number i e = rw e

  pub variable_low : (i : ℕ) → i < length ts → is_variable (term_at ts i) ≡ true → instruction_for ts i < count is_variable ts
  unfolding term_at
  variable_low i l e = rw (variable_number_lem i e) (count_less is_variable (decode_term []) ts i l e)

  -- an instruction number below that of OUT
  pub number_low : (i : ℕ) → i < length ts → instruction_for ts i < out_for ts
  unfolding term_at
  number_low i l = go (is_variable (term_at ts i)) refl
    where
      go : (b : Bool) → is_variable (term_at ts i) ≡ b → instruction_for ts i < out_for ts
      go true e = let z = variable_low i l e in omega (arith, count_both ts)
      go false e = let o : is_operation (term_at ts i) ≡ true = rw e in let z = count_less is_operation (decode_term []) ts i l o in rw (operation_number i e) (omega (arith, count_both ts))

  pub numbers_apart : (i j : ℕ) → i < j → j < length ts → ¬ (instruction_for ts i ≡ instruction_for ts j)
  unfolding term_at
  numbers_apart i j l h q = go (is_variable (term_at ts i)) (is_variable (term_at ts j)) refl refl
    where
      go : (a b : Bool) → is_variable (term_at ts i) ≡ a → is_variable (term_at ts j) ≡ b → ⊥
      go true true e f = omega (arith, variable_number_lem i e, variable_number_lem j f, count_apart is_variable (decode_term []) ts i j l (omega arith) e)
      go true false e f = omega (arith, variable_low i (omega arith) e, operation_number j f)
      go false true e f = omega (arith, variable_low j h f, operation_number i e)
      go false false e f =
          let o : is_operation (term_at ts i) ≡ true = rw e in
          omega (arith, operation_number i e, operation_number j f, count_apart is_operation (decode_term []) ts i j l (omega arith) o)

  -- ---- where a value goes

  feeds_first : (j i : ℕ) (rest : List Term) (d : Term) (k : ℕ) → k < length rest → names j (get_or rest k d) ≡ true → ((m : ℕ) → m < k → names j (get_or rest m d) ≡ false)
      → feeds ts j i rest ≡ record { instruction = instruction_for ts (i + k); port = cond (eqb (get_or rest k d).left j) 0 1 }
  unfolding feeds
  feeds_first j i [] d k l e h = absurd (omega arith)
  feeds_first j i (t ∷ rest) d zero l e h = rw (e, add-zero i)
  feeds_first j i (t ∷ rest) d (suc k) l e h =
      rw (h 0 (omega arith)) (feeds_first j (suc i) rest d k (omega arith) e (λ m g. h (suc m) (omega arith)))
      ∙ ap (λ (m : ℕ). record { instruction = instruction_for ts m; port = cond (eqb (get_or rest k d).left j) 0 1 }) (suc-add i k ∙ sym (add-suc i k))

  feeds_none : (j i : ℕ) (rest : List Term) → any (names j) rest ≡ false → feeds ts j i rest ≡ record { instruction = out_for ts; port = 0 }
  unfolding feeds
  feeds_none j i [] e = refl
  feeds_none j i (t ∷ rest) e = let (p, q) = neither (names j t) (any (names j) rest) e in rw p (feeds_none j (suc i) rest q)

  pub goes_named : (j i : ℕ) → i < length ts → names j (term_at ts i) ≡ true → ((m : ℕ) → m < i → names j (term_at ts m) ≡ false)
      → goes_to ts j ≡ record { instruction = instruction_for ts i; port = cond (eqb (term_at ts i).left j) 0 1 }
  unfolding term_at
  goes_named j i l e h = feeds_first j 0 ts (decode_term []) i l e h ∙ ap (λ (m : ℕ). record { instruction = instruction_for ts m; port = cond (eqb (get_or ts i (decode_term [])).left j) 0 1 }) (zero-add i)

  pub goes_out : (j : ℕ) → any (names j) ts ≡ false → goes_to ts j ≡ record { instruction = out_for ts; port = 0 }
  goes_out j e = feeds_none j 0 ts e
