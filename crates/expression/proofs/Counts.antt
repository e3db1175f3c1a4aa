-- Counting variables, one record further, and the instruction of a record. Assumes nothing.
use Prim.Native.Nat.{ℕ, ◌+◌, ◌-◌, ◌≤◌, ◌<◌}
use mathlib.Core.Path.{◌≡◌, refl, ap, ◌∙◌}
use mathlib.Core.Bool.{cond}
use mathlib.Core.List.{List, [], ◌∷◌}
use native.Mathlib.Omega.{arith}
use native.Mathlib.Decide.{ℕ_discrete}
use lib.ListN.{length, get_or, take, set, replicate, length-set, length-replicate}
use lib.Seq.{length-take-le, get_or-set_same, get_or-set_other}
use Rattle.record.specs.declared.term.Term.{Term}
use Rattle.rules.specs.Expression.{most_terms, term_at, is_variable, is_operation, count, variable_number, instruction_for}
use Rattle.rules.proofs.ExpressionGraph.{count_both}
use Rattle.rules.proofs.ExpressionSizes.{count_append}
use Rattle.check_fields.proofs.Turns.{take_next}

pub none_yet : (ts : List Term) → 0 ≡ variable_number ts 0
none_yet [] = refl
none_yet (t ∷ ts) = refl

module _ (ts : List Term) (i : ℕ) (t : Term) (l : i < length ts) (e : get_or ts i t ≡ t) where
  pub variables_next : variable_number ts (i + 1) ≡ variable_number ts i + count is_variable (t ∷ [])
  variables_next = ap (count is_variable) (take_next ts i t l e) ∙ count_append is_variable (take i ts) (t ∷ [])

-- the records before it that are not variables are operations
pub instruction_number : (ts : List Term) (i : ℕ) → i ≤ length ts → (t : Term) → term_at ts i ≡ t
    → instruction_for ts i ≡ cond (is_variable t) (variable_number ts i) (count is_variable ts + (i - variable_number ts i))
unfolding instruction_for
instruction_number ts i l t e =
    let others : count is_operation (take i ts) ≡ i - variable_number ts i = omega (arith, count_both (take i ts), length-take-le i ts l) in
    rw (e, others)

-- ---- the table of instructions, of the first i records

pub record Upto (ts : List Term) (i : ℕ) (table : List ℕ) : Type 0 where
  pub size : length table ≡ most_terms
  pub says : (k : ℕ) → k < i → get_or table k 0 ≡ instruction_for ts k

pub upto_none : (ts : List Term) → Upto ts 0 (replicate most_terms 0)
upto_none ts = record { size = length-replicate {A = ℕ} most_terms 0; says = λ k l. absurd (omega arith) }

pub upto_next : {ts : List Term} {i : ℕ} {table : List ℕ} → Upto ts i table → i < most_terms → (v : ℕ) → v ≡ instruction_for ts i → Upto ts (i + 1) (set table i v)
upto_next {ts} {i} {table} u l v e = record { size = length-set table i v ∙ u.size; says = λ k h. go k h (ℕ_discrete k i) }
  where
    go : (k : ℕ) → k < i + 1 → Dec (k ≡ i) → get_or (set table i v) k 0 ≡ instruction_for ts k
    go k h (yes p) = rw p (get_or-set_same table i v 0 (omega (arith, u.size)) ∙ e)
    go k h (no q) = get_or-set_other table i k v 0 q ∙ u.says k (omega arith)
