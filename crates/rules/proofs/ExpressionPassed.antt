-- What holds of an expression that passed its check, record by record (`passed`). Assumes nothing.
use Rattle.std.proofs.Common.{Ok}
use Prim.Native.Nat.{ℕ, zero, suc, ◌/◌, ◌≤◌, ◌<◌}
use mathlib.Core.Path.{◌≡◌, refl, subst}
use mathlib.Core.Bool.{Bool, true, false, not, ◌||◌}
use mathlib.Core.List.{List, [], ◌∷◌}
use mathlib.Core.Logic.{◌⊎◌, inl, inr}
use native.Mathlib.Omega.{arith}
use native.Mathlib.Nat.{zero-add}
use lib.ListN.{length, get_or, take}
use lib.Dec.{eqb, leb, ltb}
use borrow.Author.Tests.{leb-true, ltb-true, eqb-true, eqb-false, not-true}
use Rattle.buffer.specs.Rows.{whole}
use Rattle.buffer.proofs.Tables.{length_rows}
use Rattle.record.specs.declared.term.Term.{Term}
use Rattle.record.specs.ExpressionRecords.{decode_term, expression_of}
use Rattle.record.specs.Widths.{term_width}
use Rattle.machine.proofs.View.{false_true}
use Rattle.rules.specs.declared.answer.Refusal.TheVariants.{BadExpression}
use Rattle.rules.specs.Check.{demand, any, in_turn}
use Rattle.rules.specs.Expression.{most_terms, is_expression_length, term_at, is_variable, is_operation, names, good_operation, good_term, check_terms, check_expression}
use Rattle.rules.proofs.Passed.{both, demand_passed, and_then_passed, turn_passed}
use Rattle.rules.proofs.Lists.{neither, either}
use Rattle.rules.proofs.Accepted.{whole_bytes}

-- ---- any

module _ {A : Type 0} (f : A → Bool) (d : A) where
  none_at_lem : (xs : List A) (i k : ℕ) → any f (take i xs) ≡ false → k < i → k < length xs → f (get_or xs k d) ≡ false
  none_at_lem [] i k e l h = absurd (omega arith)
  none_at_lem (x ∷ xs) zero k e l h = absurd (omega arith)
  none_at_lem (x ∷ xs) (suc i) zero e l h = (neither (f x) (any f (take i xs)) e).0
  none_at_lem (x ∷ xs) (suc i) (suc k) e l h = none_at_lem xs i k (neither (f x) (any f (take i xs)) e).1 (omega arith) (omega arith)

  pub found_at : (xs : List A) → any f xs ≡ true → (i : ℕ) × (i < length xs) × (f (get_or xs i d) ≡ true)
  found_at [] e = false_true e
  found_at (x ∷ xs) e = go (either (f x) (any f xs) e) (λ h. found_at xs h)
    where
      go : (f x ≡ true) ⊎ (any f xs ≡ true) → (any f xs ≡ true → (i : ℕ) × (i < length xs) × (f (get_or xs i d) ≡ true)) → (i : ℕ) × (i < suc (length xs)) × (f (get_or (x ∷ xs) i d) ≡ true)
      go (inl h) rest = (0, omega arith, h)
      go (inr h) rest = let (i, l, g) = rest h in (suc i, omega arith, g)

  pub none_of : (xs : List A) → ((i : ℕ) → i < length xs → f (get_or xs i d) ≡ false) → any f xs ≡ false
  none_of [] h = refl
  none_of (x ∷ xs) h = rw (h 0 (omega arith)) (none_of xs (λ i l. h (suc i) (omega arith)))

-- ---- the records

-- record i is an operation
pub record OperationAt (ts : List Term) (i : ℕ) : Type 0 where
  pub least : 16 ≤ (term_at ts i).kind
  pub most : (term_at ts i).kind ≤ 23
  pub left : (term_at ts i).left < i
  pub right : (term_at ts i).right < i
  pub apart : ¬ ((term_at ts i).left ≡ (term_at ts i).right)

pub record Proper (ts : List Term) : Type 0 where
  pub some : 0 < length ts
  pub few : length ts ≤ most_terms
  pub operation : (i : ℕ) → i < length ts → is_variable (term_at ts i) ≡ false → OperationAt ts i
  -- no two records name one
  pub once : (i j k : ℕ) → i < length ts → k < i → names j (term_at ts i) ≡ true → names j (term_at ts k) ≡ false
  pub named : (j : ℕ) → suc j < length ts → (i : ℕ) × (i < length ts) × (names j (term_at ts i) ≡ true)

-- what a name is
pub named_by : (j : ℕ) (t : Term) → names j t ≡ true → (is_variable t ≡ false) × ((t.left ≡ j) ⊎ (t.right ≡ j))
named_by j t e =
    let (o, n) = both (is_operation t) _ e in
    (not-true (is_variable t) o, side (either (eqb t.left j) (eqb t.right j) n))
  where
    side : (eqb t.left j ≡ true) ⊎ (eqb t.right j ≡ true) → (t.left ≡ j) ⊎ (t.right ≡ j)
    side (inl h) = inl (eqb-true t.left j h)
    side (inr h) = inr (eqb-true t.right j h)

module _ (ts : List Term) (e : check_terms ts ≡ Ok tt) where
  parts : (in_turn (λ i t. demand (good_term (take i ts) i t) BadExpression i) 0 ts ≡ Ok tt) × (in_turn (λ j t. demand (eqb (suc j) (length ts) || any (names j) ts) BadExpression j) 0 ts ≡ Ok tt)
  unfolding check_terms
  parts = and_then_passed (in_turn (λ i t. demand (good_term (take i ts) i t) BadExpression i) 0 ts) _ e

  good_at : (i : ℕ) → i < length ts → good_term (take i ts) i (term_at ts i) ≡ true
  unfolding term_at
  good_at i l = demand_passed _ BadExpression i (rw (zero-add i) at (turn_passed (λ i t. demand (good_term (take i ts) i t) BadExpression i) (decode_term []) 0 ts parts.0 i l))

  record Good (i : ℕ) : Type 0 where
    operation : OperationAt ts i
    new_left : any (names (term_at ts i).left) (take i ts) ≡ false
    new_right : any (names (term_at ts i).right) (take i ts) ≡ false

  operation_at : (i : ℕ) → i < length ts → is_variable (term_at ts i) ≡ false → Good i
  unfolding good_term good_operation
  operation_at i l v =
      let t = term_at ts i in
      let all = rw v at (both (eqb t.zeros 0) _ (good_at i l)).1 in
      let (a, p) = both (leb 16 t.kind) _ all in
      let (b, q) = both (leb t.kind 23) _ p in
      let (c, r) = both (ltb t.left i) _ q in
      let (d, s) = both (ltb t.right i) _ r in
      let (x, u) = both (not (eqb t.left t.right)) _ s in
      let (y, z) = both (not (any (names t.left) (take i ts))) _ u in
      record {
        operation = record {
          least = leb-true 16 t.kind a;
          most = leb-true t.kind 23 b;
          left = ltb-true t.left i c;
          right = ltb-true t.right i d;
          apart = eqb-false t.left t.right (not-true (eqb t.left t.right) x);
        };
        new_left = not-true (any (names t.left) (take i ts)) y;
        new_right = not-true (any (names t.right) (take i ts)) z;
      }

  once_at : (i j k : ℕ) → i < length ts → k < i → names j (term_at ts i) ≡ true → names j (term_at ts k) ≡ false
  unfolding term_at
  once_at i j k l h n =
      let (o, side) = named_by j (term_at ts i) n in
      let g = operation_at i l o in
      go g side
    where
      go : Good i → ((term_at ts i).left ≡ j) ⊎ ((term_at ts i).right ≡ j) → names j (term_at ts k) ≡ false
      go g (inl p) = none_at_lem (names j) (decode_term []) ts i k (subst (λ (m : ℕ). any (names m) (take i ts) ≡ false) p g.new_left) h (omega arith)
      go g (inr p) = none_at_lem (names j) (decode_term []) ts i k (subst (λ (m : ℕ). any (names m) (take i ts) ≡ false) p g.new_right) h (omega arith)

  named_at : (j : ℕ) → suc j < length ts → (i : ℕ) × (i < length ts) × (names j (term_at ts i) ≡ true)
  unfolding term_at
  named_at j l =
      let t : (eqb (suc j) (length ts) || any (names j) ts) ≡ true = demand_passed _ BadExpression j (rw (zero-add j) at (turn_passed (λ j t. demand (eqb (suc j) (length ts) || any (names j) ts) BadExpression j) (decode_term []) 0 ts parts.1 j (omega arith))) in
      go (either (eqb (suc j) (length ts)) (any (names j) ts) t)
    where
      go : (eqb (suc j) (length ts) ≡ true) ⊎ (any (names j) ts ≡ true) → (i : ℕ) × (i < length ts) × (names j (get_or ts i (decode_term [])) ≡ true)
      go (inl h) = absurd (omega (arith, eqb-true (suc j) (length ts) h))
      go (inr h) = found_at (names j) (decode_term []) ts h

pub passed : (expression : List ℕ) → check_expression expression ≡ Ok tt → Proper (expression_of expression)
unfolding check_expression
passed expression e =
    let ts = expression_of expression in
    let (l, t) = and_then_passed (demand (is_expression_length (length expression)) BadExpression 0) _ e in
    let (some, w) = both (leb 1 (length expression)) (whole term_width most_terms (length expression)) (demand_passed _ BadExpression 0 l) in
    let (whole, few) = whole_bytes term_width most_terms (length expression) w in
    let many : length ts ≡ length expression / term_width = length_rows term_width decode_term (length expression / term_width) expression in
    let one = leb-true 1 (length expression) some in
    record {
      some = omega arith;
      few = omega arith;
      operation = λ i h v. (operation_at ts t i h v).operation;
      once = once_at ts t;
      named = named_at ts t;
    }
