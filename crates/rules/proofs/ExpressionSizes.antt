-- An expression that passed has one variable more than operations (`sizes_follow`): each operation names two records, and all but the last are named once.
-- Assumes nothing.
use Prim.Native.Nat.{ℕ, zero, suc, ◌+◌, ◌-◌, ◌*◌, ◌≤◌, ◌<◌}
use mathlib.Core.Path.{◌≡◌, refl, sym, ap, ◌∙◌, subst}
use mathlib.Core.Bool.{Bool, true, false, ◌||◌, cond}
use mathlib.Core.List.{List, [], ◌∷◌, ◌++◌}
use mathlib.Core.Logic.{◌⊎◌, inl, inr}
use native.Mathlib.Decide.{ℕ_discrete}
use native.Mathlib.Omega.{arith}
use lib.ListN.{length, get_or, take}
use lib.Seq.{take-suc, take-length, get_or-take, length-take-le}
use lib.Dec.{eqb}
use borrow.Author.Tests.{eq-eqb, ne_eqb}
use Rattle.record.specs.declared.term.Term.{Term}
use Rattle.record.specs.ExpressionRecords.{decode_term, expression_of}
use Rattle.machine.proofs.Sets.{with, with_own, with_other, count_below, none_below, all_count, same_count, one_more}
use Rattle.rules.specs.Check.{any}
use Rattle.rules.specs.Expression.{term_at, is_variable, is_operation, names, count, OfEvery}
use Rattle.rules.proofs.Lists.{any_at}
use Rattle.rules.proofs.ExpressionPassed.{none_of, found_at, Proper, named_by, passed}
use Rattle.rules.proofs.ExpressionGraph.{count_both}

-- ---- the claims

-- there is one variable more than operations, and so 149 tokens at most: one for each variable and one from each record
abbrev pub SizesFollow : Type 0
SizesFollow = OfEvery (λ ts. (count is_variable ts ≡ suc (count is_operation ts)) × (count is_variable ts + length ts ≤ 149))

-- ---- the proofs

any_append : {A : Type 0} (f : A → Bool) (xs ys : List A) → any f (xs ++ ys) ≡ any f xs || any f ys
any_append f [] ys = refl
any_append f (x ∷ xs) ys = go (f x) (any_append f xs ys)
  where
    go : (b : Bool) → any f (xs ++ ys) ≡ any f xs || any f ys → b || any f (xs ++ ys) ≡ (b || any f xs) || any f ys
    go true h = refl
    go false h = h

pub count_append : (f : Term → Bool) (xs ys : List Term) → count f (xs ++ ys) ≡ count f xs + count f ys
count_append f [] ys = omega arith
count_append f (x ∷ xs) ys = go (f x) (count_append f xs ys)
  where
    go : (b : Bool) → count f (xs ++ ys) ≡ count f xs + count f ys → cond b (suc (count f (xs ++ ys))) (count f (xs ++ ys)) ≡ cond b (suc (count f xs)) (count f xs) + count f ys
    go true h = omega arith
    go false h = h

module _ (ts : List Term) (ok : Proper ts) where
  abbrev n : ℕ
  n = length ts

  -- the numbers that the first k records name
  abbrev named : (k : ℕ) → ℕ → Bool
  named k j = any (names j) (take k ts)

  named_next : (k j : ℕ) → k < n → named (suc k) j ≡ named k j || (names j (term_at ts k) || false)
  unfolding term_at
  named_next k j l = ap (any (names j)) (take-suc ts k (decode_term []) l) ∙ any_append (names j) (take k ts) (get_or ts k (decode_term []) ∷ [])

  count_next : (k : ℕ) → k < n → count is_operation (take (suc k) ts) ≡ count is_operation (take k ts) + cond (is_operation (term_at ts k)) 1 0
  unfolding term_at
  count_next k l = ap (count is_operation) (take-suc ts k (decode_term []) l) ∙ count_append is_operation (take k ts) (get_or ts k (decode_term []) ∷ [])

  -- what record k names, none before it does
  new : (k j : ℕ) → k < n → names j (term_at ts k) ≡ true → named k j ≡ false
  unfolding term_at
  new k j l e = none_of (names j) (decode_term []) (take k ts) (λ m lm.
      let low : m < k = rw (length-take-le k ts (omega arith)) at lm in
      rw (get_or-take k ts m (decode_term []) low) (ok.once k j m l low e))

  module _ (k : ℕ) (low : k < n) where
    abbrev t : Term
    t = term_at ts k

    variable_next : is_variable t ≡ true → (j : ℕ) → named (suc k) j ≡ named k j
    variable_next v j = named_next k j low ∙ rw v (go (named k j))
      where
        go : (b : Bool) → b || false ≡ b
        go true = refl
        go false = refl

    operation_next : is_variable t ≡ false → (j : ℕ) → named (suc k) j ≡ with (with (named k) t.left) t.right j
    operation_next v j = named_next k j low ∙ rw v (go (ℕ_discrete j t.left) (ℕ_discrete j t.right))
      where
        or_true : (b : Bool) → b || true ≡ true
        or_true true = refl
        or_true false = refl

        or_false : (b : Bool) → b || false ≡ b
        or_false true = refl
        or_false false = refl

        go : Dec (j ≡ t.left) → Dec (j ≡ t.right) → named k j || ((eqb t.left j || eqb t.right j) || false) ≡ with (with (named k) t.left) t.right j
        go p (yes q) = subst (λ (m : ℕ). named k j || ((eqb t.left j || eqb t.right j) || false) ≡ with (with (named k) t.left) t.right m) (sym q)
            (rw (eq-eqb t.right j (sym q), or_true (eqb t.left j), or_true (named k j), with_own (with (named k) t.left) t.right))
        go (yes p) (no q) = rw (with_other (with (named k) t.left) t.right j q) (subst (λ (m : ℕ). named k j || ((eqb t.left j || eqb t.right j) || false) ≡ with (named k) t.left m) (sym p)
            (rw (eq-eqb t.left j (sym p), or_true (named k j), with_own (named k) t.left)))
        go (no p) (no q) = rw (ne_eqb t.left j (λ e. p (sym e)), ne_eqb t.right j (λ e. q (sym e)), with_other (with (named k) t.left) t.right j q, with_other (named k) t.left j p) (or_false (named k j))

    two_more : is_variable t ≡ false → count_below (named (suc k)) n ≡ 2 + count_below (named k) n
    two_more v =
        let o = ok.operation k low v in
        let left = o.left in
        let right = o.right in
        let left-new = new k t.left low (rw (v, eq-eqb t.left t.left refl)) in
        let right_new = new k t.right low (rw (v, ne_eqb t.left t.right o.apart, eq-eqb t.right t.right refl)) in
        let one = one_more (named k) t.left n (omega arith) left-new in
        let two = one_more (with (named k) t.left) t.right n (omega arith) (with_other (named k) t.left t.right (λ q. o.apart (sym q)) ∙ right_new) in
        omega (arith, same_count (named (suc k)) (with (with (named k) t.left) t.right) n (λ j l. operation_next v j))

  -- two for each operation
  twice : (k : ℕ) → k ≤ n → count_below (named k) n ≡ 2 * count is_operation (take k ts)
  twice zero l = nothing ts
    where
      nothing : (us : List Term) → count_below (λ j. any (names j) (take 0 us)) n ≡ 2 * count is_operation (take 0 us)
      nothing [] = none_below n
      nothing (u ∷ us) = none_below n
  twice (suc k) l = go (is_variable (term_at ts k)) refl (twice k (omega arith))
    where
      go : (b : Bool) → is_variable (term_at ts k) ≡ b → count_below (named k) n ≡ 2 * count is_operation (take k ts) → count_below (named (suc k)) n ≡ 2 * count is_operation (take (suc k) ts)
      go true v h =
          let same = same_count (named (suc k)) (named k) n (λ j lj. variable_next k (omega arith) v j) in
          let ops : count is_operation (take (suc k) ts) ≡ count is_operation (take k ts) + 0 = count_next k (omega arith) ∙ rw v in
          omega arith
      go false v h =
          let more = two_more k (omega arith) v in
          let ops : count is_operation (take (suc k) ts) ≡ count is_operation (take k ts) + 1 = count_next k (omega arith) ∙ rw v in
          omega arith

  -- and one for each record but the last
  but_last : count_below (λ j. any (names j) ts) n ≡ n - 1
  unfolding term_at
  but_last = go n refl
    where
      is_named_lem : (j : ℕ) → suc j < n → any (names j) ts ≡ true
      is_named_lem j l = let (i, low, e) = ok.named j l in any_at (names j) ts (decode_term []) i low e

      before : (i j : ℕ) → i < n → (is_variable (term_at ts i) ≡ false) × (((term_at ts i).left ≡ j) ⊎ ((term_at ts i).right ≡ j)) → j < i
      before i j low (v, inl q) = let z = (ok.operation i low v).left in omega arith
      before i j low (v, inr q) = let z = (ok.operation i low v).right in omega arith

      not_named : (j : ℕ) → n ≤ suc j → any (names j) ts ≡ false
      not_named j l = by_test (any (names j) ts) refl
        where
          by_test : (b : Bool) → any (names j) ts ≡ b → any (names j) ts ≡ false
          by_test true e = let (i, low, f) = found_at (names j) (decode_term []) ts e in let z = before i j low (named_by j (term_at ts i) f) in absurd (omega arith)
          by_test false e = e

      go : (m : ℕ) → n ≡ m → count_below (λ j. any (names j) ts) m ≡ m - 1
      go zero e = refl
      go (suc m) e =
          let below = all_count (λ j. any (names j) ts) m (λ j l. is_named_lem j (omega arith)) in
          rw (not_named m (omega arith)) (omega arith)

  sizes : (count is_variable ts ≡ suc (count is_operation ts)) × (count is_variable ts + n ≤ 149)
  sizes =
      let whole : 2 * count is_operation ts ≡ n - 1 = sym (subst (λ (us : List Term). count_below (λ j. any (names j) us) n ≡ 2 * count is_operation us) (take-length ts) (twice n (omega arith))) ∙ but_last in
      let some = ok.some in
      let few = ok.few in
      (omega (arith, count_both ts), omega (arith, count_both ts))

pub sizes_follow : SizesFollow
sizes_follow expression e = sizes (expression_of expression) (passed expression e)
