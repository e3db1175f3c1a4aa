-- Laws of the table of the records named so far. Assumes nothing.
use Prim.Native.Nat.{ℕ, ◌≤◌, ◌<◌}
use mathlib.Core.Path.{◌≡◌, refl, sym, ap, ◌∙◌}
use mathlib.Core.Bool.{Bool, true, false, ◌||◌}
use mathlib.Core.List.{List, [], ◌∷◌, ◌++◌}
use native.Mathlib.Decide.{ℕ_discrete}
use native.Mathlib.Omega.{arith}
use lib.ListN.{length, get_or, set, replicate, length-set, length-replicate, get_or-replicate}
use lib.Seq.{get_or-set_same, get_or-set_other}
use lib.Dec.{eqb, leb, ltb}
use borrow.Author.Tests.{eq-eqb, ne_eqb, ltb-true, not-true}
use Rattle.record.specs.declared.term.Term.{Term}
use Rattle.rules.specs.Check.{any}
use Rattle.rules.specs.Expression.{most_terms, is_variable, names, good_operation, good_term}
use Rattle.rules.proofs.Passed.{both}
use Rattle.rules.proofs.Lists.{or_right}
use Rattle.check_fields.proofs.Turns.{or-false, any_append}
use Rattle.expression.specs.Tables.{MarkedNamed, NamesInside}

-- what a good record names comes before it
pub names_inside : (earlier : List Term) (i : ℕ) (t : Term) → i ≤ most_terms → good_term earlier i t ≡ true → NamesInside t
unfolding good_term good_operation
names_inside earlier i t few e o =
    let v : is_variable t ≡ false = not-true (is_variable t) o in
    let fields = rw v at (both (eqb t.zeros 0) _ e).1 in
    let rest = (both (leb t.kind 23) _ (both (leb 16 t.kind) _ fields).1).1 in
    let (left, more) = both (ltb t.left i) _ rest in
    let right = (both (ltb t.right i) _ more).0 in
    (omega (arith, ltb-true t.left i left), omega (arith, ltb-true t.right i right))

pub no_marks : MarkedNamed [] (replicate most_terms false)
no_marks = record { size = length-replicate most_terms false; says = λ j l. get_or-replicate most_terms j false false l }

module _ (ts : List Term) (t : Term) where
  named_next : (j : ℕ) → any (names j) (ts ++ t ∷ []) ≡ any (names j) ts || names j t
  named_next j = any_append (names j) ts (t ∷ []) ∙ ap (λ (b : Bool). any (names j) ts || b) (or-false (names j t))

  module _ (table : List Bool) (m : MarkedNamed ts table) where
    -- a variable names none
    pub mark_variable : is_variable t ≡ true → MarkedNamed (ts ++ t ∷ []) table
    mark_variable v = record { size = m.size; says = λ j l. m.says j l ∙ sym (named_next j ∙ rw (v, or-false (any (names j) ts))) }

    pub mark_operation : is_variable t ≡ false → t.left < most_terms → t.right < most_terms → MarkedNamed (ts ++ t ∷ []) (set (set table t.left true) t.right true)
    mark_operation v left right = record {
      size = length-set (set table t.left true) t.right true ∙ length-set table t.left true ∙ m.size;
      says = λ j l. go j l (ℕ_discrete j t.left) (ℕ_discrete j t.right) ∙ sym (named_next j ∙ rw v);
    }
      where
        first : List Bool
        first = set table t.left true

        inside : t.right < length first
        inside = omega (arith, length-set table t.left true, m.size)

        go : (j : ℕ) → j < most_terms → Dec (j ≡ t.left) → Dec (j ≡ t.right) → get_or (set first t.right true) j false ≡ any (names j) ts || (eqb t.left j || eqb t.right j)
        go j l p (yes q) =
            rw (eq-eqb t.right j (sym q), or_right (eqb t.left j) true refl, or_right (any (names j) ts) true refl)
            (ap (λ (k : ℕ). get_or (set first t.right true) k false) q ∙ get_or-set_same first t.right true false inside)
        go j l (yes p) (no q) =
            rw (eq-eqb t.left j (sym p), or_right (any (names j) ts) true refl)
            (get_or-set_other first t.right j true false q ∙ ap (λ (k : ℕ). get_or first k false) p ∙ get_or-set_same table t.left true false (omega (arith, m.size)))
        go j l (no p) (no q) =
            rw (ne_eqb t.left j (λ e. p (sym e)), ne_eqb t.right j (λ e. q (sym e)), or-false (any (names j) ts))
            (get_or-set_other first t.right j true false q ∙ get_or-set_other table t.left j true false p ∙ m.says j l)
