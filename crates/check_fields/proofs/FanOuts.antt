-- What the rows of the table of operations have in common: fan-outs go by the operation alone. Assumes nothing.
use Prim.Native.Nat.{ℕ}
use mathlib.Core.Path.{◌≡◌, refl, sym, ◌∙◌}
use mathlib.Core.Bool.{Bool, true, false, ◌&&◌, cond}
use mathlib.Core.List.{List, [], ◌∷◌}
use mathlib.Core.Logic.{⊎_elim}
use lib.ListN.{get_or}
use lib.Dec.{T, eqb, eqb→eq}
use denote.Enum.Declared.{tag_of}
use types.Run.{OneOf}
use Rattle.record.specs.declared.operation.Operation.TheVariants.{Unknown}
use Rattle.record.specs.GraphRecords.{Row, table, row_with, no_row, row_of, operation_of}
use Rattle.record.specs.contracts.operation.Operation.{the_type}
use Rattle.rules.specs.Check.{all}
use Rattle.check_fields.proofs.Turns.{and-true, and_left, and_right}

-- a test that each row passes, and that a code in no row passes, each code passes
found : (f : Row → Bool) (rs : List Row) → T (all f rs) → ((n : ℕ) → T (f (no_row n))) → (n : ℕ) → T (f (row_with rs n))
found f [] t u n = u n
found f (r ∷ rs) t u n = go (f r) (eqb n r.code) refl t (λ k. found f rs k u n)
  where
    go : (b e : Bool) → f r ≡ b → T (b && all f rs) → (T (all f rs) → T (f (row_with rs n))) → T (f (cond e r (row_with rs n)))
    go true true p t k = rw p tt
    go true false p t k = k t
    go false e p t k = absurd t

every_row : (f : Row → Bool) → T (all f table) → ((n : ℕ) → T (f (no_row n))) → (n : ℕ) → T (f (row_of n))
unfolding row_of
every_row f t u n = found f table t u n

-- the fan-outs of each operation, in the order of its variants
unfoldable pub leasts : List ℕ
leasts = 1 ∷ 0 ∷ 0 ∷ 1 ∷ 2 ∷ 1 ∷ 1 ∷ 2 ∷ 0 ∷ 1 ∷ 0 ∷ 1 ∷ 1 ∷ 0 ∷ []

unfoldable pub mosts : List ℕ
mosts = 2 ∷ 0 ∷ 0 ∷ 2 ∷ 2 ∷ 2 ∷ 2 ∷ 2 ∷ 0 ∷ 2 ∷ 2 ∷ 2 ∷ 2 ∷ 0 ∷ []

-- at some variants they are all v
among : (xs : List ℕ) (v : ℕ) (ks : List ℕ) → T (all (λ k. eqb (get_or xs k 0) v) ks) → (x : ℕ) → OneOf ks x → get_or xs x 0 ≡ v
among xs v [] t x h = absurd h
among xs v (k ∷ []) t x h = rw h (eqb→eq (get_or xs k 0) v (rw (and-true (eqb (get_or xs k 0) v)) at t))
among xs v (k ∷ j ∷ ks) t x h =
    ⊎_elim (λ e. rw e (eqb→eq (get_or xs k 0) v (and_left (eqb (get_or xs k 0) v) (all (λ m. eqb (get_or xs m 0) v) (j ∷ ks)) t))) (λ l. among xs v (j ∷ ks) (and_right (eqb (get_or xs k 0) v) (all (λ m. eqb (get_or xs m 0) v) (j ∷ ks)) t) x l) h

-- a column of the table that goes by the operation alone, at the operations that one arm of a `match` has
by_variant : (column : Row → ℕ) (xs : List ℕ) → T (all (λ r. eqb (column r) (get_or xs (tag_of the_type r.operation) 0)) table)
    → ((m : ℕ) → T (eqb (column (no_row m)) (get_or xs (tag_of the_type Unknown) 0)))
    → (n v : ℕ) (ks : List ℕ) → OneOf ks (tag_of the_type (operation_of n)) → T (all (λ k. eqb (get_or xs k 0) v) ks) → v ≡ column (row_of n)
by_variant column xs t u n v ks one k =
    let at = tag_of the_type (operation_of n) in
    let e = eqb→eq (column (row_of n)) (get_or xs at 0) (every_row (λ r. eqb (column r) (get_or xs (tag_of the_type r.operation) 0)) t u n) in
    sym (e ∙ among xs v ks k at one)

module _ (n v : ℕ) (ks : List ℕ) (one : OneOf ks (tag_of the_type (operation_of n))) where
  pub least_among : T (all (λ k. eqb (get_or leasts k 0) v) ks) → v ≡ (row_of n).least_fan_out
  unfolding leasts
  least_among t = by_variant (λ r. r.least_fan_out) leasts tt (λ m. tt) n v ks one t

  pub most_among : T (all (λ k. eqb (get_or mosts k 0) v) ks) → v ≡ (row_of n).most_fan_out
  unfolding mosts
  most_among t = by_variant (λ r. r.most_fan_out) mosts tt (λ m. tt) n v ks one t
