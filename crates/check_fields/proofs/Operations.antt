-- A test of codes is one of operations, where codes of one operation pass it together: so a `match` on the operation decides it. Assumes nothing.
use Prim.Native.Nat.{ℕ, zero, suc, ◌<◌}
use native.Mathlib.Omega.{arith}
use mathlib.Core.Path.{◌≡◌, refl, sym, ap, ◌∙◌}
use mathlib.Core.Bool.{Bool, true, false, not, ◌&&◌}
use mathlib.Core.List.{List, [], ◌∷◌}
use mathlib.Core.Logic.{⊎_elim}
use lib.ListN.{get_or}
use lib.Dec.{T, eqb, leb}
use borrow.Author.Tests.{eqb-true, eqb-false, ne_eqb, leb-true, leb-false, lt-leb}
use denote.Enum.Declared.{tag_of}
use types.Run.{OneOf}
use Rattle.record.specs.GraphRecords.{Row, table, row_with, no_row, row_of, operation_of, names_array, uses_constant}
use Rattle.record.specs.declared.operation.Operation.{Operation}
use Rattle.record.specs.declared.operation.Operation.TheVariants.{Out, Switch, Enter, Leave}
use Rattle.record.specs.contracts.operation.Operation.{the_type}
use Rattle.rules.specs.Check.{all}
use Rattle.check_fields.proofs.Turns.{and-true, and_left, and_right}

-- ---- all codes: those to 39 one by one, and those past the table

unfoldable below : (ℕ → Bool) → ℕ → Bool
below f zero = true
below f (suc k) = f k && below f k

below_at : (f : ℕ → Bool) (k n : ℕ) → T (below f k) → n < k → T (f n)
unfolding below
below_at f zero n t l = absurd (omega arith)
below_at f (suc k) n t l = go (eqb n k) refl (λ h. below_at f k n (and_right (f k) (below f k) t) h)
  where
    go : (b : Bool) → eqb n k ≡ b → (n < k → T (f n)) → T (f n)
    go true p before = rw (eqb-true n k p) (and_left (f k) (below f k) t)
    go false p before = before (omega (arith, eqb-false n k p))

T_true : (b : Bool) → T b → b ≡ true
T_true true t = refl
T_true false t = absurd t

and_false : (b : Bool) → (b && false) ≡ false
and_false true = refl
and_false false = refl

past_rows : (rs : List Row) (n : ℕ) → T (all (λ r. leb r.code 39) rs) → 39 < n → row_with rs n ≡ no_row n
past_rows [] n t h = refl
past_rows (r ∷ rs) n t h =
    rw (ne_eqb n r.code (λ e. omega (arith, leb-true r.code 39 (T_true (leb r.code 39) (and_left (leb r.code 39) (all (λ r. leb r.code 39) rs) t))))) (past_rows rs n (and_right (leb r.code 39) (all (λ r. leb r.code 39) rs) t) h)

abbrev pub same : Bool → Bool → Bool
same true b = b
same false b = not b

same_is : (a b : Bool) → T (same a b) → a ≡ b
same_is true true t = refl
same_is true false t = absurd t
same_is false true t = absurd t
same_is false false t = refl

-- a test by code as one by operation, which the flags give in the order of its variants
abbrev flag_of : List Bool → Operation → Bool
flag_of flags o = get_or flags (tag_of the_type o) false

by_operation : (test : ℕ → Bool) (flags : List Bool) → T (below (λ n. same (test n) (flag_of flags (operation_of n))) 40)
    → ((n : ℕ) → 39 < n → test n ≡ flag_of flags (no_row n).operation) → (n : ℕ) → test n ≡ flag_of flags (operation_of n)
unfolding row_of
by_operation test flags t past n = go (leb n 39) refl
  where
    go : (b : Bool) → leb n 39 ≡ b → test n ≡ flag_of flags (operation_of n)
    go true p = same_is _ _ (below_at (λ n. same (test n) (flag_of flags (operation_of n))) 40 n t (omega (arith, leb-true n 39 p)))
    go false p = past n (omega (arith, leb-false n 39 p)) ∙ ap (λ (r : Row). flag_of flags r.operation) (sym (past_rows table n tt (omega (arith, leb-false n 39 p))))

-- at some variants the flags are all v
among : (flags : List Bool) (v : Bool) (ks : List ℕ) → T (all (λ k. same (get_or flags k false) v) ks) → (x : ℕ) → OneOf ks x → get_or flags x false ≡ v
among flags v [] t x h = absurd h
among flags v (k ∷ []) t x h = rw h (same_is (get_or flags k false) v (rw (and-true (same (get_or flags k false) v)) at t))
among flags v (k ∷ j ∷ ks) t x h =
    let rest = all (λ m. same (get_or flags m false) v) (j ∷ ks) in
    ⊎_elim (λ e. rw e (same_is (get_or flags k false) v (and_left (same (get_or flags k false) v) rest t))) (λ l. among flags v (j ∷ ks) (and_right (same (get_or flags k false) v) rest t) x l) h

-- ---- the tests

abbrev pub naming : List Bool
naming = false ∷ false ∷ false ∷ false ∷ false ∷ false ∷ false ∷ false ∷ false ∷ true ∷ true ∷ []

abbrev pub using : List Bool
using = false ∷ false ∷ false ∷ true ∷ false ∷ false ∷ false ∷ true ∷ true ∷ true ∷ true ∷ false ∷ true ∷ []

abbrev pub looping : List Bool
looping = false ∷ false ∷ false ∷ false ∷ false ∷ false ∷ true ∷ true ∷ true ∷ []

abbrev pub on_two : List Bool
on_two = false ∷ false ∷ false ∷ false ∷ false ∷ false ∷ false ∷ false ∷ false ∷ false ∷ false ∷ true ∷ []

abbrev outs : List Bool
outs = false ∷ false ∷ true ∷ []

abbrev switches : List Bool
switches = false ∷ false ∷ false ∷ false ∷ true ∷ []

abbrev enters : List Bool
enters = false ∷ false ∷ false ∷ false ∷ false ∷ false ∷ false ∷ true ∷ []

abbrev leaves : List Bool
leaves = false ∷ false ∷ false ∷ false ∷ false ∷ false ∷ false ∷ false ∷ true ∷ []

past_one : (k n : ℕ) → k < 40 → 39 < n → eqb n k ≡ false
past_one k n l h = ne_eqb n k (λ e. omega arith)

names : (n : ℕ) → names_array n ≡ flag_of naming (operation_of n)
unfolding names_array row_of below
names = by_operation names_array naming tt (λ n h. rw (past_one 10 n (omega arith) h, past_one 11 n (omega arith) h))

uses : (n : ℕ) → uses_constant n ≡ flag_of using (operation_of n)
unfolding uses_constant names_array row_of below
uses = by_operation uses_constant using tt (λ n h.
    rw (past_one 4 n (omega arith) h, past_one 8 n (omega arith) h, past_one 9 n (omega arith) h, past_one 10 n (omega arith) h, past_one 11 n (omega arith) h, lt-leb n 39 h, and_false (leb 32 n)))

loops : (n : ℕ) → (leb 7 n && leb n 9) ≡ flag_of looping (operation_of n)
unfolding row_of below
loops = by_operation (λ n. leb 7 n && leb n 9) looping tt (λ n h. rw (lt-leb n 9 (omega arith)) (and_false (leb 7 n)))

twos : (n : ℕ) → (leb 16 n && leb n 23) ≡ flag_of on_two (operation_of n)
unfolding row_of below
twos = by_operation (λ n. leb 16 n && leb n 23) on_two tt (λ n h. rw (lt-leb n 23 (omega arith)) (and_false (leb 16 n)))

is_out : (n : ℕ) → eqb n 3 ≡ flag_of outs (operation_of n)
unfolding row_of below
is_out = by_operation (λ n. eqb n 3) outs tt (λ n h. past_one 3 n (omega arith) h)

is_switch : (n : ℕ) → eqb n 5 ≡ flag_of switches (operation_of n)
unfolding row_of below
is_switch = by_operation (λ n. eqb n 5) switches tt (λ n h. past_one 5 n (omega arith) h)

is_enter : (n : ℕ) → eqb n 8 ≡ flag_of enters (operation_of n)
unfolding row_of below
is_enter = by_operation (λ n. eqb n 8) enters tt (λ n h. past_one 8 n (omega arith) h)

is_leave : (n : ℕ) → eqb n 9 ≡ flag_of leaves (operation_of n)
unfolding row_of below
is_leave = by_operation (λ n. eqb n 9) leaves tt (λ n h. past_one 9 n (omega arith) h)

-- ---- at an arm of a `match`, by the variants that it has

module _ (n : ℕ) (v : Bool) (ks : List ℕ) (one : OneOf ks (tag_of the_type (operation_of n))) where
  pub names_among : T (all (λ k. same (get_or naming k false) v) ks) → v ≡ names_array n
  names_among t = sym (names n ∙ among naming v ks t _ one)

  pub uses_among : T (all (λ k. same (get_or using k false) v) ks) → v ≡ uses_constant n
  uses_among t = sym (uses n ∙ among using v ks t _ one)

  pub loops_among : T (all (λ k. same (get_or looping k false) v) ks) → v ≡ (leb 7 n && leb n 9)
  loops_among t = sym (loops n ∙ among looping v ks t _ one)

  pub on_two_among : T (all (λ k. same (get_or on_two k false) v) ks) → v ≡ (leb 16 n && leb n 23)
  on_two_among t = sym (twos n ∙ among on_two v ks t _ one)

-- ---- an operation of one code

module _ (n : ℕ) where
  pub out_code : operation_of n ≡ Out → n ≡ 3
  out_code e = eqb-true n 3 (is_out n ∙ ap (flag_of outs) e)

  pub switch_code : operation_of n ≡ Switch → n ≡ 5
  switch_code e = eqb-true n 5 (is_switch n ∙ ap (flag_of switches) e)

  pub enter_code : operation_of n ≡ Enter → n ≡ 8
  enter_code e = eqb-true n 8 (is_enter n ∙ ap (flag_of enters) e)

  pub leave_code : operation_of n ≡ Leave → n ≡ 9
  leave_code e = eqb-true n 9 (is_leave n ∙ ap (flag_of leaves) e)

  pub not_enter : ¬ (operation_of n ≡ Enter) → ¬ (n ≡ 8)
  unfolding row_of
  not_enter h e = h (ap operation_of e)

  pub not_leave : ¬ (operation_of n ≡ Leave) → ¬ (n ≡ 9)
  unfolding row_of
  not_leave h e = h (ap operation_of e)

  pub not_out : ¬ (operation_of n ≡ Out) → ¬ (n ≡ 3)
  unfolding row_of
  not_out h e = h (ap operation_of e)

  pub not_switch : ¬ (operation_of n ≡ Switch) → ¬ (n ≡ 5)
  unfolding row_of
  not_switch h e = h (ap operation_of e)
