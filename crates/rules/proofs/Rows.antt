-- Records of a part of a buffer: the first n are those of its first bytes (`rows_own`), and picks are divided as their bytes are (`picks_take`, `picks_drop`).
-- Assumes nothing.
use Prim.Native.Nat.{ℕ, zero, suc, ◌+◌, ◌-◌, ◌*◌, ◌/◌, ◌≤◌}
use mathlib.Core.Path.{◌≡◌, refl, sym, ap, ◌∙◌}
use mathlib.Core.Bool.{Bool}
use mathlib.Core.List.{List, [], ◌∷◌}
use native.Mathlib.Omega.{arith}
use native.Mathlib.Nat.{zero-add, suc-add, suc-mul, zero-mul, add_comm, le_of_suc-le-suc}
use native.Mathlib.Decide.{dec_le}
use lib.ListN.{length, take, drop, length-drop, drop_of_length-le}
use lib.Seq.{take_all, take-take, drop-drop, length-take-le}
use Rattle.number.specs.Number.{number16}
use Rattle.buffer.specs.Rows.{rows, all_rows}
use Rattle.buffer.proofs.Tables.{length_rows}
use Rattle.record.specs.Widths.{pick_width}
use Rattle.record.proofs.Records.{front, own}
use Rattle.rules.specs.Check.{all}
use Rattle.rules.specs.Run.{picks_of}

drop_take : {A : Type 0} (w k : ℕ) (l : List A) → drop w (take (w + k) l) ≡ take k (drop w l)
drop_take zero k l = rw (zero-add k)
drop_take (suc w) zero [] = rw (suc-add w 0)
drop_take (suc w) (suc k) [] = rw (suc-add w (suc k))
drop_take (suc w) k (x ∷ l) = rw (suc-add w k) (drop_take w k l)

module _ {A : Type 0} (w : ℕ) (read : List ℕ → A) where
  pub take_rows : (a n : ℕ) (l : List ℕ) → a ≤ n → take a (rows w read n l) ≡ rows w read a l
  take_rows zero zero l h = refl
  take_rows zero (suc n) l h = refl
  take_rows (suc a) zero l h = absurd (omega arith)
  take_rows (suc a) (suc n) l h = ap (λ (xs : List A). read l ∷ xs) (take_rows a n (drop w l) (le_of_suc-le-suc h))

  drop_rows : (a k : ℕ) (l : List ℕ) → drop a (rows w read (a + k) l) ≡ rows w read k (drop (a * w) l)
  drop_rows zero k l = rw (zero-add k, zero-mul w)
  drop_rows (suc a) k l = rw (suc-add a k, suc-mul a w, add_comm (a * w) w, ← drop-drop (a * w) w l) (drop_rows a k (drop w l))

  -- they are read from their own bytes alone
  pub rows_own : ((l m : List ℕ) → take w l ≡ take w m → read l ≡ read m) → (n : ℕ) (l m : List ℕ) → take (n * w) l ≡ take (n * w) m → rows w read n l ≡ rows w read n m
  rows_own h zero l m e = refl
  rows_own h (suc n) l m e =
      let k : suc n * w ≡ w + n * w = suc-mul n w ∙ add_comm (n * w) w in
      let f : take (w + n * w) l ≡ take (w + n * w) m = rw (← k) e in
      let first : take w l ≡ take w m = sym (take-take w (w + n * w) l (omega arith)) ∙ ap (take w) f ∙ take-take w (w + n * w) m (omega arith) in
      let later : take (n * w) (drop w l) ≡ take (n * w) (drop w m) = sym (drop_take w (n * w) l) ∙ ap (drop w) f ∙ drop_take w (n * w) m in
      λ i. h l m first i ∷ rows_own h n (drop w l) (drop w m) later i

-- a test of each record is one of what the test reads
pub all_rows_lem : (w : ℕ) (test : List ℕ → Bool) (n : ℕ) (l : List ℕ) → all test (rows w (λ b. b) n l) ≡ all (λ b. b) (rows w test n l)
all_rows_lem w test zero l = refl
all_rows_lem w test (suc n) l = rw (all_rows_lem w test n (drop w l))

-- ---- picks

abbrev pick : List ℕ → ℕ
pick b = number16 b 0

pick_front : (l : List ℕ) → pick (take pick_width l) ≡ pick l
pick_front l = rw (front pick_width l 0 tt, front pick_width l 1 tt)

pub picks_take : (a : ℕ) (l : List ℕ) → picks_of (take (a * pick_width) l) ≡ take a (picks_of l)
unfolding picks_of
picks_take a l = go (dec_le a (length l / pick_width))
  where
    go : Dec (a ≤ length l / pick_width) → all_rows pick_width pick (take (a * pick_width) l) ≡ take a (all_rows pick_width pick l)
    go (yes h) =
        let n : length (take (a * pick_width) l) ≡ a * pick_width = length-take-le (a * pick_width) l (omega arith) in
        let m : length (take (a * pick_width) l) / pick_width ≡ a = omega arith in
        ap (λ (k : ℕ). rows pick_width pick k (take (a * pick_width) l)) m
        ∙ rows_own pick_width pick (own pick_width pick pick_front) a (take (a * pick_width) l) l (take-take (a * pick_width) (a * pick_width) l (omega arith))
        ∙ sym (take_rows pick_width pick a (length l / pick_width) l h)
    go (no n) =
        ap (all_rows pick_width pick) (take_all (a * pick_width) l (omega arith))
        ∙ sym (take_all a (all_rows pick_width pick l) (omega (arith, length_rows pick_width pick (length l / pick_width) l)))

pub picks_drop : (a : ℕ) (l : List ℕ) → picks_of (drop (a * pick_width) l) ≡ drop a (picks_of l)
unfolding picks_of
picks_drop a l = go (dec_le a (length l / pick_width))
  where
    go : Dec (a ≤ length l / pick_width) → all_rows pick_width pick (drop (a * pick_width) l) ≡ drop a (all_rows pick_width pick l)
    go (yes h) =
        let d : length l / pick_width ≡ a + (length l / pick_width - a) = omega arith in
        let m : length (drop (a * pick_width) l) / pick_width ≡ length l / pick_width - a = omega (arith, length-drop (a * pick_width) l) in
        ap (λ (k : ℕ). rows pick_width pick k (drop (a * pick_width) l)) m
        ∙ sym (drop_rows pick_width pick a (length l / pick_width - a) l)
        ∙ ap (λ (k : ℕ). drop a (rows pick_width pick k l)) (sym d)
    go (no n) =
        let few : length l ≤ a * pick_width = omega arith in
        let less : length (all_rows pick_width pick l) ≤ a = omega (arith, length_rows pick_width pick (length l / pick_width) l) in
        ap (all_rows pick_width pick) (drop_of_length-le l few) ∙ sym (drop_of_length-le (all_rows pick_width pick l) less)
