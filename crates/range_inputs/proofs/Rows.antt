-- The inputs as handles, row by row: how many bytes they are (`length_handles`), that each row has its input's fields (`fields_each`), that they grow at their end
-- (`put_next`). Assumes nothing.
use Prim.Native.Nat.{ℕ, zero, suc, ◌+◌, ◌*◌, ◌/◌, ◌≤◌}
use mathlib.Core.Path.{◌≡◌, refl, sym, ap, ◌∙◌}
use mathlib.Core.List.{List, [], ◌∷◌, ◌++◌, append_assoc, append-nil}
use native.Mathlib.Omega.{arith}
use native.Mathlib.Nat.{suc-mul, zero-mul, add-zero, add_comm}
use native.Mathlib.Numerals.{add-one}
use lib.ListN.{length, take, drop, length-append}
use lib.Seq.{drop-cons, take_at, drop-append-add, drop-drop}
use Rattle.number.specs.Number.{byte_at}
use Rattle.buffer.specs.Rows.{put_row, rows, all_rows}
use Rattle.record.specs.Widths.{token_width, range_token_width}
use Rattle.machine.specs.InStep.{PlaceByPlace, no_more, pair}
use Rattle.rules.proofs.Ranges.{SameFields}
use Rattle.range_inputs.specs.Handles.{bytes_from, handle_bytes, handles_from, handles_of}

-- ---- one row

-- the bytes of a part, one by one
pub front_bytes : (n k : ℕ) (l : List ℕ) → k + n ≤ length l → take n (drop k l) ≡ bytes_from n k l
front_bytes zero k l h = refl
front_bytes (suc n) k l h = rw (drop-cons l k 0 (omega arith)) (ap (λ (b : List ℕ). byte_at l k ∷ b) (front_bytes n (suc k) l (omega arith)))

pub length_row : (h : ℕ) (l : List ℕ) → length (handle_bytes h l) ≡ token_width
unfolding handle_bytes
length_row h l = refl

pub row_fields : (h : ℕ) (l rest : List ℕ) → SameFields l (handle_bytes h l ++ rest)
unfolding handle_bytes
row_fields h l rest = record { tag = refl; port = refl; state = refl }

pub row_past : (h : ℕ) (l rest : List ℕ) → drop token_width (handle_bytes h l ++ rest) ≡ rest
unfolding handle_bytes
row_past h l rest = refl

-- ---- all rows

pub length_handles : (h n : ℕ) (l : List ℕ) → length (handles_from h n l) ≡ n * token_width
unfolding handles_from
length_handles h zero l = refl
length_handles h (suc n) l =
    length-append (handle_bytes h l) (handles_from (suc h) n (drop range_token_width l)) ∙ omega (arith, length_row h l, length_handles (suc h) n (drop range_token_width l))

fields_from : (h n : ℕ) (l rest : List ℕ) → PlaceByPlace SameFields (rows range_token_width (λ b. b) n l) (rows token_width (λ b. b) n (handles_from h n l ++ rest))
unfolding handles_from
fields_from h zero l rest = no_more
fields_from h (suc n) l rest =
    let more = handles_from (suc h) n (drop range_token_width l) in
    rw (append_assoc (handle_bytes h l) more rest, row_past h l (more ++ rest)) (pair (row_fields h l (more ++ rest)) (fields_from (suc h) n (drop range_token_width l) rest))

-- the next row stands at the end
from_end : (h n : ℕ) (l : List ℕ) → handles_from h (suc n) l ≡ handles_from h n l ++ handle_bytes (h + n) (drop (n * range_token_width) l)
unfolding handles_from
from_end h zero l = append-nil (handle_bytes h l) ∙ ap (λ (k : ℕ). handle_bytes k l) (sym (add-zero h))
from_end h (suc n) l =
    let more = handles_from (suc h) n (drop range_token_width l) in
    let at : drop (n * range_token_width) (drop range_token_width l) ≡ drop (suc n * range_token_width) l = rw (drop-drop (n * range_token_width) range_token_width l, suc-mul n range_token_width, add_comm (n * range_token_width) range_token_width) in
    let next : suc h + n ≡ h + suc n = omega arith in
    ap (λ (m : List ℕ). handle_bytes h l ++ m) (from_end (suc h) n (drop range_token_width l) ∙ (λ i. more ++ handle_bytes (next i) (at i)))
    ∙ sym (append_assoc (handle_bytes h l) more (handle_bytes (h + suc n) (drop (suc n * range_token_width) l)))

pub rows_next : {A : Type 0} (w : ℕ) (read : List ℕ → A) (n : ℕ) (l : List ℕ) → rows w read (suc n) l ≡ rows w read n l ++ read (drop (n * w) l) ∷ []
rows_next w read zero l = rw (zero-mul w)
rows_next w read (suc n) l =
    ap (λ (xs : List _). read l ∷ xs) (rows_next w read n (drop w l) ∙ rw (drop-drop (n * w) w l, suc-mul n w, add_comm (n * w) w))

-- a row that is put behind the first i
pub put_next : (i : ℕ) (l m : List ℕ) → put_row token_width (handles_from 1 i l ++ drop (i * token_width) m) i (handle_bytes (i + 1) (drop (i * range_token_width) l)) ≡ handles_from 1 (i + 1) l ++ drop ((i + 1) * token_width) m
unfolding put_row
put_next i l m =
    let x = handles_from 1 i l in
    let r = drop (i * token_width) m in
    let b = handle_bytes (i + 1) (drop (i * range_token_width) l) in
    let e : length x ≡ i * token_width = length_handles 1 i l in
    let one : i * token_width + token_width ≡ (i + 1) * token_width = omega arith in
    let next : 1 + i ≡ i + 1 = omega arith in
    let past : drop (i * token_width + token_width) (x ++ r) ≡ drop ((i + 1) * token_width) m =
    ap (λ (k : ℕ). drop (k + token_width) (x ++ r)) (sym e) ∙ drop-append-add x r token_width ∙ drop-drop token_width (i * token_width) m ∙ ap (λ (k : ℕ). drop k m) one in
    let grown : x ++ b ≡ handles_from 1 (i + 1) l = sym (ap (λ (k : ℕ). handles_from 1 k l) (add-one i) ∙ from_end 1 i l ∙ ap (λ (k : ℕ). x ++ handle_bytes k (drop (i * range_token_width) l)) next) in
    rw (take_at x r (i * token_width) e, past) (sym (append_assoc x b (drop ((i + 1) * token_width) m)) ∙ ap (λ (y : List ℕ). y ++ drop ((i + 1) * token_width) m) grown)

-- ---- all inputs

module _ (inputs : List ℕ) where
  abbrev n : ℕ
  n = length inputs / range_token_width

  pub handles_count : length (handles_of inputs) / token_width ≡ n
  unfolding handles_of
  handles_count = omega (arith, length_handles 1 n inputs)

  pub fields_each : PlaceByPlace SameFields (all_rows range_token_width (λ b. b) inputs) (all_rows token_width (λ b. b) (handles_of inputs))
  unfolding handles_of
  fields_each =
      rw handles_count
      (rw (append-nil (handles_from 1 n inputs)) at (fields_from 1 n inputs []))
