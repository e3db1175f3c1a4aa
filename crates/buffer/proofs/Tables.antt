-- Laws of a table of records, for any width and any kind of record. Assumes nothing.
use Prim.Native.Nat.{ℕ, zero, suc, ◌+◌, ◌-◌, ◌*◌, ◌≤◌, ◌<◌}
use native.Mathlib.Omega.{arith}
use mathlib.Core.Path.{◌≡◌, refl, sym, ap, ◌∙◌}
use mathlib.Core.List.{List, [], ◌∷◌, ◌++◌, append_assoc, append-nil}
use native.Mathlib.Nat.{not-suc-le-zero, le_of_suc-le-suc, suc-mul, zero-mul, add_comm, add_assoc, zero-add}
use lib.ListN.{length, get_or, take, drop, set, length-append, length-drop, take-append-drop}
use lib.Seq.{take-add, take_at, take_all, length-take-le, drop_at, drop-drop, take-append-add, drop-append-add}
use Rattle.buffer.specs.Rows.{written, put_row, joined, rows, All}

-- ---- one record replaced

pub written_row : (w : ℕ) (l : List ℕ) (i : ℕ) (b : List ℕ) → length b ≡ w → written l (i * w) b ≡ put_row w l i b
unfolding written put_row
written_row w l i b e = rw e

module _ (w : ℕ) (b : List ℕ) where
  put_empty : (r : List ℕ) → put_row w r 0 b ≡ b ++ drop w r
  unfolding put_row
  put_empty r = rw (zero-mul w, zero-add w)

  module _ (x l : List ℕ) (e : length x ≡ w) where
    put_first : put_row w (x ++ l) 0 b ≡ b ++ l
    put_first = put_empty (x ++ l) ∙ ap (λ (r : List ℕ). b ++ r) (drop_at x l w e)

    put_later : (i : ℕ) → put_row w (x ++ l) (suc i) b ≡ x ++ put_row w l i b
    unfolding put_row
    put_later i =
        let q : suc i * w ≡ length x + i * w = suc-mul i w ∙ add_comm (i * w) w ∙ ap (λ (k : ℕ). k + i * w) (sym e) in
        rw (q, add_assoc (length x) (i * w) w, take-append-add x l (i * w), drop-append-add x l (i * w + w))
        (append_assoc x (take (i * w) l) (b ++ drop (i * w + w) l))

-- ---- the records of a list

module _ {A : Type 0} (w : ℕ) (enc : A → List ℕ) (len : (a : A) → length (enc a) ≡ w) where
  pub length_joined : (xs : List A) → length (joined enc xs) ≡ length xs * w
  length_joined [] = sym (zero-mul w)
  length_joined (x ∷ xs) = length-append (enc x) (joined enc xs) ∙ rw (len x, length_joined xs) (add_comm w (length xs * w) ∙ sym (suc-mul (length xs) w))

  -- one is replaced
  pub put_joined : (xs : List A) (r : List ℕ) (i : ℕ) (a : A) → i < length xs → put_row w (joined enc xs ++ r) i (enc a) ≡ joined enc (set xs i a) ++ r
  put_joined [] r i a h = absurd (not-suc-le-zero h)
  put_joined (x ∷ xs) r zero a h =
      rw (append_assoc (enc x) (joined enc xs) r, append_assoc (enc a) (joined enc xs) r) (put_first w (enc a) (enc x) (joined enc xs ++ r) (len x))
  put_joined (x ∷ xs) r (suc i) a h =
      rw (
        append_assoc (enc x) (joined enc xs) r,
        append_assoc (enc x) (joined enc (set xs i a)) r,
        put_later w (enc a) (enc x) (joined enc xs ++ r) (len x) i,
        put_joined xs r i a (le_of_suc-le-suc h),
      )

  -- one is added at the end
  pub put_end : (xs : List A) (r : List ℕ) (a : A) → put_row w (joined enc xs ++ r) (length xs) (enc a) ≡ joined enc (xs ++ a ∷ []) ++ drop w r
  put_end [] r a = rw (append-nil (enc a)) (put_empty w (enc a) r)
  put_end (x ∷ xs) r a =
      rw (
        append_assoc (enc x) (joined enc xs) r,
        append_assoc (enc x) (joined enc (xs ++ a ∷ [])) (drop w r),
        put_later w (enc a) (enc x) (joined enc xs ++ r) (len x) (length xs),
        put_end xs r a,
      )

  -- they are read back
  pub rows_joined : (dec : List ℕ → A) (P : A → Type 0) → ((a : A) (r : List ℕ) → P a → dec (enc a ++ r) ≡ a)
      → (xs : List A) (r : List ℕ) → All P xs → rows w dec (length xs) (joined enc xs ++ r) ≡ xs
  rows_joined dec P back [] r f = refl
  rows_joined dec P back (x ∷ xs) r f =
      rw (append_assoc (enc x) (joined enc xs) r, back x (joined enc xs ++ r) f.0, drop_at (enc x) (joined enc xs ++ r) w (len x), rows_joined dec P back xs r f.1)

-- ---- what the records hold

module _ {A : Type 0} (w : ℕ) (dec : List ℕ → A) where
  pub length_rows : (n : ℕ) (l : List ℕ) → length (rows w dec n l) ≡ n
  length_rows zero l = refl
  length_rows (suc n) l = ap suc (length_rows n (drop w l))

  pub get_d_rows : (n i : ℕ) (l : List ℕ) (d : A) → i < n → get_or (rows w dec n l) i d ≡ dec (drop (i * w) l)
  get_d_rows zero i l d h = absurd (not-suc-le-zero h)
  get_d_rows (suc n) zero l d h = rw (zero-mul w)
  get_d_rows (suc n) (suc i) l d h =
      get_d_rows n i (drop w l) d (le_of_suc-le-suc h) ∙ rw (drop-drop (i * w) w l, suc-mul i w, add_comm (i * w) w)

-- the part of a slice from a place to its end
pub tail_part : (at : ℕ) (l : List ℕ) → take (length l - at) (drop at l) ≡ drop at l
tail_part at l = take_all (length l - at) (drop at l) (omega (arith, length-drop at l))

-- ---- the same of any bytes, where a record is read from its own w bytes alone

module _ {A : Type 0} (w : ℕ) (dec : List ℕ → A) (own : (l m : List ℕ) → take w l ≡ take w m → dec l ≡ dec m) (b : List ℕ) (a : A) (len : length b ≡ w) (back : (r : List ℕ) → dec (b ++ r) ≡ a) where
  pub rows_put : (n i : ℕ) (l : List ℕ) → i < n → n * w ≤ length l → rows w dec n (put_row w l i b) ≡ set (rows w dec n l) i a
  rows_put zero i l h k = absurd (not-suc-le-zero h)
  rows_put (suc n) zero l h k = rw (put_empty w b l, back (drop w l), drop_at b (drop w l) w len)
  rows_put (suc n) (suc i) l h k =
      let k' : n * w + w ≤ length l = rw (suc-mul n w) at k in
      let e : length (take w l) ≡ w = length-take-le w l (omega arith) in
      let p : put_row w l (suc i) b ≡ take w l ++ put_row w (drop w l) i b =
      ap (λ (m : List ℕ). put_row w m (suc i) b) (sym (take-append-drop w l)) ∙ put_later w b (take w l) (drop w l) e i in
      let q = own (take w l ++ put_row w (drop w l) i b) l (take_at (take w l) (put_row w (drop w l) i b) w e) in
      rw (p, q, drop_at (take w l) (put_row w (drop w l) i b) w e, rows_put n i (drop w l) (le_of_suc-le-suc h) (omega (arith, length-drop w l)))

  -- the record after the last of n
  pub rows_end : (n : ℕ) (l : List ℕ) → suc n * w ≤ length l → rows w dec (suc n) (put_row w l n b) ≡ rows w dec n l ++ a ∷ []
  rows_end zero l k = rw (put_empty w b l, back (drop w l))
  rows_end (suc n) l k =
      let k' : suc n * w + w ≤ length l = rw (suc-mul (suc n) w) at k in
      let e : length (take w l) ≡ w = length-take-le w l (omega arith) in
      let p : put_row w l (suc n) b ≡ take w l ++ put_row w (drop w l) n b =
      ap (λ (m : List ℕ). put_row w m (suc n) b) (sym (take-append-drop w l)) ∙ put_later w b (take w l) (drop w l) e n in
      let q = own (take w l ++ put_row w (drop w l) n b) l (take_at (take w l) (put_row w (drop w l) n b) w e) in
      let ih = rows_end n (drop w l) (omega (arith, length-drop w l)) in
      rw (p, q, drop_at (take w l) (put_row w (drop w l) n b) w e) (ap (λ (xs : List A). dec l ∷ xs) ih)

-- the records themselves, byte for byte
pub rows_raw : (w n : ℕ) (l : List ℕ) → joined (λ (b : List ℕ). b) (rows w (take w) n l) ≡ take (n * w) l
rows_raw w zero l = rw (zero-mul w)
rows_raw w (suc n) l = rw (rows_raw w n (drop w l), suc-mul n w, add_comm (n * w) w) (sym (take-add w (n * w) l))
