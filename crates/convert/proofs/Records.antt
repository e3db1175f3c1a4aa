-- Old records made new ones: byte by byte, one more at the end of those before it, and what is read from them. Assumes nothing.
use Prim.Native.Nat.{ℕ, zero, suc, ◌+◌, ◌-◌, ◌*◌, ◌/◌, ◌≤◌, ◌<◌}
use mathlib.Core.Path.{◌≡◌, refl, sym, ap, ◌∙◌}
use mathlib.Core.List.{List, [], ◌∷◌, ◌++◌, append_assoc, append-nil}
use native.Mathlib.Omega.{arith}
use native.Mathlib.Nat.{suc-mul, zero-mul, add_comm, not-suc-le-zero, le_of_suc-le-suc, mul-le-mul_right, div-mul-le_self}
use lib.ListN.{length, take, drop, replicate, length-append, length-drop}
use lib.Seq.{get_or-drop, length-take-le, take_at, take-append-add, drop_at, drop-append-add, drop-drop}
use Rattle.number.specs.Number.{byte_at}
use Rattle.buffer.specs.Rows.{rows, all_rows, joined, written_over, written, put_row, All}
use Rattle.record.specs.Widths.{token_width}
use Rattle.convert.specs.Convert.{token_rest, widened}
use Rattle.convert.specs.Before.{old_width}

-- ---- a record, byte by byte

-- f 0, f 1, .., n of them
abbrev firsts : ℕ → (ℕ → ℕ) → List ℕ
firsts zero f = []
firsts (suc n) f = f 0 ∷ firsts n (λ k. f (suc k))

take_firsts : (n : ℕ) (l : List ℕ) → n ≤ length l → take n l ≡ firsts n (byte_at l)
take_firsts zero l h = refl
take_firsts (suc n) [] h = absurd (not-suc-le-zero h)
take_firsts (suc n) (x ∷ l) h = ap (λ (m : List ℕ). x ∷ m) (take_firsts n l (le_of_suc-le-suc h))

firsts_same : (n : ℕ) (f g : ℕ → ℕ) → ((k : ℕ) → f k ≡ g k) → firsts n f ≡ firsts n g
firsts_same zero f g e = refl
firsts_same (suc n) f g e = λ i. e 0 i ∷ firsts_same n (λ k. f (suc k)) (λ k. g (suc k)) (λ k. e (suc k)) i

abbrev pub wide : List ℕ → List ℕ
wide l = firsts 8 (byte_at l) ++ replicate 8 0 ++ firsts 12 (λ k. byte_at l (8 + k))

pub widened_is : (l : List ℕ) → old_width ≤ length l → widened token_rest l ≡ wide l
unfolding widened
widened_is l h =
    let first = take_firsts 8 l (omega arith) in
    let later = take_firsts 12 (drop 8 l) (omega (arith, length-drop 8 l)) ∙ firsts_same 12 (byte_at (drop 8 l)) (λ k. byte_at l (8 + k)) (λ k. get_or-drop 8 l k 0) in
    λ i. first i ++ replicate 8 0 ++ later i

pub length_widened : (rest : ℕ) (l : List ℕ) → 8 + rest ≤ length l → length (widened rest l) ≡ 16 + rest
unfolding widened
length_widened rest l h =
    omega (arith, length-append (take 8 l ++ replicate 8 0) (take rest (drop 8 l)), length-append (take 8 l) (replicate 8 0), length-take-le 8 l (omega arith), length-take-le rest (drop 8 l) (omega (arith, length-drop 8 l)))

-- ---- the records of a list

abbrev pub together : List (List ℕ) → List ℕ
together rs = joined (λ (r : List ℕ). r) rs

together_append : (rs qs : List (List ℕ)) → together (rs ++ qs) ≡ together rs ++ together qs
together_append [] qs = refl
together_append (r ∷ rs) qs = ap (λ (l : List ℕ). r ++ l) (together_append rs qs) ∙ sym (append_assoc r (together rs) (together qs))

rows_more : (w : ℕ) (f : List ℕ → List ℕ) (n : ℕ) (l : List ℕ) → rows w f (suc n) l ≡ rows w f n l ++ f (drop (n * w) l) ∷ []
rows_more w f zero l = rw (zero-mul w)
rows_more w f (suc n) l = ap (λ (rs : List (List ℕ)). f l ∷ rs) (rows_more w f n (drop w l) ∙ rw (drop-drop (n * w) w l, suc-mul n w, add_comm (n * w) w))

-- records of w bytes made records of v
module _ (w v : ℕ) (f : List ℕ → List ℕ) (len : (l : List ℕ) → w ≤ length l → length (f l) ≡ v) where
  pub length_wide : (n : ℕ) (l : List ℕ) → n * w ≤ length l → length (together (rows w f n l)) ≡ n * v
  length_wide zero l h = sym (zero-mul v)
  length_wide (suc n) l h =
      let k : n * w + w ≤ length l = rw (suc-mul n w) at h in
      length-append (f l) (together (rows w f n (drop w l)))
      ∙ rw (len l (omega arith), length_wide n (drop w l) (omega (arith, length-drop w l))) (add_comm v (n * v) ∙ sym (suc-mul n v))

  -- what is written over the old records, and then made wide, is what is written over the wide ones
  module _ {A : Type 0} (P : A → Type 0) (old new : A → List ℕ) (lenOld : (a : A) → length (old a) ≡ w) (lenNew : (a : A) → length (new a) ≡ v)
      (widens : (a : A) → P a → (r : List ℕ) → f (old a ++ r) ≡ new a) where
    pub wide_over : (xs : List A) → All P xs → (n : ℕ) (lent : List ℕ) → length xs ≤ n → n * w ≤ length lent
        → together (rows w f n (joined old xs ++ drop (length (joined old xs)) lent)) ≡ joined new xs ++ drop (length (joined new xs)) (together (rows w f n lent))
    wide_over [] p n lent h k = refl
    wide_over (x ∷ xs) p zero lent h k = absurd (not-suc-le-zero h)
    wide_over (x ∷ xs) p (suc n) lent h k =
        let j : n * w + w ≤ length lent = rw (suc-mul n w) at k in
        let olds = joined old xs in
        let news = joined new xs in
        let rest = olds ++ drop (length olds) (drop w lent) in
        let wide = together (rows w f n (drop w lent)) in
        let e : length (old x ++ olds) ≡ w + length olds = length-append (old x) olds ∙ ap (λ (m : ℕ). m + length olds) (lenOld x) in
        let d : length (new x ++ news) ≡ length (f lent) + length news = length-append (new x) news ∙ ap (λ (m : ℕ). m + length news) (lenNew x ∙ sym (len lent (omega arith))) in
        let left : (old x ++ olds) ++ drop (length (old x ++ olds)) lent ≡ old x ++ rest =
        append_assoc (old x) olds _ ∙ ap (λ (l : List ℕ). old x ++ (olds ++ l)) (ap (λ (m : ℕ). drop m lent) e ∙ sym (drop-drop (length olds) w lent)) in
        let right : (new x ++ news) ++ drop (length (new x ++ news)) (f lent ++ wide) ≡ new x ++ (news ++ drop (length news) wide) =
        append_assoc (new x) news _ ∙ ap (λ (l : List ℕ). new x ++ (news ++ l)) (ap (λ (m : ℕ). drop m (f lent ++ wide)) d ∙ drop-append-add (f lent) wide (length news)) in
        ap (λ (l : List ℕ). together (rows w f (suc n) l)) left
        ∙ (λ i. widens x p.0 rest i ++ together (rows w f n (drop_at (old x) rest w (lenOld x) i)))
        ∙ ap (λ (l : List ℕ). new x ++ l) (wide_over xs p.1 n (drop w lent) (le_of_suc-le-suc h) (omega (arith, length-drop w lent)))
        ∙ sym right

    -- of a whole buffer
    pub wide_written : (xs : List A) → All P xs → (lent : List ℕ) → length xs ≤ length lent / w → length lent / w * w ≤ length lent → length (joined old xs) ≤ length lent
        → written_over new xs (together (rows w f (length lent / w) lent)) ≡ together (all_rows w f (written_over old xs lent))
    wide_written xs p lent h k j =
        let size : length (joined old xs ++ drop (length (joined old xs)) lent) ≡ length lent =
        omega (arith, length-append (joined old xs) (drop (length (joined old xs)) lent), length-drop (length (joined old xs)) lent) in
        rw size (sym (wide_over xs p (length lent / w) lent h k))

-- ---- one more record written

take_put : (w : ℕ) (out b : List ℕ) (k : ℕ) → k * w ≤ length out → length b ≡ w → take (k * w + w) (put_row w out k b) ≡ take (k * w) out ++ b
unfolding put_row
take_put w out b k h e =
    let r = drop (k * w + w) out in
    let q = take-append-add (take (k * w) out) (b ++ r) w in
    (rw (length-take-le (k * w) out h) at q) ∙ ap (λ (m : List ℕ). take (k * w) out ++ m) (take_at b r w e)

pub one_more : (rest : ℕ) (old out : List ℕ) (i : ℕ) → i * (8 + rest) + (8 + rest) ≤ length old → i * (16 + rest) ≤ length out
    → take (i * (16 + rest)) out ≡ together (rows (8 + rest) (widened rest) i old)
    → take ((i + 1) * (16 + rest)) (put_row (16 + rest) out i (widened rest (drop (i * (8 + rest)) old))) ≡ together (rows (8 + rest) (widened rest) (i + 1) old)
one_more rest old out i h e before =
    let w = 8 + rest in
    let v = 16 + rest in
    let b = widened rest (drop (i * w) old) in
    let r : i + 1 ≡ suc i = omega arith in
    let q : (i + 1) * v ≡ i * v + v = ap (λ (n : ℕ). n * v) r ∙ suc-mul i v in
    let more : together (rows w (widened rest) (i + 1) old) ≡ together (rows w (widened rest) i old) ++ b =
    ap (λ (n : ℕ). together (rows w (widened rest) n old)) r ∙ ap together (rows_more w (widened rest) i old)
    ∙ together_append (rows w (widened rest) i old) (b ∷ []) ∙ ap (λ (l : List ℕ). together (rows w (widened rest) i old) ++ l) (append-nil b) in
    rw (q, take_put v out b i e (length_widened rest (drop (i * w) old) (omega (arith, length-drop (i * w) old))), before) (sym more)

-- record i of as many as there are stands within both buffers
pub inside_old : (rest : ℕ) (old : List ℕ) (i : ℕ) → i < length old / (8 + rest) → i * (8 + rest) + (8 + rest) ≤ length old
inside_old rest old i h = omega (arith, suc-mul i (8 + rest), mul-le-mul_right {m = suc i} (8 + rest) h, div-mul-le_self (length old) (8 + rest))

pub inside_new : (rest : ℕ) (old out : List ℕ) (i : ℕ) → length out ≡ length old / (8 + rest) * (16 + rest) → i < length old / (8 + rest) → i * (16 + rest) + (16 + rest) ≤ length out
inside_new rest old out i e h = omega (arith, suc-mul i (16 + rest), mul-le-mul_right {m = suc i} (16 + rest) h)

-- ---- a record written in parts

-- what is written right behind what was written
write_on : (l a b : List ℕ) (at : ℕ) → at + length a ≤ length l → written (written l at a) (at + length a) b ≡ written l at (a ++ b)
unfolding written
write_on l a b at h =
    let front = take at l in
    let rest = drop (at + length a) l in
    let n : length front ≡ at = length-take-le at l (omega arith) in
    let s : length (front ++ a) ≡ at + length a = length-append front a ∙ ap (λ (m : ℕ). m + length a) n in
    let same : front ++ (a ++ rest) ≡ (front ++ a) ++ rest = sym (append_assoc front a rest) in
    let taken : take (at + length a) (front ++ (a ++ rest)) ≡ front ++ a = ap (take (at + length a)) same ∙ take_at (front ++ a) rest (at + length a) s in
    let end : at + length a + length b ≡ at + length (a ++ b) = omega (arith, length-append a b) in
    let dropped : drop (at + length a + length b) (front ++ (a ++ rest)) ≡ drop (at + length (a ++ b)) l =
    ap (drop (at + length a + length b)) same
    ∙ ap (λ (m : ℕ). drop (m + length b) ((front ++ a) ++ rest)) (sym s)
    ∙ drop-append-add (front ++ a) rest (length b)
    ∙ drop-drop (length b) (at + length a) l
    ∙ ap (λ (m : ℕ). drop m l) end in
    (λ i. taken i ++ (b ++ dropped i)) ∙ append_assoc front a (b ++ drop (at + length (a ++ b)) l) ∙ ap (λ (m : List ℕ). front ++ m) (sym (append_assoc a b (drop (at + length (a ++ b)) l)))

as_row : (l b : List ℕ) (i w : ℕ) → length b ≡ w → written l (i * w) b ≡ put_row w l i b
unfolding written put_row
as_row l b i w e = ap (λ (n : ℕ). take (i * w) l ++ (b ++ drop (i * w + n) l)) e

-- the three parts of a record, written in turn, are the record
pub parts_put : (rest : ℕ) (old row out a b c : List ℕ) (i : ℕ) → i * (8 + rest) + (8 + rest) ≤ length old → i * (16 + rest) + (16 + rest) ≤ length out
    → row ≡ drop (i * (8 + rest)) old
    → a ≡ written out (i * (16 + rest)) (take 8 row)
    → b ≡ written a (i * (16 + rest) + 8) (replicate 8 0)
    → c ≡ written b (i * (16 + rest) + 16) (take (8 + rest - 8) (drop 8 row))
    → c ≡ put_row (16 + rest) out i (widened rest (drop (i * (8 + rest)) old))
unfolding widened
parts_put rest old row out a b c i h k from first zeros last =
    let at = i * (16 + rest) in
    let path = take 8 row in
    let z : List ℕ = replicate 8 0 in
    let behind = take rest (drop 8 row) in
    let long : 8 + rest ≤ length row = rw from (omega (arith, length-drop (i * (8 + rest)) old)) in
    let n : length path ≡ 8 = length-take-le 8 row (omega arith) in
    let m : length (path ++ z) ≡ 16 = length-append path z ∙ rw n in
    let o : length (path ++ z ++ behind) ≡ 16 + rest = length-append (path ++ z) behind ∙ rw (m, length-take-le rest (drop 8 row) (omega (arith, length-drop 8 row))) in
    let two : b ≡ written out at (path ++ z) = zeros ∙ ap (λ (l : List ℕ). written l (at + 8) z) first ∙ (rw n at (write_on out path z at (omega arith))) in
    let less : 8 + rest - 8 ≡ rest = omega arith in
    let all : c ≡ written out at (path ++ z ++ behind) =
    last ∙ (λ j. written (two j) (at + 16) (take (less j) (drop 8 row))) ∙ (rw m at (write_on out (path ++ z) behind at (omega arith))) in
    all ∙ as_row out (path ++ z ++ behind) i (16 + rest) o ∙ ap (λ (l : List ℕ). put_row (16 + rest) out i (take 8 l ++ z ++ take rest (drop 8 l))) from

-- ---- what is read from the new records

module _ {A : Type 0} (f h : List ℕ → A) (reads : (l r : List ℕ) → f (wide l ++ r) ≡ h l) where
  pub rows_wide : (n : ℕ) (l : List ℕ) → n * old_width ≤ length l → rows token_width f n (together (rows old_width (widened token_rest) n l)) ≡ rows old_width h n l
  rows_wide zero l e = refl
  rows_wide (suc n) l e =
      let rest = together (rows old_width (widened token_rest) n (drop old_width l)) in
      let w = widened_is l (omega arith) in
      rw (w, reads l rest, rows_wide n (drop old_width l) (omega (arith, length-drop old_width l)))
