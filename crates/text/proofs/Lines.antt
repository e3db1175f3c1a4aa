-- Lemmas on texts put one after another. Assumes nothing.
use Prim.Native.Nat.{ℕ, zero, suc, ◌+◌, ◌-◌, ◌/◌, ◌%◌, ◌≤◌, ◌<◌}
use native.Mathlib.Omega.{arith}
use mathlib.Core.Path.{◌≡◌, refl, sym, ap, ◌∙◌}
use mathlib.Core.List.{List, [], ◌∷◌, ◌++◌, append_assoc}
use lib.ListN.{length, take, drop, set, length-append, length-drop, length-set, take-append-drop}
use lib.Seq.{take-set-le, set_split, take_at, drop_at, take-add, take-take, drop-drop, length-take-le}
use Rattle.buffer.specs.Rows.{written}
use Rattle.rules.specs.Answer.{number_of}
use Rattle.rules.specs.declared.answer.Outcome.{Outcome}
use Rattle.rules.specs.declared.answer.Outcome.TheVariants.{Completed, Hung, Spent, Refused}
use Rattle.text.specs.Words.{bytes}
use Rattle.text.specs.Text.{digit, decimal, line, outcome_fields}
use Rattle.text.specs.Lines.{RoomForText, AddedText, last_digits, spaced}
use Rattle.text.proofs.Decimals.{length_last}

-- a text
pub added_written : (l : List ℕ) (at : ℕ) (w : List ℕ) → at + length w ≤ length l → AddedText l (written l at w) at (at + length w) w
unfolding written
added_written l at w h =
    let d = drop (at + length w) l in
    let e : length (take at l ++ w) ≡ at + length w = length-append (take at l) w ∙ rw (length-take-le at l (omega arith)) refl in
    record {
      kept = rw (← append_assoc (take at l) w d) (omega (arith, length-append (take at l ++ w) d, length-drop (at + length w) l));
      place = refl;
      bytes = rw (← append_assoc (take at l) w d) (take_at (take at l ++ w) d (at + length w) e);
      behind = rw (← append_assoc (take at l) w d) (drop_at (take at l ++ w) d (at + length w) e);
    }

-- one text after another
pub both : {l m n : List ℕ} {at k r : ℕ} {s t : List ℕ} → AddedText l m at k s → AddedText m n k r t → AddedText l n at r (s ++ t)
both {l} {m} {n} {at} {k} {r} {s} {t} a b =
    let e : drop r m ≡ drop r l = rw (b.place, ← drop-drop (length t) k m, ← drop-drop (length t) k l, a.behind) in
    record {
      kept = b.kept ∙ a.kept;
      place = b.place ∙ omega (arith, a.place, length-append s t);
      bytes = b.bytes ∙ ap (λ (x : List ℕ). x ++ t) a.bytes ∙ append_assoc (take at l) s t;
      behind = b.behind ∙ e;
    }

-- a text at the start, and behind it what was there
pub from_start : {l m : List ℕ} {r : ℕ} {t : List ℕ} → AddedText l m 0 r t → (r ≡ length t) × (m ≡ t ++ drop (length t) l)
from_start {l} {m} {r} {t} a =
    let e : r ≡ length t = omega (arith, a.place) in
    (e, sym (take-append-drop r m) ∙ rw (a.bytes, a.behind, e))

-- ---- digits put from the last one on: `left` of them are still to come, those of `rest`

module _ (lent : List ℕ) (at k n : ℕ) where
  pub record Putting (out : List ℕ) (rest left : ℕ) : Type 0 where
    pub few : left ≤ k
    pub kept : length out ≡ length lent
    pub front : take (at + left) out ≡ take (at + left) lent
    pub digits : last_digits left rest ++ drop (at + left) out ≡ last_digits k n ++ drop (at + k) lent

  pub putting_next : (out : List ℕ) (rest left : ℕ) → at + k ≤ length lent → 0 < left → Putting out rest left
      → Putting (set out (at + (left - 1)) (digit (rest % 10))) (rest / 10) (left - 1)
  putting_next out rest zero h z p = absurd (omega arith)
  putting_next out rest (suc m) h z p =
      let e : suc m - 1 ≡ m = omega arith in
      let i = at + m in
      let a : at + suc m ≡ suc i = omega arith in
      let lt : i < length out = omega (arith, p.few, p.kept) in
      let d = digit (rest % 10) in
      let f : take i out ≡ take i lent =
      sym (take-take i (suc i) out (omega arith)) ∙ ap (take i) (rw a at p.front) ∙ take-take i (suc i) lent (omega arith) in
      let g : drop i (set out i d) ≡ d ∷ drop (suc i) out = rw (set_split out i d lt) (drop_at (take i out) (d ∷ drop (suc i) out) i (length-take-le i out (omega arith))) in
      rw e (record {
        few = omega (arith, p.few);
        kept = length-set out i d ∙ p.kept;
        front = take-set-le i out i d (omega arith) ∙ f;
        digits = rw (g, ← append_assoc (last_digits m (rest / 10)) (d ∷ []) (drop (suc i) out)) (rw a at p.digits);
      })

  pub putting_last : (out : List ℕ) (rest left : ℕ) → at + k ≤ length lent → left ≤ 0 → Putting out rest left → AddedText lent out at (at + k) (last_digits k n)
  putting_last out rest (suc m) h z p = absurd (omega arith)
  putting_last out rest zero h z p =
      let a : at + 0 ≡ at = omega arith in
      let b : drop at out ≡ last_digits k n ++ drop (at + k) lent = rw a at p.digits in
      record {
        kept = p.kept;
        place = omega (arith, length_last k n);
        bytes = take-add at k out ∙ rw (b, rw a at p.front, take_at (last_digits k n) (drop (at + k) lent) k (length_last k n));
        behind = sym (drop-drop k at out) ∙ rw (b, drop_at (last_digits k n) (drop (at + k) lent) k (length_last k n));
      }

-- ---- room: for a text where there is room for more behind it, and for what is behind it once it is put

pub room_first : {l : List ℕ} {at : ℕ} (s t : List ℕ) → RoomForText l at (s ++ t) → RoomForText l at s
room_first s t h = record { room = omega (arith, length-append s t) }

pub room_rest : {l m : List ℕ} {at k : ℕ} {s : List ℕ} (t : List ℕ) → AddedText l m at k s → RoomForText l at (s ++ t) → RoomForText m k t
room_rest {s = s} t a h = record { room = omega (arith, length-append s t, a.place, a.kept) }

-- for a text and the byte that ends it
pub room_end : {l : List ℕ} {at : ℕ} (s : List ℕ) (e : ℕ) → RoomForText l at (s ++ e ∷ []) → at + length s < length l
room_end s e h = omega (arith, length-append s (e ∷ []), h.room)

-- ---- a line of two fields or more: its first field, and the line of the others

module _ (g : List ℕ) (fs : List (List ℕ)) where
  pub line_first : (f : List ℕ) → line (f ∷ g ∷ fs) ≡ (f ++ 32 ∷ []) ++ line (g ∷ fs)
  line_first f = sym (append_assoc f (32 ∷ []) (line (g ∷ fs)))

  pub field_room : {l : List ℕ} {at : ℕ} (f : List ℕ) → RoomForText l at (line (f ∷ g ∷ fs)) → RoomForText l at (f ++ 32 ∷ [])
  field_room f h = room_first (f ++ 32 ∷ []) (line (g ∷ fs)) (rw (line_first f) at h)

  pub rest_room : {l m : List ℕ} {at k : ℕ} (f : List ℕ) → AddedText l m at k (f ++ 32 ∷ []) → RoomForText l at (line (f ∷ g ∷ fs)) → RoomForText m k (line (g ∷ fs))
  rest_room f a h = room_rest (line (g ∷ fs)) a (rw (line_first f) at h)

  pub with_rest : {l m n : List ℕ} {at k r : ℕ} (f : List ℕ) → AddedText l m at k (f ++ 32 ∷ []) → AddedText m n k r (line (g ∷ fs)) → AddedText l n at r (line (f ∷ g ∷ fs))
  with_rest f a b = rw (line_first f) (both a b)

-- the fields of an outcome stand before those that follow
pub outcome_first : (o : Outcome) (f : List ℕ) (fs : List (List ℕ)) → spaced (outcome_fields o) ++ line (f ∷ fs) ≡ line (outcome_fields o ++ f ∷ fs)
outcome_first Completed f fs = refl
outcome_first Hung f fs = refl
outcome_first Spent f fs = refl
outcome_first (Refused r place) f fs = ap (λ (l : List ℕ). bytes "refused" ++ 32 ∷ l) (append_assoc (decimal (number_of r)) (32 ∷ []) (line (f ∷ fs)))
