-- Lemmas on a text put eight bytes at a time, which changes up to seven bytes behind it, and on the line of which those bytes are. Assumes nothing.
use Prim.Native.Nat.{ℕ, zero, suc, ◌+◌, ◌-◌, ◌≤◌, ◌<◌}
use native.Mathlib.Omega.{arith}
use native.Mathlib.Nat.{add-zero, not-suc-le-zero, le_of_suc-le-suc}
use mathlib.Core.Path.{◌≡◌, refl, sym, ap, ◌∙◌}
use mathlib.Core.List.{List, [], ◌∷◌, ◌++◌, append_assoc}
use lib.ListN.{length, get_or, take, drop, length-append, length-drop}
use lib.Seq.{length-take-le, take_at, drop_at, take-add, take-take, take-append-add, drop-drop}
use Rattle.buffer.specs.Rows.{written}
use Rattle.record.specs.Paths.{path_number}
use Rattle.record.specs.declared.token.Token.{Token}
use Rattle.record.specs.declared.token.Content.{Content}
use Rattle.record.specs.declared.token.Content.TheVariants.{Live, Spent, Deferred}
use Rattle.text.specs.Text.{decimal, signed_decimal, state_word, line, token_line}
use Rattle.text.specs.Lines.{RoomForText, AddedText, AddedLoosely, PathText, rest_line}
use Rattle.text.proofs.Lines.{line_first}
use Rattle.record.specs.TokensAndTags.{value_in}

-- ---- bytes read one by one

-- f 0, f 1, .., n of them
abbrev pub firsts : ℕ → (ℕ → ℕ) → List ℕ
firsts zero f = []
firsts (suc n) f = f 0 ∷ firsts n (λ k. f (suc k))

pub taken_bytes : (n : ℕ) (l : List ℕ) → n ≤ length l → take n l ≡ firsts n (λ k. get_or l k 0)
taken_bytes zero l h = refl
taken_bytes (suc n) [] h = absurd (not-suc-le-zero h)
taken_bytes (suc n) (x ∷ l) h = ap (λ (m : List ℕ). x ∷ m) (taken_bytes n l (le_of_suc-le-suc h))

-- ---- eights of bytes

module _ (l t : List ℕ) (at k : ℕ) (ht : k ≤ length t) (hl : at + k ≤ length l) where
  -- the first k bytes of t put from `at` on
  abbrev front : List ℕ
  front = take at l ++ take k t

  length_front : length front ≡ at + k
  length_front = omega (arith, length-append (take at l) (take k t), length-take-le at l (omega arith), length-take-le k t ht)

  parts : written l at (take k t) ≡ front ++ drop (at + k) l
  unfolding written
  parts = rw (length-take-le k t ht) (sym (append_assoc (take at l) (take k t) (drop (at + k) l)))

  parts_front : take (at + k) (written l at (take k t)) ≡ front
  parts_front = ap (take (at + k)) parts ∙ take_at front (drop (at + k) l) (at + k) length_front

  parts_behind : drop (at + k) (written l at (take k t)) ≡ drop (at + k) l
  parts_behind = ap (drop (at + k)) parts ∙ drop_at front (drop (at + k) l) (at + k) length_front

  parts_past : (j : ℕ) → drop (at + k + j) (written l at (take k t)) ≡ drop (at + k + j) l
  parts_past j = sym (drop-drop j (at + k) (written l at (take k t))) ∙ ap (drop j) parts_behind ∙ drop-drop j (at + k) l

  pub loosely : {n : List ℕ} (c : ℕ) → n ≡ written l at (take k t) → c ≤ k → k ≤ c + 7 → AddedLoosely l n at (at + c) (take c t)
  loosely {n} c e h g = rw e (record {
    kept = ap length parts ∙ omega (arith, length-append front (drop (at + k) l), length_front, length-drop (at + k) l);
    place = omega (arith, length-take-le c t (omega arith));
    bytes = sym (take-take (at + c) (at + k) (written l at (take k t)) (omega arith)) ∙ ap (take (at + c)) parts_front ∙ front_part;
    behind = let s : at + c + 7 ≡ at + k + (c + 7 - k) = omega arith in rw s (parts_past (c + 7 - k));
  })
    where
      front_part : take (at + c) front ≡ take at l ++ take c t
      front_part =
          let a : length (take at l) ≡ at = length-take-le at l (omega arith) in
          (rw a at (take-append-add (take at l) (take k t) c)) ∙ ap (λ (x : List ℕ). take at l ++ x) (take-take c k t h)

-- eight more
pub next_eight : (l t : List ℕ) (at k : ℕ) {m n : List ℕ} → m ≡ written l at (take k t) → n ≡ written m (at + k) (take 8 (drop k t)) → k + 8 ≤ length t → at + k + 8 ≤ length l
    → n ≡ written l at (take (k + 8) t)
unfolding written
next_eight l t at k {m} {n} e f ht hl =
    let c = take 8 (drop k t) in
    let lc : length c ≡ 8 = length-take-le 8 (drop k t) (omega (arith, length-drop k t)) in
    let lr : length (take (k + 8) t) ≡ k + 8 = length-take-le (k + 8) t ht in
    let s : at + k + 8 ≡ at + length (take (k + 8) t) = omega arith in
    f
    ∙ ap (λ (x : ℕ). take (at + k) m ++ (c ++ drop (at + k + x) m)) lc
    ∙ ap (λ (x : List ℕ). take (at + k) x ++ (c ++ drop (at + k + 8) x)) e
    ∙ rw (parts_front l t at k (omega arith) (omega arith), parts_past l t at k (omega arith) (omega arith) 8) refl
    ∙ append_assoc (take at l) (take k t) (c ++ drop (at + k + 8) l)
    ∙ ap (λ (x : List ℕ). take at l ++ x) (sym (append_assoc (take k t) c (drop (at + k + 8) l)))
    ∙ ap (λ (x : List ℕ). take at l ++ (x ++ drop (at + k + 8) l)) (sym (take-add k 8 t))
    ∙ ap (λ (x : ℕ). take at l ++ (take (k + 8) t ++ drop x l)) s

pub first_eight : (l t : List ℕ) (at : ℕ) {n : List ℕ} → n ≡ written l (at + 0) (take 8 t) → n ≡ written l at (take 8 t)
first_eight l t at e = rw (add-zero at) at e

-- ---- a text put loosely, and one of seven bytes or more behind it

pub loosely_then : {l m n : List ℕ} {at k r : ℕ} {s t : List ℕ} → AddedLoosely l m at k s → AddedText m n k r t → 7 ≤ length t → AddedText l n at r (s ++ t)
loosely_then {l} {m} {n} {at} {k} {r} {s} {t} a b h =
    let q : r ≡ k + 7 + (length t - 7) = omega (arith, b.place) in
    let e : drop r m ≡ drop r l = rw (q, ← drop-drop (length t - 7) (k + 7) m, ← drop-drop (length t - 7) (k + 7) l, a.behind) in
    record {
      kept = b.kept ∙ a.kept;
      place = b.place ∙ omega (arith, a.place, length-append s t);
      bytes = b.bytes ∙ ap (λ (x : List ℕ). x ++ t) a.bytes ∙ append_assoc (take at l) s t;
      behind = b.behind ∙ e;
    }

-- ---- the line of a token, of which the path stands in a buffer

word_long : (x : Content) → 4 ≤ length (state_word x)
word_long (Live v) = omega arith
word_long (Spent v) = omega arith
word_long (Deferred c) = omega arith

longer : (f g : List ℕ) (fs : List (List ℕ)) → suc (length (line (g ∷ fs))) ≤ length (line (f ∷ g ∷ fs))
longer f g fs = omega (arith, length-append f (32 ∷ line (g ∷ fs)))

rest_long : (t : Token) → 7 ≤ length (rest_line t)
rest_long t =
    let w = state_word t.content in
    let v = signed_decimal (value_in t.content) in
    let p = decimal t.port in
    let i = decimal t.tag.instruction in
    omega (
      arith,
      longer (decimal t.tag.iteration) i (p ∷ v ∷ w ∷ []),
      longer i p (v ∷ w ∷ []),
      longer p v (w ∷ []),
      longer v w [],
      length-append w (10 ∷ []),
      word_long t.content,
    )

module _ (t : Token) {text : List ℕ} {k : ℕ} (p : PathText text k t.tag.path) where
  abbrev path : List ℕ
  path = decimal (path_number t.tag.path) ++ 32 ∷ []

  count_is : length path ≡ k
  count_is = sym (ap length p.text) ∙ length-take-le k text (omega (arith, p.size, p.fits))

  pub path_some : 0 < k
  path_some = omega (arith, count_is, length-append (decimal (path_number t.tag.path)) (32 ∷ []))

  in_two : token_line t ≡ path ++ rest_line t
  unfolding token_line
  in_two =
      line_first (decimal t.tag.iteration) (decimal t.tag.instruction ∷ decimal t.port ∷ signed_decimal (value_in t.content) ∷ state_word t.content ∷ [])
      (decimal (path_number t.tag.path))

  pub path_room : {l : List ℕ} {at : ℕ} → RoomForText l at (token_line t) → at + k + 7 ≤ length l
  path_room h = let q = rw in_two at h in omega (arith, q.room, length-append path (rest_line t), count_is, rest_long t)

  pub after_path : {l m : List ℕ} {at r : ℕ} → RoomForText l at (token_line t) → AddedLoosely l m at r (take k text) → RoomForText m r (rest_line t)
  after_path h a =
      let q = rw in_two at h in
      let b = rw p.text at a in
      record { room = omega (arith, q.room, length-append path (rest_line t), b.place, b.kept) }

  pub whole_line : {l m n : List ℕ} {at r q : ℕ} → AddedLoosely l m at r (take k text) → AddedText m n r q (rest_line t) → AddedText l n at q (token_line t)
  whole_line a b = rw in_two (loosely_then (rw p.text at a) b (rest_long t))
