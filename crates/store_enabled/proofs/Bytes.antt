-- Laws of the bytes of used records: a ledger that begins with the bytes of its tokens does so after a token is added or replaced, and the
-- bytes past the used records stay. To spend a live token is to write its state byte. Assumes nothing.
use Prim.Native.Nat.{ℕ, zero, suc, ◌+◌, ◌*◌, ◌≤◌, ◌<◌}
use mathlib.Core.Path.{◌≡◌, sym, ap, ◌∙◌}
use mathlib.Core.List.{List, [], ◌∷◌, ◌++◌, append_assoc}
use native.Mathlib.Omega.{arith}
use native.Mathlib.Nat.{not-suc-le-zero, le_of_suc-le-suc, zero-add, suc-add}
use lib.IntN.{ℤ}
use lib.ListN.{length, get_or, set, take, drop, length-append, length-set, take-append-drop}
use lib.Seq.{take_at, drop_at}
use Rattle.buffer.specs.Rows.{put_row, joined}
use Rattle.record.specs.TokensAndTags.{tokens, token_at, decode_token, encode_token, TokenFits}
use Rattle.buffer.proofs.Tables.{length_joined, put_joined, put_end, length_rows, get_d_rows}
use Rattle.record.proofs.Records.{length_token, tokens_put, tokens_end}
use Rattle.record.specs.declared.token.Token.{Token}
use Rattle.record.specs.declared.token.Content.TheVariants.{Live}
use Rattle.record.specs.Widths.{token_width, state_offset}
use Rattle.store_enabled.specs.Enabled.{spent_token}

-- ---- the state byte

set_later : (x l : List ℕ) (k v : ℕ) → set (x ++ l) (length x + k) v ≡ x ++ set l k v
set_later [] l k v = ap (λ (n : ℕ). set l n v) (zero-add k)
set_later (y ∷ x) l k v = ap (λ (n : ℕ). set (y ∷ (x ++ l)) n v) (suc-add (length x) k) ∙ ap (λ (r : List ℕ). y ∷ r) (set_later x l k v)

-- a live token is spent by its state byte alone
spent_record : (t : Token) (v : ℤ) (r : List ℕ) → t.content ≡ Live v → set (encode_token t ++ r) state_offset 1 ≡ encode_token (spent_token t) ++ r
unfolding encode_token
spent_record t v r e = rw e

spent_joined : (ts : List Token) (r : List ℕ) (i : ℕ) (d : Token) (v : ℤ) → i < length ts → (get_or ts i d).content ≡ Live v
    → set (joined encode_token ts ++ r) (i * token_width + state_offset) 1 ≡ joined encode_token (set ts i (spent_token (get_or ts i d))) ++ r
spent_joined [] r i d v h e = absurd (not-suc-le-zero h)
spent_joined (t ∷ ts) r zero d v h e =
    rw (append_assoc (encode_token t) (joined encode_token ts) r, append_assoc (encode_token (spent_token t)) (joined encode_token ts) r) (spent_record t v (joined encode_token ts ++ r) e)
spent_joined (t ∷ ts) r (suc i) d v h e =
    let us = set ts i (spent_token (get_or ts i d)) in
    let k : suc i * token_width + state_offset ≡ length (encode_token t) + (i * token_width + state_offset) = omega (arith, length_token t) in
    rw (append_assoc (encode_token t) (joined encode_token ts) r, append_assoc (encode_token t) (joined encode_token us) r, k, set_later (encode_token t) (joined encode_token ts ++ r) (i * token_width + state_offset) 1)
    (ap (λ (m : List ℕ). encode_token t ++ m) (spent_joined ts r i d v (le_of_suc-le-suc h) e))

-- ---- the bytes of the used records

module _ (n : ℕ) (us : List Token) (r : List ℕ) (len : length us ≡ n) where
  size : length (joined encode_token us) ≡ n * token_width
  size = length_joined token_width encode_token length_token us ∙ rw len

  pub front : take (n * token_width) (joined encode_token us ++ r) ≡ joined encode_token us
  front = take_at (joined encode_token us) r (n * token_width) size

  pub past : drop (n * token_width) (joined encode_token us ++ r) ≡ r
  past = drop_at (joined encode_token us) r (n * token_width) size

module _ (n : ℕ) (l : List ℕ) (e : take (n * token_width) l ≡ joined encode_token (tokens n l)) where
  pub split : l ≡ joined encode_token (tokens n l) ++ drop (n * token_width) l
  split = sym (take-append-drop (n * token_width) l) ∙ ap (λ (b : List ℕ). b ++ drop (n * token_width) l) e

  count : length (tokens n l) ≡ n
  count = length_rows token_width decode_token n l

  -- a token is added
  pub bytes_end : (t : Token) → TokenFits t → suc n * token_width ≤ length l → take (suc n * token_width) (put_row token_width l n (encode_token t)) ≡ joined encode_token (tokens (suc n) (put_row token_width l n (encode_token t)))
  bytes_end t f h =
      let us = tokens n l ++ t ∷ [] in
      let p : put_row token_width l n (encode_token t) ≡ joined encode_token us ++ drop token_width (drop (n * token_width) l) =
      ap (λ (m : List ℕ). put_row token_width m n (encode_token t)) split ∙ rw count at (put_end token_width encode_token length_token (tokens n l) (drop (n * token_width) l) t) in
      let k : length us ≡ suc n = length-append (tokens n l) (t ∷ []) ∙ omega (arith, count) in
      ap (take (suc n * token_width)) p ∙ front (suc n) us (drop token_width (drop (n * token_width) l)) k ∙ ap (joined encode_token) (sym (tokens_end t f n l h))

  -- a token is replaced
  module _ (t : Token) (i : ℕ) (h : i < n) where
    pub replaced : put_row token_width l i (encode_token t) ≡ joined encode_token (set (tokens n l) i t) ++ drop (n * token_width) l
    replaced =
        ap (λ (m : List ℕ). put_row token_width m i (encode_token t)) split
        ∙ put_joined token_width encode_token length_token (tokens n l) (drop (n * token_width) l) i t (omega (arith, count))

    same_count : length (set (tokens n l) i t) ≡ n
    same_count = length-set (tokens n l) i t ∙ count

    pub bytes_put : TokenFits t → n * token_width ≤ length l → take (n * token_width) (put_row token_width l i (encode_token t)) ≡ joined encode_token (tokens n (put_row token_width l i (encode_token t)))
    bytes_put f room =
        rw (tokens_put t f n i l h room) (ap (take (n * token_width)) replaced ∙ front n (set (tokens n l) i t) (drop (n * token_width) l) same_count)

    pub rest_put : drop (n * token_width) (put_row token_width l i (encode_token t)) ≡ drop (n * token_width) l
    rest_put = ap (drop (n * token_width)) replaced ∙ past n (set (tokens n l) i t) (drop (n * token_width) l) same_count

  -- a live token is spent
  pub spent_byte : (i : ℕ) (v : ℤ) → i < n → (token_at l i).content ≡ Live v → set l (i * token_width + state_offset) 1 ≡ put_row token_width l i (encode_token (spent_token (token_at l i)))
  spent_byte i v h live =
      let t = token_at l i in
      let ts = tokens n l in
      let r = drop (n * token_width) l in
      let at : get_or ts i t ≡ t = get_d_rows token_width decode_token n i l t h in
      let k : i < length ts = omega (arith, count) in
      ap (λ (m : List ℕ). set m (i * token_width + state_offset) 1) split
      ∙ spent_joined ts r i t v k (ap (λ (x : Token). x.content) at ∙ live)
      ∙ ap (λ (x : Token). joined encode_token (set ts i (spent_token x)) ++ r) at
      ∙ sym (replaced (spent_token t) i h)
