-- Laws of the answers of searches: a record's state says whether its token is live, the token that was found is the one that `live_on` asks, and the earlier of two places is the earliest of a tag.
-- Assumes nothing.
use Rattle.std.proofs.Math.Nat.{zero-min, min-zero, min-le_left}
use Prim.Native.Nat.{ℕ, suc, ◌+◌, ◌*◌, ◌<◌, min}
use mathlib.Core.Path.{◌≡◌, refl, sym, ap, ◌∙◌}
use mathlib.Core.Bool.{Bool, true, false, cond, and-false}
use mathlib.Core.List.{List, [], ◌∷◌}
use native.Mathlib.Omega.{arith}
use native.Mathlib.Numerals.{unary_clauses}
use lib.Dec.{eqb}
use lib.ListN.{length, get_or, drop}
use lib.Seq.{get_or-drop}
use borrow.Author.Tests.{eqb-true, eqb-false, eq-eqb}
use Rattle.buffer.specs.Rows.{All}
use Rattle.number.specs.Number.{byte_at, number32, signed_of}
use Rattle.record.specs.TokensAndTags.{content_of, tokens, token_at, decode_token, same_tag, stands_at}
use Rattle.buffer.proofs.Tables.{get_d_rows, length_rows}
use Rattle.record.specs.declared.tag.Tag.{Tag}
use Rattle.record.specs.declared.token.Token.{Token}
use Rattle.record.specs.declared.token.Content.TheVariants.{Live, Spent, Deferred}
use Rattle.record.specs.Widths.{token_width, state_offset, value_offset}
use Rattle.std.specs.Prelude.{Option, Some, None, unwrap_or}
use Rattle.store_chains.specs.Search.{first_from, FoundWithin}
use Rattle.store_chains.proofs.Search.{shift, first_cons}
use Rattle.store_chains.proofs.Index.{found_within}
use Rattle.store_enabled.specs.Enabled.{is_live_record, live_on, earliest_of}
use Rattle.store_enabled.specs.Store.{live_found}

-- ---- the state of a record

live_content : (bits state : ℕ) → is_live_record (content_of bits state) ≡ eqb state 0
unfolding content_of
live_content bits state = go (eqb state 0) (eqb state 1)
  where
    go : (a b : Bool) → is_live_record (cond a (Live (signed_of bits)) (cond b (Spent (signed_of bits)) (Deferred bits))) ≡ a
    go true b = refl
    go false true = refl
    go false false = refl

pub live_state : (l : List ℕ) (i : ℕ) → is_live_record (token_at l i).content ≡ eqb (get_or l (i * token_width + state_offset) 0) 0
unfolding decode_token
live_state l i = live_content (number32 (drop (i * token_width) l) value_offset) (byte_at (drop (i * token_width) l) state_offset) ∙ rw (get_or-drop (i * token_width) l state_offset 0)

-- ---- the token at a port of a tag

live_cons : (t d : Token) (ts : List Token) (f : Option ℕ) → live_found (λ i. get_or (t ∷ ts) i d) (shift f) ≡ live_found (λ i. get_or ts i d) f
live_cons t d ts (Some i) = refl
live_cons t d ts None = refl

live_list : (tag : Tag) (port : ℕ) (d : Token) (ts : List Token) → live_found (λ i. get_or ts i d) (first_from (stands_at tag port) 0 ts) ≡ live_on ts tag port
live_list tag port d [] = refl
live_list tag port d (t ∷ ts) = rw (first_cons (stands_at tag port) t ts) (go (stands_at tag port t) (live_list tag port d ts))
  where
    go : (b : Bool) → live_found (λ i. get_or ts i d) (first_from (stands_at tag port) 0 ts) ≡ live_on ts tag port
        → live_found (λ i. get_or (t ∷ ts) i d) (cond b (Some 0) (shift (first_from (stands_at tag port) 0 ts))) ≡ cond b (is_live_record t.content) (live_on ts tag port)
    go true ih = refl
    go false ih = live_cons t d ts (first_from (stands_at tag port) 0 ts) ∙ ih

live_rows : (n : ℕ) (l : List ℕ) (d : Token) (f : Option ℕ) → FoundWithin f n → live_found (token_at l) f ≡ live_found (λ i. get_or (tokens n l) i d) f
live_rows n l d (Some i) w = rw (get_d_rows token_width decode_token n i l d w)
live_rows n l d None w = refl

-- the first at a port of a tag is not live
pub live_off : (tag : Tag) (port : ℕ) (d : Token) (ts : List Token) (i : ℕ) → first_from (stands_at tag port) 0 ts ≡ Some i → is_live_record (get_or ts i d).content ≡ false
    → live_on ts tag port ≡ false
live_off tag port d ts i e n = sym (live_list tag port d ts) ∙ ap (live_found (λ k. get_or ts k d)) e ∙ n

pub live_found_lem : (tag : Tag) (port n : ℕ) (l : List ℕ) → live_found (token_at l) (first_from (stands_at tag port) 0 (tokens n l)) ≡ live_on (tokens n l) tag port
live_found_lem tag port n l =
    let d = token_at l 0 in
    live_rows n l d (first_from (stands_at tag port) 0 (tokens n l)) (found_within (stands_at tag port) n l) ∙ live_list tag port d (tokens n l)

-- ---- the earliest token of a tag

min_suc : (a b : ℕ) → min (suc a) (suc b) ≡ suc (min a b)
min_suc a b = simp unary_clauses

-- the earlier is no more than the first
pub min_below : (a b n : ℕ) → a < n → min a b < n
min_below a b n h = omega (arith, min-le_left a b)

place_shift : (f : Option ℕ) (n : ℕ) → unwrap_or (shift f) (suc n) ≡ suc (unwrap_or f n)
place_shift (Some i) n = refl
place_shift None n = refl

module _ (tag : Tag) where
  abbrev seek : ℕ → List Token → ℕ
  seek port ts = unwrap_or (first_from (stands_at tag port) 0 ts) (length ts)

  seek_here : (port : ℕ) (t : Token) (ts : List Token) → stands_at tag port t ≡ true → seek port (t ∷ ts) ≡ 0
  seek_here port t ts e = rw (first_cons (stands_at tag port) t ts, e)

  seek_later : (port : ℕ) (t : Token) (ts : List Token) → stands_at tag port t ≡ false → seek port (t ∷ ts) ≡ suc (seek port ts)
  seek_later port t ts e = rw (first_cons (stands_at tag port) t ts, e) (place_shift (first_from (stands_at tag port) 0 ts) (length ts))

  pub stands_tag : (port : ℕ) (t : Token) → t.port ≡ port → same_tag t.tag tag ≡ true → stands_at tag port t ≡ true
  unfolding stands_at
  stands_tag port t e s = rw (eq-eqb t.port port e, s)

  pub stands_other : (port : ℕ) (t : Token) → same_tag t.tag tag ≡ false → stands_at tag port t ≡ false
  unfolding stands_at
  stands_other port t s = rw s (and-false (eqb t.port port))

  first_tag : (ts : List Token) → All (λ (t : Token). t.port < 2) ts → earliest_of ts tag ≡ min (seek 0 ts) (seek 1 ts)
  first_tag [] w = refl
  first_tag (t ∷ ts) w = go (same_tag t.tag tag) refl (eqb t.port 0) refl (first_tag ts w.1)
    where
      go : (s : Bool) → same_tag t.tag tag ≡ s → (z : Bool) → eqb t.port 0 ≡ z → earliest_of ts tag ≡ min (seek 0 ts) (seek 1 ts)
          → cond s 0 (suc (earliest_of ts tag)) ≡ min (seek 0 (t ∷ ts)) (seek 1 (t ∷ ts))
      go true e true d ih = rw (seek_here 0 t ts (stands_tag 0 t (eqb-true t.port 0 d) e)) (sym (zero-min (seek 1 (t ∷ ts))))
      go true e false d ih = rw (seek_here 1 t ts (stands_tag 1 t (omega (arith, eqb-false t.port 0 d, w.0)) e)) (sym (min-zero (seek 0 (t ∷ ts))))
      go false e z d ih = rw (seek_later 0 t ts (stands_other 0 t e), seek_later 1 t ts (stands_other 1 t e)) (ap suc ih ∙ sym (min_suc (seek 0 ts) (seek 1 ts)))

  -- the same over a ledger
  pub first_place : (n : ℕ) (l : List ℕ) → All (λ (t : Token). t.port < 2) (tokens n l)
      → earliest_of (tokens n l) tag
      ≡ min (unwrap_or (first_from (stands_at tag 0) 0 (tokens n l)) n) (unwrap_or (first_from (stands_at tag 1) 0 (tokens n l)) n)
  first_place n l w = rw (length_rows token_width decode_token n l) at (first_tag (tokens n l) w)
