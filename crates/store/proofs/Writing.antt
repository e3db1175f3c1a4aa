-- A record that is written behind the used ones: they stay, the arrays are right for them as before, and the record's bytes are those of its token. Assumes nothing.
use Prim.Native.Nat.{ℕ, zero, suc, ◌+◌, ◌*◌, ◌/◌, ◌≤◌, ◌<◌}
use mathlib.Core.Path.{◌≡◌, refl, sym, ap, ◌∙◌}
use mathlib.Core.List.{List, [], ◌∷◌, ◌++◌}
use native.Mathlib.Omega.{arith}
use native.Mathlib.Nat.{not-suc-le-zero, le_of_suc-le-suc}
use lib.ListN.{length, get_or, take, drop, take-append-drop}
use lib.Seq.{length-take-le, drop-drop, drop_at, take_at, get_or-append_seam}
use Rattle.buffer.specs.Rows.{put_row, joined}
use Rattle.buffer.proofs.Tables.{length_rows, get_d_rows}
use Rattle.record.specs.TokensAndTags.{tokens, token_at, decode_token, encode_token, TokenFits}
use Rattle.record.specs.Widths.{token_width}
use Rattle.record.specs.declared.token.Token.{Token}
use Rattle.record.proofs.Records.{length_token, tokens_end}
use Rattle.store.specs.Matching.{StoreInside, Matching}

-- the tokens of some records fewer
pub tokens_first : (i n : ℕ) (l : List ℕ) → i ≤ n → take i (tokens n l) ≡ tokens i l
tokens_first zero n l h = refl
tokens_first (suc i) zero l h = absurd (not-suc-le-zero h)
tokens_first (suc i) (suc n) l h = ap (λ (ts : List Token). decode_token l ∷ ts) (tokens_first i n (drop token_width l) (le_of_suc-le-suc h))

-- a record that is written as it stands
pub put_same : (l : List ℕ) (i : ℕ) (b : List ℕ) → b ≡ take token_width (drop (i * token_width) l) → put_row token_width l i b ≡ l
unfolding put_row
put_same l i b e =
    rw (e, ← drop-drop token_width (i * token_width) l, take-append-drop token_width (drop (i * token_width) l)) (take-append-drop (i * token_width) l)

matching_past : {tables links flags l m : List ℕ} {used : ℕ} → length m ≡ length l → tokens used m ≡ tokens used l → take (used * token_width) m ≡ take (used * token_width) l
    → Matching tables links flags l used → Matching tables links flags m used
unfolding StoreInside
matching_past len same bytes w =
    let s = w.inside.store in
    record {
      inside = record {
        store = record {
          known = record { room = rw len s.known.room; index = rw same s.known.index; ports = rw same s.known.ports; single = rw same s.known.single; partners = rw same s.known.partners };
          bytes = bytes ∙ s.bytes ∙ ap (joined encode_token) (sym same);
          fits = rw same s.fits;
          right = rw same s.right;
        };
        deferred = rw same w.inside.deferred;
        cells = rw same w.inside.cells;
      };
    }

module _ (l : List ℕ) (i : ℕ) (t : Token) (fits : TokenFits t) (room : i < length l / token_width) (m : List ℕ) (put : m ≡ put_row token_width l i (encode_token t)) where
  before : length (take (i * token_width) l) ≡ i * token_width
  before = length-take-le (i * token_width) l (omega arith)

  pub written_more : tokens (suc i) m ≡ tokens i l ++ t ∷ []
  written_more = rw put (tokens_end t fits i l (omega arith))

  pub written_before : tokens i m ≡ tokens i l
  written_before = sym (tokens_first i (suc i) m (omega arith)) ∙ ap (take i) written_more ∙ take_at (tokens i l) (t ∷ []) i (length_rows token_width decode_token i l)

  written_bytes : take (i * token_width) m ≡ take (i * token_width) l
  unfolding put_row
  written_bytes = ap (take (i * token_width)) put ∙ take_at (take (i * token_width) l) (encode_token t ++ drop (i * token_width + token_width) l) (i * token_width) before

  -- its token and its bytes
  pub written_own : token_at m i ≡ t
  written_own =
      sym (get_d_rows token_width decode_token (suc i) i m t (omega arith)) ∙ ap (λ (ts : List Token). get_or ts i t) written_more
      ∙ ap (λ (k : ℕ). get_or (tokens i l ++ t ∷ []) k t) (sym (length_rows token_width decode_token i l)) ∙ get_or-append_seam (tokens i l) t [] t

  pub written_again : m ≡ put_row token_width m i (encode_token t)
  unfolding put_row
  written_again =
      let r = drop (i * token_width + token_width) l in
      let here : drop (i * token_width) m ≡ encode_token t ++ r = ap (drop (i * token_width)) put ∙ drop_at (take (i * token_width) l) (encode_token t ++ r) (i * token_width) before in
      sym (put_same m i (encode_token t) (sym (ap (take token_width) here ∙ take_at (encode_token t) r token_width (length_token t))))

  pub written_matching : {tables links flags : List ℕ} → length m ≡ length l → Matching tables links flags l i → Matching tables links flags m i
  written_matching len w = matching_past len written_before written_bytes w
