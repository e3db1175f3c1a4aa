-- The state of the loop of `inputs`: the first i inputs are in the ledger. It begins with none, and a turn adds one. Assumes nothing.
use Prim.Native.Nat.{ℕ, zero, suc, ◌+◌, ◌*◌, ◌/◌, ◌≤◌, ◌<◌}
use mathlib.Core.Path.{◌≡◌, refl, sym, ap, ◌∙◌}
use mathlib.Core.List.{List, [], ◌∷◌, ◌++◌, append_assoc}
use native.Mathlib.Omega.{arith}
use native.Mathlib.Numerals.{add-one}
use native.Mathlib.Nat.{suc-mul, add_comm}
use lib.ListN.{length, take, drop, length-append}
use lib.Seq.{drop_at, drop-drop, length-take-le}
use Rattle.buffer.specs.Rows.{all_rows, put_row, All}
use Rattle.record.specs.TokensAndTags.{tokens, token_at, decode_token, encode_token}
use Rattle.record.specs.declared.token.Token.{Token}
use Rattle.buffer.proofs.Tables.{length_rows, get_d_rows}
use Rattle.record.proofs.Records.{length_token}
use Rattle.record.specs.Widths.{token_width}
use Rattle.store_enabled.proofs.Stored.{all_at}
use Rattle.store_chains.specs.Search.{Free}
use Rattle.store.specs.Matching.{Matching}
use Rattle.store.proofs.Writing.{tokens_first}
use Rattle.load.specs.Loaded.{ProperArrival, Alone, Loaded}

pub record Taken (tables links flags ledger ledger' inputs : List ℕ) (i : ℕ) : Type 0 where
  pub few : i ≤ length inputs / token_width
  pub matching : Matching tables links flags ledger' i
  pub taken : tokens i ledger' ≡ tokens i inputs
  pub size : length ledger' ≡ length ledger
  pub rest : drop (i * token_width) ledger' ≡ drop (i * token_width) ledger

-- the tokens of one record more
tokens_more : (i : ℕ) (l : List ℕ) → tokens (suc i) l ≡ tokens i l ++ token_at l i ∷ []
tokens_more zero l = refl
tokens_more (suc i) l =
    ap (λ (ts : List Token). decode_token l ∷ ts) (tokens_more i (drop token_width l))
    ∙ rw (drop-drop (i * token_width) token_width l, suc-mul i token_width, add_comm (i * token_width) token_width)

-- a write of record i leaves the bytes past it
put_rest : (l : List ℕ) (i : ℕ) (b : List ℕ) → length b ≡ token_width → i * token_width + token_width ≤ length l → drop (suc i * token_width) (put_row token_width l i b) ≡ drop (suc i * token_width) l
unfolding put_row
put_rest l i b e h =
    let p = take (i * token_width) l in
    let r = drop (i * token_width + token_width) l in
    let k : length (p ++ b) ≡ i * token_width + token_width = length-append p b ∙ rw (e, length-take-le (i * token_width) l (omega arith)) in
    rw (suc-mul i token_width) (ap (drop (i * token_width + token_width)) (sym (append_assoc p b r)) ∙ drop_at (p ++ b) r (i * token_width + token_width) k)

-- what is known of an input
pub proper : (tables inputs : List ℕ) (i : ℕ) (t : Token) → t ≡ token_at inputs i → i < length inputs / token_width → All (ProperArrival tables) (all_rows token_width decode_token inputs) → ProperArrival tables t
proper tables inputs i t e h w =
    let n = length inputs / token_width in
    rw e (rw (get_d_rows token_width decode_token n i inputs t h) at (all_at (ProperArrival tables) (tokens n inputs) i t (rw (length_rows token_width decode_token n inputs) h) w))

pub alone : (inputs l : List ℕ) (i : ℕ) (t : Token) → t ≡ token_at inputs i → i < length inputs / token_width → tokens i l ≡ tokens i inputs → Alone inputs → Free (tokens i l) t.tag t.port
alone inputs l i t e h same w = rw (same, e) (rw (tokens_first i (length inputs / token_width) inputs (omega arith)) at (w i h))

module _ (tables ledger inputs : List ℕ) where
  pub taken_none : (links flags : List ℕ) → Matching tables links flags ledger 0 → Taken tables links flags ledger ledger inputs 0
  taken_none links flags m = record { few = omega arith; matching = m; taken = refl; size = refl; rest = refl }

  pub taken_more : (l : List ℕ) (i : ℕ) → length l ≡ length ledger → tokens i l ≡ tokens i inputs → drop (i * token_width) l ≡ drop (i * token_width) ledger → i < length inputs / token_width → length inputs / token_width ≤ length ledger / token_width
      → (m : List ℕ) → m ≡ put_row token_width l i (encode_token (token_at inputs i)) → length m ≡ length l → tokens (i + 1) m ≡ tokens i l ++ token_at inputs i ∷ []
      → (links flags : List ℕ) → Matching tables links flags m (i + 1) → Taken tables links flags ledger m inputs (i + 1)
  taken_more l i len same rest h room m put len' more links flags w =
      let e : drop (suc i * token_width) l ≡ drop (suc i * token_width) ledger =
      rw (suc-mul i token_width) (sym (drop-drop token_width (i * token_width) l) ∙ rw rest (drop-drop token_width (i * token_width) ledger)) in
      record {
        few = omega arith;
        matching = w;
        taken = more ∙ rw (same, add-one) (sym (tokens_more i inputs));
        size = len' ∙ len;
        rest = rw (add-one, put) (put_rest l i (encode_token (token_at inputs i)) (length_token (token_at inputs i)) (omega arith) ∙ e);
      }

  pub taken_all : (l : List ℕ) (i : ℕ) (links flags : List ℕ) → Taken tables links flags ledger l inputs i → length inputs / token_width ≤ i → Loaded tables links flags ledger l inputs i
  taken_all l i links flags w h =
      let e : i ≡ length inputs / token_width = omega (arith, w.few) in
      record { all = e; matching = w.matching; taken = w.taken ∙ ap (λ (k : ℕ). tokens k inputs) e; size = w.size; rest = w.rest }
