-- Laws of operands that are spent: a live token is spent by its state byte alone, and once the token at port 0 of a tag is spent the tag's activity is
-- not enabled, so that the flag at its place goes. Assumes nothing.
use Rattle.std.proofs.Math.Nat.{min-eq_left, min-eq_right}
use Prim.Native.Nat.{ℕ, suc, ◌+◌, ◌*◌, ◌≤◌, ◌<◌, min}
use mathlib.Core.Path.{◌≡◌, refl, sym, ap, subst, ◌∙◌}
use mathlib.Core.Bool.{true, false}
use mathlib.Core.List.{List}
use native.Mathlib.Omega.{arith}
use native.Mathlib.Decide.{ℕ_discrete, dec_le}
use lib.ListN.{length, get_or, set, drop, length-set}
use lib.Seq.{get_or-drop, get_or-set_same, get_or-set_other, set-set, set_comm}
use borrow.Author.Tests.{eqb-true}
use Rattle.number.specs.Number.{byte_at, number32, signed_of}
use Rattle.buffer.specs.Rows.{put_row}
use Rattle.buffer.proofs.Tables.{length_rows, get_d_rows}
use Rattle.record.specs.TokensAndTags.{content_of, tokens, token_at, decode_token, encode_token, stands_at, ContentFits, TokenFits}
use Rattle.record.specs.declared.tag.Tag.{Tag}
use Rattle.record.specs.declared.token.Token.{Token}
use Rattle.record.specs.declared.token.Content.{Content}
use Rattle.record.specs.declared.token.Content.TheVariants.{Live, Spent, Deferred}
use Rattle.record.specs.Widths.{token_width, state_offset, value_offset}
use Rattle.std.specs.Prelude.{Some}
use Rattle.store_chains.specs.Search.{first_from}
use Rattle.store_chains.proofs.Search.{first_set}
use Rattle.store_enabled.specs.Enabled.{is_live_record, live_on, content_spent, spent_token, arity_of, earliest_of}
use Rattle.store_enabled.specs.Store.{Stored, OperandPlaces, EarlierFirst, Spendable, states_spent, tokens_spent}
use Rattle.store_enabled.proofs.Places.{live_state, live_off}
use Rattle.store_enabled.proofs.Bytes.{spent_byte}
use Rattle.store_enabled.proofs.Right.{all_off, place_kept}
use Rattle.store_enabled.proofs.Stored.{all_at, Moved, changed}

-- ---- a token

spent_dead : (x : Content) → is_live_record (content_spent x) ≡ false
spent_dead (Live v) = refl
spent_dead (Spent v) = refl
spent_dead (Deferred cell) = refl

content_fits : (x : Content) → ContentFits x → ContentFits (content_spent x)
content_fits (Live v) f = f
content_fits (Spent v) f = f
content_fits (Deferred cell) f = f

spent_fits : (t : Token) → TokenFits t → TokenFits (spent_token t)
spent_fits t f = record {
  path = f.path;
  iteration = f.iteration;
  instruction = f.instruction;
  port = f.port;
  content = content_fits t.content f.content;
}

-- ---- a record by its state

content_live : (bits state : ℕ) → state ≡ 0 → content_of bits state ≡ Live (signed_of bits)
unfolding content_of
content_live bits state e = rw e

module _ (l : List ℕ) (i : ℕ) where
  record_live : get_or l (i * token_width + state_offset) 0 ≡ 0 → (token_at l i).content ≡ Live (signed_of (number32 (drop (i * token_width) l) value_offset))
  unfolding decode_token
  record_live e = content_live (number32 (drop (i * token_width) l) value_offset) (byte_at (drop (i * token_width) l) state_offset) (get_or-drop (i * token_width) l state_offset 0 ∙ e)

  state_live : is_live_record (token_at l i).content ≡ true → get_or l (i * token_width + state_offset) 0 ≡ 0
  state_live e = eqb-true (get_or l (i * token_width + state_offset) 0) 0 (sym (live_state l i) ∙ e)

-- ---- one token is spent, and its tag is then not enabled

first_spent_lem : (tag : Tag) (ts : List Token) (i : ℕ) (t : Token) → get_or ts i t ≡ t → first_from (stands_at tag 0) 0 (set ts i (spent_token t)) ≡ first_from (stands_at tag 0) 0 ts
unfolding stands_at
first_spent_lem tag ts i t e = first_set (stands_at tag 0) ts i (spent_token t) t (rw e) 0

module _ (tables links flags l : List ℕ) (used i : ℕ) (w : Stored tables links flags l used) (h : i < used) (live : get_or l (i * token_width + state_offset) 0 ≡ 0) where
  abbrev t : Token
  t = token_at l i

  abbrev us : List Token
  us = set (tokens used l) i (spent_token (token_at l i))

  held : get_or (tokens used l) i (token_at l i) ≡ token_at l i
  held = get_d_rows token_width decode_token used i l (token_at l i) h

  moved : Moved tables links flags (set l (i * token_width + state_offset) 1) used i us (spent_token (token_at l i))
  moved =
      let m = set l (i * token_width + state_offset) 1 in
      let put : m ≡ put_row token_width l i (encode_token (spent_token t)) = spent_byte used l w.bytes i (signed_of (number32 (drop (i * token_width) l) value_offset)) h (record_live l i live) in
      let f : TokenFits t = rw held at (all_at TokenFits (tokens used l) i t (omega (arith, length_rows token_width decode_token used l)) w.fits) in
      changed tables links flags l used i (spent_token t) w h refl refl (spent_fits t f) m put (length-set l (i * token_width + state_offset) 1)

  spent : (tag : Tag) → t.tag ≡ tag → (p : ℕ) → earliest_of (tokens used l) tag ≡ p → live_on us tag 0 ≡ false → (flags' : List ℕ) → flags' ≡ set flags p 0
      → (tokens used (set l (i * token_width + state_offset) 1) ≡ us) × Stored tables links flags' (set l (i * token_width + state_offset) 1) used
  spent tag e p lead off flags' put =
      let place = place_kept (tokens used l) i (spent_token t) t (ap (λ (x : Token). x.tag) (sym held)) t.tag ∙ ap (earliest_of (tokens used l)) e ∙ lead in
      let down = all_off (arity_of tables t.tag) us t.tag (ap (λ (k : Tag). live_on us k 0) e ∙ off) in
      (moved.more, moved.stored flags' (put ∙ rw (moved.more, place, down)))

-- ---- the operands of an activity are spent

module _ (tables links flags l : List ℕ) (used i j : ℕ) (w : Stored tables links flags l used) (o : OperandPlaces l used i j) (flags' : List ℕ) (put : flags' ≡ set flags (min i j) 0) where
  abbrev ts : List Token
  ts = tokens used l

  abbrev m : List ℕ
  m = set l (i * token_width + state_offset) 1

  abbrev u : Token
  u = spent_token (token_at l i)

  abbrev vs : List Token
  vs = set (tokens used l) i (spent_token (token_at l i))

  size : length (tokens used l) ≡ used
  size = length_rows token_width decode_token used l

  read : (k : ℕ) (d : Token) → k < used → get_or (tokens used l) k d ≡ token_at l k
  read k d h = get_d_rows token_width decode_token used k l d h

  found : first_from (stands_at (token_at l i).tag 0) 0 vs ≡ Some i
  found = first_spent_lem (token_at l i).tag ts i (token_at l i) (read i (token_at l i) o.first_within) ∙ o.found

  gone : (d : Token) → get_or vs i d ≡ spent_token (token_at l i)
  gone d = get_or-set_same ts i u d (omega (arith, size, o.first_within))

  once : (tokens used m ≡ vs) × Stored tables links flags' m used
  once =
      let off = live_off (token_at l i).tag 0 u vs i found (ap (λ (x : Token). is_live_record x.content) (gone u) ∙ spent_dead (token_at l i).content) in
      spent tables links flags l used i w o.first_within (state_live l i o.first_live) (token_at l i).tag refl (min i j) o.place off flags' put

  -- the second operand is another
  twice : (j ≡ i → ⊥) → (tokens used (states_spent l i j) ≡ tokens_spent used l i j) × Stored tables links flags' (states_spent l i j) used
  twice apart =
      let tag = (token_at l i).tag in
      let p = min i j in
      let v = spent_token (token_at l j) in
      let there : get_or vs j u ≡ token_at l j = get_or-set_other ts i j u u apart ∙ read j u o.second_within in
      let same : token_at m j ≡ token_at l j = sym (get_d_rows token_width decode_token used j m u o.second_within) ∙ ap (λ (ws : List Token). get_or ws j u) once.0 ∙ there in
      let live : get_or m (j * token_width + state_offset) 0 ≡ 0 = get_or-set_other l (i * token_width + state_offset) (j * token_width + state_offset) 1 0 (λ e. apart (omega arith)) ∙ state_live l j o.second_live in
      let lead : earliest_of (tokens used m) tag ≡ p = rw once.0 (place_kept ts i u (token_at l i) (ap (λ (x : Token). x.tag) (sym (read i (token_at l i) o.first_within))) tag ∙ o.place) in
      let dead : is_live_record (get_or (set vs j v) i u).content ≡ false = ap (λ (x : Token). is_live_record x.content) (get_or-set_other vs j i v u (λ e. apart (sym e)) ∙ gone u) ∙ spent_dead (token_at l i).content in
      let off = live_off tag 0 u (set vs j v) i (first_spent_lem tag vs j (token_at l j) (get_or-set_other ts i j u (token_at l j) apart ∙ read j (token_at l j) o.second_within) ∙ found) dead in
      let written : set (tokens used m) j (spent_token (token_at m j)) ≡ set vs j v = λ k. set (once.0 k) j (spent_token (same k)) in
      let lowered : flags' ≡ set flags' p 0 = put ∙ sym (set-set flags p 0 0) ∙ ap (λ (f : List ℕ). set f p 0) (sym put) in
      let r = spent tables links flags' m used j once.1 o.second_within live tag (ap (λ (x : Token). x.tag) same ∙ o.one_tag) p lead (ap (λ (ws : List Token). live_on ws tag 0) written ∙ off) flags' lowered in
      (r.0 ∙ written, r.1)

  pub both_spent_lem : (tokens used (states_spent l i j) ≡ tokens_spent used l i j) × Stored tables links flags' (states_spent l i j) used
  both_spent_lem = go (ℕ_discrete j i)
    where
      go : Dec (j ≡ i) → (tokens used (states_spent l i j) ≡ tokens_spent used l i j) × Stored tables links flags' (states_spent l i j) used
      go (yes e) = rw (e, set-set l (i * token_width + state_offset) 1 1, set-set ts i u u) once
      go (no apart) = twice apart

-- ---- the earlier place first

-- what holds of two places in either order holds of them in the order of place
pub either : {p q i j : ℕ} → EarlierFirst p q i j → (P : ℕ → ℕ → Type 0) → P i j → P j i → P p q
either {p} {q} {i} {j} o P a b = go (dec_le (suc i) j)
  where
    go : Dec (suc i ≤ j) → P p q
    go (yes h) =
        let e : p ≡ i = o.lead ∙ min-eq_left (omega arith) in
        let f : q ≡ j = omega (arith, o.rest) in
        rw (e, f) a
    go (no n) =
        let e : p ≡ j = o.lead ∙ min-eq_right (omega arith) in
        let f : q ≡ i = omega (arith, o.rest) in
        rw (e, f) b

pub spendable_within : {l : List ℕ} {used p q : ℕ} → Spendable l used p q → (p < used) × (q < used)
spendable_within {l} {used} s = either s.order (λ a b. (a < used) × (b < used)) (s.operands.first_within, s.operands.second_within) (s.operands.second_within, s.operands.first_within)

-- two entries are put, whichever first
set_either : {A : Type 0} (l : List A) (f : ℕ → A) (i j : ℕ) → set (set l j (f j)) i (f i) ≡ set (set l i (f i)) j (f j)
set_either l f i j = go (ℕ_discrete j i)
  where
    go : Dec (j ≡ i) → set (set l j (f j)) i (f i) ≡ set (set l i (f i)) j (f j)
    go (yes e) = rw e
    go (no apart) = set_comm l j i (f j) (f i) apart

states_either : (l : List ℕ) (i j : ℕ) → states_spent l j i ≡ states_spent l i j
states_either l i j = go (ℕ_discrete j i)
  where
    go : Dec (j ≡ i) → states_spent l j i ≡ states_spent l i j
    go (yes e) = rw e
    go (no apart) = set_comm l (j * token_width + state_offset) (i * token_width + state_offset) 1 1 (λ e. apart (omega arith))

module _ (tables links flags l : List ℕ) (used p q : ℕ) (w : Stored tables links flags l used) (s : Spendable l used p q) where
  pub in_order_spent : (flags' : List ℕ) → flags' ≡ set flags p 0
      → (tokens used (states_spent l p q) ≡ tokens_spent used l p q) × Stored tables links flags' (states_spent l p q) used
  in_order_spent flags' put =
      let i = s.first in
      let j = s.second in
      let b = both_spent_lem tables links flags l used i j w s.operands flags' (put ∙ ap (λ (n : ℕ). set flags n 0) s.order.lead) in
      let states : states_spent l p q ≡ states_spent l i j = either s.order (λ a b. states_spent l a b ≡ states_spent l i j) refl (states_either l i j) in
      let spents : tokens_spent used l p q ≡ tokens_spent used l i j =
      either s.order (λ a b. tokens_spent used l a b ≡ tokens_spent used l i j) refl (set_either (tokens used l) (λ (k : ℕ). spent_token (token_at l k)) i j) in
      subst (λ (m : List ℕ). (tokens used m ≡ tokens_spent used l p q) × Stored tables links flags' m used) (sym states) (b.0 ∙ sym spents, b.1)
