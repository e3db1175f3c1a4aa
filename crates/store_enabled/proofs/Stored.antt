-- Laws of the invariant: what `append` and `change` hand over to the chains and to the flags. Assumes nothing.
use Prim.Native.Nat.{ℕ, zero, suc, ◌+◌, ◌-◌, ◌*◌, ◌/◌, ◌≤◌, ◌<◌}
use mathlib.Core.Path.{◌≡◌, refl, sym, ap, ◌∙◌}
use mathlib.Core.List.{List, [], ◌∷◌, ◌++◌}
use native.Mathlib.Omega.{arith}
use native.Mathlib.Numerals.{add-one}
use native.Mathlib.Nat.{le_of_suc-le-suc}
use lib.ListN.{length, get_or, set}
use lib.Seq.{map-set_same, get_or-append-add}
use Rattle.buffer.specs.Rows.{put_row, All}
use Rattle.record.specs.TokensAndTags.{tokens, token_at, decode_token, encode_token, stands_at, TokenFits}
use Rattle.buffer.proofs.Tables.{length_rows, get_d_rows}
use Rattle.record.proofs.Records.{tokens_put, tokens_end}
use Rattle.record.specs.declared.tag.Tag.{Tag}
use Rattle.record.specs.declared.token.Token.{Token}
use Rattle.record.specs.Widths.{token_width}
use Rattle.store_flags.specs.Marks.{bit}
use Rattle.store_chains.specs.Chains.{bucket_key, Indexed}
use Rattle.std.specs.Prelude.{Some}
use Rattle.store_chains.specs.Search.{first_from, Free, FoundWithin, Single}
use Rattle.store_chains.specs.Slots.{Open}
use Rattle.store_chains.specs.Partners.{partner_at, Partnered, Beside}
use Rattle.store_chains.specs.declared.Slot.{Slot}
use Rattle.store_chains.proofs.Chains.{chained_few, chained_same}
use Rattle.store_chains.proofs.Search.{first_passes, first_added, first_set, first_past}
use Rattle.store_chains.proofs.Index.{stands_is, stands_own, stands_same, stands_once, found_within}
use Rattle.store_chains.proofs.Partners.{partner_found, partnered_set}
use Rattle.store_enabled.specs.Enabled.{is_enabled, earliest_of}
use Rattle.store_enabled.specs.Store.{Known, Stored, Last}
use Rattle.store_enabled.proofs.Right.{place_append, place_set, right_append, right_set}
use Rattle.store_enabled.proofs.Bytes.{bytes_end, bytes_put}
use Rattle.store_enabled.proofs.Single.{single_at, single_append, single_set}

-- ---- what holds of all tokens

module _ (P : Token → Type 0) where
  pub all_append : (ts : List Token) (t : Token) → All P ts → P t → All P (ts ++ t ∷ [])
  all_append [] t w h = (h, tt)
  all_append (x ∷ ts) t w h = (w.0, all_append ts t w.1 h)

  pub all_set : (ts : List Token) (i : ℕ) (t : Token) → All P ts → P t → All P (set ts i t)
  all_set [] i t w h = w
  all_set (x ∷ ts) zero t w h = (h, w.1)
  all_set (x ∷ ts) (suc i) t w h = (w.0, all_set ts i t w.1 h)

  pub all_at : (ts : List Token) (i : ℕ) (d : Token) → i < length ts → All P ts → P (get_or ts i d)
  all_at [] i d h w = absurd (omega arith)
  all_at (x ∷ ts) zero d h w = w.0
  all_at (x ∷ ts) (suc i) d h w = all_at ts i d (le_of_suc-le-suc h) w.1

pub known_few : (links l : List ℕ) (used : ℕ) → Known links l used → used ≤ 2048
known_few links l used w = omega (arith, chained_few 0 4096 bucket_key links (tokens used l) w.index, length_rows token_width decode_token used l)

-- what is beside a token, the first on a port of a tag, stands on the tag's other port
pub known_partner : (links l : List ℕ) (used : ℕ) → Known links l used → (own : ℕ) (tag : Tag) (port : ℕ) → own < used → first_from (stands_at tag port) 0 (tokens used l) ≡ Some own
    → (partner_at links own ≡ first_from (stands_at tag (1 - port)) 0 (tokens used l)) × FoundWithin (partner_at links own) used
known_partner links l used w own tag port h e =
    let ts = tokens used l in
    let d = token_at l own in
    let is = stands_is tag port (get_or ts own d) (first_passes (stands_at tag port) d ts own e) in
    let found = partner_found links ts w.partners own d (omega (arith, length_rows token_width decode_token used l)) tag port (sym is.0) (sym is.1) in
    (found, rw found (found_within (stands_at tag (1 - port)) used l))

-- a store of links that leaves the chains by tag and the partners
pub stored_links : (tables links flags l : List ℕ) (used : ℕ) → Stored tables links flags l used → (links' : List ℕ) → Indexed links' (tokens used l) → Partnered links' (tokens used l) → Stored tables links' flags l used
stored_links tables links flags l used w links' index partners = record {
  known = record { room = w.known.room; index = index; ports = w.known.ports; single = w.known.single; partners = partners };
  bytes = w.bytes;
  fits = w.fits;
  right = w.right;
}

-- a token arrives in its slot
module _ (tables links flags l : List ℕ) (used : ℕ) (t : Token) (s : Slot) (w : Stored tables links flags l used) (low : t.port < 2) (o : Open (tokens used l) t.tag t.port s) where
  pub slot_within : FoundWithin s.partner used
  slot_within = rw o.partner (found_within (stands_at t.tag (1 - t.port)) used l)

  pub slot_beside : Beside links (tokens used l) t s
  slot_beside = record { partners = w.known.partners; single = w.known.single; ports = w.known.ports; low = low; slot = o }

-- ---- token t was written as record `at`, and the tokens are us: what holds before the flag of its tag is put, and once it is put

pub record Moved (tables links flags m : List ℕ) (used at : ℕ) (us : List Token) (t : Token) : Type 0 where
  pub more : tokens used m ≡ us
  pub known : Known links m used
  pub place : earliest_of (tokens used m) t.tag < used
  pub own : first_from (stands_at t.tag t.port) 0 (tokens used m) ≡ Some at
  pub stored : (flags' : List ℕ) → flags' ≡ set flags (earliest_of (tokens used m) t.tag) (bit (is_enabled tables (tokens used m) t.tag))
      → Stored tables links flags' m used

-- a token is added
module _ (tables links flags l : List ℕ) (used : ℕ) (t : Token) (w : Stored tables links flags l used) (room : used < length l / token_width) (few : used < 2048) (low : t.port < 2) (free : Free (tokens used l) t.tag t.port) (fits : TokenFits t) (m : List ℕ) (put : m ≡ put_row token_width l used (encode_token t)) (len : length m ≡ length l) (links' : List ℕ) (index : Indexed links' (tokens used l ++ t ∷ [])) (partners : Partnered links' (tokens used l ++ t ∷ [])) where
  pub added : Moved tables links' flags m (used + 1) used (tokens used l ++ t ∷ []) t
  added =
      let ts = tokens used l in
      let n : length ts ≡ used = length_rows token_width decode_token used l in
      let e : tokens (used + 1) m ≡ ts ++ t ∷ [] = rw (put, add-one) (tokens_end t fits used l (omega arith)) in
      let known : Known links' m (used + 1) = record {
        room = rw len (omega arith);
        index = rw e index;
        ports = rw e (all_append (λ (x : Token). x.port < 2) ts t w.known.ports low);
        single = rw e (single_append ts t w.known.single free);
        partners = rw e partners;
      } in
      record {
        more = e;
        known = known;
        place = rw e (omega (arith, place_append ts t));
        own = rw e (first_added (stands_at t.tag t.port) t ts free (stands_own t.tag t.port t refl refl) ∙ ap Some n);
        stored = λ flags' put'. record {
          known = known;
          bytes = rw (put, add-one) (bytes_end used l w.bytes t fits (omega arith));
          fits = rw e (all_append TokenFits ts t w.fits fits);
          right = rw (put', e) (right_append tables ts t flags (omega arith) w.right);
        };
      }

  -- it stands there
  pub added_there : token_at m used ≡ t
  added_there =
      let ts = tokens used l in
      let n : length ts ≡ used = length_rows token_width decode_token used l in
      let k : used ≡ length ts + 0 = omega arith in
      sym (get_d_rows token_width decode_token (used + 1) used m t (omega arith)) ∙ ap (λ (us : List Token). get_or us used t) added.more ∙ ap (λ (i : ℕ). get_or (ts ++ t ∷ []) i t) k ∙ get_or-append-add ts (t ∷ []) 0 t

  -- it is the last, with the partner of its slot
  pub added_last : (s : Slot) → Open (tokens used l) t.tag t.port s → Last m used t.tag t.port s.partner
  added_last s o =
      let own = stands_own t.tag t.port t refl refl in
      let off = stands_once t.tag t.port (1 - t.port) t (λ q. omega arith) own in
      record {
        room = rw len room;
        few = few;
        ports = added.known.ports;
        low = low;
        first = added.own;
        partner = rw added.more (o.partner ∙ sym (first_past (stands_at t.tag (1 - t.port)) (tokens used l) t 0 off));
      }

-- a token is replaced
module _ (tables links flags l : List ℕ) (used i : ℕ) (t : Token) (w : Stored tables links flags l used) (h : i < used) (a : t.tag ≡ (token_at l i).tag) (b : t.port ≡ (token_at l i).port) (fits : TokenFits t) (m : List ℕ) (put : m ≡ put_row token_width l i (encode_token t)) (len : length m ≡ length l) where
  pub changed : Moved tables links flags m used i (set (tokens used l) i t) t
  changed =
      let ts = tokens used l in
      let d = token_at l i in
      let n : length ts ≡ used = length_rows token_width decode_token used l in
      let at : get_or ts i d ≡ d = get_d_rows token_width decode_token used i l d h in
      let tag : t.tag ≡ (get_or ts i d).tag = rw at a in
      let port : t.port ≡ (get_or ts i d).port = rw at b in
      let key : bucket_key t ≡ bucket_key (get_or ts i d) = rw tag in
      let space : used * token_width ≤ length l = omega (arith, w.known.room) in
      let e : tokens used m ≡ set ts i t = rw put (tokens_put t fits used i l h space) in
      let ports = w.known.ports in
      let single : Single (set ts i t) = single_set ts i t d w.known.single (omega arith) tag port in
      let known : Known links m used = record {
        room = rw len w.known.room;
        index = rw e (chained_same 0 4096 bucket_key links ts w.known.index (set ts i t) (map-set_same bucket_key ts i t d key));
        ports = rw e (all_set (λ (x : Token). x.port < 2) ts i t ports (rw port (all_at (λ (x : Token). x.port < 2) ts i d (omega arith) ports)));
        single = rw e single;
        partners = rw e (partnered_set links ts w.known.partners i t d (omega arith) tag port);
      } in
      record {
        more = e;
        known = known;
        place = rw e (omega (arith, place_set ts i t d (omega arith) tag));
        own = rw e (first_set (stands_at t.tag t.port) ts i t d (stands_same t.tag t.port t (get_or ts i d) tag port) 0 ∙ single_at ts w.known.single i d (omega arith) t.tag t.port tag port);
        stored = λ flags' put'. record {
          known = known;
          bytes = rw put (bytes_put used l w.bytes t i h fits space);
          fits = rw e (all_set TokenFits ts i t w.fits fits);
          right = rw (put', e) (right_set tables ts i t d flags (omega arith) tag w.right);
        };
      }
