-- Laws of the chains by tag: a walk along one finds what a scan of the ledger finds. Assumes nothing.
use Prim.Native.Nat.{ℕ, zero, suc, ◌+◌, ◌-◌, ◌≤◌, ◌<◌}
use mathlib.Core.Path.{◌≡◌, refl, sym, ap, ◌∙◌}
use mathlib.Core.Bool.{Bool, true, false, ◌&&◌, cond, and-false}
use mathlib.Core.List.{List, map}
use native.Mathlib.Omega.{arith}
use lib.Dec.{eqb}
use lib.ListN.{length, get_or, drop, length-map}
use borrow.Author.Tests.{eqb-true, eqb-false, eq-eqb, ne_eqb}
use Rattle.record.specs.Paths.{same_path}
use Rattle.record.specs.TokensAndTags.{tokens, token_at, decode_token, stands_at, same_tag}
use Rattle.buffer.specs.Rows.{All}
use Rattle.buffer.proofs.Tables.{get_d_rows, length_rows}
use Rattle.record.specs.declared.tag.Tag.{Tag}
use Rattle.record.specs.declared.token.Token.{Token}
use Rattle.record.proofs.Paths.{same_path_lem, path_same}
use Rattle.record.specs.Widths.{token_width}
use Rattle.std.specs.Prelude.{Option, Some, None, is_some}
use Rattle.store_chains.specs.Search.{first_from, found_of, FoundWithin, Single}
use Rattle.store_chains.specs.Chains.{bucket_of, bucket_key, last_below, Indexed}
use Rattle.store_chains.proofs.Walks.{Walk, link_of, link_found, earliest, stands}
use Rattle.store_chains.proofs.Search.{first_step, first_end, first_within_lem, first_some, all_at}
use Rattle.store_chains.proofs.Chains.{key_at_lem, walk_first, on_first, walk_next, next_below, on_next}

-- places of other keys are passed
earliest_skip : (q : ℕ → Bool) (b : ℕ) (ks : List ℕ) (n best : ℕ) → ((i : ℕ) → i < n → q i ≡ true → get_or ks i 0 ≡ b)
    → earliest q n best ≡ earliest q (last_below b ks n) best
earliest_skip q b ks zero best f = refl
earliest_skip q b ks (suc n) best f = go (eqb (get_or ks n 0) b) refl (q n) refl (earliest_skip q b ks n best (λ i h. f i (omega arith)))
  where
    go : (t : Bool) → eqb (get_or ks n 0) b ≡ t → (u : Bool) → q n ≡ u → earliest q n best ≡ earliest q (last_below b ks n) best
        → earliest q n (cond (q n) (suc n) best) ≡ earliest q (cond t (suc n) (last_below b ks n)) best
    go true e u d ih = refl
    go false e true d ih = absurd (eqb-false (get_or ks n 0) b e (f n (omega arith) d))
    go false e false d ih = rw d ih

-- what was found is what a scan from the front finds
module _ (p : Token → Bool) (n : ℕ) (l : List ℕ) where
  earliest_scan : (i best : ℕ) → i ≤ n → found_of best ≡ first_from p i (drop i (tokens n l))
      → found_of (earliest (λ j. p (token_at l j)) i best) ≡ first_from p 0 (tokens n l)
  earliest_scan zero best h e = e
  earliest_scan (suc i) best h e = earliest_scan i (cond (p (token_at l i)) (suc i) best) (omega arith) (go (p (token_at l i)) refl)
    where
      go : (t : Bool) → p (token_at l i) ≡ t → found_of (cond t (suc i) best) ≡ first_from p i (drop i (tokens n l))
      go true d = sym (first_step token_width decode_token p n i l h ∙ rw d)
      go false d = e ∙ sym (first_step token_width decode_token p n i l h ∙ rw d)

  scan_found : found_of (earliest (λ j. p (token_at l j)) n 0) ≡ first_from p 0 (tokens n l)
  scan_found = earliest_scan n 0 (omega arith) (sym (first_end token_width decode_token p n n l (omega arith)))

  pub found_within : FoundWithin (first_from p 0 (tokens n l)) n
  found_within = rw (length_rows token_width decode_token n l) at (first_within_lem p (tokens n l))

-- ---- tokens of one tag are in one chain

pub and_left : (a b : Bool) → a && b ≡ true → a ≡ true
and_left true b e = refl
and_left false b e = e

pub and_right : (a b : Bool) → a && b ≡ true → b ≡ true
and_right true b e = e
and_right false true e = refl
and_right false false e = e

tag_same_lem : (a b : Tag) → same_tag a b ≡ true → a ≡ b
unfolding same_tag
tag_same_lem a b e =
    let p = same_path a.path b.path in
    let i = eqb a.iteration b.iteration in
    let n = eqb a.instruction b.instruction in
    let y = and_right p (i && n) e in
    let x : a.path ≡ b.path = same_path_lem _ _ (and_left p (i && n) e) in
    let u : a.iteration ≡ b.iteration = eqb-true _ _ (and_left i n y) in
    let v : a.instruction ≡ b.instruction = eqb-true _ _ (and_right i n y) in
    λ k. record { path = x k; iteration = u k; instruction = v k }

-- one that stands at a port of a tag has both
pub stands_is : (tag : Tag) (port : ℕ) (t : Token) → stands_at tag port t ≡ true → (t.tag ≡ tag) × (t.port ≡ port)
unfolding stands_at
stands_is tag port t e = (tag_same_lem t.tag tag (and_right (eqb t.port port) (same_tag t.tag tag) e), eqb-true _ _ (and_left (eqb t.port port) _ e))

pub tag_own : (a : Tag) → same_tag a a ≡ true
unfolding same_tag
tag_own a = rw (path_same a.path a.path refl, eq-eqb a.iteration a.iteration refl, eq-eqb a.instruction a.instruction refl)

pub stands_own : (tag : Tag) (port : ℕ) (t : Token) → t.tag ≡ tag → t.port ≡ port → stands_at tag port t ≡ true
unfolding stands_at
stands_own tag port t e d = rw (eq-eqb t.port port d, e, tag_own tag)

-- where a token stands is said by its tag and its port
pub stands_same : (tag : Tag) (port : ℕ) (t u : Token) → t.tag ≡ u.tag → t.port ≡ u.port → stands_at tag port t ≡ stands_at tag port u
unfolding stands_at
stands_same tag port t u e d = rw (e, d)

pub stands_key : (tag : Tag) (port : ℕ) (t : Token) → stands_at tag port t ≡ true → bucket_key t ≡ suc (bucket_of tag)
stands_key tag port t e = ap (λ (k : Tag). suc (bucket_of k)) (stands_is tag port t e).0

-- one of another tag stands at no port of this one
pub stands_off : (tag : Tag) (port : ℕ) (t : Token) → same_tag t.tag tag ≡ false → stands_at tag port t ≡ false
unfolding stands_at
stands_off tag port t e = rw e (and-false (eqb t.port port))

-- one of the tag that is not on a port below 2 is on the other
pub stands_other_port : (tag : Tag) (port : ℕ) (t : Token) → port < 2 → t.port < 2 → same_tag t.tag tag ≡ true → (t.port ≡ port → ⊥)
    → (stands_at tag port t ≡ false) × (stands_at tag (1 - port) t ≡ true)
unfolding stands_at
stands_other_port tag port t low h e apart = (rw (ne_eqb t.port port apart), rw (eq-eqb t.port (1 - port) (omega arith)) e)

-- one that stands at a port stands at no other
pub stands_once : (tag : Tag) (port other : ℕ) (t : Token) → (port ≡ other → ⊥) → stands_at tag port t ≡ true → stands_at tag other t ≡ false
unfolding stands_at
stands_once tag port other t apart e = rw (ne_eqb t.port other (λ q. apart (sym (stands_is tag port t e).1 ∙ q)))

pub bucket_low : (tag : Tag) → bucket_of tag < 4096
unfolding bucket_of
bucket_low tag = omega arith

-- ---- the walk over a ledger

module _ (l : List ℕ) (n : ℕ) (tag : Tag) (port : ℕ) where
  abbrev keys_of : List ℕ
  keys_of = map bucket_key (tokens n l)

  in_bucket : (m : ℕ) → m ≤ n → (i : ℕ) → i < m → stands l tag port i ≡ true → get_or keys_of i 0 ≡ suc (bucket_of tag)
  in_bucket m g i h q =
      let d = token_at l i in
      let k : i < n = omega arith in
      key_at_lem bucket_key (tokens n l) i d (rw (length_rows token_width decode_token n l) k) ∙ ap bucket_key (get_d_rows token_width decode_token n i l d k) ∙ stands_key tag port d q

  module _ (links : List ℕ) (w : Indexed links (tokens n l)) where
    keys : length keys_of ≡ n
    keys = length-map (tokens n l) bucket_key ∙ length_rows token_width decode_token n l

    -- from the head of the tag's chain
    pub walk_start : (first : Option ℕ) → first ≡ found_of (get_or links (bucket_of tag) 0) → Walk l n tag port (link_of first) 0
    walk_start first e =
        let b = bucket_of tag in
        let small = bucket_low tag in
        let here : b + 0 ≡ b = omega arith in
        let on = rw here at (on_first 0 4096 bucket_key links (tokens n l) w b small) in
        let h : get_or links b 0 ≡ last_below (suc b) keys_of n = (rw here at (walk_first 0 4096 bucket_key links (tokens n l) w b small)) ∙ rw (length_rows token_width decode_token n l) in
        rw (e, link_found (get_or links b 0)) (record { on = on; low = omega (arith, on.below, keys); same = rw h (earliest_skip (stands l tag port) (suc b) keys_of n 0 (in_bucket n (omega arith))) })

    -- from a place of it to the next
    pub walk_step : (i best : ℕ) (next : Option ℕ) → next ≡ found_of (get_or links (i + 4096) 0) → Walk l n tag port (suc i) best
        → (link_of next < suc i) × Walk l n tag port (link_of next) (cond (stands l tag port i) (suc i) best)
    walk_step i best next e v =
        let b = bucket_of tag in
        let small = bucket_low tag in
        let on = v.on in
        let h = walk_next 0 4096 bucket_key links (tokens n l) w b small i on in
        let below = next_below 0 4096 bucket_key links (tokens n l) w b small i on in
        rw (e, link_found (get_or links (i + 4096) 0)) (
          omega arith,
          record {
            on = on_next 0 4096 bucket_key links (tokens n l) w b small i on;
            low = omega (arith, v.low);
            same = v.same ∙ rw h (earliest_skip (stands l tag port) (suc b) keys_of i (cond (stands l tag port i) (suc i) best) (in_bucket i (omega (arith, v.low))));
          },
        )

  pub walk_end : (best : ℕ) → Walk l n tag port 0 best → found_of best ≡ first_from (stands_at tag port) 0 (tokens n l)
  walk_end best v = ap found_of (sym v.same) ∙ scan_found (stands_at tag port) n l

  -- a walk that met none
  pub walk_none : Walk l n tag port 0 0 → first_from (stands_at tag port) 0 (tokens n l) ≡ None
  walk_none v = sym (walk_end 0 v)

  -- or that met one, and no two stand there
  pub walk_met : Single (tokens n l) → (i : ℕ) → i < n → stands l tag port i ≡ true → first_from (stands_at tag port) 0 (tokens n l) ≡ Some i
  unfolding Single
  walk_met single i h e =
      let d = token_at l i in
      let at : get_or (tokens n l) i d ≡ d = get_d_rows token_width decode_token n i l d h in
      let k : i < length (tokens n l) = rw (length_rows token_width decode_token n l) h in
      let own = stands_is tag port d e in
      rw (at, own.0, own.1) at (single i d k)

-- ---- a walk that asks for both ports

module _ (l : List ℕ) (n : ℕ) (tag : Tag) (port : ℕ) (low : port < 2) (links : List ℕ) (w : Indexed links (tokens n l)) (i partner : ℕ) (next : Option ℕ) (step : next ≡ found_of (get_or links (i + 4096) 0)) (own : Walk l n tag port (suc i) 0) (other : Walk l n tag (1 - port) (suc i) partner) where
  -- the record at hand has another tag
  pub seek_past : same_tag (token_at l i).tag tag ≡ false
      → (link_of next < suc i) × Walk l n tag port (link_of next) 0 × Walk l n tag (1 - port) (link_of next) partner
  seek_past e =
      let t = token_at l i in
      let s = walk_step l n tag port links w i 0 next step own in
      let u = walk_step l n tag (1 - port) links w i partner next step other in
      (s.0, rw (stands_off tag port t e) at s.1, rw (stands_off tag (1 - port) t e) at u.1)

  -- or it is the partner
  pub seek_partner : (token_at l i).port < 2 → same_tag (token_at l i).tag tag ≡ true → ((token_at l i).port ≡ port → ⊥)
      → (link_of next < suc i) × Walk l n tag port (link_of next) 0 × Walk l n tag (1 - port) (link_of next) (suc i)
  seek_partner h e apart =
      let t = token_at l i in
      let both = stands_other_port tag port t low h e apart in
      let s = walk_step l n tag port links w i 0 next step own in
      let u = walk_step l n tag (1 - port) links w i partner next step other in
      (s.0, rw both.0 at s.1, rw both.1 at u.1)

-- the record at hand is of the tag and on the port: a search finds one
pub seek_taken : (l : List ℕ) (n : ℕ) (tag : Tag) (port i : ℕ) → i < n → same_tag (token_at l i).tag tag ≡ true → (token_at l i).port ≡ port
    → is_some (first_from (stands_at tag port) 0 (tokens n l)) ≡ true
unfolding stands_at
seek_taken l n tag port i h e p =
    let d = token_at l i in
    let at : get_or (tokens n l) i d ≡ d = get_d_rows token_width decode_token n i l d h in
    let k : i < length (tokens n l) = rw (length_rows token_width decode_token n l) h in
    let there : stands_at tag port d ≡ true = rw (eq-eqb d.port port p) e in
    first_some (stands_at tag port) d (tokens n l) i k (rw at there)

pub record_port : (l : List ℕ) (n i : ℕ) → i < n → All (λ (t : Token). t.port < 2) (tokens n l) → (token_at l i).port < 2
record_port l n i h ports =
    let d = token_at l i in
    let k : i < length (tokens n l) = rw (length_rows token_width decode_token n l) h in
    rw (get_d_rows token_width decode_token n i l d h) at (all_at (λ (t : Token). t.port < 2) (tokens n l) i d k ports)
