-- Laws of a token that arrives or is changed. Where its tag is not enabled then, the flags stay. Its own record is the first on its port, so what is found
-- on the other port says where the activity of its tag stands and whether it is ready. Assumes nothing.
use Rattle.std.proofs.Math.Nat.{min-eq_left, min-eq_right, min_comm}
use Prim.Native.Nat.{ℕ, zero, suc, ◌+◌, ◌-◌, ◌/◌, ◌≤◌, ◌<◌, min}
use mathlib.Core.Path.{◌≡◌, refl, sym, ap, ◌∙◌}
use mathlib.Core.Bool.{Bool, true, false, ◌&&◌, cond, and-false}
use mathlib.Core.List.{List, [], ◌∷◌, ◌++◌}
use native.Mathlib.Omega.{arith}
use native.Mathlib.Decide.{dec_le}
use lib.Dec.{eqb, ltb}
use lib.IntN.{ℤ}
use lib.ListN.{length, get_or, set, length-map}
use lib.Seq.{set-get_or}
use borrow.Author.Tests.{eqb-true, eqb-false, ne_eqb, ltb-true, lt-ltb, le-ltb}
use Rattle.buffer.specs.Rows.{All}
use Rattle.record.specs.TokensAndTags.{tokens, token_at, stands_at}
use Rattle.record.specs.Widths.{token_width}
use Rattle.record.specs.declared.tag.Tag.{Tag}
use Rattle.record.specs.declared.token.Token.{Token}
use Rattle.record.specs.declared.token.Content.{Content}
use Rattle.record.specs.declared.token.Content.TheVariants.{Live, Spent, Deferred}
use Rattle.store_flags.specs.Marks.{bit, first_of}
use Rattle.store_flags.proofs.Marks.{marked_past}
use Rattle.std.specs.Prelude.{Option, Some, None, unwrap_or}
use Rattle.store_chains.specs.Search.{first_from, FoundWithin, Free}
use Rattle.store_chains.proofs.Search.{within_more}
use Rattle.store_chains.proofs.Index.{and_left, and_right, stands_same, found_within}
use Rattle.store_enabled.specs.Enabled.{is_live_record, live_on, operands_live, arity_of, is_enabled, tag_of, tags_in, tag_same, earliest_of}
use Rattle.store_enabled.specs.Store.{Right, raised_if, live_found, ready_of, ready_with, Last}
use Rattle.store_enabled.proofs.Places.{stands_other, live_found_lem, first_place}
use Rattle.store_enabled.proofs.Right.{all_off, first_append, tags_append_lem, stays, place_set, place_kept, right_flag}

-- ---- a tag that is not enabled

-- what is live stays live as a token arrives
live_kept : (y : Tag) (port : ℕ) (t : Token) (ts : List Token) → live_on ts y port ≡ true → live_on (ts ++ t ∷ []) y port ≡ true
live_kept y port t [] e = let z : ◌≡◌ {A = ℕ} 0 1 = cc in absurd (omega arith)
live_kept y port t (x ∷ ts) e = go (stands_at y port x) e (live_kept y port t ts)
  where
    go : (b : Bool) → cond b (is_live_record x.content) (live_on ts y port) ≡ true → (live_on ts y port ≡ true → live_on (ts ++ t ∷ []) y port ≡ true)
        → cond b (is_live_record x.content) (live_on (ts ++ t ∷ []) y port) ≡ true
    go true e ih = e
    go false e ih = ih e

-- and as one is replaced on its port of its tag by one that is live if it was
live_changed : (y : Tag) (port : ℕ) (u d : Token) (ts : List Token) (i : ℕ) → u.tag ≡ (get_or ts i d).tag → u.port ≡ (get_or ts i d).port
    → (is_live_record (get_or ts i d).content ≡ true → is_live_record u.content ≡ true) → live_on ts y port ≡ true → live_on (set ts i u) y port ≡ true
live_changed y port u d [] i e g k h = h
live_changed y port u d (x ∷ ts) zero e g k h = rw (stands_same y port u x e g) (go (stands_at y port x) h)
  where
    go : (b : Bool) → cond b (is_live_record x.content) (live_on ts y port) ≡ true → cond b (is_live_record u.content) (live_on ts y port) ≡ true
    go true q = k q
    go false q = q
live_changed y port u d (x ∷ ts) (suc i) e g k h = go (stands_at y port x) h (live_changed y port u d ts i e g k)
  where
    go : (b : Bool) → cond b (is_live_record x.content) (live_on ts y port) ≡ true → (live_on ts y port ≡ true → live_on (set ts i u) y port ≡ true)
        → cond b (is_live_record x.content) (live_on (set ts i u) y port) ≡ true
    go true q later = q
    go false q later = later q

-- where all that was live still is, a tag that is not enabled was not before
all_before : (n : ℕ) (ts us : List Token) (y : Tag) → ((port : ℕ) → live_on ts y port ≡ true → live_on us y port ≡ true) → operands_live n us y ≡ false → operands_live n ts y ≡ false
unfolding operands_live
all_before n ts us y still e = go (operands_live n ts y) refl
  where
    kept : (a b : Bool) → cond a (live_on ts y 0) (cond b (live_on ts y 0 && live_on ts y 1) false) ≡ true → cond a (live_on us y 0) (cond b (live_on us y 0 && live_on us y 1) false) ≡ true
    kept true b h = still 0 h
    kept false true h = rw (still 0 (and_left _ _ h), still 1 (and_right (live_on ts y 0) _ h))
    kept false false h = h

    go : (b : Bool) → operands_live n ts y ≡ b → b ≡ false
    go false h = refl
    go true h = sym (kept (eqb n 1) (eqb n 2) h) ∙ e

-- where an operand is missing its activity is not enabled
all_missing : (n : ℕ) (ts : List Token) (y : Tag) (port : ℕ) → port < 2 → port < n → live_on ts y port ≡ false → operands_live n ts y ≡ false
unfolding operands_live
all_missing n ts y zero low h e = all_off n ts y e
all_missing n ts y (suc zero) low h e = rw (ne_eqb n 1 (λ q. omega arith), e) (go (live_on ts y 0) (eqb n 2))
  where
    go : (a b : Bool) → cond b (a && false) false ≡ false
    go true true = refl
    go true false = refl
    go false true = refl
    go false false = refl
all_missing n ts y (suc (suc port)) low h e = absurd (omega arith)

-- the flag at the place of a tag that is not enabled
flag_down : (tables : List ℕ) (ts : List Token) (flags : List ℕ) (tag : Tag) → Right tables ts flags → is_enabled tables ts tag ≡ false → get_or flags (earliest_of ts tag) 0 ≡ 0
unfolding Right
flag_down tables ts flags tag w e = go (dec_le (suc p) (length ts))
  where
    p : ℕ
    p = earliest_of ts tag

    go : Dec (suc p ≤ length ts) → get_or flags p 0 ≡ 0
    go (yes h) = right_flag tables ts flags tag h w ∙ ap bit e
    go (no z) = marked_past tag_same (is_enabled tables ts) (tags_in ts) flags p (omega (arith, length-map ts tag_of)) w

-- the place of a tag is that of its earliest token
place_arrived : (ts : List Token) (t : Token) → earliest_of (ts ++ t ∷ []) t.tag ≡ earliest_of ts t.tag
place_arrived ts t = ap (first_of tag_same t.tag) (tags_append_lem ts t) ∙ first_append t.tag (tags_in ts)

-- a token arrives as an operand that was missing: the flag of its tag was not raised
pub flag_before : (tables : List ℕ) (l : List ℕ) (used : ℕ) (t : Token) (flags : List ℕ) → Right tables (tokens used l) flags → Free (tokens used l) t.tag t.port → t.port < 2
    → t.port < arity_of tables t.tag → get_or flags (earliest_of (tokens used l ++ t ∷ []) t.tag) 0 ≡ 0
flag_before tables l used t flags w free low h =
    let ts = tokens used l in
    let none = sym (live_found_lem t.tag t.port used l) ∙ ap (live_found (token_at l)) free in
    ap (λ (p : ℕ). get_or flags p 0) (place_arrived ts t) ∙ flag_down tables ts flags t.tag w (all_missing (arity_of tables t.tag) ts t.tag t.port low h none)

-- a port of an enabled tag is one of its operands', if it is port 0 where one operand is waited for
pub port_below : (k port : ℕ) (ts : List Token) (tag : Tag) → port < 2 → (k ≡ 1 → port ≡ 0) → operands_live k ts tag ≡ true → port < k
unfolding operands_live
port_below zero port ts tag low alone e = let z : ◌≡◌ {A = ℕ} 0 1 = cc in absurd (omega arith)
port_below (suc zero) port ts tag low alone e = omega (arith, alone refl)
port_below (suc (suc k)) port ts tag low alone e = omega arith

-- a flag that is not raised already
pub not_raised : (flags : List ℕ) (p : ℕ) → get_or flags p 0 ≤ 1 → eqb (get_or flags p 0) 1 ≡ false → get_or flags p 0 ≡ 0
not_raised flags p small e = omega (arith, eqb-false (get_or flags p 0) 1 e)

pub raised_again : (flags : List ℕ) (p : ℕ) → eqb (get_or flags p 0) 1 ≡ true → flags ≡ set flags p 1
raised_again flags p e = sym (ap (λ (x : ℕ). set flags p x) (sym (eqb-true (get_or flags p 0) 1 e)) ∙ set-get_or flags p 0)

-- a token arrives, and its tag is not enabled: the flags stay as they are
pub right_wait : (tables : List ℕ) (ts : List Token) (t : Token) (flags : List ℕ) → Right tables ts flags
    → let us = ts ++ t ∷ [] in is_enabled tables us t.tag ≡ false → flags ≡ set flags (earliest_of us t.tag) (bit (is_enabled tables us t.tag))
right_wait tables ts t flags w n =
    let before = all_before (arity_of tables t.tag) ts (ts ++ t ∷ []) t.tag (λ port. live_kept t.tag port t ts) n in
    rw (place_arrived ts t, n) (stays flags (earliest_of ts t.tag) (flag_down tables ts flags t.tag w before))

-- an enabled tag has a live token on port 0, which stands there
first_live_lem : (n : ℕ) (ts : List Token) (y : Tag) → operands_live n ts y ≡ true → live_on ts y 0 ≡ true
first_live_lem n ts y e = go (live_on ts y 0) refl
  where
    go : (b : Bool) → live_on ts y 0 ≡ b → b ≡ true
    go true h = refl
    go false h = sym (all_off n ts y h) ∙ e

live_place : (tag : Tag) (ts : List Token) → live_on ts tag 0 ≡ true → earliest_of ts tag < length ts
live_place tag [] e = let z : ◌≡◌ {A = ℕ} 0 1 = cc in absurd (omega arith)
live_place tag (x ∷ ts) e = go (stands_at tag 0 x) refl e (tag_same tag x.tag) refl (live_place tag ts)
  where
    go : (b : Bool) → stands_at tag 0 x ≡ b → cond b (is_live_record x.content) (live_on ts tag 0) ≡ true → (c : Bool) → tag_same tag x.tag ≡ c
        → (live_on ts tag 0 ≡ true → earliest_of ts tag < length ts) → cond c 0 (suc (earliest_of ts tag)) < suc (length ts)
    go b h e true s ih = omega arith
    go false h e false s ih = omega (arith, ih e)
    go true h e false s ih = let q : ◌≡◌ {A = Bool} false true = sym (stands_other tag 0 x s) ∙ h in let z : ◌≡◌ {A = ℕ} 0 1 = cc in absurd (omega arith)

-- a token on port 1 is none on port 0
not_first : (tag : Tag) (t : Token) → t.port ≡ 1 → stands_at tag 0 t ≡ false
unfolding stands_at
not_first tag t e = rw (ne_eqb t.port 0 (λ q. omega arith))

first_kept_lem : (tag : Tag) (t : Token) → t.port ≡ 1 → (ts : List Token) → live_on (ts ++ t ∷ []) tag 0 ≡ live_on ts tag 0
first_kept_lem tag t e [] = rw (not_first tag t e)
first_kept_lem tag t e (x ∷ ts) = rw (first_kept_lem tag t e ts)

all_kept : (n : ℕ) (ts : List Token) (t : Token) (tag : Tag) → n ≤ t.port → t.port < 2 → operands_live n (ts ++ t ∷ []) tag ≡ operands_live n ts tag
unfolding operands_live
all_kept zero ts t tag h low = refl
all_kept (suc zero) ts t tag h low = first_kept_lem tag t (omega arith) ts
all_kept (suc (suc n)) ts t tag h low = absurd (omega arith)

-- a token arrives on a port that its activity does not wait for: the flags stay as they are
pub right_past : (tables : List ℕ) (ts : List Token) (t : Token) (flags : List ℕ) → Right tables ts flags → arity_of tables t.tag ≤ t.port → t.port < 2
    → let us = ts ++ t ∷ [] in flags ≡ set flags (earliest_of us t.tag) (bit (is_enabled tables us t.tag))
right_past tables ts t flags w h low = rw (place_arrived ts t, all_kept (arity_of tables tag) ts t tag h low) (go (is_enabled tables ts tag) refl)
  where
    tag : Tag
    tag = t.tag

    go : (b : Bool) → is_enabled tables ts tag ≡ b → flags ≡ set flags (earliest_of ts tag) (bit b)
    go false e = stays flags (earliest_of ts tag) (flag_down tables ts flags tag w e)
    go true e =
        let on = right_flag tables ts flags tag (live_place tag ts (first_live_lem (arity_of tables tag) ts tag e)) w ∙ ap bit e in
        sym (ap (λ (x : ℕ). set flags (earliest_of ts tag) x) (sym on) ∙ set-get_or flags (earliest_of ts tag) 0)

-- the same of one that is changed
pub right_still : (tables : List ℕ) (ts : List Token) (i : ℕ) (u d : Token) (flags : List ℕ) → i < length ts → u.tag ≡ (get_or ts i d).tag → u.port ≡ (get_or ts i d).port
    → (is_live_record (get_or ts i d).content ≡ true → is_live_record u.content ≡ true) → Right tables ts flags
    → let us = set ts i u in is_enabled tables us u.tag ≡ false → flags ≡ set flags (earliest_of us u.tag) (bit (is_enabled tables us u.tag))
right_still tables ts i u d flags h e g k w n =
    let us = set ts i u in
    let place = place_kept ts i u d e u.tag in
    let before = all_before (arity_of tables u.tag) ts us u.tag (λ port. live_changed u.tag port u d ts i e g k) n in
    rw (n, place) (stays flags (earliest_of ts u.tag) (right_flag tables ts flags u.tag (rw place at (place_set ts i u d h e)) w ∙ ap bit before))

-- a flag that is not put down where it is down already
pub raised_only : (b : Bool) (flags : List ℕ) (p : ℕ) → (b ≡ false → flags ≡ set flags p (bit b)) → raised_if b flags p ≡ set flags p (bit b)
raised_only true flags p w = refl
raised_only false flags p w = w refl

-- the same of a token that may stand on a port that is not waited for
pub raised_operand : (a b : Bool) (flags : List ℕ) (p : ℕ) → (a ≡ false → flags ≡ set flags p (bit b)) → (b ≡ false → flags ≡ set flags p (bit b))
    → raised_if (a && b) flags p ≡ set flags p (bit b)
raised_operand false b flags p past w = past refl
raised_operand true b flags p past w = raised_only b flags p w

-- ---- one operand, and none

pub first_port : (p : ℕ) → eqb p 0 ≡ ltb p 1 && true
first_port p = go (eqb p 0) refl
  where
    go : (b : Bool) → eqb p 0 ≡ b → b ≡ ltb p 1 && true
    go true e = rw (lt-ltb p 1 (omega (arith, eqb-true p 0 e)))
    go false e = rw (le-ltb p 1 (omega (arith, eqb-false p 0 e)))

pub no_operand : (b : Bool) → false ≡ b && false
no_operand true = refl
no_operand false = refl

-- ---- the earlier of two places, where one may be missing

min_own : (f : Option ℕ) (i n : ℕ) → i < n → min i (unwrap_or f n) ≡ min i (unwrap_or f i)
min_own (Some j) i n h = refl
min_own None i n h = min-eq_left (omega arith) ∙ sym (min-eq_left (omega arith))

-- what stands at place i or before it is no later than i
partner_place : (f : Option ℕ) (i : ℕ) → FoundWithin f (i + 1) → (min i (unwrap_or f i) ≡ unwrap_or f i) × (unwrap_or f i < i + 1)
partner_place (Some j) i w = (min-eq_right (omega arith), w)
partner_place None i w = (min-eq_right (omega arith), omega arith)

-- no operands are never all live
pub none_live : (n : ℕ) (ts : List Token) (tag : Tag) → n ≡ 0 → operands_live n ts tag ≡ false
unfolding operands_live
none_live n ts tag e = rw e

-- the record at i is the first on a port of a tag, and `other` is what the other port has
module _ (tag : Tag) (port i n : ℕ) (m : List ℕ) (h : i < n) (low : port < 2) (own : first_from (stands_at tag port) 0 (tokens n m) ≡ Some i) (other : Option ℕ) (found : other ≡ first_from (stands_at tag (1 - port)) 0 (tokens n m)) where
  abbrev at : (port : ℕ) → Option ℕ
  at p = first_from (stands_at tag p) 0 (tokens n m)

  -- what a search of each port would find
  both : (b : Bool) → eqb port 0 ≡ b → (at 0 ≡ cond b (Some i) other) × (at 1 ≡ cond b other (Some i))
  both true e = let z = eqb-true port 0 e in (rw z at own, sym (rw z at found))
  both false e =
      let z : port ≡ 1 = omega (arith, eqb-false port 0 e) in
      (sym (rw z at found), rw z at own)

  pub own_place : All (λ (x : Token). x.port < 2) (tokens n m) → earliest_of (tokens n m) tag ≡ min i (unwrap_or other i)
  own_place ports =
      let b = eqb port 0 in
      first_place tag n m ports ∙ rw ((both b refl).0, (both b refl).1) (go b)
    where
      go : (b : Bool) → min (unwrap_or (cond b (Some i) other) n) (unwrap_or (cond b other (Some i)) n) ≡ min i (unwrap_or other i)
      go true = min_own other i n h
      go false = min_comm (unwrap_or other n) i ∙ min_own other i n h

  pub own_ready : (k : ℕ) → ready_with k port (live_found (token_at m) (Some i)) (live_found (token_at m) other) ≡ operands_live k (tokens n m) tag
  unfolding operands_live
  own_ready k =
      let b = eqb port 0 in
      go b ∙ rw (← (both b refl).0, ← (both b refl).1, live_found_lem tag 0 n m, live_found_lem tag 1 n m)
    where
      live : Option ℕ → Bool
      live = live_found (token_at m)

      go : (b : Bool) → cond b (ready_of k (live (Some i)) (live other)) (ready_of k (live other) (live (Some i))) ≡ ready_of k (live (cond b (Some i) other)) (live (cond b other (Some i)))
      go true = refl
      go false = refl

  -- one that is not live enables nothing, if it is on port 0 where one operand is waited for
  own_waits : (k : ℕ) → (k ≡ 1 → port ≡ 0) → is_live_record (token_at m i).content ≡ false → operands_live k (tokens n m) tag ≡ false
  own_waits k alone off = sym (own_ready k) ∙ rw off (go (eqb port 0) refl (eqb k 1) refl (eqb k 2))
    where
      x : Bool
      x = live_found (token_at m) other

      go : (b : Bool) → eqb port 0 ≡ b → (one : Bool) → eqb k 1 ≡ one → (two : Bool)
          → cond b (cond one false (cond two (false && x) false)) (cond one x (cond two (x && false) false)) ≡ false
      go true e true f two = refl
      go true e false f true = refl
      go true e false f false = refl
      go false e true f two = absurd (omega (arith, eqb-false port 0 e, alone (eqb-true k 1 f)))
      go false e false f true = and-false x
      go false e false f false = refl

-- ---- the token that arrived last

-- what is spent or deferred is not live
pub not_live : (x : Content) → ((v : ℤ) → x ≡ Live v → ⊥) → is_live_record x ≡ false
not_live (Live v) k = absurd (k v refl)
not_live (Spent v) k = refl
not_live (Deferred cell) k = refl

module _ {m : List ℕ} {own : ℕ} {tag : Tag} {port : ℕ} {other : Option ℕ} (w : Last m own tag port other) where
  last_within : FoundWithin other (own + 1)
  last_within = rw w.partner (found_within (stands_at tag (1 - port)) (own + 1) m)

  pub last_partner : FoundWithin other (length m / token_width)
  last_partner = within_more other (own + 1) (length m / token_width) (omega (arith, w.room)) last_within

  -- where the activity of its tag stands
  pub last_place : earliest_of (tokens (own + 1) m) tag ≡ unwrap_or other own
  last_place = own_place tag port own (own + 1) m (omega arith) w.low w.first other w.partner w.ports ∙ (partner_place other own last_within).0

  pub last_flag : unwrap_or other own < 2048
  last_flag = omega (arith, (partner_place other own last_within).1, w.few)

  -- and whether it is ready
  pub last_ready : (k : ℕ) → ready_with k port (live_found (token_at m) (Some own)) (live_found (token_at m) other) ≡ operands_live k (tokens (own + 1) m) tag
  last_ready k = own_ready tag port own (own + 1) m (omega arith) w.low w.first other w.partner k

  -- a live operand completes it if the other is live, where there is one
  pub last_completes : (k : ℕ) → (k ≡ 1 → port ≡ 0) → is_live_record (token_at m own).content ≡ true → ready_of k true (live_found (token_at m) other) ≡ operands_live k (tokens (own + 1) m) tag
  last_completes k alone on = sym (go (eqb port 0) refl (eqb k 1) refl (eqb k 2) (live_found (token_at m) other)) ∙ ap (λ (b : Bool). ready_with k port b (live_found (token_at m) other)) (sym on) ∙ last_ready k
    where
      go : (b : Bool) → eqb port 0 ≡ b → (one : Bool) → eqb k 1 ≡ one → (two : Bool) (x : Bool)
          → cond b (cond one true (cond two (true && x) false)) (cond one x (cond two (x && true) false)) ≡ cond one true (cond two (true && x) false)
      go true e one f two x = refl
      go false e true f two x = absurd (omega (arith, eqb-false port 0 e, alone (eqb-true k 1 f)))
      go false e false f true true = refl
      go false e false f true false = refl
      go false e false f false x = refl

  -- of a token that may be no operand
  pub last_operand : (k : ℕ) → is_live_record (token_at m own).content ≡ true
      → (ltb port k && ready_of k true (live_found (token_at m) other)) ≡ (ltb port k && operands_live k (tokens (own + 1) m) tag)
  last_operand k on = go (ltb port k) refl
    where
      go : (b : Bool) → ltb port k ≡ b → (b && ready_of k true (live_found (token_at m) other)) ≡ (b && operands_live k (tokens (own + 1) m) tag)
      go true e = last_completes k (λ one. omega (arith, ltb-true port k e)) on
      go false e = refl

  pub last_waits : (k : ℕ) → (k ≡ 1 → port ≡ 0) → is_live_record (token_at m own).content ≡ false → operands_live k (tokens (own + 1) m) tag ≡ false
  last_waits k alone off = own_waits tag port own (own + 1) m (omega arith) w.low w.first other w.partner k alone off
