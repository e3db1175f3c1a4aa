-- Laws of the flags of the enabled activities: what keeps them right, and what they then say. Assumes nothing.
use Prim.Native.Nat.{ℕ, zero, suc, ◌+◌, ◌-◌, ◌≤◌, ◌<◌}
use mathlib.Core.Path.{◌≡◌, refl, sym, ap, ◌∙◌}
use mathlib.Core.Bool.{Bool, true, false, ◌&&◌, cond}
use mathlib.Core.List.{List, [], ◌∷◌, ◌++◌, map-append}
use native.Mathlib.Omega.{arith}
use native.Mathlib.Nat.{not-suc-le-zero, le_of_suc-le-suc}
use lib.Dec.{eqb}
use lib.ListN.{length, get_or, set, replicate, length-map}
use lib.Seq.{map-set_same, set-get_or}
use borrow.Author.Tests.{eqb-true}
use Rattle.record.specs.Paths.{same_path}
use Rattle.record.specs.TokensAndTags.{same_tag}
use Rattle.record.proofs.Paths.{same_path_lem}
use Rattle.record.specs.declared.tag.Tag.{Tag}
use Rattle.record.specs.declared.token.Token.{Token}
use Rattle.store_flags.specs.Flags.{places, FlagList}
use Rattle.store_flags.specs.Marks.{bit, first_of, places_where}
use Rattle.store_flags.specs.Marks as Marks
use Rattle.store_flags.proofs.Marks.{first_le, where_map, where_passes, where_below, marked_list, marked_none, marked_places, marked_append, marked_change, marked_first}
use Rattle.store_chains.proofs.Index.{and_left, and_right, tag_own}
use Rattle.store_enabled.specs.Enabled.{live_on, operands_live, arity_of, is_enabled, tag_of, tags_in, tag_same, earliest_of, leads_in, enabled_places}
use Rattle.store_enabled.specs.Store.{Right}
use Rattle.store_enabled.proofs.Places.{stands_other}

-- ---- equality of tags

pub tag_equal : (a b : Tag) → tag_same a b ≡ true → a ≡ b
unfolding same_tag
tag_equal a b e =
    let p = same_path b.path a.path in
    let i = eqb b.iteration a.iteration in
    let n = eqb b.instruction a.instruction in
    let y = and_right p (i && n) e in
    let x : a.path ≡ b.path = sym (same_path_lem _ _ (and_left p (i && n) e)) in
    let u : a.iteration ≡ b.iteration = sym (eqb-true _ _ (and_left i n y)) in
    let v : a.instruction ≡ b.instruction = sym (eqb-true _ _ (and_right i n y)) in
    λ k. record { path = x k; iteration = u k; instruction = v k }

tag_apart : (a b : Tag) → tag_same a b ≡ false → tag_same b a ≡ false
tag_apart a b e = go (tag_same b a) refl
  where
    go : (t : Bool) → tag_same b a ≡ t → t ≡ false
    go false d = refl
    go true d = let h : tag_same a a ≡ false = rw (tag_equal b a d) at e in sym (tag_own a) ∙ h

-- ---- where nothing changes for a tag

all_same : (n : ℕ) (us ts : List Token) (y : Tag) → ((port : ℕ) → live_on us y port ≡ live_on ts y port) → operands_live n us y ≡ operands_live n ts y
unfolding operands_live
all_same n us ts y e = rw (e 0, e 1)

live_append : (y : Tag) (port : ℕ) (t : Token) → tag_same y t.tag ≡ false → (ts : List Token) → live_on (ts ++ t ∷ []) y port ≡ live_on ts y port
live_append y port t e [] = rw (stands_other y port t e)
live_append y port t e (x ∷ ts) = rw (live_append y port t e ts)

-- a token is replaced by one of its tag
live_set : (y : Tag) (port : ℕ) (u d : Token) (ts : List Token) (i : ℕ) → u.tag ≡ (get_or ts i d).tag → tag_same u.tag y ≡ false
    → live_on (set ts i u) y port ≡ live_on ts y port
live_set y port u d [] i e f = refl
live_set y port u d (t ∷ ts) zero e f =
    let a = tag_apart u.tag y f in
    rw (stands_other y port u a, stands_other y port t (rw e at a))
live_set y port u d (t ∷ ts) (suc i) e f = rw (live_set y port u d ts i e f)

-- ---- where a tag is not enabled

-- every activity waits for port 0
pub all_off : (n : ℕ) (ts : List Token) (y : Tag) → live_on ts y 0 ≡ false → operands_live n ts y ≡ false
unfolding operands_live
all_off n ts y e = rw e (go (eqb n 1) (eqb n 2))
  where
    go : (a b : Bool) → cond a false (cond b false false) ≡ false
    go true b = refl
    go false true = refl
    go false false = refl

-- ---- places

pub first_append : (t : Tag) (l : List Tag) → first_of tag_same t (l ++ t ∷ []) ≡ first_of tag_same t l
first_append t [] = rw (tag_own t)
first_append t (x ∷ l) = rw (first_append t l)

first_below : (l : List Tag) (k d : Tag) (i : ℕ) → i < length l → get_or l i d ≡ k → first_of tag_same k l ≤ i
first_below [] k d i h e = absurd (not-suc-le-zero h)
first_below (x ∷ l) k d zero h e = rw (e, tag_own k) (omega arith)
first_below (x ∷ l) k d (suc i) h e = go (tag_same k x) (first_below l k d i (le_of_suc-le-suc h) e)
  where
    go : (b : Bool) → first_of tag_same k l ≤ i → cond b 0 (suc (first_of tag_same k l)) ≤ suc i
    go true ih = omega arith
    go false ih = omega arith

tag_at : (ts : List Token) (i : ℕ) (d : Token) → get_or (tags_in ts) i d.tag ≡ (get_or ts i d).tag
tag_at [] i d = refl
tag_at (t ∷ ts) zero d = refl
tag_at (t ∷ ts) (suc i) d = tag_at ts i d

pub tags_append_lem : (ts : List Token) (t : Token) → tags_in (ts ++ t ∷ []) ≡ tags_in ts ++ t.tag ∷ []
tags_append_lem ts t = map-append tag_of ts (t ∷ [])

-- the place of a token's tag, once the token is there
pub place_append : (ts : List Token) (t : Token) → earliest_of (ts ++ t ∷ []) t.tag < length ts + 1
place_append ts t = rw (tags_append_lem ts t, first_append t.tag (tags_in ts)) (omega (arith, first_le tag_same t.tag (tags_in ts), length-map ts tag_of))

pub place_set : (ts : List Token) (i : ℕ) (u d : Token) → i < length ts → u.tag ≡ (get_or ts i d).tag → earliest_of (set ts i u) u.tag < length ts
place_set ts i u d h e =
    let f = first_below (tags_in ts) u.tag d.tag i (omega (arith, length-map ts tag_of)) (tag_at ts i d ∙ sym e) in
    rw (map-set_same tag_of ts i u d e) (omega arith)

pub place_kept : (ts : List Token) (i : ℕ) (u d : Token) → u.tag ≡ (get_or ts i d).tag → (tag : Tag) → earliest_of (set ts i u) tag ≡ earliest_of ts tag
place_kept ts i u d e tag = ap (first_of tag_same tag) (map-set_same tag_of ts i u d e)

-- ---- the flags

-- to put a flag down that is not raised changes nothing
pub stays : (flags : List ℕ) (p : ℕ) → get_or flags p 0 ≡ 0 → flags ≡ set flags p 0
stays flags p e = sym (ap (λ (x : ℕ). set flags p x) (sym e) ∙ set-get_or flags p 0)

module _ (tables : List ℕ) where
  pub right_list : (ts : List Token) (flags : List ℕ) → length ts ≤ 2048 → Right tables ts flags → FlagList flags
  unfolding Right
  right_list ts flags few right = marked_list tag_same (is_enabled tables ts) (tags_in ts) flags (omega (arith, few, length-map ts tag_of)) right

  pub right_none : Right tables [] (replicate 2048 0)
  unfolding Right
  right_none = marked_none tag_same (is_enabled tables [])

  -- the flags' ones are the places of the enabled activities, in order, each once
  pub right_places : (ts : List Token) (flags : List ℕ) → Right tables ts flags → places flags ≡ enabled_places tables ts
  unfolding Right enabled_places
  right_places ts flags w =
      marked_places tag_same tag_equal tag_own (is_enabled tables ts) (tags_in ts) flags w
      ∙ where_map tag_of (Marks.leads tag_same (is_enabled tables ts) (tags_in ts)) 0 ts

  pub enabled_below : (ts : List Token) (k : ℕ) → k < length (enabled_places tables ts) → get_or (enabled_places tables ts) k 0 < length ts
  unfolding enabled_places
  enabled_below ts k h = omega (arith, where_below _ 0 ts k h)

  -- the token at the place of an enabled activity is the earliest of its tag, and its tag is enabled
  pub enabled_leads : (ts : List Token) (d : Token) (k : ℕ) → k < length (enabled_places tables ts)
      → let i = get_or (enabled_places tables ts) k 0 in
      (earliest_of ts (get_or ts i d).tag ≡ i) × (is_enabled tables ts (get_or ts i d).tag ≡ true)
  unfolding enabled_places
  enabled_leads ts d k h =
      let i = get_or (places_where (leads_in tables ts) 0 ts) k 0 in
      let z : i - 0 ≡ i = omega arith in
      let w : leads_in tables ts i (get_or ts i d) ≡ true = rw z at (where_passes (leads_in tables ts) 0 ts d k h).1 in
      let a = eqb (earliest_of ts (get_or ts i d).tag) i in
      let b = is_enabled tables ts (get_or ts i d).tag in
      (eqb-true (earliest_of ts (get_or ts i d).tag) i (and_left a b w), and_right a b w)

  -- a token arrives, and the flag of its tag is put
  pub right_append : (ts : List Token) (t : Token) (flags : List ℕ) → length ts < 2048 → Right tables ts flags
      → let us = ts ++ t ∷ [] in Right tables us (set flags (earliest_of us t.tag) (bit (is_enabled tables us t.tag)))
  unfolding Right
  right_append ts t flags h w =
      let us = ts ++ t ∷ [] in
      rw (tags_append_lem ts t, first_append t.tag (tags_in ts))
      (marked_append tag_same tag_equal tag_own (is_enabled tables ts) (is_enabled tables us) t.tag
      (λ y d. all_same (arity_of tables y) us ts y (λ port. live_append y port t (tag_apart t.tag y d) ts))
      (tags_in ts) flags (omega (arith, length-map ts tag_of)) w)

  -- a token is replaced by one of its tag, and the flag of the tag is put
  pub right_set : (ts : List Token) (i : ℕ) (u d : Token) (flags : List ℕ) → i < length ts → u.tag ≡ (get_or ts i d).tag → Right tables ts flags
      → let us = set ts i u in Right tables us (set flags (earliest_of us u.tag) (bit (is_enabled tables us u.tag)))
  unfolding Right
  right_set ts i u d flags h e w =
      let us = set ts i u in
      let q : first_of tag_same u.tag (tags_in ts) < length ts = rw (map-set_same tag_of ts i u d e) at (place_set ts i u d h e) in
      let p : first_of tag_same u.tag (tags_in ts) < length (tags_in ts) = omega (arith, length-map ts tag_of) in
      rw (map-set_same tag_of ts i u d e)
      (marked_change tag_same tag_equal tag_own (is_enabled tables ts) (is_enabled tables us) u.tag
      (λ y f. all_same (arity_of tables y) us ts y (λ port. live_set y port u d ts i e f))
      (tags_in ts) flags p w)

  pub right_flag : (ts : List Token) (flags : List ℕ) (tag : Tag) → earliest_of ts tag < length ts → Right tables ts flags
      → get_or flags (earliest_of ts tag) 0 ≡ bit (is_enabled tables ts tag)
  unfolding Right
  right_flag ts flags tag h w = marked_first tag_same tag_equal tag_own (is_enabled tables ts) (tags_in ts) flags tag (omega (arith, length-map ts tag_of)) w
