-- Laws of partners: they stay as a token arrives beside its own, as one is replaced on its port of its tag, and as a chain is changed. Assumes nothing.
use Prim.Native.Nat.{ℕ, ◌+◌, ◌-◌, ◌≤◌, ◌<◌}
use mathlib.Core.Path.{◌≡◌, refl, sym, ap, ◌∙◌}
use mathlib.Core.Bool.{Bool, true, false, cond}
use mathlib.Core.List.{List, [], ◌∷◌, ◌++◌}
use native.Mathlib.Omega.{arith}
use native.Mathlib.Decide.{ℕ_discrete, dec_lt}
use native.Mathlib.Nat.{not-suc-le-zero}
use lib.ListN.{length, get_or, set, length-append, length-set, get_or-append}
use lib.Seq.{get_or-set_same, get_or-set_other}
use Rattle.record.specs.TokensAndTags.{stands_at}
use Rattle.record.specs.declared.tag.Tag.{Tag}
use Rattle.record.specs.declared.token.Token.{Token}
use Rattle.std.specs.Prelude.{Option, Some, None}
use Rattle.store_chains.specs.declared.Slot.{Slot}
use Rattle.store_chains.specs.Search.{first_from, found_of, FoundWithin, Single}
use Rattle.store_chains.specs.Slots.{Open}
use Rattle.store_chains.specs.Chains.{Chained}
use Rattle.store_chains.specs.Partners.{partner_at, Partnered, paired, Beside}
use Rattle.store_chains.proofs.Search.{found_some, first_passes, first_added, first_past, first_set, first_within_lem, all_at, get_d_end}
use Rattle.store_chains.proofs.Chains.{chained_past}
use Rattle.store_chains.proofs.Index.{stands_is, stands_own, stands_same, stands_once}

-- ---- what is beside a token

pub partner_found : (links : List ℕ) (ts : List Token) → Partnered links ts → (i : ℕ) (d : Token) → i < length ts → (tag : Tag) (port : ℕ) → tag ≡ (get_or ts i d).tag → port ≡ (get_or ts i d).port
    → partner_at links i ≡ first_from (stands_at tag (1 - port)) 0 ts
partner_found links ts w i d h tag port e g = rw (e, g) (w.beside i d h)

pub partnered_none : (links : List ℕ) → 11264 ≤ length links → Partnered links []
partnered_none links h = record { room = h; few = omega arith; beside = λ i d l. absurd (not-suc-le-zero l) }

-- a chain is changed
pub partnered_before : (links : List ℕ) (ts : List Token) → Partnered links ts → (j v : ℕ) → j < 9216 → Partnered (set links j v) ts
partnered_before links ts w j v h = record {
  room = omega (arith, length-set links j v, w.room);
  few = w.few;
  beside = λ i d l. ap found_of (get_or-set_other links j (i + 9216) v 0 (λ q. omega arith)) ∙ w.beside i d l;
}

pub beside_before : (links : List ℕ) (ts : List Token) (t : Token) (s : Slot) → Beside links ts t s → (j v : ℕ) → j < 9216 → Beside (set links j v) ts t s
beside_before links ts t s b j v h = record { partners = partnered_before links ts b.partners j v h; single = b.single; ports = b.ports; low = b.low; slot = b.slot }

-- a token is replaced
pub partnered_set : (links : List ℕ) (ts : List Token) → Partnered links ts → (j : ℕ) (u x : Token) → j < length ts → u.tag ≡ (get_or ts j x).tag → u.port ≡ (get_or ts j x).port
    → Partnered links (set ts j u)
partnered_set links ts w j u x h e g = record {
  room = w.room;
  few = omega (arith, length-set ts j u, w.few);
  beside = λ i d l. go i d (omega (arith, length-set ts j u)) (ℕ_discrete i j);
}
  where
    us : List Token
    us = set ts j u

    same : (tag : Tag) (port : ℕ) → first_from (stands_at tag port) 0 us ≡ first_from (stands_at tag port) 0 ts
    same tag port = first_set (stands_at tag port) ts j u x (stands_same tag port u (get_or ts j x) e g) 0

    go : (i : ℕ) (d : Token) → i < length ts → Dec (i ≡ j) → partner_at links i ≡ first_from (stands_at (get_or us i d).tag (1 - (get_or us i d).port)) 0 us
    go i d below (yes q) =
        let here : get_or us i d ≡ u = rw q (get_or-set_same ts j u d h) in
        rw (here, same u.tag (1 - u.port), e, g, ← q) (w.beside i x below)
    go i d below (no q) =
        let other : get_or us i d ≡ get_or ts i d = get_or-set_other ts j i u d q in
        rw (other, same (get_or ts i d).tag (1 - (get_or ts i d).port)) (w.beside i d below)

-- ---- a token arrives beside its partner

found_one : (i : ℕ) → found_of (i + 1) ≡ Some i
found_one i = let back : i + 1 - 1 ≡ i = omega arith in sym (found_some (i + 1) (λ z. omega arith)) ∙ ap Some back

module _ (links : List ℕ) (n : ℕ) where
  -- all that were there and are not found have what they had
  pub paired_past : (f : Option ℕ) (i : ℕ) → i < n → (f ≡ Some i → ⊥) → partner_at (paired links n f) i ≡ partner_at links i
  paired_past (Some j) i h apart =
      let from : i + 9216 ≡ j + 9216 → ⊥ = λ q. apart (ap Some (omega arith)) in
      rw (get_or-set_other (set links (n + 9216) (j + 1)) (j + 9216) (i + 9216) (n + 1) 0 from, get_or-set_other links (n + 9216) (i + 9216) (j + 1) 0 (λ q. omega arith))
  paired_past None i h apart = ap found_of (get_or-set_other links (n + 9216) (i + 9216) 0 0 (λ q. omega arith))

  -- and every chain
  pub paired_chained : (from size : ℕ) (key : Token → ℕ) (ts : List Token) → from + size + 2048 ≤ 9216 → Chained from size key links ts → (f : Option ℕ)
      → Chained from size key (paired links n f) ts
  paired_chained from size key ts h w (Some i) =
      chained_past from size key (set links (n + 9216) (i + 1)) ts (chained_past from size key links ts w (n + 9216) (i + 1) (omega arith)) (i + 9216) (n + 1) (omega arith)
  paired_chained from size key ts h w None = chained_past from size key links ts w (n + 9216) 0 (omega arith)

  pub paired_length : (f : Option ℕ) → length (paired links n f) ≡ length links
  paired_length (Some i) = length-set (set links (n + 9216) (i + 1)) (i + 9216) (n + 1) ∙ length-set links (n + 9216) (i + 1)
  paired_length None = length-set links (n + 9216) 0

  module _ (few : n < 2048) (room : 11264 ≤ length links) where
    -- what a search found is beside the token
    pub paired_own : (f : Option ℕ) → FoundWithin f n → partner_at (paired links n f) n ≡ f
    paired_own (Some i) h =
        let apart : n + 9216 ≡ i + 9216 → ⊥ = λ q. omega arith in
        rw (get_or-set_other (set links (n + 9216) (i + 1)) (i + 9216) (n + 9216) (n + 1) 0 apart, get_or-set_same links (n + 9216) (i + 1) 0 (omega arith)) (found_one i)
    paired_own None h = ap found_of (get_or-set_same links (n + 9216) 0 0 (omega arith))

    -- and the token beside what was found
    pub paired_other : (i : ℕ) → i < n → partner_at (paired links n (Some i)) i ≡ Some n
    paired_other i h = rw (get_or-set_same (set links (n + 9216) (i + 1)) (i + 9216) (n + 1) 0 (omega (arith, length-set links (n + 9216) (i + 1)))) (found_one n)

module _ (links : List ℕ) (ts : List Token) (t : Token) (n : ℕ) (len : length ts ≡ n) (few : n < 2048) (s : Slot) (b : Beside links ts t s) where
  abbrev us : List Token
  us = ts ++ t ∷ []

  abbrev links' : List ℕ
  links' = paired links n s.partner

  abbrev w : Partnered links ts
  w = b.partners

  abbrev o : Open ts t.tag t.port s
  o = b.slot

  own : stands_at t.tag t.port t ≡ true
  own = stands_own t.tag t.port t refl refl

  partner_within : FoundWithin s.partner n
  partner_within = rw (o.partner, ← len) (first_within_lem (stands_at t.tag (1 - t.port)) ts)

  -- a token that was there: the one that arrives is its partner, or it has the one that it had
  beside_other : (i : ℕ) (d : Token) → i < length ts → partner_at links' i ≡ first_from (stands_at (get_or ts i d).tag (1 - (get_or ts i d).port)) 0 us
  unfolding Single
  beside_other i d h = go (stands_at (get_or ts i d).tag (1 - (get_or ts i d).port) t) refl
    where
      g : Tag
      g = (get_or ts i d).tag

      p : ℕ
      p = (get_or ts i d).port

      p_low : p < 2
      p_low = all_at (λ (x : Token). x.port < 2) ts i d h b.ports

      go : (b : Bool) → stands_at g (1 - p) t ≡ b → partner_at links' i ≡ first_from (stands_at g (1 - p)) 0 us
      go true q =
          let st = stands_is g (1 - p) t q in
          let back : 1 - t.port ≡ p = omega (arith, st.1, p_low) in
          let found : s.partner ≡ Some i = o.partner ∙ rw (st.0, back) (b.single i d h) in
          let free : first_from (stands_at g (1 - p)) 0 ts ≡ None = rw (st.0, st.1) at o.free in
          ap (λ (f : Option ℕ). partner_at (paired links n f) i) found ∙ paired_other links n few w.room i (omega arith) ∙ sym (first_added (stands_at g (1 - p)) t ts free q ∙ ap Some len)
      go false q =
          let apart : s.partner ≡ Some i → ⊥ = λ z.
          let st = stands_is t.tag (1 - t.port) (get_or ts i d) (first_passes (stands_at t.tag (1 - t.port)) d ts i (sym o.partner ∙ z)) in
          let there : stands_at g (1 - p) t ≡ true = stands_own g (1 - p) t (sym st.0) (omega (arith, st.1, b.low)) in
          let none : false ≡ true = sym q ∙ there in
          let zero_one : ◌≡◌ {A = ℕ} 0 1 = ap (λ b. cond b 1 0) none in
          absurd (omega arith) in
          paired_past links n s.partner i (omega arith) apart ∙ w.beside i d h ∙ sym (first_past (stands_at g (1 - p)) ts t 0 q)

  -- the token that arrives has that of its slot
  beside_own : partner_at links' n ≡ first_from (stands_at t.tag (1 - t.port)) 0 us
  beside_own =
      let off = stands_once t.tag t.port (1 - t.port) t (λ q. omega arith) own in
      paired_own links n few w.room s.partner partner_within ∙ o.partner ∙ sym (first_past (stands_at t.tag (1 - t.port)) ts t 0 off)

  pub partnered_append : Partnered links' us
  partnered_append = record {
    room = omega (arith, paired_length links n s.partner, w.room);
    few = omega (arith, length-append ts (t ∷ []), len);
    beside = λ i d h. go i d h (dec_lt i (length ts));
  }
    where
      go : (i : ℕ) (d : Token) → i < length us → Dec (i < length ts) → partner_at links' i ≡ first_from (stands_at (get_or us i d).tag (1 - (get_or us i d).port)) 0 us
      go i d h (yes l) = rw (get_or-append ts (t ∷ []) d i l) (beside_other i d l)
      go i d h (no z) =
          let e : i ≡ length ts = omega (arith, length-append ts (t ∷ [])) in
          let here : get_or us (length ts) d ≡ t = get_d_end ts t d in
          rw (e, here, len) beside_own
