-- The token at the place of a tag is one of the tag's operands: the earliest token of a tag is the first on its port. Assumes nothing.
use Prim.Native.Nat.{ℕ, zero, suc, ◌-◌, ◌/◌, ◌<◌}
use mathlib.Core.Path.{◌≡◌, refl, sym, ap, ◌∙◌}
use mathlib.Core.Bool.{Bool, true, false, cond}
use mathlib.Core.List.{List, [], ◌∷◌}
use native.Mathlib.Omega.{arith}
use lib.ListN.{length, get_or}
use lib.Dec.{eqb}
use borrow.Author.Tests.{eq-eqb, ne_eqb}
use Rattle.buffer.proofs.Tables.{length_rows, get_d_rows}
use Rattle.record.specs.declared.tag.Tag.{Tag}
use Rattle.record.specs.declared.token.Token.{Token}
use Rattle.record.specs.TokensAndTags.{stands_at, decode_token, tokens, token_at, value_in}
use Rattle.record.specs.Widths.{token_width}
use Rattle.record.specs.declared.token.Content.{Content}
use Rattle.record.specs.declared.token.Content.TheVariants.{Live, Spent, Deferred}
use Rattle.std.specs.Prelude.{Option, Some, None, unwrap_or}
use Rattle.store_chains.specs.Search.{first_from}
use Rattle.store_chains.specs.Partners.{partner_at}
use Rattle.store_chains.proofs.Search.{first_cons}
use Rattle.store_chains.proofs.Index.{and_left, and_right, found_within}
use Rattle.store_enabled.specs.Enabled.{is_live_record, live_on, operands_live, tag_same, earliest_of}
use Rattle.store_enabled.specs.Store.{Known, live_found}
use Rattle.store_enabled.proofs.Places.{stands_tag, stands_other, live_found_lem}
use Rattle.store_enabled.proofs.Stored.{all_at, known_few, known_partner}
use Rattle.abstraction.specs.States.{no_token}
use Rattle.fire_operands.specs.Operands.{Held, operand_held, operand_found, operand_at, one, two, both_at, Earliest, matched_at}

first_on_port : (tag : Tag) (d : Token) (ts : List Token) (i : ℕ) → i < length ts → earliest_of ts tag ≡ i → first_from (stands_at tag (get_or ts i d).port) 0 ts ≡ Some i
first_on_port tag d [] i h p = absurd (omega arith)
first_on_port tag d (t ∷ ts) zero h p = go (tag_same tag t.tag) refl p
  where
    go : (s : Bool) → tag_same tag t.tag ≡ s → cond s 0 (suc (earliest_of ts tag)) ≡ 0 → first_from (stands_at tag t.port) 0 (t ∷ ts) ≡ Some 0
    go true e q = rw (stands_tag tag t.port t refl e)
    go false e q = absurd (omega arith)
first_on_port tag d (t ∷ ts) (suc i) h p = go (get_or ts i d).port (tag_same tag t.tag) refl p (first_on_port tag d ts i (omega arith))
  where
    go : (port : ℕ) (s : Bool) → tag_same tag t.tag ≡ s → cond s 0 (suc (earliest_of ts tag)) ≡ suc i → (earliest_of ts tag ≡ i → first_from (stands_at tag port) 0 ts ≡ Some i)
        → first_from (stands_at tag port) 0 (t ∷ ts) ≡ Some (suc i)
    go port true e q ih = absurd (omega arith)
    go port false e q ih = first_cons (stands_at tag port) t ts ∙ rw (stands_other tag port t e, ih (omega arith))

-- a live content is that of its value
live_value_lem : (i : ℕ) (x : Content) → is_live_record x ≡ true → operand_held i x ≡ Held i (value_in x)
unfolding operand_held
live_value_lem i (Live v) e = refl
live_value_lem i (Spent v) e = let z : ◌≡◌ {A = ℕ} 0 1 = ap (λ b. cond b 1 0) e in absurd (omega arith)
live_value_lem i (Deferred c) e = let z : ◌≡◌ {A = ℕ} 0 1 = ap (λ b. cond b 1 0) e in absurd (omega arith)

-- one operand is waited for, or two
one_or_two : (n : ℕ) (ts : List Token) (tag : Tag) → operands_live n ts tag ≡ true → (n ≡ 2 → ⊥) → (n ≡ 1) × (live_on ts tag 0 ≡ true)
unfolding operands_live
one_or_two zero ts tag e other = let z : ◌≡◌ {A = ℕ} 0 1 = ap (λ b. cond b 1 0) e in absurd (omega arith)
one_or_two (suc zero) ts tag e other = (refl, e)
one_or_two (suc (suc zero)) ts tag e other = absurd (other refl)
one_or_two (suc (suc (suc n))) ts tag e other =
    let none : false ≡ true = rw (ne_eqb (suc (suc (suc n))) 1 (λ q. omega arith), ne_eqb (suc (suc (suc n))) 2 (λ q. omega arith)) at e in
    let z : ◌≡◌ {A = ℕ} 0 1 = ap (λ b. cond b 1 0) none in
    absurd (omega arith)

both_live_lem : (ts : List Token) (tag : Tag) → operands_live 2 ts tag ≡ true → (live_on ts tag 0 ≡ true) × (live_on ts tag 1 ≡ true)
unfolding operands_live
both_live_lem ts tag e = (and_left (live_on ts tag 0) (live_on ts tag 1) e, and_right (live_on ts tag 0) (live_on ts tag 1) e)

-- what a search of a live port found, as an operand
found_operand : (n : ℕ) (l : List ℕ) (tag : Tag) (port d : ℕ) (f : Option ℕ) → f ≡ first_from (stands_at tag port) 0 (tokens n l) → live_on (tokens n l) tag port ≡ true
    → (unwrap_or f d < n) × (operand_at (tokens n l) tag port ≡ Held (unwrap_or f d) (value_in (token_at l (unwrap_or f d)).content))
unfolding operand_at operand_found
found_operand n l tag port d (Some i) e h =
    let within : i < n = rw (← e) at (found_within (stands_at tag port) n l) in
    let live : is_live_record (token_at l i).content ≡ true = ap (live_found (token_at l)) e ∙ live_found_lem tag port n l ∙ h in
    (within, rw (← e, get_d_rows token_width decode_token n i l no_token within) (live_value_lem i (token_at l i).content live))
found_operand n l tag port d None e h = let z : ◌≡◌ {A = ℕ} 0 1 = ap (λ b. cond b 1 0) (ap (live_found (token_at l)) e ∙ live_found_lem tag port n l ∙ h) in absurd (omega arith)

same_place : (b : Bool) (i : ℕ) → cond b i i ≡ i
same_place true i = refl
same_place false i = refl

module _ {arity used place : ℕ} {links ledger : List ℕ} {tag : Tag} (k : Known links ledger used) (e : Earliest arity (tokens used ledger) tag place) where
  abbrev ts : List Token
  ts = tokens used ledger

  place_within : place < used
  place_within = omega (arith, e.within, length_rows token_width decode_token used ledger)

  pub place_low : place < 2048
  place_low = omega (arith, place_within, known_few links ledger used k)

  pub within : place < length ledger / token_width
  within = omega (arith, k.room, e.within, length_rows token_width decode_token used ledger)

  module _ (t : Token) (same : t ≡ token_at ledger place) where
    there : get_or ts place no_token ≡ t
    there = get_d_rows token_width decode_token used place ledger no_token (omega (arith, e.within, length_rows token_width decode_token used ledger)) ∙ sym same

    pub port_low : t.port < 2
    port_low = rw there at (all_at (λ (u : Token). u.port < 2) ts place no_token e.within k.ports)

    own_found : Some place ≡ first_from (stands_at tag t.port) 0 ts
    own_found = sym (rw there at (first_on_port tag no_token ts place e.within e.first))

    own_operand : live_on ts tag t.port ≡ true → operand_at ts tag t.port ≡ Held place (value_in t.content)
    own_operand h = (found_operand used ledger tag t.port place (Some place) own_found h).1 ∙ ap (λ (u : Token). Held place (value_in u.content)) (sym same)

    -- one is waited for
    pub alone : (arity ≡ 2 → ⊥) → both_at t.port place place (value_in t.content) (value_in t.content) ≡ matched_at arity ts tag
    unfolding matched_at one
    alone not-two =
        let n = one_or_two arity ts tag e.enabled not-two in
        let z : t.port ≡ 0 = omega (arith, n.0, rw there at (e.waited (omega (arith, n.0)))) in
        rw (same_place (eqb t.port 0) place, n.0, rw z at (own_operand (rw z n.1)))

    -- two are: what is beside it
    module _ (two_out : arity ≡ 2) (f : Option ℕ) (beside : f ≡ partner_at links place) where
      found : f ≡ first_from (stands_at tag (1 - t.port)) 0 ts
      found = beside ∙ (known_partner links ledger used k place tag t.port place_within (sym own_found)).0

      live_on_lem : (port : ℕ) → port < 2 → live_on ts tag port ≡ true
      live_on_lem zero h = (both_live_lem ts tag (rw two_out at e.enabled)).0
      live_on_lem (suc zero) h = (both_live_lem ts tag (rw two_out at e.enabled)).1
      live_on_lem (suc (suc p)) h = absurd (omega arith)

      other : (unwrap_or f place < used) × (operand_at ts tag (1 - t.port) ≡ Held (unwrap_or f place) (value_in (token_at ledger (unwrap_or f place)).content))
      other = found_operand used ledger tag (1 - t.port) place f found (live_on_lem (1 - t.port) (omega arith))

      pub other_within : unwrap_or f place < length ledger / token_width
      other_within = omega (arith, other.0, k.room)

      -- the token stands on port 0, or on port 1
      pub as_first : t.port ≡ 0 → both_at t.port place (unwrap_or f place) (value_in t.content) (value_in (token_at ledger (unwrap_or f place)).content) ≡ matched_at arity ts tag
      unfolding matched_at two
      as_first z =
          let own = own_operand (live_on_lem t.port port_low) in
          rw (eq-eqb t.port 0 z, two_out, rw z at own, rw z at other.1)

      pub as_second : (t.port ≡ 0 → ⊥) → both_at t.port place (unwrap_or f place) (value_in (token_at ledger (unwrap_or f place)).content) (value_in t.content) ≡ matched_at arity ts tag
      unfolding matched_at two
      as_second not_first =
          let z : t.port ≡ 1 = omega (arith, port_low) in
          let own = own_operand (live_on_lem t.port port_low) in
          rw (ne_eqb t.port 0 not_first, two_out, rw z at own, rw z at other.1)
