-- The machine's operands of a tag are the values of the matched token records, whose places are given. Assumes nothing.
use Prim.Native.Nat.{ℕ, zero, suc, ◌<◌, ◌≤◌}
use mathlib.Core.Path.{◌≡◌, refl, sym, ap, ◌∙◌}
use mathlib.Core.Bool.{cond}
use mathlib.Core.List.{List}
use mathlib.Core.Logic.{◌⊎◌, inl, inr}
use mathlib.Core.Option.{Option, none, some}
use native.Mathlib.Omega.{arith}
use lib.IntN.{ℤ}
use lib.ListN.{length, get_or}
use Rattle.record.specs.declared.array.NamedArray.{NamedArray}
use Rattle.record.specs.declared.tag.Tag.{Tag}
use Rattle.record.specs.declared.token.Token as Record
use Rattle.record.specs.declared.token.Content as RecordContent
use Rattle.record.specs.declared.token.Content.TheVariants.{Live, Spent, Deferred}
use Rattle.record.specs.declared.cell.Cell as RecordCell
use Rattle.record.specs.declared.instruction.Instruction.{Instruction}
use Rattle.record.specs.TokensAndTags.{stands_at}
use Rattle.machine.specs.Machine.{Machine, Operands, live_value, all_there, two_values, look, operands, live_at}
use Rattle.rules.specs.InstructionSet.{arity_in, machine_of}
use Rattle.rules.specs.Run.{content_held}
use Rattle.std.specs.Prelude.{Some, None}
use Rattle.std.specs.Prelude as Std
use Rattle.store_chains.specs.Search.{first_from}
use Rattle.abstraction.specs.States.{no_token, state_held}
use Rattle.abstraction.proofs.Keys.{search_at, found_content, held_find}
use Rattle.fire_operands.specs.Operands.{Operand, Held, Lacking, Matched, Both, Missing, operand_held, operand_found, operand_at, one, two, matched_at}

-- ---- the operands of a tag, as values

abbrev value_of : Operand → Option ℤ
value_of (Held i v) = some v
value_of Lacking = none

abbrev pub values_of : Matched → Option (Operands ℤ)
values_of (Both i j v w) = some (record { left = v; right = w })
values_of Missing = none

content_value : (i : ℕ) (x : RecordContent.Content) → live_value (some (content_held x)) ≡ value_of (operand_held i x)
unfolding operand_held
content_value i (Live v) = refl
content_value i (Spent v) = refl
content_value i (Deferred c) = refl

found_value : (ts : List Record.Token) (f : Std.Option ℕ) → live_value (found_content no_token ts f) ≡ value_of (operand_found ts f)
unfolding operand_found
found_value ts (Some i) = content_value i (get_or ts i no_token).content
found_value ts None = refl

-- what the machine makes of the values at the ports below n
abbrev chosen : (n : ℕ) → (value : ℕ → Option ℤ) → Option (Operands ℤ)
chosen n value = cond (all_there value n) (two_values n (value 0) (value 1)) none

module _ (value : ℕ → Option ℤ) where
  one_value : (o : Operand) → value 0 ≡ value_of o → chosen 1 value ≡ values_of (one o)
  unfolding one
  one_value (Held i v) e = rw e
  one_value Lacking e = rw e

  two_values_lem : (o p : Operand) → value 0 ≡ value_of o → value 1 ≡ value_of p → chosen 2 value ≡ values_of (two o p)
  unfolding two
  two_values_lem (Held i v) (Held j w) e f = rw (e, f)
  two_values_lem (Held i v) Lacking e f = rw (e, f)
  two_values_lem Lacking (Held j w) e f = rw (e, f)
  two_values_lem Lacking Lacking e f = rw (e, f)

  values : (ts : List Record.Token) (tag : Tag) (n : ℕ) → n ≤ 2 → value 0 ≡ value_of (operand_at ts tag 0) → value 1 ≡ value_of (operand_at ts tag 1)
      → chosen n value ≡ values_of (matched_at n ts tag)
  unfolding matched_at
  values ts tag zero h e f = refl
  values ts tag (suc zero) h e f = one_value (operand_at ts tag 0) e
  values ts tag (suc (suc zero)) h e f = two_values_lem (operand_at ts tag 0) (operand_at ts tag 1) e f
  values ts tag (suc (suc (suc n))) h e f = absurd (omega arith)

-- ---- the places of the operands

-- the token at place i is the first at port 0 of the tag, and live with the value v; the token at place j is that at port 1, live with w, or, where
-- one operand is waited for, the same
pub record Places (n : ℕ) (ts : List Record.Token) (tag : Tag) (i j : ℕ) (v w : ℤ) : Type 0 where
  pub first_within : i < length ts
  pub second_within : j < length ts
  pub first_found : first_from (stands_at tag 0) 0 ts ≡ Some i
  pub second_found : ((n ≡ 1) × (j ≡ i)) ⊎ ((n ≡ 2) × (first_from (stands_at tag 1) 0 ts ≡ Some j))
  pub left : (get_or ts i no_token).content ≡ Live v
  pub right : (get_or ts j no_token).content ≡ Live w

-- the same of one port
record Place (port : ℕ) (ts : List Record.Token) (tag : Tag) (i : ℕ) (v : ℤ) : Type 0 where
  within : i < length ts
  found : first_from (stands_at tag port) 0 ts ≡ Some i
  value : (get_or ts i no_token).content ≡ Live v

module _ (ts : List Record.Token) (tag : Tag) where
  operand_place : (port : ℕ) {i : ℕ} {v : ℤ} → operand_at ts tag port ≡ Held i v → Place port ts tag i v
  unfolding operand_at operand_found operand_held
  operand_place port {i} {v} h = go (first_from (stands_at tag port) 0 ts) refl h
    where
      at : (k : ℕ) → first_from (stands_at tag port) 0 ts ≡ Some k → (x : RecordContent.Content) → (get_or ts k no_token).content ≡ x
          → operand_held k x ≡ Held i v → Place port ts tag i v
      at k e (Live u) c q =
          let p : k ≡ i = cc in
          let f : first_from (stands_at tag port) 0 ts ≡ Some i = e ∙ ap Some p in
          record {
            within = (search_at (stands_at tag port) no_token i ts f).within;
            found = f;
            value = ap (λ (m : ℕ). (get_or ts m no_token).content) (sym p) ∙ c ∙ (let r : u ≡ v = cc in ap Live r);
          }
      at k e (Spent u) c q = absurd (let z : ◌≡◌ {A = ℕ} 0 1 = cc in omega arith)
      at k e (Deferred u) c q = absurd (let z : ◌≡◌ {A = ℕ} 0 1 = cc in omega arith)

      go : (f : Std.Option ℕ) → first_from (stands_at tag port) 0 ts ≡ f → operand_found ts f ≡ Held i v → Place port ts tag i v
      go (Some k) e q = at k e (get_or ts k no_token).content refl q
      go None e q = absurd (let z : ◌≡◌ {A = ℕ} 0 1 = cc in omega arith)

  one_place : {i j : ℕ} {v w : ℤ} (o : Operand) → operand_at ts tag 0 ≡ o → one o ≡ Both i j v w → Places 1 ts tag i j v w
  unfolding one
  one_place {i} {j} {v} {w} (Held k u) e q =
      let a : Held k u ≡ Held i v = cc in
      let p = operand_place 0 (e ∙ a) in
      let s : j ≡ i = cc in
      let x : v ≡ w = cc in
      record {
        first_within = p.within;
        second_within = rw s p.within;
        first_found = p.found;
        second_found = inl (refl, s);
        left = p.value;
        right = rw s (p.value ∙ ap Live x);
      }
  one_place Lacking e q = absurd (let z : ◌≡◌ {A = ℕ} 0 1 = cc in omega arith)

  two_places : {i j : ℕ} {v w : ℤ} (o p : Operand) → operand_at ts tag 0 ≡ o → operand_at ts tag 1 ≡ p → two o p ≡ Both i j v w → Places 2 ts tag i j v w
  unfolding two
  two_places {i} {j} {v} {w} (Held k u) (Held l x) e f q =
      let a : Held k u ≡ Held i v = cc in
      let b : Held l x ≡ Held j w = cc in
      let p = operand_place 0 (e ∙ a) in
      let r = operand_place 1 (f ∙ b) in
      record {
        first_within = p.within;
        second_within = r.within;
        first_found = p.found;
        second_found = inr (refl, r.found);
        left = p.value;
        right = r.value;
      }
  two_places (Held k u) Lacking e f q = absurd (let z : ◌≡◌ {A = ℕ} 0 1 = cc in omega arith)
  two_places Lacking p e f q = absurd (let z : ◌≡◌ {A = ℕ} 0 1 = cc in omega arith)

  pub matched_places : (n : ℕ) {i j : ℕ} {v w : ℤ} → n ≤ 2 → matched_at n ts tag ≡ Both i j v w → Places n ts tag i j v w
  unfolding matched_at
  matched_places zero h q = absurd (let z : ◌≡◌ {A = ℕ} 0 1 = cc in omega arith)
  matched_places (suc zero) h q = one_place (operand_at ts tag 0) refl q
  matched_places (suc (suc zero)) h q = two_places (operand_at ts tag 0) (operand_at ts tag 1) refl refl q
  matched_places (suc (suc (suc n))) h q = absurd (omega arith)

-- ---- the machine and the records

module _ (g : List Instruction) (table : List NamedArray) (capacity cells : ℕ) (ts : List Record.Token) (cs : List RecordCell.Cell) where
  abbrev M : Machine
  M = machine_of g table capacity cells

  held_value : (tag : Tag) (port : ℕ) → live_at M (look M (state_held ts cs)) tag port ≡ value_of (operand_at ts tag port)
  unfolding operand_at
  held_value tag port = rw (held_find g table capacity cells tag port no_token ts) (found_value ts (first_from (stands_at tag port) 0 ts))

  pub held_operands : (tag : Tag) → arity_in g tag ≤ 2 → operands M (look M (state_held ts cs)) tag ≡ values_of (matched_at (arity_in g tag) ts tag)
  held_operands tag h = values (live_at M (look M (state_held ts cs)) tag) ts tag (arity_in g tag) h (held_value tag 0) (held_value tag 1)
