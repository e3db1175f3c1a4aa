-- The machine's enabled activities are the enabled places of the token records, in order, each with the tag of the token there. Assumes nothing.
use Prim.Native.Nat.{ℕ, zero, suc, ◌+◌, ◌<◌, ◌≤◌}
use mathlib.Core.Path.{◌≡◌, refl, sym, ap, subst, ◌∙◌}
use mathlib.Core.Bool.{Bool, true, false, ◌&&◌, cond, and-true, and-false}
use mathlib.Core.List.{List, [], ◌∷◌, map}
use mathlib.Core.Option.{some}
use native.Mathlib.Omega.{arith}
use native.Mathlib.Nat.{not-suc-le-zero, zero-add, add-zero, add-suc, suc-add}
use lib.Dec.{eqb, ltb}
use lib.ListN.{length, get_or}
use borrow.Author.Tests.{eqb-true, ltb-true, ltb-false, lt-ltb, le-ltb}
use Rattle.record.specs.declared.array.NamedArray.{NamedArray}
use Rattle.record.specs.declared.tag.Tag.{Tag}
use Rattle.record.specs.declared.token.Token as Record
use Rattle.record.specs.declared.token.Content as RecordContent
use Rattle.record.specs.declared.token.Content.TheVariants.{Live, Spent, Deferred}
use Rattle.record.specs.declared.cell.Cell as RecordCell
use Rattle.record.specs.declared.instruction.Instruction.{Instruction}
use Rattle.record.specs.TokensAndTags.{stands_at}
use Rattle.machine.specs.Machine.{Machine, Activity, when, on_option, live_value, all_there, find, look, is_operand_of, is_place, enabled_from, enabled}
use Rattle.machine.specs.Machine as Machines
use Rattle.machine.proofs.View.{when_yes, when_no, false_true}
use Rattle.rules.specs.InstructionSet.{arity_in, decide_tag, machine_of}
use Rattle.rules.specs.Run.{content_held, token_held}
use Rattle.store_flags.specs.Marks.{places_where}
use Rattle.store_chains.proofs.Index.{and_left, and_right}
use Rattle.store_enabled.specs.Enabled.{is_live_record, live_on, operands_live, tag_same, earliest_of, leads_in, enabled_places}
use Rattle.store_enabled.proofs.Places.{stands_other}
use Rattle.store_chains.proofs.Index.{tag_own}
use Rattle.store_enabled.proofs.Right.{tag_equal}
use Rattle.abstraction.specs.States.{state_held, OnPorts}
use Rattle.abstraction.specs.Tables.{Arities}
use Rattle.abstraction.proofs.Arities.{arity_small}
use Rattle.abstraction.proofs.Keys.{has_key, when_stands}

-- ---- tests

none_of : (a b c : Bool) → (a && false && b && c) ≡ false
none_of true b c = refl
none_of false b c = refl

and_turned : (a b : Bool) → (a && (b && true)) ≡ (b && a)
and_turned true true = refl
and_turned true false = refl
and_turned false true = refl
and_turned false false = refl

-- a test that follows from two others adds nothing to them
and_spared : (a b c : Bool) → (c ≡ true → b ≡ true → a ≡ true) → (a && true && b && c) ≡ (c && b)
and_spared true true true h = refl
and_spared true true false h = refl
and_spared true false true h = refl
and_spared true false false h = refl
and_spared false true true h = h refl refl
and_spared false true false h = refl
and_spared false false true h = refl
and_spared false false false h = refl

-- ---- equality of tags

pub when_tag : {B : Type 0} (a b : Tag) (x y : B) → when (decide_tag a b) x y ≡ cond (tag_same a b) x y
when_tag {B} a b x y = go (tag_same a b) refl
  where
    go : (s : Bool) → tag_same a b ≡ s → when (decide_tag a b) x y ≡ cond s x y
    go true e = when_yes (decide_tag a b) x y (tag_equal a b e)
    go false e = when_no (decide_tag a b) x y (λ p. false_true (sym e ∙ ap (tag_same a) (sym p) ∙ tag_own a))

-- ---- operands that are live

-- the earliest token of a tag is the first at its port
first_live_lem : (tag : Tag) (d : Record.Token) (ts : List Record.Token) → earliest_of ts tag < length ts
    → live_on ts tag (get_or ts (earliest_of ts tag) d).port ≡ is_live_record (get_or ts (earliest_of ts tag) d).content
first_live_lem tag d [] h = absurd (not-suc-le-zero h)
first_live_lem tag d (t ∷ ts) h = go (tag_same tag t.tag) refl h (first_live_lem tag d ts)
  where
    go : (b : Bool) → tag_same tag t.tag ≡ b → cond b 0 (suc (earliest_of ts tag)) < suc (length ts)
        → (earliest_of ts tag < length ts → live_on ts tag (get_or ts (earliest_of ts tag) d).port ≡ is_live_record (get_or ts (earliest_of ts tag) d).content)
        → let i = cond b 0 (suc (earliest_of ts tag)) in
        live_on (t ∷ ts) tag (get_or (t ∷ ts) i d).port ≡ is_live_record (get_or (t ∷ ts) i d).content
    go true e l ih = rw (has_key tag t.port t (ap (λ (x : Tag). record { tag = x; port = t.port }) (sym (tag_equal tag t.tag e))))
    go false e l ih = rw (stands_other tag (get_or ts (earliest_of ts tag) d).port t e) (ih (omega arith))

-- the same of the token t at place i
earliest_live : (i : ℕ) (t d : Record.Token) (ts : List Record.Token) → i < length ts → t ≡ get_or ts i d → earliest_of ts t.tag ≡ i
    → live_on ts t.tag t.port ≡ is_live_record t.content
earliest_live i t d ts h e p =
    let there : get_or ts (earliest_of ts t.tag) d ≡ t = ap (λ (j : ℕ). get_or ts j d) p ∙ sym e in
    subst (λ (u : Record.Token). live_on ts t.tag u.port ≡ is_live_record u.content) there (first_live_lem t.tag d ts (omega arith))

-- a result is never enabled
none_live : (n : ℕ) (ts : List Record.Token) (tag : Tag) → n ≡ 0 → operands_live n ts tag ≡ false
unfolding operands_live
none_live n ts tag e = rw e

-- where n operands are live, that of each port below n is
live_below : (n port : ℕ) (ts : List Record.Token) (tag : Tag) → n ≤ 2 → port < n → operands_live n ts tag ≡ true → live_on ts tag port ≡ true
unfolding operands_live
live_below (suc zero) zero ts tag m h e = e
live_below (suc (suc zero)) zero ts tag m h e = and_left (live_on ts tag 0) (live_on ts tag 1) e
live_below (suc (suc zero)) (suc zero) ts tag m h e = and_right (live_on ts tag 0) (live_on ts tag 1) e
live_below zero port ts tag m h e = absurd (omega arith)
live_below (suc zero) (suc port) ts tag m h e = absurd (omega arith)
live_below (suc (suc zero)) (suc (suc port)) ts tag m h e = absurd (omega arith)
live_below (suc (suc (suc n))) port ts tag m h e = absurd (omega arith)

held_content : (x : RecordContent.Content) → Machines.is_live (content_held x) ≡ is_live_record x
held_content (Live v) = refl
held_content (Spent v) = refl
held_content (Deferred c) = refl

live_content : (x : RecordContent.Content) (b : Bool) → on_option (live_value (some (content_held x))) false (λ v. b) ≡ is_live_record x && b
live_content (Live v) b = refl
live_content (Spent v) b = refl
live_content (Deferred c) b = refl

-- ---- one token of the machine and its record

module _ (g : List Instruction) (table : List NamedArray) (capacity cells : ℕ) where
  abbrev M : Machine
  M = machine_of g table capacity cells

  pub held_operand : (tag : Tag) (t : Record.Token) → is_operand_of M tag (token_held t).key ≡ cond (tag_same tag t.tag) (ltb t.port (arity_in g tag)) false
  held_operand tag t = when_tag tag t.tag (ltb t.port (arity_in g tag)) false

  -- the operand at a port is live, and b: with b the machine's tests of several ports go by this law in turn
  held_live : (tag : Tag) (port : ℕ) (ts : List Record.Token) (b : Bool)
      → on_option (live_value (find M (record { tag = tag; port = port }) (map token_held ts))) false (λ v. b) ≡ live_on ts tag port && b
  held_live tag port [] b = refl
  held_live tag port (t ∷ ts) b =
      rw (when_stands g table capacity cells tag port t (some (content_held t.content))) (go (stands_at tag port t) (held_live tag port ts b))
    where
      go : (s : Bool) → on_option (live_value (find M (record { tag = tag; port = port }) (map token_held ts))) false (λ v. b) ≡ live_on ts tag port && b
          → on_option (live_value (cond s (some (content_held t.content)) (find M (record { tag = tag; port = port }) (map token_held ts)))) false (λ v. b)
          ≡ cond s (is_live_record t.content) (live_on ts tag port) && b
      go true ih = live_content t.content b
      go false ih = ih

  -- the machine asks the ports from the last down
  pub held_below : (n : ℕ) (tag : Tag) (ts : List Record.Token) → 0 < n → n ≤ 2
      → all_there (λ port. live_value (find M (record { tag = tag; port = port }) (map token_held ts))) n ≡ operands_live n ts tag
  unfolding operands_live
  held_below zero tag ts l h = absurd (omega arith)
  held_below (suc zero) tag ts l h = held_live tag 0 ts true ∙ and-true (live_on ts tag 0)
  held_below (suc (suc zero)) tag ts l h =
      rw (held_live tag 0 ts true, held_live tag 1 ts (live_on ts tag 0 && true)) (and_turned (live_on ts tag 1) (live_on ts tag 0))
  held_below (suc (suc (suc n))) tag ts l h = absurd (omega arith)

  -- the earliest token of a tag that fires is an operand, since its port is one of the operands'
  pub held_place : (tag : Tag) (ts : List Record.Token) → 0 < arity_in g tag → OnPorts g ts → Machines.place_of M tag (map token_held ts) ≡ earliest_of ts tag
  held_place tag [] l w = refl
  held_place tag (t ∷ ts) l w = rw (held_operand tag t, held_place tag ts l w.1) (go (tag_same tag t.tag) refl)
    where
      go : (b : Bool) → tag_same tag t.tag ≡ b
          → cond (cond b (ltb t.port (arity_in g tag)) false) 0 (suc (earliest_of ts tag)) ≡ cond b 0 (suc (earliest_of ts tag))
      go true e =
          let p : t.port < arity_in g tag = rw (tag_equal tag t.tag e) (w.0 (rw (tag_equal tag t.tag e) at l)) in
          rw (lt-ltb t.port (arity_in g tag) p)
      go false e = refl

  -- ---- the list of the enabled

  module _ (tables : List ℕ) (ts : List Record.Token) (cs : List RecordCell.Cell) (d : Record.Token) (right : Arities g tables) (ports : OnPorts g ts) where
    -- the activity whose earliest operand is the token at a place
    abbrev act : ℕ → Activity Tag
    act p = record { place = p; tag = (get_or ts p d).tag }

    -- the machine looks at the token's own content first: where the token is the earliest of its tag and all operands are live, it is live
    held_is_place : (i : ℕ) (t : Record.Token) → i < length ts → t ≡ get_or ts i d → (0 < arity_in g t.tag → t.port < arity_in g t.tag)
        → is_place M (state_held ts cs) i (token_held t) ≡ leads_in tables ts i t
    held_is_place i t h e o =
        rw (held_operand t.tag t, tag_own t.tag, right t.tag, held_content t.content) (go (ltb 0 (arity_in g t.tag)) refl)
      where
        here : 0 < arity_in g t.tag → eqb (earliest_of ts t.tag) i ≡ true → operands_live (arity_in g t.tag) ts t.tag ≡ true → is_live_record t.content ≡ true
        here l q a =
            sym (earliest_live i t d ts h e (eqb-true (earliest_of ts t.tag) i q))
            ∙ live_below (arity_in g t.tag) t.port ts t.tag (arity_small g t.tag) (o l) a

        go : (b : Bool) → ltb 0 (arity_in g t.tag) ≡ b
            → (is_live_record t.content && ltb t.port (arity_in g t.tag)
            && Machines.all_live M (look M (state_held ts cs)) t.tag && eqb (Machines.place_of M t.tag (map token_held ts)) i)
            ≡ (eqb (earliest_of ts t.tag) i && operands_live (arity_in g t.tag) ts t.tag)
        go true f =
            let l : 0 < arity_in g t.tag = ltb-true 0 (arity_in g t.tag) f in
            rw (
              lt-ltb t.port (arity_in g t.tag) (o l),
              held_below (arity_in g t.tag) t.tag ts l (arity_small g t.tag),
              held_place t.tag ts l ports,
            )
            (and_spared (is_live_record t.content) (operands_live (arity_in g t.tag) ts t.tag) (eqb (earliest_of ts t.tag) i) (here l))
        go false f =
            let z : arity_in g t.tag ≡ 0 = omega (arith, ltb-false 0 (arity_in g t.tag) f) in
            rw (le-ltb t.port (arity_in g t.tag) (omega arith), none_live (arity_in g t.tag) ts t.tag z)
            (none_of (is_live_record t.content) _ _ ∙ sym (and-false (eqb (earliest_of ts t.tag) i)))

    -- us are the tokens from place i on
    held_from : (i : ℕ) (us : List Record.Token) → OnPorts g us → i + length us ≡ length ts
        → ((k : ℕ) → k < length us → get_or us k d ≡ get_or ts (i + k) d)
        → enabled_from M (state_held ts cs) i (map token_held us) ≡ map act (places_where (leads_in tables ts) i us)
    held_from i [] w n h = refl
    held_from i (t ∷ us) w n h =
        rw (held_is_place i t (omega arith) here w.0, held_from (suc i) us w.1 (omega arith) later) (go (leads_in tables ts i t))
      where
        here : t ≡ get_or ts i d
        here = rw (add-zero i) at (h 0 (omega arith))

        later : (k : ℕ) → k < length us → get_or us k d ≡ get_or ts (suc i + k) d
        later k l = subst (λ (m : ℕ). get_or us k d ≡ get_or ts m d) (add-suc i k ∙ sym (suc-add i k)) (h (suc k) (omega arith))

        rest : List ℕ
        rest = places_where (leads_in tables ts) (suc i) us

        go : (b : Bool) → cond b (record { place = i; tag = t.tag } ∷ map act rest) (map act rest) ≡ map act (cond b (i ∷ rest) rest)
        go true = rw (← here)
        go false = refl

pub held_enabled : (g : List Instruction) (table : List NamedArray) (capacity cells : ℕ) (tables : List ℕ) (ts : List Record.Token) (cs : List RecordCell.Cell) (d : Record.Token)
    → Arities g tables → OnPorts g ts
    → enabled (machine_of g table capacity cells) (state_held ts cs) ≡ map (λ (p : ℕ). record { place = p; tag = (get_or ts p d).tag }) (enabled_places tables ts)
unfolding enabled enabled_places
held_enabled g table capacity cells tables ts cs d right ports =
    held_from g table capacity cells tables ts cs d right ports 0 ts ports (omega arith) (λ k h. rw (zero-add k))
