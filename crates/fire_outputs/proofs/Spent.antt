-- Spending the operands at their places is what the machine does to every token by its key. Assumes nothing.
use Prim.Native.Nat.{ℕ, zero, suc, ◌<◌, ◌≤◌}
use mathlib.Core.Path.{◌≡◌, refl, sym, ap, ◌∙◌}
use mathlib.Core.Bool.{Bool, true, false, ◌&&◌, ◌||◌, cond}
use mathlib.Core.List.{List, [], ◌∷◌, map}
use mathlib.Core.Option.{none}
use native.Mathlib.Omega.{arith}
use native.Mathlib.Decide.{dec_le}
use lib.ListN.{length, get_or, set, length-map}
use lib.Dec.{eqb, ltb}
use lib.IntN.{ℤ}
use borrow.Author.Tests.{le-ltb, ne_eqb, eq-eqb}
use Rattle.record.specs.declared.array.NamedArray.{NamedArray}
use Rattle.record.specs.declared.tag.Tag.{Tag}
use Rattle.record.specs.declared.token.Token as Record
use Rattle.record.specs.declared.token.Content.{Content}
use Rattle.record.specs.declared.token.Content.TheVariants.{Live, Spent, Deferred}
use Rattle.record.specs.declared.instruction.Instruction.{Instruction}
use Rattle.record.specs.TokensAndTags.{same_tag, stands_at}
use Rattle.std.specs.Prelude.{Option, Some, None}
use Rattle.store_chains.specs.Search.{first_from}
use Rattle.store.specs.Matching.{content_spent, spent_token}
use Rattle.machine.specs.Machine.{Machine, Token, changed, find, is_operand_of, spend_at}
use Rattle.machine.specs.Machine as Machines
use Rattle.machine.specs.Orders.{Distinct}
use Rattle.machine.proofs.View.{none_some, false_true}
use Rattle.rules.specs.InstructionSet.{arity_in, machine_of}
use Rattle.rules.specs.Run.{content_held, token_held}
use Rattle.abstraction.specs.States.{no_token}
use Rattle.abstraction.proofs.Keys.{stands, StandsFirst, found_stands, none_stands, found_content, held_find}
use Rattle.abstraction.proofs.Enabled.{held_operand}
use Rattle.fire_outputs.specs.Outputs.{spend_one, spent_at}

-- ---- lists

pub map_map : {A B C : Type 0} (f : B → C) (g : A → B) (l : List A) → map f (map g l) ≡ map (λ x. f (g x)) l
map_map f g [] = refl
map_map f g (x ∷ l) = ap (λ m. f (g x) ∷ m) (map_map f g l)

pub map_same : {A B : Type 0} (f g : A → B) → ((x : A) → f x ≡ g x) → (l : List A) → map f l ≡ map g l
map_same f g e [] = refl
map_same f g e (x ∷ l) = λ i. e x i ∷ map_same f g e l i

module _ {A : Type 0} (p : A → Bool) (f : A → A) (d : A) where
  abbrev where_true : A → A
  where_true x = cond (p x) (f x) x

  nowhere : (l : List A) → ((k : ℕ) → k < length l → p (get_or l k d) ≡ false) → map where_true l ≡ l
  nowhere [] h = refl
  nowhere (x ∷ l) h = λ i. ap (λ (b : Bool). cond b (f x) x) (h 0 (omega arith)) i ∷ nowhere l (λ k e. h (suc k) (omega arith)) i

  -- what passes at one place alone is replaced there
  only_there_lem : (l : List A) (i : ℕ) → i < length l → p (get_or l i d) ≡ true → ((k : ℕ) → k < length l → (k ≡ i → ⊥) → p (get_or l k d) ≡ false)
      → map where_true l ≡ set l i (f (get_or l i d))
  only_there_lem [] i h e others = absurd (omega arith)
  only_there_lem (x ∷ l) zero h e others = λ i. ap (λ (b : Bool). cond b (f x) x) e i ∷ nowhere l (λ k s. others (suc k) (omega arith) (λ q. omega arith)) i
  only_there_lem (x ∷ l) (suc n) h e others =
      λ i. ap (λ (b : Bool). cond b (f x) x) (others 0 (omega arith) (λ q. omega arith)) i ∷ only_there_lem l n (omega arith) e (λ k s q. others (suc k) (omega arith) (λ r. q (omega arith))) i

-- ---- ports

port_below_1 : (q : ℕ) → ltb q 1 ≡ eqb q 0
port_below_1 zero = refl
port_below_1 (suc q) = le-ltb (suc q) 1 (omega arith) ∙ sym (ne_eqb (suc q) 0 (λ e. omega arith))

port_below_2 : (q : ℕ) → ltb q 2 ≡ (eqb q 0 || eqb q 1)
port_below_2 zero = refl
port_below_2 (suc zero) = refl
port_below_2 (suc (suc q)) = le-ltb (suc (suc q)) 2 (omega arith) ∙ sym (rw (ne_eqb (suc (suc q)) 0 (λ e. omega arith), ne_eqb (suc (suc q)) 1 (λ e. omega arith)))

cond_and : (s b : Bool) → cond s b false ≡ (b && s)
cond_and true true = refl
cond_and true false = refl
cond_and false true = refl
cond_and false false = refl

cond_or : (s a b : Bool) → cond s (a || b) false ≡ ((a && s) || (b && s))
cond_or true true b = refl
cond_or true false true = refl
cond_or true false false = refl
cond_or false true true = refl
cond_or false true false = refl
cond_or false false true = refl
cond_or false false false = refl

-- ---- a token that is spent

spent_content : (b : Bool) (t : Record.Token) → Path (Token Tag ℤ) (record { key = (token_held t).key; content = cond b (Machines.spend (content_held t.content)) (content_held t.content) }) (token_held (cond b (spent_token t) t))
spent_content false t = refl
spent_content true t = ap (λ x. record { key = (token_held t).key; content = x }) (go t.content)
  where
    go : (x : Content) → Machines.spend (content_held x) ≡ content_held (content_spent x)
    go (Live v) = refl
    go (Spent v) = refl
    go (Deferred c) = refl

-- spending keeps tag and port
spent_stands : (tag : Tag) (port : ℕ) (b : Bool) (t : Record.Token) → stands_at tag port (cond b (spent_token t) t) ≡ stands_at tag port t
unfolding stands_at
spent_stands tag port true t = refl
spent_stands tag port false t = refl

-- at port 0 no token stands at port 1
not_both_lem : (tag : Tag) (t : Record.Token) → stands_at tag 0 t ≡ true → stands_at tag 1 t ≡ false
unfolding stands_at
not_both_lem tag t e = go t.port (same_tag t.tag tag) e
  where
    go : (q : ℕ) (s : Bool) → (eqb q 0 && s) ≡ true → (eqb q 1 && s) ≡ false
    go zero s h = refl
    go (suc q) s h = false_true (sym (ap (λ (b : Bool). b && s) (ne_eqb (suc q) 0 (λ e. omega arith))) ∙ h)

twice : (a b : Bool) (t : Record.Token) → (a ≡ true → b ≡ false) → cond (a || b) (spent_token t) t ≡ cond b (spent_token (cond a (spent_token t) t)) (cond a (spent_token t) t)
twice true true t h = false_true (sym (h refl))
twice true false t h = refl
twice false true t h = refl
twice false false t h = refl

module _ (g : List Instruction) (table : List NamedArray) (capacity cells : ℕ) where
  abbrev M : Machine
  M = machine_of g table capacity cells

  -- of tokens whose keys differ, those after one stand elsewhere
  later_elsewhere : (tag : Tag) (port : ℕ) (ts : List Record.Token) → Distinct M (map token_held ts) → (i k : ℕ) → i < k → k < length ts
      → stands_at tag port (get_or ts i no_token) ≡ true → stands_at tag port (get_or ts k no_token) ≡ false
  later_elsewhere tag port [] d i k h l e = absurd (omega arith)
  later_elsewhere tag port (t ∷ ts) d zero zero h l e = absurd (omega arith)
  later_elsewhere tag port (t ∷ ts) d zero (suc k) h l e = go (first_from (stands_at tag port) 0 ts) refl
    where
      gone : find M (record { tag = tag; port = port }) (map token_held ts) ≡ none
      gone = ap (λ q. find M q (map token_held ts)) (sym (stands tag port t e)) ∙ d.0

      go : (f : Option ℕ) → first_from (stands_at tag port) 0 ts ≡ f → stands_at tag port (get_or ts k no_token) ≡ false
      go None q = none_stands tag port ts no_token q k (omega arith)
      go (Some n) q = none_some (sym gone ∙ held_find g table capacity cells tag port no_token ts ∙ ap (found_content no_token ts) q)
  later_elsewhere tag port (t ∷ ts) d (suc i) zero h l e = absurd (omega arith)
  later_elsewhere tag port (t ∷ ts) d (suc i) (suc k) h l e = later_elsewhere tag port ts d.1 i k (omega arith) (omega arith) e

  -- the one that is found is the only one there
  elsewhere : (tag : Tag) (port i : ℕ) (ts : List Record.Token) → Distinct M (map token_held ts) → first_from (stands_at tag port) 0 ts ≡ Some i
      → (k : ℕ) → k < length ts → (k ≡ i → ⊥) → stands_at tag port (get_or ts k no_token) ≡ false
  elsewhere tag port i ts d e k h n = go (dec_le (suc k) i)
    where
      f : StandsFirst tag port i ts no_token
      f = found_stands tag port i ts no_token e

      go : Dec (suc k ≤ i) → stands_at tag port (get_or ts k no_token) ≡ false
      go (yes l) = f.earlier k l
      go (no m) = later_elsewhere tag port ts d i k (omega arith) h f.there

  abbrev spending_at : Tag → (port : ℕ) → Record.Token → Record.Token
  spending_at tag port t = cond (stands_at tag port t) (spent_token t) t

  -- one place
  spend_found : (tag : Tag) (port i : ℕ) (ts : List Record.Token) → Distinct M (map token_held ts) → first_from (stands_at tag port) 0 ts ≡ Some i → map (spending_at tag port) ts ≡ spend_one i ts
  unfolding spend_one
  spend_found tag port i ts d e =
      let f = found_stands tag port i ts no_token e in
      only_there_lem (stands_at tag port) spent_token no_token ts i f.within f.there (elsewhere tag port i ts d e)

  -- the machine's way: every token by its key
  by_key : (tag : Tag) (p : Record.Token → Bool) → ((t : Record.Token) → is_operand_of M tag (token_held t).key ≡ p t) → (ts : List Record.Token)
      → map (changed (spend_at M tag)) (map token_held ts) ≡ map token_held (map (λ t. cond (p t) (spent_token t) t) ts)
  by_key tag p e ts =
      map_map (changed (spend_at M tag)) token_held ts
      ∙ map_same _ _ (λ t. ap (λ (b : Bool). record { key = (token_held t).key; content = cond b (Machines.spend (content_held t.content)) (content_held t.content) }) (e t) ∙ spent_content (p t) t) ts
      ∙ sym (map_map token_held (λ t. cond (p t) (spent_token t) t) ts)

  pub spent_one_lem : (tag : Tag) (i : ℕ) (ts : List Record.Token) → arity_in g tag ≡ 1 → Distinct M (map token_held ts) → first_from (stands_at tag 0) 0 ts ≡ Some i
      → map (changed (spend_at M tag)) (map token_held ts) ≡ map token_held (spent_at i i ts)
  unfolding spent_at stands_at
  spent_one_lem tag i ts a d e =
      by_key tag (stands_at tag 0)
      (λ t. held_operand g table capacity cells tag t ∙ ap (λ (n : ℕ). cond (same_tag t.tag tag) (ltb t.port n) false) a ∙ ap (λ (b : Bool). cond (same_tag t.tag tag) b false) (port_below_1 t.port) ∙ cond_and (same_tag t.tag tag) (eqb t.port 0))
      ts
      ∙ ap (map token_held) (spend_found tag 0 i ts d e)
      ∙ sym (ap (λ (b : Bool). map token_held (cond b (spend_one i ts) (spend_one i (spend_one i ts)))) (eq-eqb i i refl))

  stands_after : (tag : Tag) (ts : List Record.Token) (k : ℕ) → k < length ts → stands_at tag 1 (get_or (map (spending_at tag 0) ts) k no_token) ≡ stands_at tag 1 (get_or ts k no_token)
  stands_after tag [] k h = absurd (omega arith)
  stands_after tag (t ∷ ts) zero h = spent_stands tag 1 (stands_at tag 0 t) t
  stands_after tag (t ∷ ts) (suc k) h = stands_after tag ts k (omega arith)

  both_ports : (tag : Tag) (t : Record.Token) → arity_in g tag ≡ 2 → is_operand_of M tag (token_held t).key ≡ (stands_at tag 0 t || stands_at tag 1 t)
  unfolding stands_at
  both_ports tag t a =
      held_operand g table capacity cells tag t
      ∙ ap (λ (n : ℕ). cond (same_tag t.tag tag) (ltb t.port n) false) a
      ∙ ap (λ (b : Bool). cond (same_tag t.tag tag) b false) (port_below_2 t.port)
      ∙ cond_or (same_tag t.tag tag) (eqb t.port 0) (eqb t.port 1)

  one_after_other : (tag : Tag) (t : Record.Token) → cond (stands_at tag 0 t || stands_at tag 1 t) (spent_token t) t ≡ spending_at tag 1 (spending_at tag 0 t)
  one_after_other tag t =
      twice (stands_at tag 0 t) (stands_at tag 1 t) t (not_both_lem tag t)
      ∙ ap (λ (b : Bool). cond b (spent_token (spending_at tag 0 t)) (spending_at tag 0 t)) (sym (spent_stands tag 1 (stands_at tag 0 t) t))

  pub spent_two : (tag : Tag) (i j : ℕ) (ts : List Record.Token) → arity_in g tag ≡ 2 → Distinct M (map token_held ts)
      → first_from (stands_at tag 0) 0 ts ≡ Some i → first_from (stands_at tag 1) 0 ts ≡ Some j
      → map (changed (spend_at M tag)) (map token_held ts) ≡ map token_held (spent_at i j ts)
  unfolding spent_at spend_one
  spent_two tag i j ts a d e f =
      let first = found_stands tag 0 i ts no_token e in
      let second = found_stands tag 1 j ts no_token f in
      let us = map (spending_at tag 0) ts in
      let size : length us ≡ length ts = length-map ts (spending_at tag 0) in
      let differ : i ≡ j → ⊥ = λ q. false_true (sym (not_both_lem tag (get_or ts i no_token) first.there) ∙ ap (λ (n : ℕ). stands_at tag 1 (get_or ts n no_token)) q ∙ second.there) in
      let later : map (spending_at tag 1) us ≡ spend_one j us =
      only_there_lem (stands_at tag 1) spent_token no_token us j (omega (arith, second.within)) (stands_after tag ts j second.within ∙ second.there)
      (λ k h n. stands_after tag ts k (omega arith) ∙ elsewhere tag 1 j ts d f k (omega arith) n) in
      by_key tag (λ t. stands_at tag 0 t || stands_at tag 1 t) (λ t. both_ports tag t a) ts
      ∙ ap (map token_held)
      (map_same _ _ (one_after_other tag) ts
      ∙ sym (map_map (spending_at tag 1) (spending_at tag 0) ts)
      ∙ later
      ∙ ap (spend_one j) (spend_found tag 0 i ts d e)
      ∙ sym (ap (λ (b : Bool). cond b (spend_one i ts) (spend_one j (spend_one i ts))) (ne_eqb i j differ)))
