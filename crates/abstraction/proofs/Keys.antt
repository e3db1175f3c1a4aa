-- Tokens by tag and port: a token record stands at a port of a tag exactly if its token of the machine has that key, so the machine's search by key
-- is the search of the records from the front. Assumes nothing.
use Prim.Native.Nat.{ℕ, zero, suc, ◌<◌}
use mathlib.Core.Path.{◌≡◌, refl, sym, ap, subst, ◌∙◌}
use mathlib.Core.Bool.{Bool, true, false, ◌||◌, cond}
use mathlib.Core.List.{List, [], ◌∷◌, map}
use mathlib.Core.Logic.{◌↔◌}
use mathlib.Core.Option.{Option, none, some}
use native.Mathlib.Omega.{arith}
use native.Mathlib.Nat.{not-suc-le-zero, le_of_suc-le-suc}
use lib.Dec.{eqb}
use lib.IntN.{ℤ}
use lib.ListN.{length, get_or}
use borrow.Author.Tests.{eqb-true, eq-eqb}
use Rattle.record.specs.declared.array.NamedArray.{NamedArray}
use Rattle.record.specs.declared.tag.Tag.{Tag}
use Rattle.record.specs.declared.token.Token as Record
use Rattle.record.specs.declared.instruction.Instruction.{Instruction}
use Rattle.record.specs.TokensAndTags.{same_tag, stands_at}
use Rattle.machine.specs.Machine.{Key, Content, Machine, when, same_key, find}
use Rattle.machine.proofs.View.{when_yes, when_no, false_true, key_path}
use Rattle.rules.specs.Check.{any, second_input}
use Rattle.rules.specs.InstructionSet.{machine_of}
use Rattle.rules.specs.Run.{content_held, token_held}
use Rattle.std.specs.Prelude.{Some, None}
use Rattle.std.specs.Prelude as Std
use Rattle.store_chains.specs.Search.{first_from, Free}
use Rattle.store_chains.proofs.Search.{shift, first_cons}
use Rattle.store_chains.proofs.Index.{and_left, and_right}
use Rattle.store_chains.proofs.Index.{tag_own}
use Rattle.store_enabled.proofs.Right.{tag_equal}

-- ---- the key of a token

module _ (tag : Tag) (port : ℕ) (t : Record.Token) where
  pub stands : stands_at tag port t ≡ true → (token_held t).key ≡ record { tag = tag; port = port }
  unfolding stands_at
  stands e =
      let k = eqb t.port port in
      let s = same_tag t.tag tag in
      key_path (sym (tag_equal tag t.tag (and_right k s e))) (eqb-true t.port port (and_left k s e))

  pub stands_tag : stands_at tag port t ≡ true → t.tag ≡ tag
  stands_tag e = ap (λ (k : Key Tag). k.tag) (stands e)

  pub stands_port : stands_at tag port t ≡ true → t.port ≡ port
  stands_port e = ap (λ (k : Key Tag). k.port) (stands e)

  pub has_key : (token_held t).key ≡ record { tag = tag; port = port } → stands_at tag port t ≡ true
  unfolding stands_at
  has_key e =
      let s : same_tag t.tag tag ≡ true = ap (λ (k : Key Tag). same_tag k.tag tag) e ∙ tag_own tag in
      rw (eq-eqb t.port port (ap (λ (k : Key Tag). k.port) e), s)

  pub same_key_lem : (stands_at tag port t ≡ true) ↔ ((token_held t).key ≡ record { tag = tag; port = port })
  same_key_lem = (stands, has_key)

  pub not_stands : stands_at tag port t ≡ false → ¬ ((token_held t).key ≡ record { tag = tag; port = port })
  not_stands e k = false_true (sym e ∙ has_key k)

-- ---- a search from the front

module _ {A : Type 0} (p : A → Bool) (d : A) where
  -- the first element that passes a test has place i
  pub record First (i : ℕ) (ts : List A) : Type 0 where
    pub within : i < length ts
    pub passes : p (get_or ts i d) ≡ true
    pub earlier : (j : ℕ) → j < i → p (get_or ts j d) ≡ false

  abbrev pub Fails : List A → Type 0
  Fails ts = (j : ℕ) → j < length ts → p (get_or ts j d) ≡ false

  -- what the answer of a search says
  abbrev pub Says : Std.Option ℕ → List A → Type 0
  Says (Some i) ts = First i ts
  Says None ts = Fails ts

  below_cons : (n : ℕ) (t : A) (ts : List A) → p t ≡ false → ((j : ℕ) → j < n → p (get_or ts j d) ≡ false)
      → (j : ℕ) → j < suc n → p (get_or (t ∷ ts) j d) ≡ false
  below_cons n t ts e f zero h = e
  below_cons n t ts e f (suc j) h = f j (le_of_suc-le-suc h)

  search_says : (ts : List A) → Says (first_from p 0 ts) ts
  search_says [] = λ j h. absurd (not-suc-le-zero h)
  search_says (t ∷ ts) = rw (first_cons p t ts) (go (p t) refl (first_from p 0 ts) (search_says ts))
    where
      go : (b : Bool) → p t ≡ b → (f : Std.Option ℕ) → Says f ts → Says (cond b (Some 0) (shift f)) (t ∷ ts)
      go true e f s = record { within = omega arith; passes = e; earlier = λ j h. absurd (not-suc-le-zero h) }
      go false e (Some i) s = record { within = let h = s.within in omega arith; passes = s.passes; earlier = below_cons i t ts e s.earlier }
      go false e None s = below_cons (length ts) t ts e s

  pub search_at : (i : ℕ) (ts : List A) → first_from p 0 ts ≡ Some i → First i ts
  search_at i ts e = subst (λ (f : Std.Option ℕ). Says f ts) e (search_says ts)

  pub search_nothing : (ts : List A) → first_from p 0 ts ≡ None → Fails ts
  search_nothing ts e = subst (λ (f : Std.Option ℕ). Says f ts) e (search_says ts)

-- ---- the token at a port of a tag

-- the token at place i is the first that stands at a port of a tag
pub record StandsFirst (tag : Tag) (port i : ℕ) (ts : List Record.Token) (d : Record.Token) : Type 0 where
  pub within : i < length ts
  pub there : stands_at tag port (get_or ts i d) ≡ true
  pub that_tag : (get_or ts i d).tag ≡ tag
  pub that_port : (get_or ts i d).port ≡ port
  pub earlier : (j : ℕ) → j < i → stands_at tag port (get_or ts j d) ≡ false

pub found_stands : (tag : Tag) (port i : ℕ) (ts : List Record.Token) (d : Record.Token) → first_from (stands_at tag port) 0 ts ≡ Some i
    → StandsFirst tag port i ts d
found_stands tag port i ts d e =
    let s = search_at (stands_at tag port) d i ts e in
    record {
      within = s.within;
      there = s.passes;
      that_tag = stands_tag tag port (get_or ts i d) s.passes;
      that_port = stands_port tag port (get_or ts i d) s.passes;
      earlier = s.earlier;
    }

pub none_stands : (tag : Tag) (port : ℕ) (ts : List Record.Token) (d : Record.Token) → first_from (stands_at tag port) 0 ts ≡ None
    → (j : ℕ) → j < length ts → stands_at tag port (get_or ts j d) ≡ false
none_stands tag port ts d e = search_nothing (stands_at tag port) d ts e

pub any_nothing : {A : Type 0} (p : A → Bool) (i : ℕ) (ts : List A) → any p ts ≡ false → first_from p i ts ≡ None
any_nothing p i [] e = refl
any_nothing p i (t ∷ ts) e = go (p t) e (any_nothing p (suc i) ts)
  where
    go : (b : Bool) → b || any p ts ≡ false → (any p ts ≡ false → first_from p (suc i) ts ≡ None) → cond b (Some i) (first_from p (suc i) ts) ≡ None
    go true e ih = false_true (sym e)
    go false e ih = ih e

-- an input that refusal 9 does not meet arrives where none stands
pub alone_free : (earlier : List Record.Token) (t : Record.Token) → second_input earlier t ≡ false → Free earlier t.tag t.port
unfolding second_input
alone_free earlier t e = any_nothing (stands_at t.tag t.port) 0 earlier e

-- the content of the token that a search found
abbrev pub found_content : (d : Record.Token) → List Record.Token → Std.Option ℕ → Option (Content ℤ)
found_content d ts (Some i) = some (content_held (get_or ts i d).content)
found_content d ts None = none

found_cons : (d t : Record.Token) (ts : List Record.Token) (f : Std.Option ℕ) → found_content d ts f ≡ found_content d (t ∷ ts) (shift f)
found_cons d t ts (Some i) = refl
found_cons d t ts None = refl

module _ (g : List Instruction) (table : List NamedArray) (capacity cells : ℕ) where
  abbrev M : Machine
  M = machine_of g table capacity cells

  pub when_stands : {B : Type 0} (tag : Tag) (port : ℕ) (t : Record.Token) (a b : B)
      → when (same_key M (record { tag = tag; port = port }) (token_held t).key) a b ≡ cond (stands_at tag port t) a b
  when_stands {B} tag port t a b = go (stands_at tag port t) refl
    where
      go : (s : Bool) → stands_at tag port t ≡ s → when (same_key M (record { tag = tag; port = port }) (token_held t).key) a b ≡ cond s a b
      go true e = when_yes (same_key M (record { tag = tag; port = port }) (token_held t).key) a b (sym (stands tag port t e))
      go false e = when_no (same_key M (record { tag = tag; port = port }) (token_held t).key) a b (λ k. not_stands tag port t e (sym k))

  pub held_find : (tag : Tag) (port : ℕ) (d : Record.Token) (ts : List Record.Token)
      → find M (record { tag = tag; port = port }) (map token_held ts) ≡ found_content d ts (first_from (stands_at tag port) 0 ts)
  held_find tag port d [] = refl
  held_find tag port d (t ∷ ts) =
      when_stands tag port t _ _ ∙ rw (first_cons (stands_at tag port) t ts) (go (stands_at tag port t) (held_find tag port d ts))
    where
      go : (b : Bool) → find M (record { tag = tag; port = port }) (map token_held ts) ≡ found_content d ts (first_from (stands_at tag port) 0 ts)
          → cond b (some (content_held t.content)) (find M (record { tag = tag; port = port }) (map token_held ts))
          ≡ found_content d (t ∷ ts) (cond b (Some 0) (shift (first_from (stands_at tag port) 0 ts)))
      go true ih = refl
      go false ih = ih ∙ found_cons d t ts (first_from (stands_at tag port) 0 ts)
