-- Where a tag stands in a path, by calls, whatever the number of levels (`stands_by_calls`); whether a NEXT activity is held is told by counts of the tokens that hold
-- back, from the lowest iteration at which one stands (`held_by_counts`); no other activity is held (`only_next_held`). Assumes nothing.
use Prim.Native.Nat.{ℕ, zero, suc, ◌+◌, ◌≤◌, ◌<◌}
use mathlib.Core.Path.{◌≡◌, refl, sym, ap, ◌∙◌}
use mathlib.Core.Bool.{Bool, true, false, ◌&&◌, ◌||◌, cond}
use mathlib.Core.Option.{Option, none, some}
use mathlib.Core.List.{List, [], ◌∷◌, ◌++◌}
use mathlib.Core.Logic.{◌↔◌}
use native.Mathlib.Omega.{arith}
use lib.ListN.{length, length-append}
use lib.IntN.{ℤ}
use lib.Dec.{eqb, leb}
use borrow.Author.Tests.{eqb-true, eq-eqb, ne_eqb, leb-true, le-leb}
use Rattle.record.specs.declared.tag.Path.{Path}
use Rattle.record.specs.declared.tag.Tag.{Tag}
use Rattle.record.specs.declared.instruction.Instruction.{Instruction}
use Rattle.buffer.specs.Rows.{All}
use Rattle.record.specs.Paths.{path_number, path_words, same_path}
use Rattle.record.specs.Calls.{leave_of, Call, CallFits, path_of}
use Rattle.record.proofs.Paths.{number_words, same_path_lem, path_same, is_root_lem}
use Rattle.record.proofs.Calls.{different, left_path_lem}
use Rattle.machine.specs.Machine.{Token, State, Activity, on_option}
use Rattle.machine.proofs.View.{none_some}
use Rattle.rules.specs.Check.{any, instruction_at}
use Rattle.rules.specs.Saved.{on_left}
use Rattle.rules.specs.Held.{stands_within, stands_in, is_pending, holds_back, held_in}

-- ---- the claims

-- a path of calls es, at an iteration, stands at iteration j of the path of calls cs: it is that path, or "a path entered from there, at any depth"
pub data Stands (cs es : List Call) (iteration j : ℕ) : Type 0 where
  there : es ≡ cs → j ≡ iteration → Stands cs es iteration j
  entered_from : (ds : List Call) (c : Call) → es ≡ ds ++ c ∷ cs → j ≡ c.iteration → Stands cs es iteration j

-- whatever the number of levels
abbrev pub StandsByCalls : Type 0
StandsByCalls = (cs es : List Call) → All CallFits cs → All CallFits es → (τ : Tag) → τ.path ≡ path_words (path_of es) → (j : ℕ) → stands_in (path_words (path_of cs)) τ ≡ some j ↔ Stands cs es τ.iteration j

-- how many tokens that hold back stand at an iteration of a path
abbrev pub pending_at : List Instruction → Path → (iteration : ℕ) → List (Token Tag ℤ) → ℕ
pending_at g p j [] = 0
pending_at g p j (t ∷ ts) = cond (is_pending g t && on_option (stands_in p t.key.tag) false (λ i. eqb i j)) 1 0 + pending_at g p j ts

-- of a NEXT activity at an iteration i of a path, where no such token stands below iteration l: it is free if l is above i + 1 - k, and held if one stands at l and l
-- is not above. So l is counted up until one of the two tells
pub record HeldFrom (g : List Instruction) (k : ℕ) (s : State Tag ℤ) (a : Activity Tag) (l : ℕ) : Type 0 where
  pub free : a.tag.iteration + 1 < l + k → held_in g k s a ≡ false
  pub held : 0 < pending_at g a.tag.path l s.tokens → l + k ≤ a.tag.iteration + 1 → held_in g k s a ≡ true

abbrev pub HeldByCounts : Type 0
HeldByCounts = (g : List Instruction) (k : ℕ) → 1 ≤ k → (s : State Tag ℤ) (a : Activity Tag) → (instruction_at g a.tag.instruction).code ≡ 7
    → (l : ℕ) → ((j : ℕ) → j < l → pending_at g a.tag.path j s.tokens ≡ 0) → HeldFrom g k s a l

-- an activity at another instruction is never held
abbrev pub OnlyNextHeld : Type 0
OnlyNextHeld = (g : List Instruction) (k : ℕ) (s : State Tag ℤ) (a : Activity Tag) → ¬ ((instruction_at g a.tag.instruction).code ≡ 7) → held_in g k s a ≡ false

-- ---- by calls

some_same : {A : Type 0} {x y : A} → some x ≡ some y → x ≡ y
some_same e = cc

-- a path has no more levels than its number
levels : (cs : List Call) → All CallFits cs → length cs ≤ path_of cs
levels [] f = omega arith
levels (c ∷ cs) f = omega (arith, levels cs f.1, f.0.some)

-- different calls have different words
words_different : (cs ds : List Call) → All CallFits cs → All CallFits ds → path_words (path_of cs) ≡ path_words (path_of ds) → cs ≡ ds
words_different cs ds f g e = different cs ds f g (sym (number_words (path_of cs)) ∙ ap path_number e ∙ number_words (path_of ds))

pub not_same : (a b : Path) → (a ≡ b → ⊥) → same_path a b ≡ false
not_same a b h = go (same_path a b) refl
  where
    go : (q : Bool) → same_path a b ≡ q → q ≡ false
    go true e = absurd (h (same_path_lem a b e))
    go false e = refl

module _ (cs : List Call) (fits : All CallFits cs) where
  abbrev p : Path
  p = path_words (path_of cs)

  -- the caller of a path of calls
  abbrev caller : Tag → Call → List Call → Tag
  caller τ c es = record { path = path_words (path_of es); iteration = c.iteration; instruction = τ.instruction }

  -- LEAVE finds the newest call
  left : {A : Type 0} (τ : Tag) (c : Call) (es : List Call) (a : A) (f : Tag → A) → CallFits c → τ.path ≡ path_words (path_of (c ∷ es)) → on_left (leave_of τ) a (λ site x. f x) ≡ f (caller τ c es)
  left {A} τ c es a f h e = ap (λ x. on_left {A = A} x a (λ site y. f y)) (left_path_lem τ c es h (ap path_number e ∙ number_words (path_of (c ∷ es))))

  left_root : {A : Type 0} (τ : Tag) (a : A) (f : Tag → A) → τ.path ≡ path_words 0 → on_left (leave_of τ) a (λ site x. f x) ≡ a
  unfolding leave_of path_words
  left_root τ a f e = rw (is_root_lem τ.path e)

  later : (c : Call) (es : List Call) (i j : ℕ) → Stands cs es c.iteration j → Stands cs (c ∷ es) i j
  later c es i j (there p q) = entered_from [] c (ap (λ (l : List Call). c ∷ l) p) q
  later c es i j (entered_from ds d p q) = entered_from (c ∷ ds) d (ap (λ (l : List Call). c ∷ l) p) q

  stands : (n : ℕ) (es : List Call) → All CallFits es → (τ : Tag) → τ.path ≡ path_words (path_of es) → (j : ℕ) → stands_within n p τ ≡ some j → Stands cs es τ.iteration j
  stands zero es f τ e j h = none_some h
  stands (suc n) es f τ e j h = go (same_path τ.path p) refl h (λ es' f' τ' e' h'. stands n es' f' τ' e' j h')
    where
      Rest : Type 0
      Rest = (es' : List Call) → All CallFits es' → (τ' : Tag) → τ'.path ≡ path_words (path_of es') → stands_within n p τ' ≡ some j → Stands cs es' τ'.iteration j

      above : (ds : List Call) → All CallFits ds → τ.path ≡ path_words (path_of ds) → on_left (leave_of τ) none (λ site c. stands_within n p c) ≡ some j → Rest → Stands cs ds τ.iteration j
      above [] g q k rest = none_some (sym (left_root τ none (stands_within n p) q) ∙ k)
      above (c ∷ ds) g q k rest = later c ds τ.iteration j (rest ds g.1 (caller τ c ds) refl (sym (left τ c ds none (stands_within n p) g.0 q) ∙ k))

      go : (b : Bool) → same_path τ.path p ≡ b → cond b (some τ.iteration) (on_left (leave_of τ) none (λ site c. stands_within n p c)) ≡ some j → Rest → Stands cs es τ.iteration j
      go true q k rest = there (words_different es cs f fits (sym e ∙ same_path_lem τ.path p q)) (sym (some_same k))
      go false q k rest = above es f e k rest

  -- a longer list of calls is another path
  apart : (es : List Call) → All CallFits es → (τ : Tag) → τ.path ≡ path_words (path_of es) → (n : ℕ) → length es ≡ suc n + length cs → same_path τ.path p ≡ false
  apart es f τ e n l = not_same τ.path p (λ z. let y = ap (λ (k : List Call). length k) (words_different es cs f fits (sym e ∙ z)) in omega arith)

  found : (n : ℕ) (es : List Call) → All CallFits es → (τ : Tag) → τ.path ≡ path_words (path_of es) → length es < n → (j : ℕ) → Stands cs es τ.iteration j → stands_within n p τ ≡ some j
  found zero es f τ e l j h = absurd (omega arith)
  found (suc n) es f τ e l j (there a q) = rw (path_same τ.path p (e ∙ ap (λ (k : List Call). path_words (path_of k)) a), q)
  found (suc n) [] f τ e l j (entered_from [] c a q) = let z = ap (λ (k : List Call). length k) a in absurd (omega arith)
  found (suc n) [] f τ e l j (entered_from (d ∷ ds) c a q) = let z = ap (λ (k : List Call). length k) a in absurd (omega arith)
  found (suc n) (d ∷ es) f τ e l j (entered_from [] c a q) =
      let tails : es ≡ cs = cc in
      let calls : d ≡ c = cc in
      rw (apart (d ∷ es) f τ e 0 (let y = ap (λ (k : List Call). length k) a in omega arith))
      (left τ d es none (stands_within n p) f.0 e ∙ found n es f.1 (caller τ d es) refl (omega arith) j (there tails (q ∙ ap (λ (x : Call). x.iteration) (sym calls))))
  found (suc n) (d ∷ es) f τ e l j (entered_from (b ∷ ds) c a q) =
      let tails : es ≡ ds ++ c ∷ cs = cc in
      rw (apart (d ∷ es) f τ e (suc (length ds)) (let y = ap (λ (k : List Call). length k) tails in let x = length-append ds (c ∷ cs) in omega arith))
      (left τ d es none (stands_within n p) f.0 e ∙ found n es f.1 (caller τ d es) refl (omega arith) j (entered_from ds c tails q))

pub stands_by_calls : StandsByCalls
unfolding stands_in
stands_by_calls cs es f g τ e j =
    let n : path_number τ.path ≡ path_of es = ap path_number e ∙ number_words (path_of es) in
    (stands cs f (suc (path_number τ.path)) es g τ e j, found cs f (suc (path_number τ.path)) es g τ e (let z = levels es g in omega arith) j)

-- ---- by counts

module _ (g : List Instruction) (k : ℕ) (p : Path) (m : ℕ) where
  -- none holds back where the counts are 0 up to m - k
  none_holds : (l : ℕ) → m < l + k → (ts : List (Token Tag ℤ)) → ((j : ℕ) → j < l → pending_at g p j ts ≡ 0) → any (holds_back g k p m) ts ≡ false
  unfolding holds_back
  none_holds l h [] clear = refl
  none_holds l h (t ∷ ts) clear = go (is_pending g t) (stands_in p t.key.tag) refl refl
      (none_holds l h ts (λ j i. let z = clear j i in omega arith))
    where
      at : (j : ℕ) → is_pending g t ≡ true → stands_in p t.key.tag ≡ some j → (c : Bool) → leb (j + k) m ≡ c → any (holds_back g k p m) ts ≡ false → (c || any (holds_back g k p m) ts) ≡ false
      at j e f true q rest =
          let z = clear j (let y = leb-true (j + k) m q in omega arith) in
          let one : 1 + pending_at g p j ts ≡ 0 = (rw (e, f, eq-eqb j j refl) at z) in
          absurd (omega arith)
      at j e f false q rest = rest

      go : (b : Bool) (o : Option ℕ) → is_pending g t ≡ b → stands_in p t.key.tag ≡ o → any (holds_back g k p m) ts ≡ false
          → (b && on_option o false (λ j. leb (j + k) m) || any (holds_back g k p m) ts) ≡ false
      go false o e f rest = rest
      go true none e f rest = rest
      go true (some j) e f rest = at j e f (leb (j + k) m) refl rest

  -- one does where it is counted at an iteration up to m - k
  pub one_holds : (l : ℕ) → l + k ≤ m → (ts : List (Token Tag ℤ)) → 0 < pending_at g p l ts → any (holds_back g k p m) ts ≡ true
  unfolding holds_back
  one_holds l h [] counted = absurd (omega arith)
  one_holds l h (t ∷ ts) counted = go (is_pending g t) (stands_in p t.key.tag) counted (one_holds l h ts)
    where
      or_true : (b : Bool) → (b || true) ≡ true
      or_true true = refl
      or_true false = refl

      at : (j : ℕ) (c : Bool) → eqb j l ≡ c → 0 < cond c 1 0 + pending_at g p l ts → (0 < pending_at g p l ts → any (holds_back g k p m) ts ≡ true) → (leb (j + k) m || any (holds_back g k p m) ts) ≡ true
      at j true q s rest = rw (le-leb (j + k) m (let z = eqb-true j l q in omega arith))
      at j false q s rest = rw (rest (let z = s in omega arith)) (or_true (leb (j + k) m))

      go : (b : Bool) (o : Option ℕ) → 0 < cond (b && on_option o false (λ i. eqb i l)) 1 0 + pending_at g p l ts → (0 < pending_at g p l ts → any (holds_back g k p m) ts ≡ true)
          → (b && on_option o false (λ j. leb (j + k) m) || any (holds_back g k p m) ts) ≡ true
      go false o s rest = rest (omega arith)
      go true none s rest = rest (omega arith)
      go true (some j) s rest = at j (eqb j l) refl s rest

pub held_by_counts : HeldByCounts
unfolding held_in
held_by_counts g k h s a next l clear = record {
  free = λ i. rw (le-leb 1 k h, eq-eqb (instruction_at g a.tag.instruction).code 7 next) (none_holds g k a.tag.path (a.tag.iteration + 1) l i s.tokens clear);
  held = λ o i. rw (le-leb 1 k h, eq-eqb (instruction_at g a.tag.instruction).code 7 next) (one_holds g k a.tag.path (a.tag.iteration + 1) l i s.tokens o);
}

pub only_next_held : OnlyNextHeld
unfolding held_in
only_next_held g k s a other = rw (ne_eqb (instruction_at g a.tag.instruction).code 7 other) (go (leb 1 k))
  where
    go : (b : Bool) → (b && false) ≡ false
    go true = refl
    go false = refl
