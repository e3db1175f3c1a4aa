-- Which activities a firing holds back or frees: where a tag stands is told level by level (`stands_step`); counts are sums by weights of tags (`counts_by_weights`); what was held is
-- free only where an iteration of its path is closed (`freed_by_closing`), and what was free is held only by an ENTER into its path (`held_anew`). Assumes nothing.
use Rattle.std.proofs.Common.{Ok}
use Prim.Native.Nat.{ℕ, zero, suc, ◌+◌, ◌/◌, ◌%◌, ◌≤◌, ◌<◌}
use mathlib.Core.Path.{◌≡◌, refl, sym, ap, subst, ◌∙◌}
use mathlib.Core.Bool.{Bool, true, false, not, ◌&&◌, ◌||◌, cond}
use mathlib.Core.Option.{Option, none, some}
use mathlib.Core.List.{List, [], ◌∷◌, ◌++◌, map, Memᴰ}
use mathlib.Core.Logic.{◌⊎◌, inl, inr}
use native.Mathlib.Omega.{arith}
use lib.ListN.{length, drop}
use lib.IntN.{ℤ, nat_abs}
use lib.Dec.{eqb, leb}
use borrow.Author.Tests.{eqb-true, eqb-false, eq-eqb, ne_eqb, leb-true, le-leb}
use Rattle.record.specs.declared.array.NamedArray.{NamedArray}
use Rattle.record.specs.declared.tag.Path.{Path}
use Rattle.record.specs.declared.tag.Tag.{Tag}
use Rattle.record.specs.declared.tag.Caller.{Caller}
use Rattle.std.specs.Prelude.{Option as Maybe, Some, None}
use Rattle.std.proofs.lemmas.Option.{none-some}
use Rattle.record.specs.declared.instruction.Destination.{Destination}
use Rattle.record.specs.declared.instruction.Instruction.{Instruction}
use Rattle.record.specs.declared.operation.Operation.TheVariants as Operations
use Rattle.record.specs.TokensAndTags.{to_of}
use Rattle.record.specs.Paths.{path_number, path_words, is_root, same_path, PathFits}
use Rattle.record.specs.Calls.{leave_of, entered}
use Rattle.record.specs.GraphRecords.{graph_of, destinations, operation_of}
use Rattle.record.proofs.Paths.{number_words, same_path_lem}
use Rattle.record.proofs.Calls.{same_caller, leave_entered}
use Rattle.machine.specs.Machine.{Key, Content, live, spent, deferred, Token, State, Activity, refuse, send, read, write, Machine, fired, when, on_option, is_proper, changed, output, spend, find, look, same_key, at, is_operand_of, fire}
use Rattle.machine.specs.Orders.{Good, effect_keys}
use Rattle.machine.proofs.View.{none_some, false_true, settle, change, operand_live, operand_zero, operand_key}
use Rattle.machine.proofs.Kept.{Each, OfEffect}
use Rattle.machine.proofs.Reached.{keys_known}
use Rattle.machine.proofs.Pending.{FiredAs, fired_after, new_tokens, pending_in}
use Rattle.rules.specs.Check.{any, instruction_at, check_graph}
use Rattle.rules.specs.InstructionSet.{EffectHere, key_under, all_under, effect_of, effect_in, arity_in, machine_of}
use Rattle.rules.specs.Saved.{on_left}
use Rattle.rules.specs.Held.{stands_within, stands_in, is_pending, holds_back, held_in}
use Rattle.rules.proofs.Passed.{both}
use Rattle.rules.proofs.PassedGraph.{coded}
use Rattle.rules.proofs.Lawful.{lawful}
use Rattle.rules.proofs.Effects.{later, Asked, of_operation}
use Rattle.rules.proofs.Callers.{enters}
use Rattle.rules.proofs.Held.{not_same, one_holds, pending_at}
use Rattle.rules.proofs.Lists.{either, or_right}

-- ---- the claims

-- a count is a sum by weights of tags, which is what a firing changes by its operands, its outputs and the results that it wakes (`PendingAfter` of machine/proofs/Pending)
abbrev pub weight_at : Path → (iteration : ℕ) → Tag → ℕ
weight_at p j τ = cond (on_option (stands_in p τ) false (λ i. eqb i j)) 1 0

abbrev pub CountsByWeights : Type 0
CountsByWeights = (g : List Instruction) (table : List NamedArray) (capacity cells : ℕ) (p : Path) (j : ℕ) (ts : List (Token Tag ℤ))
    → pending_at g p j ts ≡ pending_in (machine_of g table capacity cells) (weight_at p j) ts

-- where a tag stands is told level by level, by the tags that LEAVE would find
abbrev pub StandsStep : Type 0
StandsStep = (p : Path) (τ : Tag) → stands_in p τ ≡ cond (same_path τ.path p) (some τ.iteration) (on_left (leave_of τ) none (λ site caller. stands_in p caller))

-- an activity that was held is free only if at some iteration of its path no token holds back any more
abbrev pub FreedByClosing : Type 0
FreedByClosing = (g : List Instruction) (k : ℕ) (s x : State Tag ℤ) (a : Activity Tag) → held_in g k s a ≡ true → held_in g k x a ≡ false
    → (j : ℕ) × (0 < pending_at g a.tag.path j s.tokens) × (pending_at g a.tag.path j x.tokens ≡ 0)

-- and one that was free is held only if the firing was of an ENTER (code 8) and sent into its path
pub record EnteredHere (g : List Instruction) (s : State Tag ℤ) (τ : Tag) (x : State Tag ℤ) (path : Path) : Type 0 where
  pub enter : (instruction_at g τ.instruction).code ≡ 8
  pub key : Key Tag
  pub content : Content ℤ
  pub sent : Memᴰ (record { key = key; content = content }) (drop (length s.tokens) x.tokens)
  pub there : key.tag.path ≡ path

abbrev pub HeldAnew : Type 0
HeldAnew = (graph : List ℕ) → check_graph graph ≡ Ok tt → (table : List NamedArray) (capacity cells k : ℕ) (s : State Tag ℤ) → Good (machine_of (graph_of graph) table capacity cells) s
    → (τ : Tag) → PathFits τ.path → τ.iteration < 256 → (x : State Tag ℤ) → fire (machine_of (graph_of graph) table capacity cells) s τ ≡ fired x
    → (a : Activity Tag) → held_in (graph_of graph) k s a ≡ false → held_in (graph_of graph) k x a ≡ true → EnteredHere (graph_of graph) s τ x a.tag.path

-- ---- where a tag stands

-- what LEAVE finds in a path, but for the instruction
abbrev caller_in : Path → (instruction : ℕ) → Tag
caller_in q i = record { path = path_words (path_number q / 65536); iteration = path_number q % 256; instruction = i }

abbrev left_in : Path → (instruction : ℕ) → (root : Bool) → Maybe Caller
left_in q i b = cond b None (Some (record { site = path_number q / 256 % 256; tag = caller_in q i }))

-- its path and its iteration tell
same_stands : (n : ℕ) (p q : Path) (iteration a b : ℕ)
    → stands_within n p (record { path = q; iteration = iteration; instruction = a }) ≡ stands_within n p (record { path = q; iteration = iteration; instruction = b })
unfolding leave_of
same_stands zero p q iteration a b = refl
same_stands (suc n) p q iteration a b = go (is_root q) (same_path q p) (same_stands n p (path_words (path_number q / 65536)) (path_number q % 256) a b)
  where
    go : (c r : Bool) → stands_within n p (caller_in q a) ≡ stands_within n p (caller_in q b)
        → cond r (some iteration) (on_left (left_in q a c) none (λ site x. stands_within n p x)) ≡ cond r (some iteration) (on_left (left_in q b c) none (λ site x. stands_within n p x))
    go true r h = refl
    go false true h = refl
    go false false h = h

pub stands_to : (p : Path) (τ : Tag) (i : ℕ) → stands_in p (to_of τ i) ≡ stands_in p τ
unfolding stands_in
stands_to p τ i = same_stands (suc (path_number τ.path)) p τ.path τ.iteration i τ.instruction

-- the number of a path falls from level to level
number_falls : (q : Path) → is_root q ≡ false → (path_number (path_words (path_number q / 65536)) ≡ path_number q / 65536) × (path_number q / 65536 < path_number q)
unfolding is_root
number_falls q e = let n = eqb-false (path_number q) 0 e in (number_words (path_number q / 65536), omega arith)

-- levels beyond those of the path do not count
enough : (n m : ℕ) (p : Path) (τ : Tag) → path_number τ.path < n → path_number τ.path < m → stands_within n p τ ≡ stands_within m p τ
unfolding leave_of
enough zero m p τ h k = absurd (omega arith)
enough (suc n) zero p τ h k = absurd (omega arith)
enough (suc n) (suc m) p τ h k =
    go (same_path τ.path p) (is_root τ.path) refl
    (λ e. let z = number_falls τ.path e in enough n m p (caller_in τ.path τ.instruction) (omega (arith, z.0, z.1)) (omega (arith, z.0, z.1)))
  where
    go : (r q : Bool) → is_root τ.path ≡ q
        → (is_root τ.path ≡ false → stands_within n p (caller_in τ.path τ.instruction) ≡ stands_within m p (caller_in τ.path τ.instruction))
        → cond r (some τ.iteration) (on_left (left_in τ.path τ.instruction q) none (λ site c. stands_within n p c))
        ≡ cond r (some τ.iteration) (on_left (left_in τ.path τ.instruction q) none (λ site c. stands_within m p c))
    go true q e rest = refl
    go false true e rest = refl
    go false false e rest = rest e

pub stands_step : StandsStep
unfolding stands_in leave_of
stands_step p τ = go (same_path τ.path p) (is_root τ.path) refl
  where
    go : (r q : Bool) → is_root τ.path ≡ q
        → cond r (some τ.iteration) (on_left (left_in τ.path τ.instruction q) none (λ site c. stands_within (path_number τ.path) p c))
        ≡ cond r (some τ.iteration) (on_left (left_in τ.path τ.instruction q) none (λ site c. stands_within (suc (path_number c.path)) p c))
    go true q e = refl
    go false true e = refl
    go false false e =
        let z = number_falls τ.path e in
        enough (path_number τ.path) (suc (path_number (caller_in τ.path τ.instruction).path)) p (caller_in τ.path τ.instruction) (omega (arith, z.0, z.1)) (omega arith)

-- a tag stands in no path with a larger number than its own
stands_below : (n : ℕ) (p : Path) (τ : Tag) (j : ℕ) → stands_within n p τ ≡ some j → path_number p ≤ path_number τ.path
unfolding leave_of
stands_below zero p τ j e = none_some e
stands_below (suc n) p τ j e = go (same_path τ.path p) (is_root τ.path) refl refl e (λ f. stands_below n p (caller_in τ.path τ.instruction) j f)
  where
    go : (r q : Bool) → same_path τ.path p ≡ r → is_root τ.path ≡ q → cond r (some τ.iteration) (on_left (left_in τ.path τ.instruction q) none (λ site c. stands_within n p c)) ≡ some j
        → (stands_within n p (caller_in τ.path τ.instruction) ≡ some j → path_number p ≤ path_number (path_words (path_number τ.path / 65536))) → path_number p ≤ path_number τ.path
    go true q h e f rest = let z = ap path_number (same_path_lem τ.path p h) in omega arith
    go false true h e f rest = none_some f
    go false false h e f rest = let z = number_falls τ.path e in omega (arith, rest f, z.0, z.1)

left_none : (τ : Tag) → is_root τ.path ≡ true → leave_of τ ≡ None
unfolding leave_of
left_none τ e = rw e

left_some : (τ : Tag) → is_root τ.path ≡ false → leave_of τ ≡ Some (record { site = path_number τ.path / 256 % 256; tag = caller_in τ.path τ.instruction })
unfolding leave_of
left_some τ e = rw e

-- ---- what a firing sends

-- it stands where its activity stood, or later; or it has entered its path
data SentFrom (τ : Tag) (k : Key Tag) (p : Path) (j : ℕ) (enter : Type 0) : Type 0 where
  stood : (i : ℕ) → stands_in p τ ≡ some i → i ≤ j → SentFrom τ k p j enter
  entering : enter → k.tag.path ≡ p → SentFrom τ k p j enter

abbrev Any : {A : Type 0} → A → Type 0
Any x = Unit {0}

module _ (graph : List ℕ) (passed : check_graph graph ≡ Ok tt) (table : List NamedArray) (capacity cells : ℕ) (τ : Tag) (word : PathFits τ.path) (low : τ.iteration < 256) where
  abbrev g : List Instruction
  g = graph_of graph

  abbrev r : Instruction
  r = instruction_at g τ.instruction

  abbrev P : Key Tag → Type 0
  P k = (p : Path) (j : ℕ) → stands_in p k.tag ≡ some j → SentFrom τ k p j (r.code ≡ 8)

  under : (d : Destination) → P (key_under τ d)
  under d p j e = stood j (sym (stands_to p τ d.instruction) ∙ e) (omega arith)

  under_next : (d : Destination) → P (key_under (later τ) d)
  unfolding leave_of
  under_next d p j e = go (same_path τ.path p) refl (sym (stands_step p (later τ)) ∙ sym (stands_to p (later τ) d.instruction) ∙ e) (stands_step p τ)
    where
      some_same : {A : Type 0} {x y : A} → some x ≡ some y → x ≡ y
      some_same h = cc

      callers : on_left (leave_of (later τ)) none (λ site c. stands_in p c) ≡ on_left (leave_of τ) none (λ site c. stands_in p c)
      callers = refl

      go : (b : Bool) → same_path τ.path p ≡ b → cond b (some (τ.iteration + 1)) (on_left (leave_of (later τ)) none (λ site c. stands_in p c)) ≡ some j
          → stands_in p τ ≡ cond (same_path τ.path p) (some τ.iteration) (on_left (leave_of τ) none (λ site c. stands_in p c)) → SentFrom τ (key_under (later τ) d) p j (r.code ≡ 8)
      go true h f s = stood τ.iteration (s ∙ rw h) (let z = some_same f in omega arith)
      go false h f s = stood j (s ∙ rw h (sym callers ∙ f)) (omega arith)

  each_under : (f : Destination → Key Tag) → ((d : Destination) → P (f d)) → (ds : List Destination) → Each P (map f ds)
  each_under f h [] = tt
  each_under f h (d ∷ ds) = (h d, each_under f h ds)

  under_entered : operation_of r.code ≡ Operations.Enter → P (key_under (entered τ (nat_abs r.constant)) r.first)
  under_entered e p j h = go (same_path tag.path p) refl (sym (stands_step p tag) ∙ h)
    where
      site : ℕ
      site = nat_abs r.constant

      caller : Tag
      caller = to_of τ r.first.instruction

      tag : Tag
      tag = entered caller site

      leaves : leave_of tag ≡ Some (record { site = site; tag = caller })
      leaves = let c = (enters graph passed τ.instruction τ.iteration low e).fits in leave_entered caller site word.low low c.some c.site

      go : (b : Bool) → same_path tag.path p ≡ b → cond b (some tag.iteration) (on_left (leave_of tag) none (λ site c. stands_in p c)) ≡ some j
          → SentFrom τ (key_under (entered τ (nat_abs r.constant)) r.first) p j (r.code ≡ 8)
      go true q f = entering (eqb-true r.code 8 (coded r.code e)) (same_path_lem tag.path p q)
      go false q f = stood j (sym (stands_to p τ r.first.instruction) ∙ rw leaves at f) (omega arith)

  under_left : (site : ℕ) (caller : Tag) → leave_of τ ≡ Some (record { site = site; tag = caller }) → (i : ℕ) → P (record { tag = to_of caller i; port = 0 })
  unfolding stands_in
  under_left site caller h i p j e =
      let here : stands_in p caller ≡ some j = sym (stands_to p caller i) ∙ e in
      let below = stands_below (suc (path_number caller.path)) p caller j here in
      let less = caller_below h in
      let other : same_path τ.path p ≡ false = not_same τ.path p (λ z. let y = ap path_number z in omega arith) in
      stood j (stands_step p τ ∙ rw (other, h) here) (omega arith)
    where
      caller_below : leave_of τ ≡ Some (record { site = site; tag = caller }) → path_number caller.path < path_number τ.path
      caller_below f = go (is_root τ.path) refl f
        where
          go : (b : Bool) → is_root τ.path ≡ b → leave_of τ ≡ Some (record { site = site; tag = caller }) → path_number caller.path < path_number τ.path
          go true q k = absurd (none-some _ (sym (left_none τ q) ∙ k))
          go false q k =
              let z = (same_caller (sym (left_some τ q) ∙ k)).1 in
              let y = ap (λ (t : Tag). path_number t.path) z in
              let n = number_falls τ.path q in
              omega (arith, y, n.0, n.1)

  asked : Asked g table capacity cells P Any Any τ r
  asked = record {
    all = each_under (key_under τ) under (destinations r);
    sides = λ e. (under r.first, under r.second);
    next = λ e h. each_under (key_under (later τ)) under_next (destinations r);
    enter = λ e h. under_entered e;
    leave = λ e site caller h i l. under_left site caller h i;
    fetch = λ e c h. tt;
    constant = tt;
    computed = λ o a b v e. tt;
  }

  of_keys : (e : EffectHere) → OfEffect (machine_of g table capacity cells) P Any Any e → Each P (effect_keys (machine_of g table capacity cells) e)
  of_keys (refuse q) h = tt
  of_keys (send v keys) h = h.1
  of_keys (read c keys) h = h.1
  of_keys (write c v keys) h = h.1

  sent_from_lem : (a b : ℤ) → Each P (effect_keys (machine_of g table capacity cells) (effect_in g table cells τ a b))
  unfolding effect_in
  sent_from_lem a b = of_keys (effect_of (operation_of r.code) g table cells τ r a b (all_under τ r)) (of_operation g table capacity cells P Any Any τ r asked (operation_of r.code) refl a b tt tt)

-- ---- which tokens hold back

any_append : {A : Type 0} (f : A → Bool) (l m : List A) → any f (l ++ m) ≡ true → (any f l ≡ true) ⊎ (any f m ≡ true)
any_append f [] m e = inr e
any_append f (x ∷ l) m e = go (either (f x) (any f (l ++ m)) e) (λ h. any_append f l m h)
  where
    later_one : (any f l ≡ true) ⊎ (any f m ≡ true) → (any f (x ∷ l) ≡ true) ⊎ (any f m ≡ true)
    later_one (inl h) = inl (or_right (f x) (any f l) h)
    later_one (inr h) = inr h

    go : (f x ≡ true) ⊎ (any f (l ++ m) ≡ true) → (any f (l ++ m) ≡ true → (any f l ≡ true) ⊎ (any f m ≡ true)) → (any f (x ∷ l) ≡ true) ⊎ (any f m ≡ true)
    go (inl h) rest = inl (rw h)
    go (inr h) rest = later_one (rest h)

-- one that holds back: it stands at an iteration of m - k or less
held_at : (g : List Instruction) (k : ℕ) (p : Path) (m : ℕ) (t : Token Tag ℤ) → holds_back g k p m t ≡ true → (is_pending g t ≡ true) × (j : ℕ) × (stands_in p t.key.tag ≡ some j) × (j + k ≤ m)
unfolding holds_back
held_at g k p m t e = go (is_pending g t) (stands_in p t.key.tag) refl e
  where
    go : (b : Bool) (o : Option ℕ) → stands_in p t.key.tag ≡ o → (b && on_option o false (λ j. leb (j + k) m)) ≡ true → (b ≡ true) × (j : ℕ) × (stands_in p t.key.tag ≡ some j) × (j + k ≤ m)
    go false o h f = false_true f
    go true none h f = false_true f
    go true (some j) h f = (refl, j, h, leb-true (j + k) m f)

holds : (g : List Instruction) (k : ℕ) (p : Path) (m : ℕ) (t : Token Tag ℤ) (j : ℕ) → is_pending g t ≡ true → stands_in p t.key.tag ≡ some j → j + k ≤ m → holds_back g k p m t ≡ true
unfolding holds_back
holds g k p m t j e h l = rw (e, h, le-leb (j + k) m l)

-- ---- by counts

pub counts_by_weights : CountsByWeights
unfolding is_pending
counts_by_weights g table capacity cells p j [] = refl
counts_by_weights g table capacity cells p j (t ∷ ts) =
    go (is_pending g t) (on_option (stands_in p t.key.tag) false (λ i. eqb i j)) (counts_by_weights g table capacity cells p j ts)
  where
    rest : ℕ
    rest = pending_in (machine_of g table capacity cells) (weight_at p j) ts

    go : (b c : Bool) → pending_at g p j ts ≡ rest → cond (b && c) 1 0 + pending_at g p j ts ≡ cond b (cond c 1 0) 0 + rest
    go true c h = ap (λ (n : ℕ). cond c 1 0 + n) h
    go false c h = ap (λ (n : ℕ). 0 + n) h

-- one that holds back is counted
any_counted : (g : List Instruction) (k : ℕ) (p : Path) (m : ℕ) (ts : List (Token Tag ℤ)) → any (holds_back g k p m) ts ≡ true → (j : ℕ) × (j + k ≤ m) × (0 < pending_at g p j ts)
any_counted g k p m [] e = false_true e
any_counted g k p m (t ∷ ts) e = go (either (holds_back g k p m t) (any (holds_back g k p m) ts) e) (λ h. any_counted g k p m ts h)
  where
    go : (holds_back g k p m t ≡ true) ⊎ (any (holds_back g k p m) ts ≡ true) → (any (holds_back g k p m) ts ≡ true → (j : ℕ) × (j + k ≤ m) × (0 < pending_at g p j ts))
        → (j : ℕ) × (j + k ≤ m) × (0 < pending_at g p j (t ∷ ts))
    go (inl h) rest = let (b, j, s, l) = held_at g k p m t h in (j, l, rw (b, s, eq-eqb j j refl) (omega arith))
    go (inr h) rest = let (j, l, c) = rest h in (j, l, omega arith)

pub freed_by_closing : FreedByClosing
unfolding held_in
freed_by_closing g k s x a e f =
    let m = a.tag.iteration + 1 in
    let p = a.tag.path in
    let (bounded, more) = both (leb 1 k) _ e in
    let (next, held) = both (eqb (instruction_at g a.tag.instruction).code 7) _ more in
    let (j, l, c) = any_counted g k p m s.tokens held in
    (j, c, closed j l (λ h. false_true (sym f ∙ rw (bounded, next) (one_holds g k p m j l x.tokens h))))
  where
    closed : (j : ℕ) → j + k ≤ a.tag.iteration + 1 → (0 < pending_at g a.tag.path j x.tokens → ⊥) → pending_at g a.tag.path j x.tokens ≡ 0
    closed j l idle = go (pending_at g a.tag.path j x.tokens) idle
      where
        go : (n : ℕ) → (0 < n → ⊥) → n ≡ 0
        go zero h = refl
        go (suc n) h = absurd (h (omega arith))

-- ---- after a firing

-- what is pending after a firing was so before
still : (f : ℕ → Option ℤ) (n : ℕ) (b : Bool) (y : Content ℤ) → not (is_proper n (settle f (cond b (spend y) y))) ≡ true → not (is_proper n y) ≡ true
still f n true (live v) e = false_true e
still f n true (spent v) e = false_true e
still f n true (deferred c) e = refl
still f n false (live v) e = e
still f n false (spent v) e = false_true e
still f n false (deferred c) e = refl

module _ (graph : List ℕ) (passed : check_graph graph ≡ Ok tt) (table : List NamedArray) (capacity cells k : ℕ) (s : State Tag ℤ) (good : Good (machine_of (graph_of graph) table capacity cells) s)
    (τ : Tag) (word : PathFits τ.path) (low : τ.iteration < 256) (x : State Tag ℤ) (fires : fire (machine_of (graph_of graph) table capacity cells) s τ ≡ fired x) (p : Path) (m : ℕ) where
  abbrev M : Machine
  M = machine_of (graph_of graph) table capacity cells

  abbrev H : Token Tag ℤ → Bool
  H = holds_back (graph_of graph) k p m

  f : FiredAs M s τ x
  f = fired_after M (lawful graph passed table capacity cells) s good τ x fires

  older : (t : Token Tag ℤ) → H (changed (change M τ f.delta) t) ≡ true → H t ≡ true
  unfolding is_pending
  older t e =
      let (b, j, h, l) = held_at (graph_of graph) k p m (changed (change M τ f.delta) t) e in
      holds (graph_of graph) k p m t j (still f.delta.writes (arity_in (graph_of graph) t.key.tag) (is_operand_of M τ t.key) t.content b) h l

  olds : (ts : List (Token Tag ℤ)) → any H (map (changed (change M τ f.delta)) ts) ≡ true → any H ts ≡ true
  olds [] e = e
  olds (t ∷ ts) e = go (either (H (changed (change M τ f.delta) t)) _ e) (λ h. olds ts h)
    where
      go : (H (changed (change M τ f.delta) t) ≡ true) ⊎ (any H (map (changed (change M τ f.delta)) ts) ≡ true) → (any H (map (changed (change M τ f.delta)) ts) ≡ true → any H ts ≡ true) → (H t || any H ts) ≡ true
      go (inl h) rest = rw (older t h)
      go (inr h) rest = or_right (H t) (any H ts) (rest h)

  -- the operand on port 0 holds back where the activity stands so far back
  operand_holds : (i : ℕ) → stands_in p τ ≡ some i → i + k ≤ m → any H s.tokens ≡ true
  unfolding is_pending
  operand_holds i h l =
      let o = operand_zero M (look M s) τ f.ops f.given in
      let (v, e) = operand_live M (look M s) τ f.ops (at M τ 0) f.given o in
      among s.tokens v e
    where
      waits : 0 < arity_in (graph_of graph) τ
      waits = (operand_key M τ (at M τ 0) (operand_zero M (look M s) τ f.ops f.given)).1

      here : (t : Token Tag ℤ) (v : ℤ) → at M τ 0 ≡ t.key → t.content ≡ live v → H t ≡ true
      here t v q c =
          let same : t.key.tag ≡ τ = sym (ap (λ (j : Key Tag). j.tag) q) in
          holds (graph_of graph) k p m t i (rw (same, c, ne_eqb (arity_in (graph_of graph) τ) 0 (λ z. omega (arith, waits)))) (rw same h) l

      some_same : {A : Type 0} {y z : A} → some y ≡ some z → y ≡ z
      some_same e = cc

      among : (ts : List (Token Tag ℤ)) (v : ℤ) → find M (at M τ 0) ts ≡ some (live v) → any H ts ≡ true
      among [] v e = none_some e
      among (t ∷ ts) v e = go (same_key M (at M τ 0) t.key) e (λ g. among ts v g)
        where
          go : (d : Dec (at M τ 0 ≡ t.key)) → when d (some t.content) (find M (at M τ 0) ts) ≡ some (live v) → (find M (at M τ 0) ts ≡ some (live v) → any H ts ≡ true) → (H t || any H ts) ≡ true
          go (yes q) g rest = rw (here t v q (some_same g))
          go (no n) g rest = or_right (H t) (any H ts) (rest g)

  -- an output that holds back
  abbrev Back : List (Key Tag) → Type 0
  Back ks = ((i : ℕ) × (stands_in p τ ≡ some i) × (i + k ≤ m))
      ⊎ (((instruction_at (graph_of graph) τ.instruction).code ≡ 8) × (key : Key Tag) × Memᴰ (output f.after.sent key) (map (output f.after.sent) ks) × (key.tag.path ≡ p))

  news : (ks : List (Key Tag)) → Each (P graph passed table capacity cells τ word low) ks → any H (map (output f.after.sent) ks) ≡ true → Back ks
  news [] each e = false_true e
  news (key ∷ ks) each e = go (either (H (output f.after.sent key)) _ e) (λ h. news ks each.1 h)
    where
      here : (j : ℕ) → j + k ≤ m → SentFrom τ key p j ((instruction_at (graph_of graph) τ.instruction).code ≡ 8) → Back (key ∷ ks)
      here j l (stood i h n) = inl (i, h, omega arith)
      here j l (entering c z) = inr (c, key, Memᴰ.head refl, z)

      further : Back ks → Back (key ∷ ks)
      further (inl h) = inl h
      further (inr (c, j, i, z)) = inr (c, j, Memᴰ.tail i, z)

      go : (H (output f.after.sent key) ≡ true) ⊎ (any H (map (output f.after.sent) ks) ≡ true) → (any H (map (output f.after.sent) ks) ≡ true → Back ks) → Back (key ∷ ks)
      go (inl h) rest = let (b, j, q, l) = held_at (graph_of graph) k p m (output f.after.sent key) h in here j l (each.0 p j q)
      go (inr h) rest = further (rest h)

  -- a token holds back after the firing: one held back before it, or the firing has entered the path
  held_after : any H x.tokens ≡ true → (any H s.tokens ≡ true) ⊎ EnteredHere (graph_of graph) s τ x p
  held_after e = go (any_append H (map (changed (change M τ f.delta)) s.tokens) (map (output f.after.sent) f.delta.keys) (rw f.after.listed at e))
    where
      keys : effect_keys M (M.effect τ f.ops.left f.ops.right) ≡ f.delta.keys
      keys = keys_known M (M.effect τ f.ops.left f.ops.right) f.delta f.known

      each : Each (P graph passed table capacity cells τ word low) f.delta.keys
      each = subst (Each (P graph passed table capacity cells τ word low)) keys (sent_from_lem graph passed table capacity cells τ word low f.ops.left f.ops.right)

      back : Back f.delta.keys → (any H s.tokens ≡ true) ⊎ EnteredHere (graph_of graph) s τ x p
      back (inl (i, h, l)) = inl (operand_holds i h l)
      back (inr (c, key, i, z)) = inr (record {
        enter = c;
        key = key;
        content = f.after.sent;
        sent = subst (λ (l : List (Token Tag ℤ)). Memᴰ (output f.after.sent key) l) (sym (new_tokens M s τ x f)) i;
        there = z;
      })

      go : (any H (map (changed (change M τ f.delta)) s.tokens) ≡ true) ⊎ (any H (map (output f.after.sent) f.delta.keys) ≡ true) → (any H s.tokens ≡ true) ⊎ EnteredHere (graph_of graph) s τ x p
      go (inl h) = inl (olds s.tokens h)
      go (inr h) = back (news f.delta.keys each h)

pub held_anew : HeldAnew
unfolding held_in
held_anew graph passed table capacity cells k s good τ word low x fires a free held = go (held_after graph passed table capacity cells k s good τ word low x fires a.tag.path (a.tag.iteration + 1) later_part.1)
  where
    g : List Instruction
    g = graph_of graph

    parts : (leb 1 k ≡ true) × ((eqb (instruction_at (graph_of graph) a.tag.instruction).code 7 && any (holds_back (graph_of graph) k a.tag.path (a.tag.iteration + 1)) x.tokens) ≡ true)
    parts = both (leb 1 k) _ held

    later_part : (eqb (instruction_at (graph_of graph) a.tag.instruction).code 7 ≡ true) × (any (holds_back (graph_of graph) k a.tag.path (a.tag.iteration + 1)) x.tokens ≡ true)
    later_part = both (eqb (instruction_at (graph_of graph) a.tag.instruction).code 7) _ parts.1

    go : (any (holds_back (graph_of graph) k a.tag.path (a.tag.iteration + 1)) s.tokens ≡ true) ⊎ EnteredHere (graph_of graph) s τ x a.tag.path → EnteredHere (graph_of graph) s τ x a.tag.path
    go (inl h) = false_true (sym free ∙ rw (parts.0, later_part.0) h)
    go (inr h) = h
