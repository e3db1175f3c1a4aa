-- How a firing changes the number of pending tokens, by any weight of their tags (`pending_after`), and what its tokens are one by one (`fired_after`). Assumes nothing. Both
-- take that the instruction set is lawful, and of the state that it is well-formed.
use mathlib.Core.Path.{◌≡◌, refl, sym, ap, ◌∙◌}
use mathlib.Core.List.{List, [], ◌∷◌, ◌++◌, map}
use mathlib.Core.Option.{Option, none, some}
use mathlib.Core.Bool.{Bool, true, false, not, ◌&&◌, cond}
use Prim.Native.Nat.{ℕ, ◌+◌, ◌*◌, ◌<◌}
use native.Mathlib.Omega.{arith}
use native.Mathlib.Nat.{zero-mul, suc-mul, add-mul}
use lib.Dec.{eqb}
use lib.ListN.{length, drop, length-map}
use borrow.Author.Tests.{ne_eqb}
use Rattle.machine.specs.Machine.{Content, live, spent, deferred, Token, Machine, fired, not_fired, on_option, is_live, is_proper, changed, output, spend, Operands}
use Rattle.machine.specs.Machine.{Ledger, StateOf, at, find, look, same_key, is_operand_of, operands, commit, fire}
use Rattle.machine.specs.Orders.{Lawful, Good, Distinct}
use Rattle.machine.proofs.View.{none_some, when_no, settle, DeltaOf, delta_of, change, operand_key, operand_live, operand_at}
use Rattle.machine.proofs.Store.{After, Answer, commit_result, find_head}
use Rattle.machine.proofs.Unspent.{count_below, count_all, OperandsLive}
use Rattle.machine.proofs.Sequences.{never_fired}

-- ---- the claims

module _ (M : Machine) where
  -- one that a completed run does not leave
  abbrev pub is_pending_in : Token M.Tag M.Value → Bool
  is_pending_in t = not (is_proper (M.arity t.key.tag) t.content)

  -- the weights of the pending tokens together
  abbrev pub pending_in : (weight : M.Tag → ℕ) → Ledger M → ℕ
  pending_in w [] = 0
  pending_in w (t ∷ ts) = cond (is_pending_in t) (w t.key.tag) 0 + pending_in w ts

  -- a result that a firing wakes: it was deferred, and is live
  abbrev pub is_woken : (before after : Token M.Tag M.Value) → Bool
  is_woken t u = is_pending_in t && (is_proper (M.arity u.key.tag) u.content && is_live u.content)

  -- of the tokens of a ledger, by what has become of them
  abbrev pub woken_in : (weight : M.Tag → ℕ) → (before after : Ledger M) → ℕ
  woken_in w [] us = 0
  woken_in w (t ∷ ts) [] = 0
  woken_in w (t ∷ ts) (u ∷ us) = cond (is_woken t u) (w t.key.tag) 0 + woken_in w ts us

  -- the operands of the activity are pending no more, nor are results that it wakes; of its outputs those are that are no results, or deferred
  abbrev pub PendingAfter : Type 0
  PendingAfter = (s : StateOf M) → Good M s → (τ : M.Tag) (x : StateOf M) → fire M s τ ≡ fired x → (w : M.Tag → ℕ)
      → pending_in w x.tokens + M.arity τ * w τ + woken_in w s.tokens x.tokens ≡ pending_in w s.tokens + pending_in w (drop (length s.tokens) x.tokens)

-- ---- the proofs

module _ (M : Machine) where
  -- ---- what a firing leaves, token by token

  pub record FiredAs (s : StateOf M) (τ : M.Tag) (x : StateOf M) : Type 0 where
    pub ops : Operands M.Value
    pub given : operands M (look M s) τ ≡ some ops
    pub delta : DeltaOf M
    pub known : delta_of M (M.effect τ ops.left ops.right) ≡ some delta
    pub after : After M s τ delta x

  pub fired_after : Lawful M → (s : StateOf M) → Good M s → (τ : M.Tag) (x : StateOf M) → fire M s τ ≡ fired x → FiredAs s τ x
  unfolding fire
  fired_after law s g τ x e = go (operands M (look M s) τ) refl e
    where
      known : (p : Operands M.Value) → operands M (look M s) τ ≡ some p → (q : Option (DeltaOf M)) → delta_of M (M.effect τ p.left p.right) ≡ q → Answer M s τ q (fired x) → FiredAs s τ x
      known p h none f a = absurd a
      known p h (some d) f a = record { ops = p; given = h; delta = d; known = f; after = a }

      go : (q : Option (Operands M.Value)) → operands M (look M s) τ ≡ q → on_option q (not_fired M.second_token) (λ p. commit M s τ (M.effect τ p.left p.right)) ≡ fired x → FiredAs s τ x
      go none h f = never_fired M M.second_token x f
      go (some p) h f =
          known p h (delta_of M (M.effect τ p.left p.right)) refl
          (rw f at (commit_result M s τ (M.effect τ p.left p.right) g.distinct (rw g.cell_count (law.cells_below τ p.left p.right))))

  dropped : {A : Type 0} (l m : List A) → drop (length l) (l ++ m) ≡ m
  dropped [] m = refl
  dropped (x ∷ l) m = dropped l m

  -- the outputs are the tokens behind those of before
  pub new_tokens : (s : StateOf M) (τ : M.Tag) (x : StateOf M) (f : FiredAs s τ x) → drop (length s.tokens) x.tokens ≡ map (output f.after.sent) f.delta.keys
  new_tokens s τ x f =
      let outs = map (output f.after.sent) f.delta.keys in
      let olds = map (changed (change M τ f.delta)) s.tokens in
      ap (drop (length s.tokens)) f.after.listed ∙ ap (λ (n : ℕ). drop n (olds ++ outs)) (sym (length-map s.tokens (changed (change M τ f.delta)))) ∙ dropped olds outs

  -- ---- sums

  module _ (w : M.Tag → ℕ) where
    pending_append : (l m : Ledger M) → pending_in M w (l ++ m) ≡ pending_in M w l + pending_in M w m
    pending_append [] m = omega arith
    pending_append (t ∷ ts) m = omega (arith, pending_append ts m)

    module _ (τ : M.Tag) (d : DeltaOf M) where
      abbrev after : Token M.Tag M.Value → Token M.Tag M.Value
      after t = changed (change M τ d) t

      -- the weight of a token: before, after, as an operand, as a result that is woken
      abbrev weigh : (b : Bool) → M.Tag → ℕ
      weigh b σ = cond b (w σ) 0

      own : (n : ℕ) (σ : M.Tag) (y : Content M.Value) → n < M.arity σ → (v : M.Value) → y ≡ live v → not (is_proper (M.arity σ) y) ≡ true
      own n σ y h v e = rw (e, ne_eqb (M.arity σ) 0 (λ z. omega arith))

      -- a token that is no operand
      other : (σ : M.Tag) (y : Content M.Value)
          → weigh (not (is_proper (M.arity σ) (settle d.writes y))) σ
          + weigh (not (is_proper (M.arity σ) y) && (is_proper (M.arity σ) (settle d.writes y) && is_live (settle d.writes y))) σ
          ≡ weigh (not (is_proper (M.arity σ) y)) σ
      other σ (live v) = go (eqb (M.arity σ) 0)
        where
          go : (b : Bool) → weigh (not b) σ + weigh (not b && (b && true)) σ ≡ weigh (not b) σ
          go true = omega arith
          go false = omega arith
      other σ (spent v) = omega arith
      other σ (deferred c) = go (d.writes c)
        where
          result : (b : Bool) → weigh (not b) σ + weigh (true && (b && true)) σ ≡ w σ
          result true = omega arith
          result false = omega arith

          go : (q : Option M.Value)
              → weigh (not (is_proper (M.arity σ) (on_option q (deferred c) live))) σ
              + weigh (true && (is_proper (M.arity σ) (on_option q (deferred c) live) && is_live (on_option q (deferred c) live))) σ
              ≡ w σ
          go none = omega arith
          go (some v) = result (eqb (M.arity σ) 0)

      one : (t : Token M.Tag M.Value) (ts : Ledger M) → OperandsLive M τ d (t ∷ ts)
          → weigh (is_pending_in M (after t)) t.key.tag + weigh (is_operand_of M τ t.key) τ + weigh (is_woken M t (after t)) t.key.tag ≡ weigh (is_pending_in M t) t.key.tag
      one t ts lives = go (is_operand_of M τ t.key) refl
        where
          spends : is_operand_of M τ t.key ≡ true → (v : M.Value) → t.content ≡ live v
              → weigh (not (is_proper (M.arity t.key.tag) (settle d.writes (spend t.content)))) t.key.tag + w τ
              + weigh (is_pending_in M t && (is_proper (M.arity t.key.tag) (settle d.writes (spend t.content)) && is_live (settle d.writes (spend t.content)))) t.key.tag
              ≡ weigh (is_pending_in M t) t.key.tag
          spends e v l =
              let (p, h) = operand_key M τ t.key e in
              let k : t.key.port < M.arity t.key.tag = rw (← p) h in
              let z = own t.key.port t.key.tag t.content k v l in
              rw (z, l, p) (omega arith)

          go : (b : Bool) → is_operand_of M τ t.key ≡ b
              → weigh (not (is_proper (M.arity t.key.tag) (settle d.writes (cond b (spend t.content) t.content)))) t.key.tag + weigh b τ
              + weigh (is_pending_in M t && (is_proper (M.arity t.key.tag) (settle d.writes (cond b (spend t.content) t.content)) && is_live (settle d.writes (cond b (spend t.content) t.content)))) t.key.tag
              ≡ weigh (is_pending_in M t) t.key.tag
          go true e = let (v, l) = lives t.key e t.content (find_head M t ts) in spends e v l
          go false e = omega (arith, other t.key.tag t.content)

      -- the operands' weights together
      abbrev spent_in : Ledger M → ℕ
      spent_in [] = 0
      spent_in (t ∷ ts) = weigh (is_operand_of M τ t.key) τ + spent_in ts

      counted : (ts : Ledger M) → spent_in ts ≡ count_below M τ (M.arity τ) ts * w τ
      counted [] = sym (zero-mul (w τ))
      counted (t ∷ ts) = go (is_operand_of M τ t.key) (counted ts)
        where
          go : (b : Bool) → spent_in ts ≡ count_below M τ (M.arity τ) ts * w τ → weigh b τ + spent_in ts ≡ (cond b 1 0 + count_below M τ (M.arity τ) ts) * w τ
          go true h = rw (h, add-mul 1 (count_below M τ (M.arity τ) ts) (w τ), suc-mul 0 (w τ), zero-mul (w τ)) (omega arith)
          go false h = rw (h, add-mul 0 (count_below M τ (M.arity τ) ts) (w τ), zero-mul (w τ)) refl

      all : (ts us : Ledger M) → Distinct M ts → OperandsLive M τ d ts → pending_in M w (map after ts) + spent_in ts + woken_in M w ts (map after ts ++ us) ≡ pending_in M w ts
      all [] us ds lives = omega arith
      all (t ∷ ts) us ds lives = omega (arith, one t ts lives, all ts us ds.1 later)
        where
          later : OperandsLive M τ d ts
          later k o y e = lives k o y (when_no (same_key M k t.key) _ _ (λ q. none_some (sym ds.0 ∙ ap (λ j. find M j ts) (sym q) ∙ e)) ∙ e)

  pub pending_after : Lawful M → PendingAfter M
  pending_after law s g τ x e w =
      let f = fired_after law s g τ x e in
      let a = f.after in
      let d = f.delta in
      let outs = map (output a.sent) d.keys in
      let olds = map (changed (change M τ d)) s.tokens in
      omega (
        arith,
        ap (pending_in M w) a.listed,
        pending_append w olds outs,
        all w τ d s.tokens outs g.distinct (lives f),
        ap (woken_in M w s.tokens) a.listed,
        counted w τ d s.tokens ∙ ap (λ (n : ℕ). n * w τ) (count_all M τ s.tokens g.distinct (M.arity τ) (there f)),
        ap (pending_in M w) (new_tokens s τ x f),
      )
    where
      some_same : {A : Type 0} {y z : A} → some y ≡ some z → y ≡ z
      some_same h = cc

      lives : (f : FiredAs s τ x) → OperandsLive M τ f.delta s.tokens
      lives f k o y h = let (v, l) = operand_live M (look M s) τ f.ops k f.given o in (v, some_same (sym h ∙ l))

      there : (f : FiredAs s τ x) (q : ℕ) → q < M.arity τ → (y : Content M.Value) × (find M (at M τ q) s.tokens ≡ some y)
      there f q h = let (v, l) = operand_live M (look M s) τ f.ops (at M τ q) f.given (operand_at M τ q h) in (live v, l)
