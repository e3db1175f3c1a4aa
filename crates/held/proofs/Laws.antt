-- The flags of held activities: what a pass over the enabled ones makes of them. Assumes nothing.
use Prim.Native.Nat.{ℕ, ◌+◌, ◌*◌, ◌≤◌, ◌<◌}
use mathlib.Core.Path.{◌≡◌, refl, sym, ap, ◌∙◌}
use mathlib.Core.Bool.{Bool, true, false, ◌&&◌}
use mathlib.Core.Option.{Option, none, some}
use mathlib.Core.List.{List, [], ◌∷◌}
use native.Mathlib.Omega.{arith}
use lib.Dec.{eqb, leb}
use lib.ListN.{get_or, set, drop}
use lib.Seq.{get_or-drop, get_or-set_other, set-get_or}
use lib.IntN.{ℤ}
use borrow.Author.Tests.{eqb-true, eqb-false, leb-false, le-leb, lt-leb}
use Rattle.record.specs.declared.tag.Path.{Path}
use Rattle.record.specs.declared.tag.Tag.{Tag}
use Rattle.number.specs.Number.{byte_at, number32}
use Rattle.record.specs.TokensAndTags.{token_at, content_of, decode_token, is_spent_record}
use Rattle.record.specs.Widths.{token_width, state_offset, value_offset}
use Rattle.record.specs.declared.instruction.Instruction.{Instruction}
use Rattle.record.specs.declared.token.Token as Record
use Rattle.machine.specs.Machine.{Token, State, Activity, on_option}
use Rattle.rules.specs.Check.{any, instruction_at}
use Rattle.rules.specs.Held.{stands_in, is_pending, holds_back, held_in}
use Rattle.store_flags.specs.Marks.{bit}
use Rattle.held.specs.Deciding.{held_by, ClearFrom, is_next, is_late_next, NewListed}

-- ---- one activity

pub and_false_lem : (a b : Bool) → b ≡ false → (a && b) ≡ false
and_false_lem true b e = e
and_false_lem false b e = refl

none_any : (f : Token Tag ℤ → Bool) → ((t : Token Tag ℤ) → f t ≡ false) → (ts : List (Token Tag ℤ)) → any f ts ≡ false
none_any f h [] = refl
none_any f h (t ∷ ts) = rw (h t) (none_any f h ts)

early : (g : List Instruction) (k : ℕ) (p : Path) (m : ℕ) → m < k → (t : Token Tag ℤ) → holds_back g k p m t ≡ false
unfolding holds_back
early g k p m low t = and_false_lem (is_pending g t) _ (go (stands_in p t.key.tag))
  where
    go : (o : Option ℕ) → on_option o false (λ j. leb (j + k) m) ≡ false
    go none = refl
    go (some j) = lt-leb (j + k) m (omega arith)

module _ (g : List Instruction) (k : ℕ) (ts : List (Token Tag ℤ)) (τ : Tag) where
  pub other_free : eqb (instruction_at g τ.instruction).code 7 ≡ false → held_by g k ts τ ≡ false
  unfolding held_by
  other_free e = rw e (go (leb 1 k))
    where
      go : (b : Bool) → (b && false) ≡ false
      go true = refl
      go false = refl

  pub next_held : 0 < k → eqb (instruction_at g τ.instruction).code 7 ≡ true → held_by g k ts τ ≡ any (holds_back g k τ.path (τ.iteration + 1)) ts
  unfolding held_by
  next_held h e = rw (le-leb 1 k (omega arith), e)

  -- before iteration k nothing is held back
  pub early_free : leb k (τ.iteration + 1) ≡ false → held_by g k ts τ ≡ false
  unfolding held_by
  early_free e = and_false_lem (leb 1 k) _ (and_false_lem (eqb (instruction_at g τ.instruction).code 7) _ (none_any (holds_back g k τ.path (τ.iteration + 1)) (early g k τ.path (τ.iteration + 1) (leb-false k (τ.iteration + 1) e)) ts))

-- it is the rules' test
pub held_rule : (g : List Instruction) (k : ℕ) (s : State Tag ℤ) (a : Activity Tag) → held_in g k s a ≡ held_by g k s.tokens a.tag
unfolding held_in held_by
held_rule g k s a = refl

-- ---- flags

content_spent_lem : (bits state : ℕ) → state ≡ 1 → is_spent_record (content_of bits state) ≡ true
unfolding content_of
content_spent_lem bits state e = rw e

-- the state byte of a spent token's record is 1
pub spent_state : (ledger : List ℕ) (i : ℕ) → get_or ledger (i * token_width + state_offset) 0 ≡ 1 → is_spent_record (token_at ledger i).content ≡ true
unfolding decode_token
spent_state ledger i e = go (number32 (drop (i * token_width) ledger) value_offset) (byte_at (drop (i * token_width) ledger) state_offset) (rw (get_or-drop (i * token_width) ledger state_offset 0) e)
  where
    go : (bits state : ℕ) → state ≡ 1 → is_spent_record (content_of bits state) ≡ true
    go bits state h = content_spent_lem bits state h

-- ---- the records at NEXT

module _ (g : List Instruction) (k : ℕ) (t u : Record.Token) (same : t ≡ u) where
  abbrev late : Record.Token → Bool → Bool
  late v b = b && leb k (v.tag.iteration + 1)

  as_late : late t (eqb (instruction_at g t.tag.instruction).code 7) ≡ is_late_next g k u
  unfolding is_next is_late_next
  as_late = ap (λ (v : Record.Token). late v (eqb (instruction_at g v.tag.instruction).code 7)) same

  pub late_there : eqb (instruction_at g t.tag.instruction).code 7 ≡ true → (n : ℕ) → n ≡ t.tag.iteration → leb k (n + 1) ≡ is_late_next g k u
  late_there e n f = ap (λ (x : ℕ). leb k (x + 1)) f ∙ ap (late t) (sym e) ∙ as_late

  pub late_not : eqb (instruction_at g t.tag.instruction).code 7 ≡ false → false ≡ is_late_next g k u
  late_not e = ap (late t) (sym e) ∙ as_late

module _ (g : List Instruction) (k : ℕ) (ledger : List ℕ) (used n : ℕ) (nexts₀ : List ℕ) where
  -- those below i are listed
  pub record ListedTo (nexts : List ℕ) (i : ℕ) : Type 0 where
    pub low : used ≤ i
    pub high : i ≤ n
    pub same : (j : ℕ) → j < used → get_or nexts j 0 ≡ get_or nexts₀ j 0
    pub new : (j : ℕ) → used ≤ j → j < i → get_or nexts j 0 ≡ bit (is_late_next g k (token_at ledger j))
    pub clear : ClearFrom i nexts
