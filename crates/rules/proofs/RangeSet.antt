-- 02, R-11: by what refusals alone a range run may differ from a plain one (`OfRanges`; `effects_related` in RangeEffects says that it does not by others). The instruction
-- set over ranges is lawful (`ranges_lawful`). What a bound holds back does not depend on values (`held_same`). Assumes nothing.
use Rattle.std.proofs.Common.{Ok}
use Prim.Native.Nat.{ℕ, ◌+◌, ◌<◌}
use mathlib.Core.Path.{◌≡◌, refl}
use mathlib.Core.Bool.{Bool, true, false, cond}
use mathlib.Core.Logic.{◌⊎◌}
use mathlib.Core.List.{List, [], ◌∷◌}
use lib.ListN.{length}
use lib.Dec.{ltb}
use lib.IntN.{ℤ, pos, negsuc, nat_abs}
use Rattle.std.specs.Prelude.{Option, None, Some}
use Rattle.record.specs.declared.tag.Path.{Path}
use Rattle.record.specs.declared.tag.Tag.{Tag}
use Rattle.record.specs.declared.array.NamedArray.{NamedArray}
use Rattle.record.specs.declared.tag.Caller.{Caller}
use Rattle.record.specs.declared.instruction.Instruction.{Instruction}
use Rattle.record.specs.declared.operation.Operation.{Operation}
use Rattle.record.specs.declared.operation.Operation.TheVariants as Operations
use Rattle.record.specs.TokensAndTags.{to_of}
use Rattle.record.specs.Calls.{next_of, enter_of, leave_of}
use Rattle.record.specs.GraphRecords.{operation_of, graph_of}
use Rattle.arithmetic.specs.declared.Range.{Range}
use Rattle.arithmetic.specs.Ranges.{single, is_single, range_of}
use Rattle.machine.specs.Machine.{Key, refuse, send, read, write, Token, State, Activity}
use Rattle.machine.specs.InStep.{PlaceByPlace, no_more, pair, both_live, both_spent, both_deferred, RelatedToken, at_key, RelatedState, RelatedEffect, both_refuse, both_send}
use Rattle.rules.specs.declared.answer.Refusal.{Refusal}
use Rattle.rules.specs.declared.answer.Refusal.TheVariants as Refusals
use Rattle.machine.specs.Orders.{Lawful}
use Rattle.rules.specs.Check.{any, instruction_at, check_graph}
use Rattle.rules.specs.InstructionSet.{EffectOver, key_under, all_under, side_of, send_next, send_entered, return_of, send_returned, send_left, on_cell, cell_number}
use Rattle.rules.specs.Held.{is_pending, holds_back, held_in}
use Rattle.rules.specs.RangeSet.{RangeEffect, send_range, is_undecided, send_side, on_single, range_effect_of, range_effect_in, range_machine_of}
use Rattle.rules.proofs.Lawful.{reads, LawfulEffect, next_lawful, entered_lawful, left_lawful, on_cell_lem, reader_has_key}

-- ---- the claims

-- the refusals that a range run may give where a plain one, with a choice out of the ranges, goes on
abbrev pub OfRanges : Refusal → Type 0
OfRanges r = (r ≡ Refusals.OutOfRange) ⊎ (r ≡ Refusals.Undecided)

-- ---- the proofs

-- ---- by operations

-- these look at no value, so that they keep any relation of values
module _ {V₁ V₂ : Type 0} (R : V₁ → V₂ → Type 0) (Alone : Refusal → Type 0) where
  abbrev pub Alike : EffectOver V₁ → EffectOver V₂ → Type 0
  Alike e d = RelatedEffect R Alone e d

  pub next_related : {a : V₁} {x : V₂} → R a x → (n : Option Tag) (r : Instruction) → Alike (send_next n r a) (send_next n r x)
  unfolding send_next
  next_related h (Some τ) r = both_send h
  next_related h None r = both_refuse

  pub entered_related : {a : V₁} {x : V₂} → R a x → (e : Option Tag) (r : Instruction) → Alike (send_entered e r a) (send_entered e r x)
  unfolding send_entered
  entered_related h (Some τ) r = both_send h
  entered_related h None r = both_refuse

  returned_related : {a : V₁} {x : V₂} → R a x → (g : List Instruction) (i k : ℕ) (τ : Tag) → Alike (send_returned g i k τ a) (send_returned g i k τ x)
  unfolding send_returned
  returned_related {a} {x} h g i k τ = go (ltb (i + k) (length g))
    where
      go : (b : Bool) → Alike (cond b (send a (record { tag = to_of τ (i + k); port = 0 } ∷ [])) (refuse Refusals.NoReturn)) (cond b (send x (record { tag = to_of τ (i + k); port = 0 } ∷ [])) (refuse Refusals.NoReturn))
      go true = both_send h
      go false = both_refuse

  pub left_related : {a : V₁} {x : V₂} → R a x → (g : List Instruction) (l : Option Caller) (r : Instruction) → Alike (send_left g l r a) (send_left g l r x)
  unfolding send_left
  left_related h g (Some c) r = returned_related h g (return_of c.site g) (nat_abs r.constant) c.tag
  left_related h g None r = both_send h

  pub cell_related : (cells : ℕ) (z : ℤ) (f : ℕ → EffectOver V₁) (d : ℕ → EffectOver V₂) → ((c : ℕ) → Alike (f c) (d c)) → Alike (on_cell cells z f) (on_cell cells z d)
  unfolding on_cell
  cell_related cells (negsuc c) f d h = both_refuse
  cell_related cells (pos c) f d h = go (ltb c cells)
    where
      go : (t : Bool) → Alike (cond t (f c) (refuse Refusals.NoSuchCell)) (cond t (d c) (refuse Refusals.NoSuchCell))
      go true = h c
      go false = both_refuse

-- ---- what is held back

module _ {V₁ V₂ : Type 0} (R : V₁ → V₂ → Type 0) where
  pending_same : (g : List Instruction) {t : Token Tag V₁} {u : Token Tag V₂} → RelatedToken R t u → is_pending g t ≡ is_pending g u
  unfolding is_pending
  pending_same g (at_key (both_live h)) = refl
  pending_same g (at_key (both_spent h)) = refl
  pending_same g (at_key both_deferred) = refl

  holds_same : (g : List Instruction) (k : ℕ) (p : Path) (m : ℕ) {ts : List (Token Tag V₁)} {us : List (Token Tag V₂)} → PlaceByPlace (RelatedToken R) ts us → any (holds_back g k p m) ts ≡ any (holds_back g k p m) us
  unfolding holds_back
  holds_same g k p m no_more = refl
  holds_same g k p m (pair (at_key {k = j} {x = x} {y = y} h) t) = rw (pending_same g (at_key {k = j} h), holds_same g k p m t)

  -- the same activities of states with related values
  pub held_same : (g : List Instruction) (k : ℕ) (s : State Tag V₁) (u : State Tag V₂) → RelatedState R s u → (a : Activity Tag) → held_in g k s a ≡ held_in g k u a
  unfolding held_in
  held_same g k s u h a = rw (holds_same g k a.tag.path (a.tag.iteration + 1) h.tokens)

-- ---- lawful

of_ranges : (cells : ℕ) (q : Option Range) (keys : List (Key Tag)) → LawfulEffect cells (send_range q keys)
unfolding send_range
of_ranges cells None keys = (tt, tt)
of_ranges cells (Some r) keys = (tt, tt)

of_side : (cells : ℕ) (b : Range) (τ : Tag) (r : Instruction) (a : Range) → LawfulEffect cells (send_side b τ r a)
unfolding send_side
of_side cells b τ r a = go (is_undecided b)
  where
    go : (t : Bool) → LawfulEffect cells (cond t (refuse Refusals.Undecided) (send a (key_under τ (side_of b.low r) ∷ [])))
    go true = (tt, tt)
    go false = (tt, tt)

of_single : (cells : ℕ) (number : ℤ → ℤ) (a : Range) (f : ℕ → RangeEffect) → ((c : ℕ) → c < cells → LawfulEffect cells (f c)) → LawfulEffect cells (on_single cells number a f)
unfolding on_single
of_single cells number a f h = go (is_single a)
  where
    go : (t : Bool) → LawfulEffect cells (cond t (on_cell cells (number a.low) f) (refuse Refusals.Undecided))
    go true = on_cell_lem cells (number a.low) f h
    go false = (tt, tt)

range_operation : (o : Operation) (g : List Instruction) (table : List NamedArray) (cells : ℕ) (τ : Tag) (r : Instruction) (a b : Range) (keys : List (Key Tag))
    → (reads o ≡ true → 0 < length keys) → LawfulEffect cells (range_effect_of o g table cells τ r a b keys)
unfolding range_effect_of
range_operation Operations.Copy g table cells τ r a b keys h = (tt, tt)
range_operation Operations.Sink g table cells τ r a b keys h = (tt, tt)
range_operation Operations.Out g table cells τ r a b keys h = (tt, tt)
range_operation Operations.Const g table cells τ r a b keys h = (tt, tt)
range_operation Operations.Switch g table cells τ r a b keys h = of_side cells b τ r a
range_operation Operations.Gate g table cells τ r a b keys h = (tt, tt)
range_operation Operations.Next g table cells τ r a b keys h = next_lawful cells (next_of τ) r a
range_operation Operations.Enter g table cells τ r a b keys h = entered_lawful cells (enter_of τ (nat_abs r.constant)) r a
range_operation Operations.Leave g table cells τ r a b keys h = left_lawful cells g (leave_of τ) r a
range_operation Operations.Fetch g table cells τ r a b keys h = of_single cells (cell_number table r.constant) a (λ c. read c keys) (λ c k. (k, h refl))
range_operation Operations.Store g table cells τ r a b keys h = of_single cells (cell_number table r.constant) a (λ c. write c b keys) (λ c k. (k, tt))
range_operation (Operations.OnTwo o) g table cells τ r a b keys h = of_ranges cells (range_of o a b) keys
range_operation (Operations.OnConstant o) g table cells τ r a b keys h = of_ranges cells (range_of o a (single r.constant)) keys
range_operation Operations.Unknown g table cells τ r a b keys h = (tt, tt)

module _ (graph : List ℕ) (passed : check_graph graph ≡ Ok tt) where
  range_effect : (table : List NamedArray) (cells : ℕ) (τ : Tag) (a b : Range) → LawfulEffect cells (range_effect_in (graph_of graph) table cells τ a b)
  unfolding range_effect_in
  range_effect table cells τ a b =
      let r = instruction_at (graph_of graph) τ.instruction in
      range_operation (operation_of r.code) (graph_of graph) table cells τ r a b (all_under τ r) (reader_has_key graph passed τ.instruction τ)

  pub ranges_lawful : (table : List NamedArray) (capacity cells : ℕ) → Lawful (range_machine_of (graph_of graph) table capacity cells)
  ranges_lawful table capacity cells = record { cells_below = λ τ a b. (range_effect table cells τ a b).0; reads_for_some = λ τ a b. (range_effect table cells τ a b).1 }
