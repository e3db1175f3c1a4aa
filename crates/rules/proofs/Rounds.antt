-- 02, R-3: the rounds reach the least set of instructions that has each whose ports it reaches (`reached_least`). A round adds an instruction or none is added
-- any more, so as many rounds as there are instructions are enough. Assumes nothing.
use Prim.Native.Nat.{ℕ, zero, suc, ◌+◌, ◌≤◌, ◌<◌}
use mathlib.Core.Path.{◌≡◌, refl, sym, ◌∙◌}
use mathlib.Core.Logic.{◌⊎◌, inl, inr}
use mathlib.Core.Bool.{Bool, true, false, ◌&&◌, cond}
use mathlib.Core.List.{List}
use native.Mathlib.Omega.{arith}
use native.Mathlib.Decide.{dec_le}
use lib.ListN.{length, get_or}
use Rattle.record.specs.declared.token.Token.{Token}
use Rattle.record.specs.declared.instruction.Instruction.{Instruction}
use Rattle.record.specs.TokensAndTags.{root_of, stands_at}
use Rattle.machine.proofs.View.{false_true}
use Rattle.rules.specs.Check.{any, instruction_at, operands_at}
use Rattle.rules.specs.Needs.{any_below, sum_below, sends_to, port_reached, all_reached, rounds, reached}
use Rattle.rules.proofs.Passed.{both}
use Rattle.rules.proofs.Lists.{either, or_left, or_right}
use Rattle.rules.proofs.Below.{any_below_lem, one_below, each_below, all_below_lem, sum_tight, listed, unlisted}

-- ---- the claims

-- "nothing else is reached": the least set of instructions that has each whose ports it reaches
abbrev pub Closed : List Token → List Instruction → (ℕ → Bool) → Type 0
Closed inputs g s = (i : ℕ) → i < length g → all_reached inputs g s i ≡ true → s i ≡ true

pub record Least (inputs : List Token) (g : List Instruction) (s : ℕ → Bool) : Type 0 where
  pub closed : Closed inputs g s
  pub least : (t : ℕ → Bool) → Closed inputs g t → (i : ℕ) → s i ≡ true → t i ≡ true

abbrev pub ReachedLeast : Type 0
ReachedLeast = (inputs : List Token) (g : List Instruction) → Least inputs g (reached inputs g)

-- ---- the rounds

abbrev pub Within : (ℕ → Bool) → (ℕ → Bool) → Type 0
Within s t = (i : ℕ) → s i ≡ true → t i ≡ true

abbrev bit : Bool → ℕ
bit b = cond b 1 0

bit_least : (a b : Bool) → (a ≡ true → b ≡ true) → bit a ≤ bit b
bit_least false b h = omega arith
bit_least true b h = rw (h refl) (omega arith)

bit_back : (a b : Bool) → bit b ≤ bit a → b ≡ true → a ≡ true
bit_back true b h e = refl
bit_back false b h e = let z : 1 ≤ 0 = rw e at h in absurd (omega arith)

module _ (inputs : List Token) (g : List Instruction) where
  -- ---- more instructions reach more

  pub port_more_lem : (s t : ℕ → Bool) → Within s t → (i p : ℕ) → port_reached inputs g s i p ≡ true → port_reached inputs g t i p ≡ true
  unfolding port_reached
  port_more_lem s t h i p e = go (either (any (stands_at (root_of i) p) inputs) _ e)
    where
      go : (any (stands_at (root_of i) p) inputs ≡ true) ⊎ (any_below (length g) (λ j. s j && sends_to i p (instruction_at g j)) ≡ true) → port_reached inputs g t i p ≡ true
      go (inl k) = or_left _ _ k
      go (inr k) =
          let (j, l, m) = one_below (length g) (λ j. s j && sends_to i p (instruction_at g j)) k in
          let (a, b) = both (s j) (sends_to i p (instruction_at g j)) m in
          or_right (any (stands_at (root_of i) p) inputs) _ (any_below_lem (length g) (λ k. t k && sends_to i p (instruction_at g k)) j l (rw (h j a) b))

  pub all_more : (s t : ℕ → Bool) → Within s t → Within (all_reached inputs g s) (all_reached inputs g t)
  unfolding all_reached
  all_more s t h i e = all_below_lem (operands_at g i) (port_reached inputs g t i) (λ p l. port_more_lem s t h i p (each_below (operands_at g i) (port_reached inputs g s i) e p l))

  -- ---- a round

  -- what n rounds reach
  abbrev pub after : (n : ℕ) → ℕ → Bool
  after n i = get_or (rounds inputs g n) i false

  pub round : (n i : ℕ) → i < length g → after (suc n) i ≡ all_reached inputs g (after n) i
  unfolding rounds
  round n i h = listed (all_reached inputs g (after n)) false 0 (length g) i h ∙ (let z : 0 + i ≡ i = omega arith in rw z)

  pub inside : (n i : ℕ) → after n i ≡ true → i < length g
  unfolding rounds
  inside zero i e = false_true e
  inside (suc n) i e = go (dec_le (suc i) (length g))
    where
      go : Dec (suc i ≤ length g) → i < length g
      go (yes h) = h
      go (no m) = false_true (sym (unlisted (all_reached inputs g (after n)) false 0 (length g) i (omega arith)) ∙ e)

  rise : (m n : ℕ) → Within (after m) (after n) → Within (after (suc m)) (after (suc n))
  rise m n h i e = let l = inside (suc m) i e in round n i l ∙ all_more (after m) (after n) h i (sym (round m i l) ∙ e)

  rising : (n : ℕ) → Within (after n) (after (suc n))
  unfolding rounds
  rising zero = λ i e. false_true e
  rising (suc n) = rise n (suc n) (rising n)

  -- ---- none is added any more, or as many are there as rounds were made

  abbrev count : ℕ → ℕ
  count n = sum_below (length g) (λ i. bit (after n i))

  abbrev Enough : ℕ → Type 0
  Enough n = Within (after (suc n)) (after n) ⊎ (n ≤ count n)

  enough : (n : ℕ) → Enough n
  enough zero = inr (omega arith)
  enough (suc n) = go (enough n) (dec_le (count (suc n)) (count n))
    where
      bits : (i : ℕ) → i < length g → bit (after n i) ≤ bit (after (suc n) i)
      bits i h = bit_least (after n i) (after (suc n) i) (rising n i)

      stable : count (suc n) ≤ count n → Within (after (suc n)) (after n)
      stable h i e = bit_back (after n i) (after (suc n) i) (sum_tight (length g) (λ j. bit (after n j)) (λ j. bit (after (suc n) j)) bits h i (inside (suc n) i e)) e

      go : Within (after (suc n)) (after n) ⊎ (n ≤ count n) → Dec (count (suc n) ≤ count n) → Within (after (suc (suc n))) (after (suc n)) ⊎ (suc n ≤ count (suc n))
      go (inl h) d = inl (rise (suc n) n h)
      go (inr h) (yes l) = inl (rise (suc n) n (stable l))
      go (inr h) (no m) = inr (omega arith)

  ones : (n : ℕ) → sum_below n (λ i. 1) ≡ n
  ones zero = refl
  ones (suc n) = omega (arith, ones n)

  full : length g ≤ count (length g) → (i : ℕ) → i < length g → after (length g) i ≡ true
  full h i l =
      bit_back (after (length g) i) true
      (sum_tight (length g) (λ j. bit (after (length g) j)) (λ j. 1) (λ j m. bit_least (after (length g) j) true (λ e. refl)) (omega (arith, ones (length g))) i l)
      refl

  is_closed : Closed inputs g (reached inputs g)
  unfolding reached
  is_closed i l e = go (enough (length g))
    where
      go : Within (after (suc (length g))) (after (length g)) ⊎ (length g ≤ count (length g)) → after (length g) i ≡ true
      go (inl h) = h i (round (length g) i l ∙ e)
      go (inr h) = full h i l

  is_least : (t : ℕ → Bool) → Closed inputs g t → (n : ℕ) → Within (after n) t
  unfolding rounds
  is_least t c zero = λ i e. false_true e
  is_least t c (suc n) = λ i e. let l = inside (suc n) i e in c i l (all_more (after n) t (is_least t c n) i (sym (round n i l) ∙ e))

pub reached_least : ReachedLeast
unfolding reached
reached_least inputs g = record { closed = is_closed inputs g; least = λ t c. is_least inputs g t c (length g) }

-- what is reached is of the graph
pub reached_inside : (inputs : List Token) (g : List Instruction) (i : ℕ) → reached inputs g i ≡ true → i < length g
unfolding reached
reached_inside inputs g i e = inside inputs g (length g) i e
