-- Laws of rounds that add to one table of instructions in turn: what it has is reached (`ReachedSoFar`), n rounds have at least what n rounds of the definition reach
-- (`again`), and a round that adds none has found all (`no_more`). Assumes nothing.
use Prim.Native.Nat.{ℕ, zero, suc, ◌+◌, ◌<◌}
use native.Mathlib.Omega.{arith}
use native.Mathlib.Decide.{ℕ_discrete}
use native.Mathlib.Numerals.{add-one}
use mathlib.Core.Path.{◌≡◌, refl, sym, ◌∙◌}
use mathlib.Core.Bool.{Bool, true, false, ◌&&◌, ◌||◌, or-false, or_assoc}
use mathlib.Core.List.{List}
use lib.ListN.{length, get_or, set, replicate, length-set, length-replicate}
use lib.Seq.{get_or-set_same, get_or-set_other}
use Rattle.record.specs.declared.token.Token.{Token}
use Rattle.record.specs.declared.instruction.Instruction.{Instruction}
use Rattle.record.specs.TokensAndTags.{root_of, stands_at}
use Rattle.record.specs.GraphRecords.{destinations}
use Rattle.machine.proofs.View.{false_true}
use Rattle.rules.specs.Check.{any, instruction_at, operands_at}
use Rattle.rules.specs.Needs.{any_below, all_below, sends_to, port_reached, all_reached, rounds, reached, total}
use Rattle.rules.proofs.PassedGraph.{two_operands}
use Rattle.rules.proofs.Below.{sum_same}
use Rattle.rules.proofs.Rounds.{Within, all_more, after, round, inside, reached_least}
use Rattle.bounds.specs.Reach.{port_entry, Ports, marked, sent_by_inputs, flag, sum_over, ReachedSoFar, Round}
use Rattle.bounds.proofs.Ports.{InsideAll, alike, mark_all}

-- ---- tests

same : (a b : Bool) → (a ≡ true → b ≡ true) → (b ≡ true → a ≡ true) → a ≡ b
same true b h k = sym (h refl)
same false true h k = k refl
same false false h k = refl

shuffle : (a b c : Bool) → (a || c) || b ≡ (a || b) || c
shuffle true b c = refl
shuffle false true true = refl
shuffle false true false = refl
shuffle false false true = refl
shuffle false false false = refl

any_same : (n : ℕ) (f h : ℕ → Bool) → ((k : ℕ) → k < n → f k ≡ h k) → any_below n f ≡ any_below n h
any_same zero f h e = refl
any_same (suc n) f h e = rw (e n (omega arith), any_same n f h (λ k l. e k (omega arith)))

all_same : (n : ℕ) (f h : ℕ → Bool) → ((k : ℕ) → k < n → f k ≡ h k) → all_below n f ≡ all_below n h
all_same zero f h e = refl
all_same (suc n) f h e = rw (e n (omega arith), all_same n f h (λ k l. e k (omega arith)))

any_none : (n : ℕ) (f : ℕ → Bool) → ((k : ℕ) → f k ≡ false) → any_below n f ≡ false
any_none zero f e = refl
any_none (suc n) f e = rw (e n) (any_none n f e)

-- one more, at j
any_more : (n : ℕ) (f h : ℕ → Bool) (j : ℕ) (c : Bool) → j < n → h j ≡ f j || c → ((k : ℕ) → ¬ (k ≡ j) → h k ≡ f k) → any_below n h ≡ any_below n f || c
any_more zero f h j c l e k = absurd (omega arith)
any_more (suc n) f h j c l e k = go (ℕ_discrete n j) (λ m. any_more n f h j c m e k)
  where
    go : Dec (n ≡ j) → (j < n → any_below n h ≡ any_below n f || c) → h n || any_below n h ≡ (f n || any_below n f) || c
    go (yes p) rest =
        let here : h n ≡ f n || c = rw p e in
        rw (here, any_same n h f (λ i m. k i (λ q. omega arith))) (shuffle (f n) (any_below n f) c)
    go (no m) rest = rw (k n m, rest (omega arith)) (sym (or_assoc (f n) (any_below n f) c))

before_last : (n i : ℕ) → i < n + 1 → ¬ (i ≡ n) → i < n
before_last n i l m = omega arith

-- ---- a table of instructions

no_flag : (n i : ℕ) → flag (replicate n false) i ≡ false
no_flag zero i = refl
no_flag (suc n) zero = refl
no_flag (suc n) (suc i) = no_flag n i

-- with instruction j added
added_flag : (t : List Bool) (j i : ℕ) → j < length t → flag (set t j true) i ≡ true → (i ≡ j → ⊥) → flag t i ≡ true
added_flag t j i h e n = sym (get_or-set_other t j i true false n) ∙ e

kept_flag : (t : List Bool) (j i : ℕ) → j < length t → flag t i ≡ true → flag (set t j true) i ≡ true
kept_flag t j i h e = go (ℕ_discrete i j)
  where
    go : Dec (i ≡ j) → flag (set t j true) i ≡ true
    go (yes p) = rw p (get_or-set_same t j true false h)
    go (no n) = get_or-set_other t j i true false n ∙ e

module _ (ts : List Token) (g : List Instruction) where
  -- ---- the ports

  -- the ports that j sends to are reached too
  more_ports : (t : List Bool) (j : ℕ) → j < length g → j < length t → flag t j ≡ false → (i p : ℕ)
      → port_reached ts g (flag t) i p || sends_to i p (instruction_at g j) ≡ port_reached ts g (flag (set t j true)) i p
  unfolding port_reached
  more_ports t j l h e i p =
      let sends : ℕ → Bool = λ k. sends_to i p (instruction_at g k) in
      let here : flag (set t j true) j && sends j ≡ (flag t j && sends j) || sends j = rw (e, get_or-set_same t j true false h) in
      let more = any_more (length g) (λ k. flag t k && sends k) (λ k. flag (set t j true) k && sends k) j (sends j) l here (λ k n. rw (get_or-set_other t j k true false n)) in
      rw more (or_assoc (any (stands_at (root_of i) p) ts) (any_below (length g) (λ k. flag t k && sends k)) (sends j))

  no_instruction : (i p : ℕ) → sent_by_inputs ts i p ≡ port_reached ts g (flag (replicate 256 false)) i p
  unfolding port_reached
  no_instruction i p =
      let none = any_none (length g) (λ k. flag (replicate 256 false) k && sends_to i p (instruction_at g k)) (λ k. rw (no_flag 256 k)) in
      rw (none) (sym (or-false (any (stands_at (root_of i) p) ts)))

  -- whether all ports of an instruction are reached, by the table
  pub is_ready : {sent t : List Bool} → ReachedSoFar ts g sent t → (i : ℕ) → i < 256 → all_below (operands_at g i) (λ p. get_or sent (port_entry i p) false) ≡ all_reached ts g (flag t) i
  unfolding all_reached operands_at
  is_ready {sent} {t} k i h =
      all_same (operands_at g i) (λ p. get_or sent (port_entry i p) false) (port_reached ts g (flag t) i) (λ p l. k.ports.says i p (record { low = h; one = omega (arith, two_operands (instruction_at g i).code) }))

  -- ---- what is kept

  pub start : {sent : List Bool} → Ports (sent_by_inputs ts) sent → ReachedSoFar ts g sent (replicate 256 false)
  start k = record {
    ports = alike k no_instruction;
    size = length-replicate 256 false;
    sound = λ i e. false_true (sym (no_flag 256 i) ∙ e);
  }

  pub add : {sent t : List Bool} → ReachedSoFar ts g sent t → (j : ℕ) → j < length g → j < 256 → flag t j ≡ false → all_reached ts g (flag t) j ≡ true
      → InsideAll (destinations (instruction_at g j)) → ReachedSoFar ts g (marked sent (destinations (instruction_at g j))) (set t j true)
  unfolding sends_to
  add {sent} {t} k j l h e ready arcs = record {
    ports = alike (mark_all k.ports (destinations (instruction_at g j)) arcs) (more_ports t j l (omega (arith, k.size)) e);
    size = length-set t j true ∙ k.size;
    sound = λ i f. go i f (ℕ_discrete i j);
  }
    where
      own : reached ts g j ≡ true
      own = (reached_least ts g).closed j l (all_more ts g (flag t) (reached ts g) k.sound j ready)

      go : (i : ℕ) → flag (set t j true) i ≡ true → Dec (i ≡ j) → reached ts g i ≡ true
      go i f (yes p) = rw p own
      go i f (no n) = k.sound i (added_flag t j i (omega (arith, k.size)) f n)

  -- ---- a round

  pub begin : {before sent : List Bool} → ReachedSoFar ts g sent before → Round ts g 0 before sent before false
  begin k = record { kept = k; more = λ i e. e; adds = λ i l. absurd (omega arith); none = λ e. refl }

  module _ {before sent t : List Bool} {added : Bool} where
    -- instruction n is in the table, or not ready
    pub leave : {n : ℕ} → Round ts g n before sent t added → (all_reached ts g (flag t) n ≡ true → flag t n ≡ true) → Round ts g (n + 1) before sent t added
    leave {n} r h = record { kept = r.kept; more = r.more; adds = λ i l e. go i l e (ℕ_discrete i n); none = r.none }
      where
        go : (i : ℕ) → i < n + 1 → all_reached ts g (flag before) i ≡ true → Dec (i ≡ n) → flag t i ≡ true
        go i l e (yes p) = rw p (h (all_more ts g (flag before) (flag t) r.more n (rw p at e)))
        go i l e (no m) = r.adds i (before_last n i l m) e

    pub take_in : {n : ℕ} → Round ts g n before sent t added → n < length g → n < 256 → flag t n ≡ false → all_reached ts g (flag t) n ≡ true
        → InsideAll (destinations (instruction_at g n)) → Round ts g (n + 1) before (marked sent (destinations (instruction_at g n))) (set t n true) true
    take_in {n} r l h e ready arcs = record {
      kept = add r.kept n l h e ready arcs;
      more = λ i f. kept_flag t n i low (r.more i f);
      adds = λ i m f. go i m f (ℕ_discrete i n);
      none = λ f. false_true (sym f);
    }
      where
        low : n < length t
        low = omega (arith, r.kept.size)

        go : (i : ℕ) → i < n + 1 → all_reached ts g (flag before) i ≡ true → Dec (i ≡ n) → flag (set t n true) i ≡ true
        go i m f (yes p) = rw p (get_or-set_same t n true false low)
        go i m f (no q) = kept_flag t n i low (r.adds i (before_last n i m q) f)

  -- ---- rounds

  pub first : (t : List Bool) → Within (after ts g 0) (flag t)
  unfolding rounds
  first t i e = false_true e

  module _ {before sent t : List Bool} {added : Bool} (r : Round ts g (length g) before sent t added) where
    pub again : (n : ℕ) → Within (after ts g n) (flag before) → Within (after ts g (n + 1)) (flag t)
    again n w = rw (add-one n) (λ i e.
        let l = inside ts g (suc n) i e in
        r.adds i l (all_more ts g (after ts g n) (flag before) w i (sym (round ts g n i l) ∙ e)))

    -- none was added
    pub no_more : added ≡ false → (i : ℕ) → flag t i ≡ reached ts g i
    no_more e i =
        let still : before ≡ t = sym (r.none e) in
        same (flag t i) (reached ts g i) (r.kept.sound i) ((reached_least ts g).least (flag t) (λ j l f. r.adds j l (rw still f)) i)

  -- as many as there are instructions
  pub enough : {sent t : List Bool} (n : ℕ) → ReachedSoFar ts g sent t → n ≡ length g → Within (after ts g n) (flag t) → (i : ℕ) → flag t i ≡ reached ts g i
  unfolding reached
  enough {sent} {t} n k e w i = same (flag t i) (reached ts g i) (k.sound i) (λ f. w i (rw e f))

  -- ---- the bounds

  pub totals : (t : List Bool) → ((i : ℕ) → flag t i ≡ reached ts g i) → (f : Instruction → ℕ) → sum_over (length g) g t f ≡ total ts g f
  unfolding total reached
  totals t e f = sum_same (length g) _ _ (λ i l. rw (e i))
