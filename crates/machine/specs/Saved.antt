-- R-13, "Stop here and carry on tomorrow": a run in parts, and the states that a run leaves and can go on from. The statements, over any
-- machine with a lawful instruction set; they are proved in proofs/: Cut, Saved, Taken. Assumes nothing.
use Rattle.std.specs.Prelude.{◌≡◌, List, [], ◌∷◌, ◌↔◌, Bool, true, false, ◌&&◌, ◌||◌, not, cond, ℕ, zero, suc, ◌+◌, ◌≤◌, ◌<◌, eqb, leb, ltb, length, take, drop}
use Rattle.std.proofs.Math.Option.{some}
use Rattle.machine.specs.Machine.{Key, Content, live, spent, deferred, Cell, absent, waiting, present, Machine, Outcome, completed, hung, budget_spent, refused, cell_at}
use Rattle.machine.specs.Machine.{Ledger, StateOf, EndOf, Choice, at, find, is_operand_of, key_taken, run_by}
use Rattle.machine.specs.Orders.{SpentContent, Good, Start, LawfulChoice}
use Rattle.machine.specs.Sequences.{is_spent, is_spent_there, spent_tags}

-- ---- a run in parts

abbrev pub if_refused : {R A : Type 0} → Outcome R → A → A → A
if_refused completed a b = b
if_refused hung a b = b
if_refused budget_spent a b = b
if_refused (refused r place) a b = a

-- "the uncut budget is their sum"
abbrev pub sum : List ℕ → ℕ
sum [] = 0
sum (b ∷ bs) = b + sum bs

-- ---- tests of contents and cells

abbrev pub is_deferred_on : {W : Type 0} → ℕ → Content W → Bool
is_deferred_on c (live v) = false
is_deferred_on c (spent v) = false
is_deferred_on c (deferred d) = eqb d c

abbrev pub is_waiting : {W : Type 0} → Cell W → Bool
is_waiting absent = false
is_waiting waiting = true
is_waiting (present v) = false

-- of all numbers below n
abbrev pub all_up_to : (ℕ → Bool) → (n : ℕ) → Bool
all_up_to test zero = true
all_up_to test (suc n) = test n && all_up_to test n

module _ (M : Machine) where
  -- "Each part's budget counts its own firings", "its picks divided alike": the first part has the budget a and the picks of a firings. Each
  -- later part goes on from the firings and the state that the one before it left; none follows a refusal
  abbrev pub in_parts : Choice M → (a : ℕ) → (later : List ℕ) → (picks : List ℕ) → (f : ℕ) → StateOf M → EndOf M
  in_parts choose a [] picks f s = run_by M choose a picks f s
  in_parts choose a (b ∷ bs) picks f s =
      let e = run_by M choose a (take a picks) f s in
      if_refused e.outcome e (in_parts choose b bs (drop a picks) e.firings e.state)

  -- "A run cut by budgets at any firings [..] ends as the uncut run"
  abbrev pub CutRunsOfMachine : Type 0
  CutRunsOfMachine = (c : Choice M) (a : ℕ) (later : List ℕ) (picks : List ℕ) (f : ℕ) (s : StateOf M) → in_parts c a later picks f s ≡ run_by M c (a + sum later) picks f s

  -- ---- a saved state, with its firings

  pub record Saved (f : ℕ) (s : StateOf M) : Type 0 where
    -- "tag and port never twice", "tokens within the capacity", and as many cells as the store has. This alone the orders theorem asks for
    pub good : Good M s
    -- the rest of 02's list, which no run breaks. "a tag's operands all present and spent or none spent"
    pub spent_together : (τ : M.Tag) (p q : ℕ) → p < M.arity τ → q < M.arity τ → SpentContent (find M (at M τ p) s.tokens) → SpentContent (find M (at M τ q) s.tokens)
    -- "results never spent", nor anything else that is no operand
    pub others_unspent : (τ : M.Tag) (p : ℕ) → M.arity τ ≤ p → ¬ (SpentContent (find M (at M τ p) s.tokens))
    -- "each deferred token naming a cell of the store"
    pub cell_named : (k : Key M.Tag) (c : ℕ) → find M k s.tokens ≡ some (deferred c) → c < M.cell_count
    -- "cells waiting exactly where one is deferred on them"
    pub waits_exactly : (c : ℕ) → (cell_at s.cells c ≡ waiting) ↔ ((k : Key M.Tag) × (find M k s.tokens ≡ some (deferred c)))
    -- "the firings as many as the tags with spent operands"
    pub firings : f ≡ length (spent_tags M s.tokens)

  -- the inputs are such a state, with no firings
  abbrev pub StartSaved : Type 0
  StartSaved = (s : StateOf M) → Start M s → Saved 0 s

  -- and a run leaves such a state, so that it can be saved again and again
  abbrev pub RunsSave : Type 0
  RunsSave = (c : Choice M) → LawfulChoice M c → (f : ℕ) (s : StateOf M) → Saved f s → (budget : ℕ) (picks : List ℕ)
      → Saved (run_by M c budget picks f s).firings (run_by M c budget picks f s).state

  -- ---- the same as a test, a condition of 02 at a time

  -- "tag and port never twice"
  abbrev pub never_twice : Ledger M → Bool
  never_twice [] = true
  never_twice (t ∷ ts) = not (key_taken M t.key ts) && never_twice ts

  abbrev pub all_tokens : (Key M.Tag → Content M.Value → Bool) → Ledger M → Bool
  all_tokens test [] = true
  all_tokens test (t ∷ ts) = test t.key t.content && all_tokens test ts

  abbrev pub all_spent : Ledger M → M.Tag → Bool
  all_spent ts τ = all_up_to (λ p. is_spent_there (find M (at M τ p) ts)) (M.arity τ)

  -- "a tag's operands all present and spent or none spent": where one is spent, all are
  abbrev pub together : Ledger M → Key M.Tag → Content M.Value → Bool
  together ts k x = not (is_spent x) || all_spent ts k.tag

  -- "results never spent": what is spent was an operand
  abbrev pub operand_if_spent : Key M.Tag → Content M.Value → Bool
  operand_if_spent k x = not (is_spent x) || is_operand_of M k.tag k

  -- "each deferred token naming a cell of the store"
  abbrev pub names_cell : Key M.Tag → Content M.Value → Bool
  names_cell k (live v) = true
  names_cell k (spent v) = true
  names_cell k (deferred c) = ltb c M.cell_count

  abbrev pub any_deferred : ℕ → Ledger M → Bool
  any_deferred c [] = false
  any_deferred c (t ∷ ts) = is_deferred_on c t.content || any_deferred c ts

  -- "cells waiting exactly where one is deferred on them"
  abbrev pub waits_right : StateOf M → (cell : ℕ) → Bool
  waits_right s c = cond (is_waiting (cell_at s.cells c)) (any_deferred c s.tokens) (not (any_deferred c s.tokens))

  -- then "tokens within the capacity", as many cells as there are, and "the firings as many as the tags with spent operands"
  unfoldable pub is_saved : ℕ → StateOf M → Bool
  is_saved f s =
      never_twice s.tokens
      && (all_tokens (together s.tokens) s.tokens
      && (all_tokens operand_if_spent s.tokens
      && (all_tokens names_cell s.tokens
      && (all_up_to (waits_right s) M.cell_count
      && (leb (length s.tokens) M.capacity
      && (eqb (length s.cells) M.cell_count
      && eqb f (length (spent_tags M s.tokens))))))))

  -- "A saved state is taken exactly if [..] all of this holds"
  abbrev pub TakenExactlyOfMachine : Type 0
  TakenExactlyOfMachine = (f : ℕ) (s : StateOf M) → (is_saved f s ≡ true) ↔ Saved f s
