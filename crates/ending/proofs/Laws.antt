-- How a run ends that fires no more: what the tables say of the tokens is what the machine says of its state. Assumes nothing.
use Prim.Native.Nat.{ℕ, zero, suc, ◌+◌, ◌-◌, ◌*◌, ◌<◌, ◌≤◌}
use mathlib.Core.Path.{◌≡◌, refl, ap, ◌∙◌}
use mathlib.Core.Bool.{Bool, true, false, ◌&&◌, and-false}
use mathlib.Core.List.{List, [], ◌∷◌, map}
use native.Mathlib.Omega.{arith}
use borrow.Author.Tests.{eqb-true, leb-true}
use lib.ListN.{length, get_or, drop}
use lib.Dec.{leb}
use lib.Seq.{drop-cons, get_or-drop}
use Rattle.number.specs.Number.{byte_at, number32}
use Rattle.record.specs.declared.array.NamedArray.{NamedArray}
use Rattle.record.specs.declared.tag.Tag.{Tag}
use Rattle.record.specs.declared.token.Token.{Token}
use Rattle.record.specs.declared.cell.Cell.{Cell}
use Rattle.record.specs.declared.instruction.Instruction.{Instruction}
use Rattle.record.specs.TokensAndTags.{tokens, token_at, content_of, decode_token}
use Rattle.record.specs.Widths.{token_width, state_offset, value_offset}
use Rattle.buffer.proofs.Tables.{length_rows, get_d_rows}
use Rattle.machine.specs.Machine.{Machine, StateOf, Activity, budget_spent, is_proper, all_proper, ending, enabled, Choice, run_by, end}
use Rattle.machine.proofs.Runs.{run_empty, run_zero}
use Rattle.rules.specs.declared.answer.Outcome as AnswerOutcome
use Rattle.rules.specs.declared.answer.Outcome.TheVariants as Outcomes
use Rattle.rules.specs.InstructionSet.{machine_of}
use Rattle.rules.specs.Run.{content_held, token_held}
use Rattle.store_chains.proofs.Index.{and_left, and_right}
use Rattle.store_enabled.specs.Enabled.{arity_of, enabled_places}
use Rattle.abstraction.specs.States.{no_token, state_held, OnPorts}
use Rattle.abstraction.specs.Tables.{Arities}
use Rattle.abstraction.proofs.Enabled.{held_enabled}
use Rattle.ending.specs.Endings.{proper_by, state_spent, four_spent, EndsWith, RestsAs}

-- ---- completed or hung

abbrev pub all_by : (tables : List ℕ) → List Token → Bool
all_by tables [] = true
all_by tables (t ∷ ts) = proper_by tables t && all_by tables ts

held_proper : (g : List Instruction) (tables : List ℕ) → Arities g tables → (table : List NamedArray) (capacity count : ℕ) (ts : List Token)
    → all_proper (machine_of g table capacity count) (map token_held ts) ≡ all_by tables ts
held_proper g tables right table capacity count [] = refl
held_proper g tables right table capacity count (t ∷ ts) = rw (right t.tag, held_proper g tables right table capacity count ts)

pub ends_completed : (tables : List ℕ) (ts : List Token) → all_by tables ts ≡ true → EndsWith Outcomes.Completed tables ts
unfolding ending
ends_completed tables ts e g right table capacity count cs = rw (held_proper g tables right table capacity count ts, e)

pub ends_hung : (tables : List ℕ) (ts : List Token) → all_by tables ts ≡ false → EndsWith Outcomes.Hung tables ts
unfolding ending
ends_hung tables ts e g right table capacity count cs = rw (held_proper g tables right table capacity count ts, e)

-- a record whose state is 1 is a spent token's
spent_content : (n bits state : ℕ) → state ≡ 1 → is_proper n (content_held (content_of bits state)) ≡ true
unfolding content_of
spent_content n bits state e = rw e

pub proper_spent : (tables ledger : List ℕ) (i : ℕ) → get_or ledger (i * token_width + state_offset) 0 ≡ 1 → proper_by tables (token_at ledger i) ≡ true
unfolding decode_token
proper_spent tables ledger i e =
    spent_content (arity_of tables (token_at ledger i).tag) (number32 (drop (i * token_width) ledger) value_offset) (byte_at (drop (i * token_width) ledger) state_offset) (rw (get_or-drop (i * token_width) ledger state_offset 0) e)

one_of_all : (tables : List ℕ) (k : ℕ) (ts : List Token) → all_by tables (drop k ts) ≡ false → all_by tables ts ≡ false
one_of_all tables zero ts e = e
one_of_all tables (suc k) [] e = e
one_of_all tables (suc k) (t ∷ ts) e = rw (one_of_all tables k ts e) (and-false (proper_by tables t))

-- a pass over the records, the last first: record j comes after those from i on
module _ (tables ledger : List ℕ) (used i j : ℕ) (next : suc j ≡ i) (within : i ≤ used) where
  from_here : all_by tables (drop j (tokens used ledger)) ≡ proper_by tables (token_at ledger j) && all_by tables (drop i (tokens used ledger))
  from_here =
      let inside : j < length (tokens used ledger) = omega (arith, length_rows token_width decode_token used ledger) in
      let here : get_or (tokens used ledger) j no_token ≡ token_at ledger j = get_d_rows token_width decode_token used j ledger no_token (omega arith) in
      ap (all_by tables) (drop-cons (tokens used ledger) j no_token inside)
      ∙ λ k. proper_by tables (here k) && all_by tables (drop (next k) (tokens used ledger))

  pub pass_on : all_by tables (drop i (tokens used ledger)) ≡ true → proper_by tables (token_at ledger j) ≡ true → all_by tables (drop j (tokens used ledger)) ≡ true
  pass_on later e = from_here ∙ λ k. e k && later k

  pub stop_here : proper_by tables (token_at ledger j) ≡ false → all_by tables (tokens used ledger) ≡ false
  stop_here e = one_of_all tables j (tokens used ledger) (from_here ∙ ap (λ (b : Bool). b && all_by tables (drop i (tokens used ledger))) e)

  pub spent_on : all_by tables (drop i (tokens used ledger)) ≡ true → state_spent ledger j ≡ true → all_by tables (drop j (tokens used ledger)) ≡ true
  spent_on later e = pass_on later (proper_spent tables ledger j (eqb-true _ _ e))

pub four_before : (ledger : List ℕ) (i : ℕ) → four_spent ledger i ≡ true → 4 ≤ i
four_before ledger i e =
    leb-true 4 i (and_left (leb 4 i) (state_spent ledger (i - 1) && (state_spent ledger (i - 2) && (state_spent ledger (i - 3) && state_spent ledger (i - 4)))) e)

-- four spent records are passed at once
module _ (tables ledger : List ℕ) (used i : ℕ) (h : i ≤ used) (e : four_spent ledger i ≡ true) where
  abbrev s : ℕ → Bool
  s k = state_spent ledger (i - k)

  pub pass_four : all_by tables (drop i (tokens used ledger)) ≡ true → all_by tables (drop (i - 4) (tokens used ledger)) ≡ true
  pass_four later =
      let four = four_before ledger i e in
      let e1 = and_right (leb 4 i) (s 1 && (s 2 && (s 3 && s 4))) e in
      let e2 = and_right (s 1) (s 2 && (s 3 && s 4)) e1 in
      let e3 = and_right (s 2) (s 3 && s 4) e2 in
      let a = spent_on tables ledger used i (i - 1) (omega arith) h later (and_left (s 1) (s 2 && (s 3 && s 4)) e1) in
      let b = spent_on tables ledger used (i - 1) (i - 2) (omega arith) (omega arith) a (and_left (s 2) (s 3 && s 4) e2) in
      let d = spent_on tables ledger used (i - 2) (i - 3) (omega arith) (omega arith) b (and_left (s 3) (s 4) e3) in
      spent_on tables ledger used (i - 3) (i - 4) (omega arith) (omega arith) d (and_right (s 3) (s 4) e3)

-- ---- no budget left

-- nothing is fired, so that only the outcome is open
pub rests_there_lem : (M : Machine) (choose : Choice M) (picks : List ℕ) (f : ℕ) (s : StateOf M) → run_by M choose 0 picks f s ≡ end M (run_by M choose 0 picks f s).outcome f s
rests_there_lem M choose picks f s = go (enabled M s) refl
  where
    go : (l : List (Activity M.Tag)) → enabled M s ≡ l → run_by M choose 0 picks f s ≡ end M (run_by M choose 0 picks f s).outcome f s
    go [] e = rw (run_empty M choose 0 picks f s e)
    go (a ∷ more) e = rw (run_zero M choose picks f s a more e)

module _ (g : List Instruction) (table : List NamedArray) (capacity count : ℕ) (tables : List ℕ) (ts : List Token) (cs : List Cell) (right : Arities g tables) (ports : OnPorts g ts) where
  abbrev M : Machine
  M = machine_of g table capacity count

  abbrev activity : ℕ → Activity Tag
  activity p = record { place = p; tag = (get_or ts p no_token).tag }

  enabled_here : enabled M (state_held ts cs) ≡ map activity (enabled_places tables ts)
  enabled_here = held_enabled g table capacity count tables ts cs no_token right ports

  -- nothing is enabled, so the run is at its end, whatever its budget
  pub ended : (choose : Choice M) (b : ℕ) (picks : List ℕ) (f : ℕ) → length (enabled_places tables ts) ≡ 0 → run_by M choose b picks f (state_held ts cs) ≡ end M (ending M (state_held ts cs)) f (state_held ts cs)
  ended choose b picks f e = run_empty M choose b picks f (state_held ts cs) (enabled_here ∙ go (enabled_places tables ts) e)
    where
      go : (l : List ℕ) → length l ≡ 0 → map activity l ≡ []
      go [] h = refl
      go (p ∷ l) h = absurd (omega arith)

  -- something is, and the budget is spent
  pub spent_here : (choose : Choice M) (picks : List ℕ) (f : ℕ) → (length (enabled_places tables ts) ≡ 0 → ⊥) → run_by M choose 0 picks f (state_held ts cs) ≡ end M budget_spent f (state_held ts cs)
  spent_here choose picks f n = go (enabled_places tables ts) refl n
    where
      go : (l : List ℕ) → enabled_places tables ts ≡ l → (length l ≡ 0 → ⊥) → run_by M choose 0 picks f (state_held ts cs) ≡ end M budget_spent f (state_held ts cs)
      go [] e h = absurd (h refl)
      go (p ∷ l) e h = run_zero M choose picks f (state_held ts cs) (activity p) (map activity l) (enabled_here ∙ ap (map activity) e)

pub rests_ended : (tables : List ℕ) (ts : List Token) → length (enabled_places tables ts) ≡ 0 → (o : AnswerOutcome.Outcome) → EndsWith o tables ts → RestsAs o tables ts
rests_ended tables ts z o e g right ports table capacity count cs choose picks f = rw (ended g table capacity count tables ts cs right ports choose 0 picks f z) (e g right table capacity count cs)

pub rests_spent : (tables : List ℕ) (ts : List Token) → (length (enabled_places tables ts) ≡ 0 → ⊥) → RestsAs Outcomes.Spent tables ts
rests_spent tables ts n g right ports table capacity count cs choose picks f = rw (spent_here g table capacity count tables ts cs right ports choose picks f n)
