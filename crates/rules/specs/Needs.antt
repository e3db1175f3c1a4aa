-- 02, R-3, "What a graph will need, before it runs", in its order: what is reached, the bounds, the refusals, and the claims, which are proved in proofs/Needs.
-- Assumes nothing.
use Rattle.std.specs.Prelude.{ℕ, zero, suc, ◌+◌, ◌≤◌, ◌≡◌, Bool, true, false, not, ◌&&◌, ◌||◌, cond, List, [], ◌∷◌, length, get_or, eqb, leb, Result, Ok}
use Rattle.record.specs.declared.token.Token.{Token}
use Rattle.record.specs.declared.instruction.Instruction.{Instruction}
use Rattle.buffer.specs.Rows.{all_rows}
use Rattle.record.specs.GraphRecords.{graph_of, destinations}
use Rattle.record.specs.TokensAndTags.{root_of, stands_at}
use Rattle.record.specs.TokensAndTags as Tokens
use Rattle.record.specs.Widths.{token_width}
use Rattle.machine.specs.Orders.{Quiescent}
use Rattle.rules.specs.declared.answer.Fault.{Fault}
use Rattle.rules.specs.declared.answer.Refusal.TheVariants.{BadInput, NotLoopFree}
use Rattle.rules.specs.declared.answer.Needs.{Needs}
use Rattle.rules.specs.Answer.{values_needed}
use Rattle.rules.specs.Check.{demand, ◌and_then◌, any, in_turn, instruction_at, operands_at, check_graph, check_stores, good_input, Checked}
use Rattle.rules.specs.Run.{result, answer}
use Rattle.rules.specs.Orders.{result_outcome}

-- ---- over the numbers below n

abbrev pub any_below : (n : ℕ) → (ℕ → Bool) → Bool
any_below zero f = false
any_below (suc n) f = f n || any_below n f

abbrev pub all_below : (n : ℕ) → (ℕ → Bool) → Bool
all_below zero f = true
all_below (suc n) f = f n && all_below n f

abbrev pub sum_below : (n : ℕ) → (ℕ → ℕ) → ℕ
sum_below zero f = 0
sum_below (suc n) f = sum_below n f + f n

-- f i and what follows, n in all
abbrev pub list_from : {A : Type 0} → (i n : ℕ) → (ℕ → A) → List A
list_from i zero f = []
list_from i (suc n) f = f i ∷ list_from (suc i) n f

-- ---- what is reached

-- the instruction sends to this port, whichever side a SWITCH takes
unfoldable pub sends_to : (instruction port : ℕ) → Instruction → Bool
sends_to i p r = any (λ d. eqb d.instruction i && eqb d.port p) (destinations r)

module _ (inputs : List Token) (g : List Instruction) where
  -- "A port is reached if an input or a reached instruction sends to it"
  unfoldable pub port_reached : (reached : ℕ → Bool) → (instruction port : ℕ) → Bool
  port_reached reached i p = any (stands_at (root_of i) p) inputs || any_below (length g) (λ j. reached j && sends_to i p (instruction_at g j))

  -- "an instruction is reached if all its ports are"
  unfoldable pub all_reached : (reached : ℕ → Bool) → (instruction : ℕ) → Bool
  all_reached reached i = all_below (operands_at g i) (port_reached reached i)

  -- by instruction, whether n rounds reach it: each round adds the instructions whose ports are all reached by the rounds before it
  unfoldable pub rounds : (n : ℕ) → List Bool
  rounds zero = []
  rounds (suc n) = let before = rounds n in list_from 0 (length g) (all_reached (λ i. get_or before i false))

  -- as many rounds as there are instructions: another round adds none (`reached_least`)
  unfoldable pub reached : (instruction : ℕ) → Bool
  reached i = get_or (rounds (length g)) i false

-- ---- "The bounds are the number of reached instructions that can fire, and inputs plus their outputs."

-- "OUT, a result; never fires" (code 3)
unfoldable pub firings_needed : Instruction → ℕ
firings_needed r = cond (eqb r.code 3) 0 1

-- "a SWITCH reaches both sides and counts one output" (code 5); an OUT has no destinations
unfoldable pub outputs_needed : Instruction → ℕ
outputs_needed r = cond (eqb r.code 5) 1 (length (destinations r))

-- over the reached instructions
unfoldable pub total : List Token → List Instruction → (Instruction → ℕ) → ℕ
total inputs g f = let flags = rounds inputs g (length g) in sum_below (length g) (λ i. cond (get_or flags i false) (f (instruction_at g i)) 0)

-- ---- "Refused: 19, not loop-free, at the first such record, after refusals 1 to 7; 8 and 9 aren't tested." R-10: the bounds take no table of arrays "and let that
-- constant by"

-- "without NEXT, ENTER and LEAVE" (codes 7, 8 and 9)
unfoldable pub loop_free : Instruction → Bool
loop_free r = not (leb 7 r.code && leb r.code 9)

unfoldable pub check_needs : (graph inputs : List ℕ) → Checked
check_needs graph inputs =
    check_graph graph
    and_then check_stores (length inputs) 0 0 0
    and_then in_turn (λ i good. demand good BadInput i) 0 (all_rows token_width (good_input (graph_of graph)) inputs)
    and_then in_turn (λ i r. demand (loop_free r) NotLoopFree i) 0 (graph_of graph)

abbrev pub inputs_of : List ℕ → List Token
inputs_of inputs = all_rows token_width Tokens.decode_token inputs

abbrev pub needs_at_most : (firings tokens : ℕ) → Result Needs Fault
needs_at_most firings tokens = Ok (record { firings = firings; tokens = tokens })

unfoldable pub needs : (graph inputs : List ℕ) → Result Needs Fault
needs graph inputs =
    let ts = inputs_of inputs in
    let g = graph_of graph in
    check_needs graph inputs and_then needs_at_most (total ts g firings_needed) (length ts + total ts g outputs_needed)

-- what `bounds` promises: its answer, also in 01's numbers
pub record Bounded (x r : Result Needs Fault) : Type 0 where
  pub answered : r ≡ x
  pub numbers : values_needed r ≡ values_needed x

-- ---- the claims

-- a SWITCH or a FETCH (codes 5 and 10)
abbrev pub switch_or_fetch : Instruction → Bool
switch_or_fetch r = eqb r.code 5 || eqb r.code 10

-- "where no SWITCH or FETCH is reached"
abbrev pub NoSwitchOrFetch : (graph inputs : List ℕ) → Type 0
NoSwitchOrFetch graph inputs = (i : ℕ) → reached (inputs_of inputs) (graph_of graph) i ≡ true → switch_or_fetch (instruction_at (graph_of graph) i) ≡ false

-- "No completed or hung run exceeds either", and no other
abbrev pub NeverExceeded : Type 0
NeverExceeded = (graph arrays inputs picks : List ℕ) (budget ledger cells firings tokens : ℕ) → needs graph inputs ≡ needs_at_most firings tokens
    → ((answer (result graph arrays inputs picks budget ledger cells)).firings ≤ firings) × ((answer (result graph arrays inputs picks budget ledger cells)).tokens ≤ tokens)

-- "and both are exact where no SWITCH or FETCH is reached"
abbrev pub Exact : Type 0
Exact = (graph arrays inputs picks : List ℕ) (budget ledger cells firings tokens : ℕ) → needs graph inputs ≡ needs_at_most firings tokens → NoSwitchOrFetch graph inputs
    → Quiescent (result_outcome (result graph arrays inputs picks budget ledger cells))
    → ((answer (result graph arrays inputs picks budget ledger cells)).firings ≡ firings) × ((answer (result graph arrays inputs picks budget ledger cells)).tokens ≡ tokens)
