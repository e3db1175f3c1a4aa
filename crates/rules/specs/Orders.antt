-- Demand 3 over the rules, in tokens and cells; listing/specs/Demand3 says it of bytes. 01, "Any two orders": one claim about two whole runs over one graph and one list of inputs, for every two lists of picks.
-- The statement; it is proved in proofs/Orders. Assumes nothing.
use Rattle.std.specs.Prelude.{ℕ, ◌/◌, ◌≤◌, ◌≡◌, true, ◌↔◌, length, Ok}
use mathlib.Core.List.{List, [], ◌∷◌, map, Permᴰ}
use Rattle.record.specs.declared.token.Token.{Token}
use Rattle.record.specs.declared.cell.Cell.{Cell}
use Rattle.buffer.specs.Rows.{whole, All}
use Rattle.record.specs.TokensAndTags.{most_tokens, capacity_of}
use Rattle.record.specs.Widths.{token_width, cell_width, pick_width}
use Rattle.machine.specs.Machine.{Outcome, refused}
use Rattle.machine.specs.Orders.{Completed, Hung, Quiescent, Spent, Refused}
use Rattle.rules.specs.declared.answer.Refusal.{Refusal}
use Rattle.rules.specs.Check.{check_graph, most_cells}
use Rattle.rules.specs.Run.{token_record, cell_record, Result, refused_at_once, ran_to, result, answer}

-- ---- how a run ended, and what it left

-- the outcome: a refusal before any firing is one too
abbrev pub result_outcome : Result → Outcome Refusal
result_outcome (refused_at_once r p) = refused r p
result_outcome (ran_to e) = e.outcome

-- the tokens of the ledger in order of arrival, and the cells, as their records
abbrev pub result_tokens : Result → List Token
result_tokens (refused_at_once r p) = []
result_tokens (ran_to e) = map token_record e.state.tokens

abbrev pub result_cells : Result → List Cell
result_cells (refused_at_once r p) = []
result_cells (ran_to e) = map cell_record e.state.cells

-- "each once": no two tokens stand at one port of one tag
abbrev pub EachOnce : List Token → Type 0
EachOnce [] = Unit {0}
EachOnce (t ∷ ts) = All (λ u. t.tag ≡ u.tag → t.port ≡ u.port → ⊥) ts × EachOnce ts

-- ---- the claim

-- of two runs that complete or hang
pub record AlikeResults (x y : Result) : Type 0 where
  -- "the numbers of firings and of tokens are the same"
  pub firings : (answer x).firings ≡ (answer y).firings
  pub tokens : (answer x).tokens ≡ (answer y).tokens
  -- "the cells are equal"
  pub cells : result_cells x ≡ result_cells y
  -- "both ledgers hold the same tokens, each once, in whatever order they came"
  pub same_tokens : Permᴰ (result_tokens x) (result_tokens y)
  pub each_once : EachOnce (result_tokens x)

pub record ResultsAgree (x y : Result) : Type 0 where
  -- "one run completes exactly when the other does"; R-2: "completed or hung alike in all, with everything else equal"
  pub completes : Completed (result_outcome x) ↔ Completed (result_outcome y)
  pub hangs : Hung (result_outcome x) ↔ Hung (result_outcome y)
  pub alike : Quiescent (result_outcome x) → AlikeResults x y
  -- "If one order is refused, every order is"
  pub refused : Refused (result_outcome x) ↔ Refused (result_outcome y)
  -- a budget of 2,048 is never spent
  pub never_spent : ¬ (Spent (result_outcome x))

-- demand 3: "picks, ledger and cells of allowed length", the last two by their lengths in bytes
pub record Allowed (picks : List ℕ) (ledger cells : ℕ) : Type 0 where
  pub allowed_picks : whole pick_width most_tokens (length picks) ≡ true
  pub allowed_ledger : whole token_width most_tokens ledger ≡ true
  pub allowed_cells : whole cell_width most_cells cells ≡ true

-- 01 asks for less: "neither run is refused by 7 for a buffer other than the inputs". Lengths are looked at only once the graph has passed its check: a graph
-- that fails is refused in every run, and so are inputs that are not whole records
abbrev pub NotForOtherBuffers : (graph inputs picks : List ℕ) (ledger cells : ℕ) → Type 0
NotForOtherBuffers graph inputs picks ledger cells = check_graph graph ≡ Ok tt → whole token_width most_tokens (length inputs) ≡ true → Allowed picks ledger cells

-- R-10: "Orders are compared [..] under one table." "Whatever graph and inputs are lent, and whichever two lists of picks order the firings, with equal ledger capacity and cell count, a budget of 2,048"
abbrev pub AnyTwoOrdersOfResults : Type 0
AnyTwoOrdersOfResults = (graph arrays inputs picks picks' : List ℕ) (ledger ledger' cells cells' : ℕ)
    → NotForOtherBuffers graph inputs picks ledger cells → NotForOtherBuffers graph inputs picks' ledger' cells'
    → capacity_of ledger ≡ capacity_of ledger' → cells / cell_width ≡ cells' / cell_width
    → ResultsAgree (result graph arrays inputs picks 2048 ledger cells) (result graph arrays inputs picks' 2048 ledger' cells')

-- ---- two budgets

-- both complete or both hang, and they are alike
pub record ResultsEndAlike (x y : Result) : Type 0 where
  pub outcomes : (answer x).outcome ≡ (answer y).outcome
  pub alike : AlikeResults x y

-- demand 3 with any two budgets that are each enough: if a run completes or hangs, so does every order that may do as many firings
abbrev pub AnyTwoBudgetsOfResults : Type 0
AnyTwoBudgetsOfResults = (graph arrays inputs picks picks' : List ℕ) (budget budget' ledger ledger' cells cells' : ℕ) → Quiescent (result_outcome (result graph arrays inputs picks budget ledger cells))
    → Allowed picks' ledger' cells' → capacity_of ledger ≡ capacity_of ledger' → cells / cell_width ≡ cells' / cell_width
    → (answer (result graph arrays inputs picks budget ledger cells)).firings ≤ budget'
    → ResultsEndAlike (result graph arrays inputs picks budget ledger cells) (result graph arrays inputs picks' budget' ledger' cells')
