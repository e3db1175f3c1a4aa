-- 02, R-14, in bytes: the run of a graph that was made of an expression, fed its variables. It speaks of what `to_graph`, `value` and `run` (crate engine)
-- promise, `MadeFrom`, `evaluated` and `Ran`. The statement; it is proved in proofs/Runs. Assumes nothing.
use Rattle.std.specs.Prelude.{ℕ, suc, ◌*◌, ◌≤◌, ◌<◌, ◌≡◌, List, [], length, take, ℤ, Result, Ok, Err}
use Rattle.number.specs.Number.{Bytes}
use Rattle.record.specs.declared.token.Content.TheVariants.{Live}
use Rattle.record.specs.TokensAndTags.{root_of, token_at, capacity_of}
use Rattle.record.specs.Widths.{graph_width}
use Rattle.rules.specs.declared.answer.Refusal.TheVariants.{OutOfRange}
use Rattle.rules.specs.declared.answer.Outcome.TheVariants as Outcomes
use Rattle.rules.specs.declared.answer.Fault.{Fault}
use Rattle.rules.specs.Orders.{Allowed}
use Rattle.rules.specs.Runs.{LentToRun, LeftByRun, RanOn}
use Rattle.rules.specs.Expression.{variables_of, check_values, MadeFrom, evaluated, input_bytes}

-- "OUT receives the expression's value": OUT is the last of n + 1 records, each of the n before it has fired, and OUT's token is a record of the ledger
pub record OutReceived (n : ℕ) (v : ℤ) (x : LeftByRun) : Type 0 where
  pub completed : x.answer.outcome ≡ Outcomes.Completed
  pub firings : x.answer.firings ≡ n
  pub place : ℕ
  pub used : place < x.answer.tokens
  pub received : token_at x.ledger place ≡ record { tag = root_of n; port = 0; content = Live v }

-- "if each operation in it is in range and no divisor is 0, and otherwise the run is refused by 12"
abbrev pub Gives : Result ℤ Fault → (n : ℕ) → LeftByRun → Type 0
Gives (Ok v) n x = OutReceived n v x
Gives (Err fault) n x = (place : ℕ) × (x.answer.outcome ≡ Outcomes.Refused OutOfRange place)

-- "For all variable values and every firing order, budget 2,048"; "A ledger of 300 records is enough." The run has no table of named arrays
abbrev pub ExpressionsRun : Type 0
ExpressionsRun = (expression values lent output : List ℕ) (n : ℕ)
    → MadeFrom expression (Ok (suc n)) lent output → Bytes values → check_values expression (length values) ≡ Ok tt
    → (l : LentToRun) (x : LeftByRun) → Allowed l.picks (length l.ledger) (length l.cells) → 300 ≤ capacity_of (length l.ledger)
    → RanOn (take (suc n * graph_width) output) [] (input_bytes (variables_of values)) 2048 l x
    → Gives (evaluated expression values) n x
