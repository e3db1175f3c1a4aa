-- Demand 1: "The answer to a run, over all bytes lent as graph, inputs, picks, ledger and cells, is the one that the rules give [..] A refusal before any
-- firing is tried leaves ledger and cells untouched; a refused firing leaves both exactly as it found them." The first sentence is `Ran` (specs/Run), which
-- `run` of the crate engine promises. What is stated here holds of every result, and so of every run that keeps `Ran`; it is proved in proofs/Left. Assumes nothing.
use Rattle.std.specs.Prelude.{ℕ, ◌*◌, ◌≡◌, List, length, drop, Ok, Err}
use Rattle.record.specs.Widths.{token_width}
use Rattle.rules.specs.declared.answer.Refusal.{Refusal}
use Rattle.rules.specs.declared.answer.Outcome.TheVariants as Outcomes
use Rattle.rules.specs.Check.{check, fault_at}
use Rattle.rules.specs.Run.{Result, result, answer, ledger_after, cells_after}

-- 01: "All these answer 0 firings and 0 tokens and write no buffer."
pub record Untouched (x : Result) (r : Refusal) (place : ℕ) (ledger cells : List ℕ) : Type 0 where
  pub answered : answer x ≡ record { outcome = Outcomes.Refused r place; firings = 0; tokens = 0 }
  pub ledger_left : ledger_after x ledger ≡ ledger
  pub cells_left : cells_after x cells ≡ cells

-- 01: "ledger and cells stay as before this firing, and the run ends": the same run with a budget of the firings that were done is stopped right before the
-- refused one, and leaves the same
pub record AsBefore (x before : Result) (ledger cells : List ℕ) : Type 0 where
  pub stopped : answer before ≡ record { outcome = Outcomes.Spent; firings = (answer x).firings; tokens = (answer x).tokens }
  pub ledger_left : ledger_after x ledger ≡ ledger_after before ledger
  pub cells_left : cells_after x cells ≡ cells_after before cells

module _ (graph arrays inputs picks ledger cells : List ℕ) where
  -- with so large a budget
  abbrev at : (budget : ℕ) → Result
  at budget = result graph arrays inputs picks budget (length ledger) (length cells)

  pub record RefusesByTheRules (budget : ℕ) : Type 0 where
    -- "A refusal before any firing is tried leaves ledger and cells untouched"
    pub refused_before_firing : (r : Refusal) (place : ℕ) → check graph arrays inputs picks (length ledger) (length cells) ≡ Err (fault_at r place) → Untouched (at budget) r place ledger cells
    -- "a refused firing leaves both exactly as it found them"
    pub refused_firing : check graph arrays inputs picks (length ledger) (length cells) ≡ Ok tt → (r : Refusal) (place : ℕ) → (answer (at budget)).outcome ≡ Outcomes.Refused r place
        → AsBefore (at budget) (at (answer (at budget)).firings) ledger cells
    -- 01: "bytes past what is written stay as lent": the used records are as many as the answer has tokens
    pub rest_as_lent : drop ((answer (at budget)).tokens * token_width) (ledger_after (at budget) ledger) ≡ drop ((answer (at budget)).tokens * token_width) ledger

abbrev pub Demand1 : Type 0
Demand1 = (graph arrays inputs picks ledger cells : List ℕ) (budget : ℕ) → RefusesByTheRules graph arrays inputs picks ledger cells budget
