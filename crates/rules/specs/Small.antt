-- How large an answer can be: 01, "Tokens and tags" and "The answer and the refusals". The statement; it is proved in proofs/Small and proofs/Counted. Assumes nothing.
use Rattle.std.specs.Prelude.{ℕ, ◌<◌, ◌≤◌, List}
use Rattle.record.specs.TokensAndTags.{most_tokens}
use Rattle.rules.specs.declared.answer.Answer.{Answer}
use Rattle.rules.specs.Answer.{place_in}
use Rattle.rules.specs.Run.{result, answer}
use Rattle.rules.specs.Log.{logged, replayed}
use Rattle.rules.specs.Profile.{profiled}
use Rattle.rules.specs.Saved.{carried}

-- of the answer of a run with that budget
pub record Small (budget : ℕ) (a : Answer) : Type 0 where
  -- "Firings are those done, the refused one not counted."
  pub firings : a.firings ≤ budget
  -- "Firings never exceed tokens."
  pub by_tokens : a.firings ≤ a.tokens
  -- "The ledger takes every token in order of arrival, up to 2,048 records"
  pub tokens : a.tokens ≤ most_tokens
  -- "Place: the record or input at fault (for 8 the first that doesn't fit), 0 for 1 and 7": "A graph is 1 to 256 records", and "more than 2,048" inputs are
  -- refused by 7 before any of them is at fault. In a firing "the place is the activity's": "the ledger position of its earliest operand".
  -- "The place is 0 unless refused."
  pub place : place_in a.outcome < most_tokens

-- of every run, one that is refused before any firing included
abbrev pub AnswersSmall : Type 0
AnswersSmall = (graph arrays inputs picks : List ℕ) (budget ledger cells : ℕ) → Small budget (answer (result graph arrays inputs picks budget ledger cells))

-- of the answer of any call that runs a graph: 16 bits are enough for each number. The place of 20 is a record's number, which is at most that of the firings
pub record CountsFit (a : Answer) : Type 0 where
  pub by_tokens : a.firings ≤ a.tokens
  pub tokens : a.tokens ≤ most_tokens
  pub place : place_in a.outcome ≤ most_tokens

-- of a run that writes a log, a replay, a profile, and a run from a saved state
pub record AllCounted : Type 0 where
  pub by_logged : (graph arrays inputs picks : List ℕ) (budget ledger cells lent : ℕ) → CountsFit (answer (logged graph arrays inputs picks budget ledger cells lent).result)
  pub by_replay : (graph arrays inputs log : List ℕ) (ledger cells : ℕ) → CountsFit (answer (replayed graph arrays inputs log ledger cells))
  pub by_profile : (graph arrays inputs : List ℕ) (ledger cells lent : ℕ) → CountsFit (answer (profiled graph arrays inputs ledger cells lent).result)
  pub by_carried : (graph arrays picks ledger cells : List ℕ) (budget firings tokens : ℕ) → CountsFit (answer (carried graph arrays picks budget ledger cells firings tokens))
