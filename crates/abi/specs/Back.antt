-- The number that a run, a logged run, a replay, a profile, a run from a saved state or the bounds answer gives the answer back, and a number that names an answer is that
-- answer's. The statement; it is proved in proofs/Back. Assumes nothing.
use Rattle.std.specs.Prelude.{ℕ, ◌<◌, ◌≡◌, List, Some}
use Rattle.rules.specs.Answer.{values_of, values_needed}
use Rattle.rules.specs.declared.answer.Answer.{Answer}
use Rattle.rules.specs.Run.{answer}
use Rattle.rules.specs.Log.{replayed}
use Rattle.rules.specs.Bounded.{bounded, bound_logged, bound_carried}
use Rattle.rules.specs.Profile.{profiled}
use Rattle.rules.specs.Needs.{needs}
use Rattle.abi.specs.Numbers.{packed, unpacked, answer_needed}

-- its number gives it back
abbrev pub Recovered : Answer → Type 0
Recovered a = unpacked (packed (values_of a)) ≡ Some a

pub record NumbersBack : Type 0 where
  pub of_runs : (graph arrays inputs picks : List ℕ) (budget bound ledger cells : ℕ) → Recovered (answer (bounded graph arrays inputs picks budget bound ledger cells))
  pub of_logged : (graph arrays inputs picks : List ℕ) (budget bound ledger cells lent : ℕ) → Recovered (answer (bound_logged graph arrays inputs picks budget bound ledger cells lent).result)
  pub of_replays : (graph arrays inputs log : List ℕ) (ledger cells : ℕ) → Recovered (answer (replayed graph arrays inputs log ledger cells))
  pub of_profiles : (graph arrays inputs : List ℕ) (ledger cells lent : ℕ) → Recovered (answer (profiled graph arrays inputs ledger cells lent).result)
  pub of_carried : (graph arrays picks ledger cells : List ℕ) (budget bound firings tokens : ℕ) → Recovered (answer (bound_carried graph arrays picks budget bound ledger cells firings tokens))
  pub of_bounds : (graph inputs : List ℕ) → unpacked (packed (values_needed (needs graph inputs))) ≡ Some (answer_needed (needs graph inputs))
  pub of_numbers : (n : ℕ) (a : Answer) → n < 18446744073709551616 → unpacked n ≡ Some a → packed (values_of a) ≡ n
