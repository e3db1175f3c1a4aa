-- Every answer can be recovered from its number (`numbers_back`): its parts have 16 bits each, whatever is lent. Assumes nothing.
use Rattle.std.specs.Prelude.{Some}
use Rattle.std.proofs.Common.{Result, Ok, Err}
use Prim.Native.Nat.{ℕ}
use native.Mathlib.Omega.{arith}
use mathlib.Core.Path.{◌≡◌, refl, ap, ◌∙◌}
use mathlib.Core.List.{List}
use Rattle.rules.specs.declared.answer.Answer.{Answer}
use Rattle.rules.specs.declared.answer.Fault.{Fault}
use Rattle.rules.specs.declared.answer.Needs.{Needs}
use Rattle.rules.specs.Answer.{Values, values_of, values_needed}
use Rattle.rules.specs.Needs.{needs}
use Rattle.rules.specs.Small.{CountsFit}
use Rattle.rules.proofs.Bounded.{bounded_counted}
use Rattle.rules.proofs.Counted.{all_counted}
use Rattle.bounds.proofs.Small.{Small, needs_small}
use Rattle.abi.specs.Numbers.{packed, unpacked, answer_needed}
use Rattle.abi.specs.Back.{Recovered, NumbersBack}
use Rattle.abi.proofs.Laws.{Fits, unpacked_packed}
use Rattle.abi.proofs.Runs.{run_back}
use Rattle.abi.proofs.Named.{packed_unpacked}

recovered : (a : Answer) → CountsFit a → Recovered a
recovered a h = unpacked_packed a (omega (arith, h.by_tokens, h.tokens), omega (arith, h.tokens), omega (arith, h.place))

-- ---- the bounds

needed_values : (n : Result Needs Fault) → values_needed n ≡ values_of (answer_needed n)
needed_values (Ok n) = refl
needed_values (Err fault) = refl

needed_fits : (n : Result Needs Fault) → Small n → Fits (answer_needed n)
needed_fits (Ok n) h = (omega arith, omega arith, omega arith)
needed_fits (Err fault) h = (omega arith, omega arith, omega arith)

bounds_back : (graph inputs : List ℕ) → unpacked (packed (values_needed (needs graph inputs))) ≡ Some (answer_needed (needs graph inputs))
bounds_back graph inputs =
    ap (λ (v : Values). unpacked (packed v)) (needed_values (needs graph inputs)) ∙ unpacked_packed (answer_needed (needs graph inputs)) (needed_fits (needs graph inputs) (needs_small graph inputs))

-- ---- the statement

pub numbers_back : NumbersBack
numbers_back = record {
  of_runs = run_back;
  of_logged = λ graph arrays inputs picks budget bound ledger cells lent. recovered _ (bounded_counted.by_logged graph arrays inputs picks budget bound ledger cells lent);
  of_replays = λ graph arrays inputs log ledger cells. recovered _ (all_counted.by_replay graph arrays inputs log ledger cells);
  of_profiles = λ graph arrays inputs ledger cells lent. recovered _ (all_counted.by_profile graph arrays inputs ledger cells lent);
  of_carried = λ graph arrays picks ledger cells budget bound firings tokens. recovered _ (bounded_counted.by_carried graph arrays picks ledger cells budget bound firings tokens);
  of_bounds = bounds_back;
  of_numbers = packed_unpacked;
}
