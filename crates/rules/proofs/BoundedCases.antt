-- The table of cases with a bound holds: what the rules give is what the table says, in one fact over all rows. Assumes nothing.
use mathlib.Core.Path.{◌≡◌, refl}
use mathlib.Core.List.{map}
use Rattle.rules.proofs.Computed.{rules}
use Rattle.rules.specs.CaseRows.{cells_written, seen_in}
use Rattle.rules.specs.SavedCases.{states}
use Rattle.rules.specs.BoundedCases.{seen_bounded, expected_bounded, bounded_cases}

pub bounded_cases_hold : map seen_bounded bounded_cases ≡ map expected_bounded bounded_cases
unfolding rules cells_written seen_in states seen_bounded expected_bounded
bounded_cases_hold = refl
