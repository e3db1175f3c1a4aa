-- The table of saved states holds: what the rules give is what the table says, in one fact over all rows. Assumes nothing.
use mathlib.Core.Path.{◌≡◌, refl}
use mathlib.Core.List.{map}
use Rattle.rules.proofs.Computed.{rules}
use Rattle.rules.specs.CaseRows.{cells_written, seen_in}
use Rattle.rules.specs.SavedCases.{states, seen_saved, expected_saved, saved_cases}

pub saved_cases_hold : map seen_saved saved_cases ≡ map expected_saved saved_cases
unfolding rules cells_written seen_in states seen_saved expected_saved
saved_cases_hold = refl
