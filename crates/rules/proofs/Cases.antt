-- The table of worked cases holds: what the rules give is what the table says, in one fact over all rows. Assumes nothing.
use mathlib.Core.Path.{◌≡◌, refl}
use mathlib.Core.List.{map}
use Rattle.rules.proofs.Computed.{rules}
use Rattle.rules.specs.CaseRows.{cells_written, seen_in, seen_steps, seen_log, seen, expected}
use Rattle.rules.specs.Cases.{cases}

pub cases_hold : map seen cases ≡ map expected cases
unfolding rules cells_written seen_in seen_steps seen_log seen expected
cases_hold = refl
