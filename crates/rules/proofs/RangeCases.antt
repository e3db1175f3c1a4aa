-- The tables of records and of worked range runs hold, in one fact over the rows of each. Assumes nothing.
use mathlib.Core.Path.{◌≡◌, refl}
use mathlib.Core.List.{map}
use Rattle.rules.proofs.Computed.{rules}
use Rattle.rules.specs.RangeCases.{RangeRecord, range_records, seen_in_ranges, seen_range, expected_range, range_cases}

pub range_cases_hold : map seen_range range_cases ≡ map expected_range range_cases
unfolding rules seen_in_ranges seen_range expected_range
range_cases_hold = refl

pub range_records_hold : map (λ (r : RangeRecord). r.written) range_records ≡ map (λ (r : RangeRecord). r.bytes) range_records
unfolding rules
range_records_hold = refl
