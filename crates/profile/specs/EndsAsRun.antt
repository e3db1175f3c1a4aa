-- 02, R-1, in bytes: "if it isn't refused, its end must equal every order's as demand 3 compares them". One claim about a profile and a run over one graph and one
-- list of inputs, for every list of picks, and whatever the buffers held before. It speaks of what `profile`, `run` (crate engine) and `list` (crate listing)
-- promise. The statement; it is proved in proofs/EndsAsRun. Assumes nothing.
use Rattle.std.specs.Prelude.{ℕ, ◌/◌, ◌<◌, ◌≡◌, List, length}
use Rattle.number.specs.Number.{Bytes, number16}
use Rattle.buffer.specs.Rows.{rows, All}
use Rattle.record.specs.TokensAndTags.{capacity_of}
use Rattle.record.specs.Widths.{cell_width, step_width}
use Rattle.rules.specs.Orders.{Allowed}
use Rattle.engine.specs.Promise.{LentToRun, LeftByRun, RanOn}
use Rattle.rules.specs.Runs.{LentToProfile, LeftByProfile, ProfiledOn, outcome_in}
use Rattle.listing.specs.Demand3.{AlikeBytes}
use Rattle.machine.specs.Saved.{sum}
use Rattle.machine.specs.Orders.{Quiescent, Refused}

-- what a run has too
abbrev pub as_run : LeftByProfile → LeftByRun
as_run x = record { answer = x.answer.answer; ledger = x.ledger; cells = x.cells }

-- "firings in it", 16 bits, of each record
abbrev pub firings_recorded : LeftByProfile → List ℕ
firings_recorded x = rows step_width (λ b. number16 b 0) x.answer.records x.profile

pub record EndsAsRun (x : LeftByProfile) (y : LeftByRun) : Type 0 where
  -- completed or hung
  pub rests : Quiescent (outcome_in x.answer.answer.outcome)
  -- the answer, every byte of the cells, the same tokens, equal listings
  pub alike : AlikeBytes (as_run x) y
  -- the records' firings add up to the firings, and each record has one at least
  pub firings : sum (firings_recorded x) ≡ x.answer.answer.firings
  pub each_fires : All (λ n. 0 < n) (firings_recorded x)

abbrev pub ProfileEndsAsRun : Type 0
ProfileEndsAsRun = (graph arrays inputs : List ℕ) → Bytes graph → Bytes inputs → (l : LentToProfile) (m : LentToRun) → Allowed m.picks (length m.ledger) (length m.cells)
    → capacity_of (length l.ledger) ≡ capacity_of (length m.ledger) → length l.cells / cell_width ≡ length m.cells / cell_width
    → (x : LeftByProfile) (y : LeftByRun) → ProfiledOn graph arrays inputs l x → RanOn graph arrays inputs 2048 m y → ¬ (Refused (outcome_in x.answer.answer.outcome)) → EndsAsRun x y
