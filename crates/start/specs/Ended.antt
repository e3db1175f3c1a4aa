-- Working definition: no public promise cites it.
-- What a run, a profile or a replay that came to an end of the machine answers, and leaves in ledger and cells. Assumes nothing.
use Rattle.std.specs.Prelude.{◌≡◌, List, map, ℕ, length, ℤ}
use Rattle.record.specs.declared.tag.Tag.{Tag}
use Rattle.record.specs.TokensAndTags.{ledger_of}
use Rattle.buffer.specs.Rows.{written_over}
use Rattle.record.specs.Cells as Cells
use Rattle.machine.specs.Machine.{End}
use Rattle.rules.specs.declared.answer.Refusal.{Refusal}
use Rattle.rules.specs.declared.answer.Answer.{Answer}
use Rattle.rules.specs.Run.{token_record, cell_record, outcome_of}

pub record EndedAt (e : End Refusal Tag ℤ) (r : Answer) (ledger cells ledger' cells' : List ℕ) : Type 0 where
  pub answered : r ≡ record { outcome = outcome_of e.outcome; firings = e.firings; tokens = length e.state.tokens }
  pub ledger_left : ledger' ≡ ledger_of (map token_record e.state.tokens) ledger
  pub cells_left : cells' ≡ written_over Cells.encode_cell (map cell_record e.state.cells) cells
