-- 01, "The printed listing": what the printing program prints, for all bytes of `graph`, `arrays`, `inputs` and `picks`. Assumes nothing.
use Rattle.std.specs.Prelude as Std
use Rattle.std.specs.Prelude.{ℕ, ◌*◌, ◌≤◌, ◌≡◌, List, length, take, replicate}
use Rattle.number.specs.Number.{Bytes}
use Rattle.record.specs.TokensAndTags.{most_tokens}
use Rattle.record.specs.Widths.{token_width, cell_width}
use Rattle.rules.specs.declared.answer.Answer.{Answer}
use Rattle.rules.specs.Check.{most_cells}
use Rattle.rules.specs.Run.{Result, result, answer, ledger_after, cells_after}
use Rattle.listing.specs.Listing.{listing}
use Rattle.text.specs.declared.TooSmall.{TooSmall}
use Rattle.text.specs.Text.{printed, printed_of, printed_out}

-- "with 2,048 records, 1,024 cells, budget 2,048"
abbrev pub ledger_bytes : ℕ
ledger_bytes = most_tokens * token_width

abbrev pub cell_bytes : ℕ
cell_bytes = most_cells * cell_width

unfoldable pub run_of : (graph arrays inputs picks : List ℕ) → Result
run_of graph arrays inputs picks = result graph arrays inputs picks 2048 ledger_bytes cell_bytes

-- the answer, the listing, which "is lent the used records only", and the cells
abbrev pub text_of_run : Answer → (ledger cells : List ℕ) → List ℕ
text_of_run a ledger cells = printed a (listing (take (a.tokens * token_width) ledger)) cells

-- "Its ledger and cells start as zeros": what a run leaves of them is printed
abbrev pub text_left : Result → List ℕ
text_left x = text_of_run (answer x) (ledger_after x (replicate ledger_bytes 0)) (cells_after x (replicate cell_bytes 0))

unfoldable pub printed_run : (graph arrays inputs picks : List ℕ) → List ℕ
printed_run graph arrays inputs picks = text_left (run_of graph arrays inputs picks)

-- what `print_run` promises: how many bytes it wrote, and the end contents of its output
pub record PrintedRun (graph arrays inputs picks : List ℕ) (r : Std.Result ℕ TooSmall) (out out' : List ℕ) : Type 0 where
  pub answered : r ≡ printed_of (printed_run graph arrays inputs picks) out
  pub out_left : out' ≡ printed_out (printed_run graph arrays inputs picks) out

-- an output of this length has room for every text; it is proved in proofs/Room
abbrev pub most_text_bytes : ℕ
most_text_bytes = 200778

abbrev pub EveryTextFits : Type 0
EveryTextFits = (graph arrays inputs picks : List ℕ) → Bytes graph → Bytes inputs → length (printed_run graph arrays inputs picks) ≤ most_text_bytes
