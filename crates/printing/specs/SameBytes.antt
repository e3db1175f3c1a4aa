-- Two orders that complete or hang print the same bytes: demand 3 (listing/specs/Demand3) joined with the printed text, over what `print_run` promises. It is what a
-- reader of a listing relies on. The statement; it is proved in proofs/SameBytes. Assumes nothing.
use Rattle.std.specs.Prelude.{ℕ, ◌≡◌, true, List, length, take, Result, Ok}
use Rattle.number.specs.Number.{Bytes}
use Rattle.buffer.specs.Rows.{whole}
use Rattle.record.specs.TokensAndTags.{most_tokens}
use Rattle.record.specs.Widths.{pick_width}
use Rattle.machine.specs.Orders.{Quiescent}
use Rattle.rules.specs.Orders.{result_outcome}
use Rattle.text.specs.declared.TooSmall.{TooSmall}
use Rattle.printing.specs.PrintedRun.{run_of, printed_run, PrintedRun}

-- of two calls that answer r and r' and leave `left` and `left'` in their outputs
pub record SameBytes (text text' : List ℕ) (r r' : Result ℕ TooSmall) (left left' : List ℕ) : Type 0 where
  pub texts : text ≡ text'
  pub answers : r ≡ r'
  pub bytes : (n : ℕ) → r ≡ Ok n → take n left ≡ take n left'

-- one graph, one list of inputs, any two lists of picks of allowed length: if one order completes or hangs, both print the same, in outputs of one length
abbrev pub OrdersPrintAlike : Type 0
OrdersPrintAlike = (graph arrays inputs picks picks' : List ℕ) → Bytes graph → Bytes inputs
    → whole pick_width most_tokens (length picks) ≡ true → whole pick_width most_tokens (length picks') ≡ true → Quiescent (result_outcome (run_of graph arrays inputs picks))
    → (r r' : Result ℕ TooSmall) (out out' left left' : List ℕ) → PrintedRun graph arrays inputs picks r out left → PrintedRun graph arrays inputs picks' r' out' left' → length out ≡ length out'
    → SameBytes (printed_run graph arrays inputs picks) (printed_run graph arrays inputs picks') r r' left left'
