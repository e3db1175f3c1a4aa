-- Every text that the printing program prints fits 161,866 bytes (`every_text_fits`). Assumes nothing.
use Prim.Native.Nat.{ℕ, ◌*◌, ◌/◌, ◌≤◌}
use mathlib.Core.Path.{◌≡◌, sym, ap, subst, ◌∙◌}
use mathlib.Core.List.{List, [], append-nil}
use native.Mathlib.Omega.{arith}
use native.Mathlib.Nat.{mul-div_cancel}
use lib.ListN.{length, take, replicate, length-replicate}
use Rattle.buffer.specs.Rows.{All, all_rows, joined}
use Rattle.record.specs.declared.token.Token.{Token}
use Rattle.record.specs.declared.cell.Cell.{Cell}
use Rattle.record.specs.TokensAndTags.{TokenFits, encode_token, most_tokens}
use Rattle.record.specs.TokensAndTags as Tokens
use Rattle.record.specs.Cells.{CellFits}
use Rattle.record.specs.Cells as Cells
use Rattle.record.specs.Widths.{token_width, cell_width}
use Rattle.buffer.proofs.Tables.{length_joined}
use Rattle.record.proofs.Records.{length_token, length_cell, tokens_joined, cells_joined}
use Rattle.load.proofs.Laws.{zeros_cells, absent_fit}
use Rattle.rules.specs.Check.{most_cells}
use Rattle.rules.specs.Run.{Result, refused_at_once, ran_to, answer, ledger_after, cells_after}
use Rattle.rules.specs.Orders.{result_tokens, result_cells}
use Rattle.rules.specs.Fits.{CellCount, AllFit}
use Rattle.rules.proofs.Small.{answer_small}
use Rattle.rules.proofs.Fits.{result_fits}
use Rattle.listing.specs.Listing.{sort_key_of, key_le, sort_by, listing}
use Rattle.listing.proofs.Lists.{all_perm}
use Rattle.listing.proofs.Sorting.{length_sort}
use Rattle.listing.proofs.Laws.{sort_permutation}
use Rattle.listing.proofs.AnyTwoOrders.{token_listing}
use Rattle.listing.proofs.Demand3.{used_bytes_lem, ran_cells}
use Rattle.text.proofs.Room.{fitting_within}
use Rattle.printing.specs.PrintedRun.{ledger_bytes, cell_bytes, run_of, printed_run, EveryTextFits}

-- ---- records that hold what fits them are read back

token_rows : (ts : List Token) → All TokenFits ts → all_rows token_width Tokens.decode_token (joined encode_token ts) ≡ ts
token_rows ts f =
    let size : length (joined encode_token ts) / token_width ≡ length ts = ap (λ (n : ℕ). n / token_width) (length_joined token_width encode_token length_token ts) ∙ mul-div_cancel (length ts) (omega arith) in
    ap (λ (n : ℕ). Tokens.tokens n (joined encode_token ts)) size ∙ ap (Tokens.tokens (length ts)) (sym (append-nil (joined encode_token ts))) ∙ tokens_joined ts [] f

cell_rows : (xs : List Cell) → All CellFits xs → all_rows cell_width Cells.decode_cell (joined Cells.encode_cell xs) ≡ xs
cell_rows xs f =
    let size : length (joined Cells.encode_cell xs) / cell_width ≡ length xs = ap (λ (n : ℕ). n / cell_width) (length_joined cell_width Cells.encode_cell length_cell xs) ∙ mul-div_cancel (length xs) (omega arith) in
    ap (λ (n : ℕ). Cells.cells n (joined Cells.encode_cell xs)) size ∙ ap (Cells.cells (length xs)) (sym (append-nil (joined Cells.encode_cell xs))) ∙ cells_joined xs [] f

-- ---- what a run leaves

abbrev ledger_left : Result → List ℕ
ledger_left x = listing (take ((answer x).tokens * token_width) (ledger_after x (replicate ledger_bytes 0)))

abbrev cells_left : Result → List ℕ
cells_left x = cells_after x (replicate cell_bytes 0)

-- tokens that the program's ledger has room for, each of which fits
pub record FewTokens (l : List ℕ) : Type 0 where
  pub fit : All TokenFits (all_rows token_width Tokens.decode_token l)
  pub few : length l ≤ ledger_bytes

pub record FewCells (l : List ℕ) : Type 0 where
  pub fit : All CellFits (all_rows cell_width Cells.decode_cell l)
  pub few : length l ≡ cell_bytes

sorted_tokens : (ts : List Token) → All TokenFits ts → length ts ≤ most_tokens → FewTokens (joined encode_token (sort_by sort_key_of ts))
sorted_tokens ts f h =
    let fits = all_perm TokenFits (sort_permutation sort_key_of ts) f in
    record {
      fit = rw (token_rows (sort_by sort_key_of ts) fits) fits;
      few = omega (arith, length_joined token_width encode_token length_token (sort_by sort_key_of ts), length_sort (λ a b. key_le (sort_key_of a) (sort_key_of b)) ts);
    }

tokens_left : (x : Result) → AllFit x most_tokens most_cells → FewTokens (ledger_left x)
tokens_left x a =
    subst FewTokens (sym (ap listing (used_bytes_lem x (replicate ledger_bytes 0)) ∙ token_listing (result_tokens x) a.tokens)) (sorted_tokens (result_tokens x) a.tokens a.room)

zero_length : length (replicate {A = ℕ} cell_bytes 0) ≡ cell_bytes
zero_length = length-replicate {A = ℕ} cell_bytes 0

cells_left_lem : (x : Result) → AllFit x most_tokens most_cells → FewCells (cells_left x)
unfolding cells_after
cells_left_lem (refused_at_once r p) a =
    let size : length (replicate {A = ℕ} cell_bytes 0) / cell_width ≡ most_cells = ap (λ (n : ℕ). n / cell_width) zero_length in
    record {
      fit = subst (All CellFits) (sym (ap (λ (n : ℕ). Cells.cells n (replicate cell_bytes 0)) size ∙ zeros_cells most_cells)) (absent_fit most_cells);
      few = zero_length;
    }
cells_left_lem (ran_to e) a =
    let count : CellCount (ran_to e) (length (replicate {A = ℕ} cell_bytes 0) / cell_width) = omega (arith, zero_length, a.cell_count) in
    let written = ran_cells e (replicate cell_bytes 0) (omega (arith, zero_length)) count in
    subst FewCells (sym written) (record {
      fit = rw (cell_rows (result_cells (ran_to e)) a.cells) a.cells;
      few = omega (arith, length_joined cell_width Cells.encode_cell length_cell (result_cells (ran_to e)), a.cell_count);
    })

pub every_text_fits : EveryTextFits
unfolding printed_run run_of
every_text_fits graph arrays inputs picks bg bi =
    let x = run_of graph arrays inputs picks in
    let fits = result_fits graph arrays inputs picks 2048 ledger_bytes cell_bytes bg bi in
    let small = answer_small graph arrays inputs picks 2048 ledger_bytes cell_bytes in
    let ts = tokens_left x fits in
    let cs = cells_left_lem x fits in
    let within = fitting_within (answer x) (ledger_left x) (cells_left x) (record { firings = omega (arith, small.firings); tokens = omega (arith, small.tokens); place = omega (arith, small.place) }) ts.fit cs.fit (omega (arith, cs.few)) in
    omega (arith, within, ts.few, cs.few)
