-- What the proofs of the functions cite: the used records of a ledger are listed (`listed`), and what a run leaves of zeros is what is printed (`left_printed`).
-- Assumes nothing.
use Prim.Native.Nat.{ℕ, ◌-◌, ◌*◌, ◌≤◌}
use mathlib.Core.Path.{◌≡◌, ap, subst, ◌∙◌}
use mathlib.Core.List.{List, ◌++◌}
use native.Mathlib.Omega.{arith}
use lib.ListN.{length, take, replicate, length-replicate}
use lib.Seq.{length-take-le, take_at}
use Rattle.record.specs.TokensAndTags.{most_tokens, capacity_of}
use Rattle.record.specs.Widths.{token_width}
use Rattle.rules.specs.declared.answer.Answer.{Answer}
use Rattle.rules.specs.Run.{Result, result, Ran}
use Rattle.rules.specs.Bounded.{bounded}
use Rattle.rules.proofs.Bounded.{bound_zero}
use Rattle.rules.proofs.Small.{answer_small}
use Rattle.listing.specs.Listing.{listing, listed_out}
use Rattle.listing.proofs.Answers.{Lengths, answers_done}
use Rattle.listing.proofs.Laws.{length_listing}
use Rattle.printing.specs.PrintedRun.{ledger_bytes, cell_bytes, run_of, text_of_run, printed_run}

-- the used records and as much of `sorted` are what `list` takes
pub used_lengths : (ledger sorted : List ℕ) (t : ℕ) → t ≤ most_tokens → t * token_width ≤ length ledger → t * token_width ≤ length sorted
    → Lengths (length (take (t * token_width - 0) ledger)) (length (take (t * token_width - 0) sorted))
used_lengths ledger sorted t few fits room =
    let all : t * token_width - 0 ≡ t * token_width = omega arith in
    let size : length (take (t * token_width - 0) ledger) ≡ t * token_width = rw all (length-take-le _ ledger fits) in
    let room' : length (take (t * token_width - 0) sorted) ≡ t * token_width = rw all (length-take-le _ sorted room) in
    record { same = omega arith; whole = omega arith; few = omega arith }

-- x is what `list` leaves in the start of `sorted`, with the used records lent
pub listed : (ledger sorted x rest : List ℕ) (t : ℕ) → t ≤ most_tokens → t * token_width ≤ length ledger → t * token_width ≤ length sorted
    → x ≡ listed_out (take (t * token_width - 0) ledger) (take (t * token_width - 0) sorted) → take (t * token_width - 0) (x ++ rest) ≡ listing (take (t * token_width) ledger)
listed ledger sorted x rest t few fits room e =
    let n = t * token_width in
    let all : n - 0 ≡ n = omega arith in
    let used = take n ledger in
    let size : length used ≡ n = length-take-le n ledger fits in
    let done : x ≡ listing used = e ∙ (answers_done _ _ (used_lengths ledger sorted t few fits room)).1 ∙ ap (λ (k : ℕ). listing (take k ledger)) all in
    let long : length x ≡ n = ap length done ∙ length_listing used (omega arith) ∙ size in
    ap (λ (k : ℕ). take k (x ++ rest)) all ∙ take_at x rest n long ∙ done

-- a run with bound 0 is one without
pub without_bound : (graph arrays inputs picks : List ℕ) (budget size count : ℕ) {r : Answer} {ledger ledger' cells cells' : List ℕ} → Ran (bounded graph arrays inputs picks budget 0 size count) r ledger ledger' cells cells'
    → Ran (result graph arrays inputs picks budget size count) r ledger ledger' cells cells'
without_bound graph arrays inputs picks budget size count {r} {ledger} {ledger'} {cells} {cells'} ran =
    subst (λ (x : Result). Ran x r ledger ledger' cells cells') (bound_zero.of_run graph arrays inputs picks budget size count) ran

-- a run answers no more tokens than a ledger can have
pub few_tokens : (graph arrays inputs picks : List ℕ) (budget size count : ℕ) {r : Answer} {ledger ledger' cells cells' : List ℕ} → Ran (result graph arrays inputs picks budget size count) r ledger ledger' cells cells' → r.tokens ≤ most_tokens
few_tokens graph arrays inputs picks budget size count ran = rw ran.answered (answer_small graph arrays inputs picks budget size count).tokens

-- and the program's ledger has room for them
pub within : (t size : ℕ) → t ≤ most_tokens → size ≡ ledger_bytes → t ≤ capacity_of size
within t size few e = omega arith

pub left_printed : (graph arrays inputs picks : List ℕ) {r : Answer} {ledger' cells' : List ℕ}
    → Ran (result graph arrays inputs picks 2048 (length (replicate {A = ℕ} ledger_bytes 0)) (length (replicate {A = ℕ} cell_bytes 0))) r (replicate ledger_bytes 0) ledger' (replicate cell_bytes 0) cells'
    → text_of_run r ledger' cells' ≡ printed_run graph arrays inputs picks
unfolding printed_run run_of
left_printed graph arrays inputs picks ran = rw (ran.answered, ran.ledger_left, ran.cells_left, length-replicate {A = ℕ} ledger_bytes 0, length-replicate {A = ℕ} cell_bytes 0)
