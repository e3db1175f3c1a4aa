-- Two orders that complete print the same bytes (`orders_print_alike`): demand 3, of runs whose ledgers and cells start as zeros. Assumes nothing.
use Prim.Native.Nat.{ℕ}
use mathlib.Core.Path.{◌≡◌, refl, sym, ap, subst, ◌∙◌}
use mathlib.Core.Bool.{Bool, true, false, cond}
use mathlib.Core.List.{List, ◌++◌}
use native.Mathlib.Omega.{arith}
use lib.Dec.{leb}
use lib.ListN.{length, take, drop, replicate, length-replicate}
use lib.Seq.{take_at}
use Rattle.number.specs.Number.{Bytes}
use Rattle.buffer.specs.Rows.{whole}
use Rattle.record.specs.TokensAndTags.{most_tokens}
use Rattle.record.specs.Widths.{token_width, cell_width, pick_width}
use Rattle.machine.specs.Orders.{Quiescent}
use Rattle.rules.specs.Answer.{values_of}
use Rattle.rules.specs.Check.{most_cells}
use Rattle.rules.specs.Run.{Result, result, answer, ledger_after, cells_after}
use Rattle.rules.specs.Orders.{result_outcome}
use Rattle.listing.specs.Listing.{listing}
use Rattle.rules.specs.Runs.{LentToRun, LeftByRun, RanOn}
use Rattle.rules.proofs.Outcomes.{outcome_said}
use Rattle.listing.specs.Demand3.{NotForOthers, used_bytes, AlikeBytes}
use Rattle.listing.proofs.Answers.{done}
use Rattle.listing.proofs.Demand3.{demand3}
use Rattle.std.specs.Prelude.{Ok, Err}
use Rattle.text.specs.Text.{printed_of, printed_out}
use Rattle.text.proofs.Laws.{same_text}
use Rattle.printing.specs.PrintedRun.{ledger_bytes, cell_bytes, run_of, text_left, printed_run}
use Rattle.printing.specs.SameBytes.{OrdersPrintAlike}

-- ---- a text in an output

printed_bytes : (text out : List ℕ) (n : ℕ) → printed_of text out ≡ Ok n → take n (printed_out text out) ≡ text
unfolding printed_of printed_out
printed_bytes text out n e = go (leb (length text) (length out)) refl
  where
    go : (b : Bool) → leb (length text) (length out) ≡ b → take n (cond (leb (length text) (length out)) (text ++ drop (length text) out) out) ≡ text
    go true p = let q = rw p at e in let size : length text ≡ n = cc in rw p (take_at text (drop (length text) out) n size)
    go false p = let q = rw p at e in absurd (cc)

same_answer : (text out out' : List ℕ) → length out ≡ length out' → printed_of text out ≡ printed_of text out'
unfolding printed_of
same_answer text out out' e = rw e

-- ---- two runs

module _ (graph arrays inputs : List ℕ) (graph_bytes : Bytes graph) (input_bytes : Bytes inputs) where
  abbrev lent : List ℕ → LentToRun
  lent picks = record { picks = picks; ledger = replicate ledger_bytes 0; cells = replicate cell_bytes 0 }

  abbrev ended : List ℕ → Result
  ended picks = result graph arrays inputs picks 2048 (length (replicate {A = ℕ} ledger_bytes 0)) (length (replicate {A = ℕ} cell_bytes 0))

  -- the program's run is one with buffers of zeros
  same_run_lem : (picks : List ℕ) → ended picks ≡ run_of graph arrays inputs picks
  unfolding run_of
  same_run_lem picks = rw (length-replicate {A = ℕ} ledger_bytes 0, length-replicate {A = ℕ} cell_bytes 0)

  abbrev left_by : Result → LeftByRun
  left_by x = record { answer = answer x; ledger = ledger_after x (replicate ledger_bytes 0); cells = cells_after x (replicate cell_bytes 0) }

  ran : (picks : List ℕ) → RanOn graph arrays inputs 2048 (lent picks) (left_by (ended picks))
  ran picks = record { answered = refl; numbers = refl; ledger_left = refl; cells_left = refl }

  allowed : (picks : List ℕ) → whole pick_width most_tokens (length picks) ≡ true → NotForOthers graph inputs (lent picks)
  allowed picks w passed inputsWhole = record {
    allowed_picks = w;
    allowed_ledger = ap (whole token_width most_tokens) (length-replicate {A = ℕ} ledger_bytes 0);
    allowed_cells = ap (whole cell_width most_cells) (length-replicate {A = ℕ} cell_bytes 0);
  }

  same_left : (x y : Result) → AlikeBytes (left_by x) (left_by y) → text_left x ≡ text_left y
  same_left x y a =
      let u = used_bytes (left_by x) in
      let v = used_bytes (left_by y) in
      let l = a.listings u v refl refl in
      let sorted : listing u ≡ listing v = sym (done u u l.0).1 ∙ l.2 ∙ (done v v l.1).1 in
      same_text (answer x) (answer y) (listing u) (listing v) (cells_after x (replicate cell_bytes 0)) (cells_after y (replicate cell_bytes 0)) (ap values_of a.answers) sorted a.cells

  same_texts : (picks picks' : List ℕ) → whole pick_width most_tokens (length picks) ≡ true → whole pick_width most_tokens (length picks') ≡ true → Quiescent (result_outcome (run_of graph arrays inputs picks))
      → printed_run graph arrays inputs picks ≡ printed_run graph arrays inputs picks'
  unfolding printed_run
  same_texts picks picks' w w' c =
      let rests : Quiescent (result_outcome (ended picks)) = subst Quiescent (ap result_outcome (sym (same_run_lem picks))) c in
      let agreed = demand3 graph arrays inputs graph_bytes input_bytes (lent picks) (lent picks') (allowed picks w) (allowed picks' w') refl refl (left_by (ended picks)) (left_by (ended picks')) (ran picks) (ran picks') in
      let alike = agreed.alike (subst Quiescent (sym (outcome_said (ended picks))) rests) in
      ap text_left (sym (same_run_lem picks)) ∙ same_left (ended picks) (ended picks') alike ∙ ap text_left (same_run_lem picks')

pub orders_print_alike : OrdersPrintAlike
orders_print_alike graph arrays inputs picks picks' bg bi w w' c r r' out out' left left' p q size =
    let t = printed_run graph arrays inputs picks in
    let t' = printed_run graph arrays inputs picks' in
    let texts = same_texts graph arrays inputs bg bi picks picks' w w' c in
    let answers : r ≡ r' = p.answered ∙ same_answer t out out' size ∙ ap (λ (z : List ℕ). printed_of z out') texts ∙ sym q.answered in
    record {
      texts = texts;
      answers = answers;
      bytes = λ n e.
          ap (take n) p.out_left ∙ printed_bytes t out n (sym p.answered ∙ e) ∙ texts
          ∙ sym (ap (take n) q.out_left ∙ printed_bytes t' out' n (sym q.answered ∙ sym answers ∙ e));
    }
