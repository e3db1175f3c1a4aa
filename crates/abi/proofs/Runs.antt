-- Every answer of a run has 16 bits each for firings, tokens and place: so printing by a number prints what printing by the answer does. And what printing
-- answers where it writes nothing is no text's length. Assumes nothing.
use Rattle.std.specs.Prelude.{Some}
use Prim.Native.Nat.{ℕ, ◌+◌, ◌≤◌}
use native.Mathlib.Omega.{arith}
use mathlib.Core.Path.{◌≡◌, refl}
use mathlib.Core.Bool.{Bool, true, false}
use mathlib.Core.List.{List, [], ◌∷◌, ◌++◌, map}
use borrow.Author.Tests.{ltb-true, ltb-false}
use lib.Dec.{ltb}
use lib.ListN.{length, length-append}
use Rattle.buffer.specs.Rows.{all_rows, joined}
use Rattle.record.specs.TokensAndTags as Tokens
use Rattle.record.specs.Cells as Cells
use Rattle.record.specs.Widths.{token_width, cell_width}
use Rattle.rules.specs.Answer.{number_of, place_in, values_of}
use Rattle.rules.specs.declared.answer.Outcome.{Outcome}
use Rattle.rules.specs.declared.answer.Outcome.TheVariants.{Completed, Hung, Spent, Refused}
use Rattle.rules.specs.declared.answer.Answer.{Answer}
use Rattle.rules.specs.Run.{answer}
use Rattle.rules.specs.Bounded.{bounded}
use Rattle.rules.proofs.Bounded.{bounded_small}
use Rattle.text.specs.Text.{decimal, line, outcome_fields, answer_line, token_line, cell_lines, printed, printed_of, printed_out}
use Rattle.text.proofs.Decimals.{decimal_digit, length_more}
use Rattle.abi.specs.Numbers.{packed, unpacked, length_of, print_answer, print_after}
use Rattle.abi.proofs.Laws.{Fits, unpacked_packed}

-- ---- and every answer of a run fits, whatever is lent and whatever the budget

-- "Firings never exceed tokens", tokens are 2,048 at most, and a place is below 2,048
pub run_fits : (graph arrays inputs picks : List ℕ) (budget bound ledger cells : ℕ) → Fits (answer (bounded graph arrays inputs picks budget bound ledger cells))
run_fits graph arrays inputs picks budget bound ledger cells =
    let small = bounded_small graph arrays inputs picks budget bound ledger cells in
    (omega (arith, small.by_tokens, small.tokens), omega (arith, small.tokens), omega (arith, small.place))

-- the number that a run answers gives its answer back
pub run_back : (graph arrays inputs picks : List ℕ) (budget bound ledger cells : ℕ)
    → unpacked (packed (values_of (answer (bounded graph arrays inputs picks budget bound ledger cells)))) ≡ Some (answer (bounded graph arrays inputs picks budget bound ledger cells))
run_back graph arrays inputs picks budget bound ledger cells = unpacked_packed (answer (bounded graph arrays inputs picks budget bound ledger cells)) (run_fits graph arrays inputs picks budget bound ledger cells)

-- ---- so printing the number that a run answers prints the answer: what text::print does with it, ttda_print does

pub print_answer_lem : (a : Answer) → Fits a → (listing cells out : List ℕ)
    → print_answer (unpacked (packed (values_of a))) listing cells out ≡ length_of (printed_of (printed a listing cells) out)
print_answer_lem a h listing cells out = rw (unpacked_packed a h)

pub print_after_lem : (a : Answer) → Fits a → (listing cells out : List ℕ)
    → print_after (unpacked (packed (values_of a))) listing cells out ≡ printed_out (printed a listing cells) out
print_after_lem a h listing cells out = rw (unpacked_packed a h)

-- the length that is answered and the bytes that are left, for the number of any run
pub run_printed : (graph arrays inputs picks : List ℕ) (budget bound ledger_bytes cell_bytes : ℕ) (listing cells out : List ℕ)
    → let a = answer (bounded graph arrays inputs picks budget bound ledger_bytes cell_bytes) in
    (print_answer (unpacked (packed (values_of a))) listing cells out ≡ length_of (printed_of (printed a listing cells) out))
    × (print_after (unpacked (packed (values_of a))) listing cells out ≡ printed_out (printed a listing cells) out)
run_printed graph arrays inputs picks budget bound ledger_bytes cell_bytes listing cells out =
    let a = answer (bounded graph arrays inputs picks budget bound ledger_bytes cell_bytes) in
    let fits = run_fits graph arrays inputs picks budget bound ledger_bytes cell_bytes in
    (print_answer_lem a fits listing cells out, print_after_lem a fits listing cells out)

-- ---- 0 and 1 are no text's length: the shortest has 11 bytes

digits_least : (n : ℕ) → 1 ≤ length (decimal n)
digits_least n = go (ltb n 10) refl
  where
    go : (b : Bool) → ltb n 10 ≡ b → 1 ≤ length (decimal n)
    go true e = rw (decimal_digit n (ltb-true n 10 e)) (omega arith)
    go false e = omega (arith, length_more n (ltb-false n 10 e))

-- a field, the byte behind it and the fields after it
field_least : (f g : List ℕ) (fs : List (List ℕ)) → length (line (f ∷ g ∷ fs)) ≡ length f + 1 + length (line (g ∷ fs))
field_least f g fs = omega (arith, length-append f (32 ∷ line (g ∷ fs)))

-- three numbers, each of a digit at least
counts_least : (a b c : ℕ) → 6 ≤ length (line (decimal a ∷ decimal b ∷ decimal c ∷ []))
counts_least a b c =
    omega (arith, digits_least a, digits_least b, digits_least c, field_least (decimal a) (decimal b) (decimal c ∷ []), field_least (decimal b) (decimal c) [], length-append (decimal c) (10 ∷ []))

fields_least : (o : Outcome) (a b c : ℕ) → 11 ≤ length (line (outcome_fields o ++ decimal a ∷ decimal b ∷ decimal c ∷ []))
fields_least Completed a b c = omega (arith, counts_least a b c)
fields_least Hung a b c = omega (arith, counts_least a b c)
fields_least Spent a b c = omega (arith, counts_least a b c)
fields_least (Refused r place) a b c =
    omega (arith, counts_least a b c, field_least (decimal (number_of r)) (decimal a) (decimal b ∷ decimal c ∷ []))

append_least : (xs ys : List ℕ) → 11 ≤ length xs → 11 ≤ length (xs ++ ys)
append_least xs ys h = omega (arith, length-append xs ys)

pub text_least : (a : Answer) (listing cells : List ℕ) → 11 ≤ length (printed a listing cells)
unfolding printed answer_line
text_least a listing cells =
    append_least
    (answer_line a)
    (joined (λ (l : List ℕ). l) (map token_line (all_rows token_width Tokens.decode_token listing) ++ cell_lines 0 (all_rows cell_width Cells.decode_cell cells)))
    (fields_least a.outcome a.firings a.tokens (place_in a.outcome))
