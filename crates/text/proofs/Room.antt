-- How long a text is at most, so that a buffer can be lent in which every text fits: 74 bytes for the answer, 75 a token and 46 a cell. Assumes nothing.
use Prim.Native.Nat.{ℕ, zero, suc, ◌+◌, ◌-◌, ◌*◌, ◌/◌, ◌^◌, ◌≤◌, ◌<◌}
use native.Mathlib.Omega.{arith}
use native.Mathlib.Nat.{suc-mul, le_trans}
use mathlib.Core.Path.{◌≡◌, refl, ap, subst, ◌∙◌}
use mathlib.Core.Bool.{Bool, true, false}
use mathlib.Core.List.{List, [], ◌∷◌, ◌++◌, map}
use borrow.Author.Tests.{leb-true, leb-false, le-leb}
use lib.Dec.{leb}
use lib.IntN.{ℤ, pos, negsuc}
use lib.ListN.{length, drop, get_or, length-append}
use mir.Syntax.{w32}
use mir.Val.{SFits}
use Rattle.number.specs.Number.{Bytes, signed_of}
use Rattle.buffer.specs.Rows.{All, all_rows, joined}
use Rattle.record.specs.Paths.{path_number}
use Rattle.record.specs.TokensAndTags as Tokens
use Rattle.record.specs.Cells as Cells
use Rattle.record.specs.Cells.{CellFits}
use Rattle.record.specs.declared.token.Token.{Token}
use Rattle.record.specs.declared.token.Content.{Content}
use Rattle.record.specs.declared.token.Content.TheVariants.{Live, Spent, Deferred}
use Rattle.record.specs.declared.cell.Cell.{Cell}
use Rattle.record.specs.declared.cell.Cell.TheVariants.{Absent, Waiting, Present}
use Rattle.buffer.proofs.Tables.{length_rows}
use Rattle.record.proofs.Fitting.{bytes_drop, signed_fits, token_fits, cell_fits, rows_fit}
use Rattle.record.specs.Widths.{token_width, cell_width}
use Rattle.rules.specs.Answer.{number_of, place_in}
use Rattle.rules.specs.declared.answer.Refusal.{Refusal}
use Rattle.rules.specs.declared.answer.Refusal.TheVariants.{GraphLength, UnknownOperation, FanOut, BadArc, BadSite, BadInput, BadStore, LedgerFull, SecondToken, NoSuchCell, SecondWrite, OutOfRange, Iteration, TooDeep, NoReturn, ProfileFull, NotLoopFree, NotEnabled, BadBound, BadArray, Undecided, DamagedState, BadExpression, GraphTooLong}
use Rattle.rules.specs.declared.answer.Outcome.{Outcome}
use Rattle.rules.specs.declared.answer.Outcome.TheVariants as Outcomes
use Rattle.rules.specs.declared.answer.Answer.{Answer}
use Rattle.text.specs.Words.{bytes}
use Rattle.std.specs.Prelude.{Ok}
use Rattle.text.specs.Text.{decimal, signed_decimal, line, outcome_fields, state_word, answer_line, token_line, stated_line, cell_line, cell_lines, lines, printed, printed_of}
use Rattle.text.specs.Room.{AnswerFits, most_bytes_of}
use Rattle.text.proofs.Paths.{path_short}
use Rattle.text.proofs.Decimals.{at_most, short}
use Rattle.text.proofs.Whole.{joined_append, line_token, line_cell}
use Rattle.record.specs.TokensAndTags.{value_in}

-- ---- a line by its fields: each has at most its number of bytes, and one byte behind it

abbrev Each : List (List ℕ) → List ℕ → Type 0
Each [] [] = Unit {0}
Each [] (k ∷ ks) = ⊥
Each (f ∷ fs) [] = ⊥
Each (f ∷ fs) (k ∷ ks) = (length f ≤ k) × Each fs ks

abbrev size : List ℕ → ℕ
size [] = 0
size (k ∷ ks) = k + 1 + size ks

line_within : (f : List ℕ) (fs : List (List ℕ)) (k : ℕ) (ks : List ℕ) → length f ≤ k → Each fs ks → length (line (f ∷ fs)) ≤ size (k ∷ ks)
line_within f [] k [] h e = omega (arith, length-append f (10 ∷ []))
line_within f [] k (l ∷ ks) h e = absurd e
line_within f (g ∷ fs) k [] h e = absurd e
line_within f (g ∷ fs) k (l ∷ ks) h e = omega (arith, length-append f (32 ∷ line (g ∷ fs)), line_within g fs l ks e.0 e.1)

-- ---- numbers

-- 11 bytes at most for 32 bits, signed
signed_short : (z : ℤ) → SFits w32 z → length (signed_decimal z) ≤ 11
signed_short (pos n) f = omega (arith, at_most 9 n (omega (arith, f.sfits)))
signed_short (negsuc n) f = omega (arith, at_most 9 (suc n) (omega (arith, f.sfits)))

number_short : (r : Refusal) → number_of r < 100
number_short GraphLength = omega arith
number_short UnknownOperation = omega arith
number_short FanOut = omega arith
number_short BadArc = omega arith
number_short BadSite = omega arith
number_short BadInput = omega arith
number_short BadStore = omega arith
number_short LedgerFull = omega arith
number_short SecondToken = omega arith
number_short NoSuchCell = omega arith
number_short SecondWrite = omega arith
number_short OutOfRange = omega arith
number_short Iteration = omega arith
number_short TooDeep = omega arith
number_short NoReturn = omega arith
number_short ProfileFull = omega arith
number_short NotLoopFree = omega arith
number_short NotEnabled = omega arith
number_short BadBound = omega arith
number_short BadArray = omega arith
number_short Undecided = omega arith
number_short DamagedState = omega arith
number_short BadExpression = omega arith
number_short GraphTooLong = omega arith

-- ---- the first line

-- of an outcome at most, with 20 digits to firings and tokens each and two to a refusal
abbrev pub most_first : Outcome → ℕ
most_first Outcomes.Completed = 54
most_first Outcomes.Hung = 49
most_first Outcomes.Spent = 50
most_first (Outcomes.Refused r place) = 54 + length (decimal place)

by_outcome : (o : Outcome) (f t : ℕ) → f < 2 ^ 64 → t < 2 ^ 64 → length (line (outcome_fields o ++ decimal f ∷ decimal t ∷ decimal (place_in o) ∷ [])) ≤ most_first o
by_outcome Outcomes.Completed f t hf ht =
    line_within (bytes "completed") (decimal f ∷ decimal t ∷ decimal 0 ∷ []) 9 (20 ∷ 20 ∷ 1 ∷ []) (omega arith) (short f hf, (short t ht, (at_most 0 0 (omega arith), tt)))
by_outcome Outcomes.Hung f t hf ht =
    line_within (bytes "hung") (decimal f ∷ decimal t ∷ decimal 0 ∷ []) 4 (20 ∷ 20 ∷ 1 ∷ []) (omega arith) (short f hf, (short t ht, (at_most 0 0 (omega arith), tt)))
by_outcome Outcomes.Spent f t hf ht =
    line_within (bytes "spent") (decimal f ∷ decimal t ∷ decimal 0 ∷ []) 5 (20 ∷ 20 ∷ 1 ∷ []) (omega arith) (short f hf, (short t ht, (at_most 0 0 (omega arith), tt)))
by_outcome (Outcomes.Refused r place) f t hf ht =
    le_trans (line_within (bytes "refused") (decimal (number_of r) ∷ decimal f ∷ decimal t ∷ decimal place ∷ []) 7 (2 ∷ 20 ∷ 20 ∷ length (decimal place) ∷ []) (omega arith)
    (at_most 1 (number_of r) (number_short r), (short f hf, (short t ht, (omega arith, tt))))) (omega arith)

pub first_short : (a : Answer) → a.firings < 2 ^ 64 → a.tokens < 2 ^ 64 → length (answer_line a) ≤ most_first a.outcome
unfolding answer_line
first_short a f t = by_outcome a.outcome a.firings a.tokens f t

most_first_lem : (o : Outcome) → place_in o < 2 ^ 64 → most_first o ≤ 74
most_first_lem Outcomes.Completed h = omega arith
most_first_lem Outcomes.Hung h = omega arith
most_first_lem Outcomes.Spent h = omega arith
most_first_lem (Outcomes.Refused r place) h = omega (arith, short place h)

pub answer_short : (a : Answer) → AnswerFits a → length (answer_line a) ≤ 74
answer_short a h = omega (arith, first_short a h.firings h.tokens, most_first_lem a.outcome h.place)

-- ---- the line of a token whose fields are those of a record

word_short : (c : Content) → length (state_word c) ≤ 8
word_short (Live v) = omega arith
word_short (Spent v) = omega arith
word_short (Deferred cell) = omega arith

value_short : (c : Content) → Tokens.ContentFits c → length (signed_decimal (value_in c)) ≤ 11
value_short (Live v) h = signed_short v h
value_short (Spent v) h = signed_short v h
value_short (Deferred cell) h = signed_short (signed_of cell) (signed_fits cell h)

pub token_short : (t : Token) → Tokens.TokenFits t → length (token_line t) ≤ 75
unfolding token_line
token_short t h =
    let i = decimal t.tag.iteration in
    let j = decimal t.tag.instruction in
    line_within (decimal (path_number t.tag.path)) (i ∷ j ∷ decimal t.port ∷ signed_decimal (value_in t.content) ∷ state_word t.content ∷ [])
    39 (3 ∷ 5 ∷ 3 ∷ 11 ∷ 8 ∷ [])
    (path_short t.tag.path h.path) (
      at_most 2 t.tag.iteration (omega (arith, h.iteration)),
      (
        at_most 4 t.tag.instruction (omega (arith, h.instruction)),
        (at_most 2 t.port (omega (arith, h.port)), (value_short t.content h.content, (word_short t.content, tt))),
      ),
    )

-- ---- the line of a cell

stated_short : (k : ℕ) (word : List ℕ) (v : ℤ) → k < 2 ^ 64 → length word ≤ 7 → SFits w32 v → length (stated_line k word v) ≤ 46
stated_short k word v h w f =
    line_within (bytes "cell") (decimal k ∷ word ∷ signed_decimal v ∷ []) 4 (20 ∷ 7 ∷ 11 ∷ []) (omega arith) (short k h, (w, (signed_short v f, tt)))

pub cell_short : (k : ℕ) (x : Cell) → k < 2 ^ 64 → CellFits x → length (cell_line k x) ≤ 46
unfolding cell_line
cell_short k Absent h f = omega arith
cell_short k Waiting h f = stated_short k (bytes "waiting") (pos 0) h (omega arith) (record { sfits = omega arith })
cell_short k (Present v) h f = stated_short k (bytes "present") v h (omega arith) f

-- ---- the lines of tokens and of cells that fit their records

tokens_within : (ts : List Token) → All Tokens.TokenFits ts → length (joined (λ (x : List ℕ). x) (map token_line ts)) ≤ length ts * 75
tokens_within [] f = omega arith
tokens_within (t ∷ ts) f =
    omega (arith, length-append (token_line t) (joined (λ (x : List ℕ). x) (map token_line ts)), token_short t f.0, tokens_within ts f.1, suc-mul (length ts) 75)

cells_within : (k : ℕ) (xs : List Cell) → k + length xs ≤ 2 ^ 64 → All CellFits xs → length (joined (λ (x : List ℕ). x) (cell_lines k xs)) ≤ length xs * 46
cells_within k [] h f = omega arith
cells_within k (x ∷ xs) h f =
    omega (arith, length-append (cell_line k x) (joined (λ (y : List ℕ). y) (cell_lines (suc k) xs)), cell_short k x (omega arith) f.0, cells_within (suc k) xs (omega arith) f.1, suc-mul (length xs) 46)

-- ---- the whole text, and each line of it

-- of lines whose tokens and cells fit their records
pub lines_within : (a : Answer) (listing cells : List ℕ) → All Tokens.TokenFits (all_rows token_width Tokens.decode_token listing) → All CellFits (all_rows cell_width Cells.decode_cell cells) → length cells < 2 ^ 64
    → length (printed a listing cells) ≤ length (answer_line a) + most_bytes_of listing cells
unfolding printed
lines_within a listing cells ft fc h =
    let n = length listing / token_width in
    let m = length cells / cell_width in
    let ts = all_rows token_width Tokens.decode_token listing in
    let cs = all_rows cell_width Cells.decode_cell cells in
    let jt = joined (λ (x : List ℕ). x) (map token_line ts) in
    let jc = joined (λ (x : List ℕ). x) (cell_lines 0 cs) in
    let many : length ts ≡ n = length_rows token_width Tokens.decode_token n listing in
    let more : length cs ≡ m = length_rows cell_width Cells.decode_cell m cells in
    let e : length (joined (λ (x : List ℕ). x) (map token_line ts ++ cell_lines 0 cs)) ≡ length jt + length jc = ap length (joined_append (map token_line ts) (cell_lines 0 cs)) ∙ length-append jt jc in
    let wt : length jt ≤ n * 75 = subst (λ (k : ℕ). length jt ≤ k * 75) many (tokens_within ts ft) in
    let wc : length jc ≤ m * 46 = subst (λ (k : ℕ). length jc ≤ k * 46) more (cells_within 0 cs (omega arith) fc) in
    omega (arith, length-append (answer_line a) (joined (λ (x : List ℕ). x) (map token_line ts ++ cell_lines 0 cs)), e)

pub fitting_within : (a : Answer) (listing cells : List ℕ) → AnswerFits a → All Tokens.TokenFits (all_rows token_width Tokens.decode_token listing) → All CellFits (all_rows cell_width Cells.decode_cell cells) → length cells < 2 ^ 64
    → length (printed a listing cells) ≤ 74 + most_bytes_of listing cells
fitting_within a listing cells f ft fc h = omega (arith, lines_within a listing cells ft fc h, answer_short a f)

-- of bytes, whatever they are
pub bytes_within : (a : Answer) (listing cells : List ℕ) → Bytes listing → Bytes cells → length cells < 2 ^ 64
    → length (printed a listing cells) ≤ length (answer_line a) + most_bytes_of listing cells
bytes_within a listing cells bl bc h =
    lines_within a listing cells (rows_fit Tokens.TokenFits Tokens.decode_token token_fits token_width (length listing / token_width) listing bl) (rows_fit CellFits Cells.decode_cell cell_fits cell_width (length cells / cell_width) cells bc) h

pub text_within : (a : Answer) (listing cells : List ℕ) → AnswerFits a → Bytes listing → Bytes cells → length cells < 2 ^ 64
    → length (printed a listing cells) ≤ 74 + most_bytes_of listing cells
text_within a listing cells f bl bc h = omega (arith, bytes_within a listing cells bl bc h, answer_short a f)

pub line_short : (a : Answer) (listing cells : List ℕ) → length (answer_line a) ≤ 74 → Bytes listing → Bytes cells → length cells < 2 ^ 64
    → (j : ℕ) → j < 1 + (length listing / token_width + length cells / cell_width) → length (get_or (lines a listing cells) j []) ≤ 75
line_short a listing cells f bl bc h zero lt = omega arith
line_short a listing cells f bl bc h (suc i) lt = go (leb (suc i) (length listing / token_width)) refl
  where
    go : (b : Bool) → leb (suc i) (length listing / token_width) ≡ b → length (get_or (lines a listing cells) (suc i) []) ≤ 75
    go true e =
        let k = (suc i - 1) * token_width in
        let s = token_short (Tokens.token_at listing (suc i - 1)) (token_fits (drop k listing) (bytes_drop k listing bl)) in
        rw (line_token a listing cells (suc i) (λ z. absurd (omega arith)) (leb-true (suc i) (length listing / token_width) e)) (omega arith)
    go false e =
        let k = suc i - 1 - length listing / token_width in
        let s = cell_short k (Cells.cell_of_record cells k) (omega arith) (cell_fits (drop (k * cell_width) cells) (bytes_drop (k * cell_width) cells bc)) in
        rw (line_cell a listing cells (suc i) (leb-false (suc i) (length listing / token_width) e) lt) (omega arith)

-- where there is so much room, printing is done
pub fits_in : (a : Answer) (listing cells out : List ℕ) → AnswerFits a → Bytes listing → Bytes cells → length cells < 2 ^ 64
    → 74 + most_bytes_of listing cells ≤ length out → printed_of (printed a listing cells) out ≡ Ok (length (printed a listing cells))
unfolding printed_of
fits_in a listing cells out f bl bc h room =
    rw (le-leb (length (printed a listing cells)) (length out) (omega (arith, text_within a listing cells f bl bc h)))

-- and what is written is within what is lent
pub done_within : (text out : List ℕ) (n : ℕ) → printed_of text out ≡ Ok n → n ≤ length out
unfolding printed_of
done_within text out n e = go (leb (length text) (length out)) refl
  where
    go : (b : Bool) → leb (length text) (length out) ≡ b → n ≤ length out
    go true p = let q = rw p at e in let r : length text ≡ n = cc in omega (arith, leb-true (length text) (length out) p)
    go false p = let q = rw p at e in absurd (cc)
