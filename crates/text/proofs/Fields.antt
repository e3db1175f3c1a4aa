-- Lemmas on the fields of a token's line: digits of the table, the word of a state; on lines put from any place on; and on cells that have none. Assumes nothing.
use Prim.Native.Nat.{ℕ, zero, suc, ◌+◌, ◌*◌, ◌/◌, ◌%◌, ◌≤◌, ◌<◌}
use native.Mathlib.Omega.{arith}
use native.Mathlib.Nat.{zero-add}
use mathlib.Core.Path.{◌≡◌, refl, sym, ap, ◌∙◌}
use mathlib.Core.Bool.{Bool, true, false}
use mathlib.Core.List.{List, [], ◌++◌, append-nil}
use lib.Dec.{T, eqb, ltb, eqb→eq}
use lib.Bits.{bit_or, or_comm, or_add_and, and_le_r}
use lib.ListN.{length, get_or, drop, length-map}
use lib.Seq.{get_or-drop}
use borrow.Author.Tests.{eq-eqb, ne_eqb, lt-ltb, le-ltb, ltb-true, ltb-false}
use Rattle.number.specs.Number.{signed_of}
use Rattle.number.specs.Number as Number
use Rattle.buffer.specs.Rows.{rows}
use Rattle.buffer.proofs.Tables.{length_rows, get_d_rows}
use Rattle.record.specs.TokensAndTags as Tokens
use Rattle.record.specs.TokensAndTags.{content_of, state_of, value_in}
use Rattle.record.specs.declared.token.Content.{Content}
use Rattle.record.specs.declared.token.Content.TheVariants.{Live, Spent, Deferred}
use Rattle.record.specs.Cells as Cells
use Rattle.record.specs.declared.cell.Cell.TheVariants.{Absent}
use Rattle.record.specs.Widths.{token_width, cell_width}
use Rattle.record.proofs.Computed.{every, at}
use Rattle.text.specs.Words.{bytes}
use Rattle.text.specs.Text.{digit, decimal, state_word, token_line, cell_line}
use Rattle.text.specs.Lines.{RoomForText, AddedText, packed_digits, Table, text_of_lines, token_lines, lines_of_cells, AbsentFrom}
use Rattle.text.proofs.Decimals.{decimal_digit, length_more}
use Rattle.text.proofs.Lines.{both}
use Rattle.text.proofs.Whole.{map_rows, length_cells, cell_line_lem, made, made_next, made_longer, made_within}

-- ---- the table

abbrev pub right : ℕ → ℕ → Bool
right n x = eqb x (packed_digits n)

pub tabled : (t : List ℕ) → T (every right 0 t) → length t ≡ 1000 → Table t
tabled t h e = record { entry = λ n l. eqb→eq (get_or t n 0) (packed_digits n) (at right t h n (omega arith)) }

-- the digits are its bytes
module _ (n : ℕ) where
  pub two : n < 100 → (packed_digits n % 256 ≡ digit (n / 10)) × (packed_digits n / 256 % 256 ≡ digit (n % 10))
  two l = rw (lt-ltb n 100 l) (omega arith, omega arith)

  pub three : 100 ≤ n → n < 1000 → (packed_digits n % 256 ≡ digit (n / 100)) × (packed_digits n / 256 % 256 ≡ digit (n / 10 % 10)) × (packed_digits n / 65536 % 256 ≡ digit (n % 10))
  three l k = rw (le-ltb n 100 l) (omega arith, omega arith, omega arith)

-- ---- how many digits there are at least

pub long1 : (n : ℕ) → 1 ≤ length (decimal n)
long1 n = go (ltb n 10) refl
  where
    go : (t : Bool) → ltb n 10 ≡ t → 1 ≤ length (decimal n)
    go true e = rw (decimal_digit n (ltb-true n 10 e)) (omega arith)
    go false e = omega (arith, length_more n (ltb-false n 10 e))

pub long2 : (n : ℕ) → 10 ≤ n → 2 ≤ length (decimal n)
long2 n h = omega (arith, length_more n h, long1 (n / 10))

pub long3 : (n : ℕ) → 100 ≤ n → 3 ≤ length (decimal n)
long3 n h = omega (arith, length_more n (omega arith), long2 (n / 10) (omega arith))

-- ---- the content of a state

pub value_of : (b state : ℕ) → value_in (content_of b state) ≡ signed_of b
unfolding content_of
value_of b state = go (eqb state 0) refl (eqb state 1) refl
  where
    go : (t : Bool) → eqb state 0 ≡ t → (u : Bool) → eqb state 1 ≡ u → value_in (content_of b state) ≡ signed_of b
    go true e u f = rw e
    go false e true f = rw (e, f)
    go false e false f = rw (e, f)

module _ (b state : ℕ) where
  pub word_live : state ≡ 0 → state_word (content_of b state) ≡ bytes "live"
  unfolding content_of
  word_live e = rw (eq-eqb state 0 e)

  pub word_spent : state ≡ 1 → state_word (content_of b state) ≡ bytes "spent"
  unfolding content_of
  word_spent e = rw (ne_eqb state 0 (λ z. omega arith), eq-eqb state 1 e)

  pub word_deferred : (state ≡ 0 → ⊥) → (state ≡ 1 → ⊥) → state_word (content_of b state) ≡ bytes "deferred"
  unfolding content_of
  word_deferred n m = rw (ne_eqb state 0 n, ne_eqb state 1 m)

-- the word goes by the state alone
pub word_of_state : (x : Content) → state_word (content_of 0 (state_of x)) ≡ state_word x
unfolding content_of
word_of_state (Live v) = refl
word_of_state (Spent v) = refl
word_of_state (Deferred cell) = refl

-- ---- which line stands where

pub count_tokens : (listing : List ℕ) → length (token_lines listing) ≡ length listing / token_width
count_tokens listing =
    length-map (rows token_width Tokens.decode_token (length listing / token_width) listing) token_line ∙ length_rows token_width Tokens.decode_token (length listing / token_width) listing

pub token_at_lem : (listing : List ℕ) (i : ℕ) → i < length listing / token_width → get_or (token_lines listing) i [] ≡ token_line (Tokens.decode_token (drop (i * token_width) listing))
token_at_lem listing i h =
    ap (λ (l : List (List ℕ)). get_or l i []) (map_rows token_line token_width Tokens.decode_token (length listing / token_width) listing)
    ∙ get_d_rows token_width (λ b. token_line (Tokens.decode_token b)) (length listing / token_width) i listing [] h

pub count_cells : (cells : List ℕ) → length (lines_of_cells cells) ≡ length cells / cell_width
count_cells cells = length_cells 0 (rows cell_width Cells.decode_cell (length cells / cell_width) cells) ∙ length_rows cell_width Cells.decode_cell (length cells / cell_width) cells

pub cell_at_lem : (cells : List ℕ) (k : ℕ) → k < length cells / cell_width → get_or (lines_of_cells cells) k [] ≡ cell_line k (Cells.cell_of_record cells k)
cell_at_lem cells k h = cell_line_lem 0 (length cells / cell_width) k cells h ∙ rw (zero-add k)

-- ---- the first j lines are put from a place on: `at` is where they end

module _ (ls : List (List ℕ)) {lent out : List ℕ} {start at : ℕ} (j : ℕ) (lt : j < length ls) (a : AddedText lent out start at (made ls j)) where
  pub line_room : RoomForText lent start (text_of_lines ls) → RoomForText out at (get_or ls j [])
  line_room h = record { room = omega (arith, h.room, a.place, a.kept, made_longer ls j lt, made_within ls (j + 1)) }

  pub line_made : {after : List ℕ} {r : ℕ} → AddedText out after at r (get_or ls j []) → AddedText lent after start r (made ls (j + 1))
  line_made b = rw (made_next ls j lt) (both a b)

-- ---- cells that are passed over

-- where the states of eight cells have no bit, each of them is 0
or_none : (a b : ℕ) → bit_or a b ≡ 0 → (a ≡ 0) × (b ≡ 0)
or_none a b e = (omega (arith, or_add_and a b, and_le_r a b), omega (arith, or_comm a b, or_add_and b a, and_le_r b a))

-- the state of the j-th cell from k on
state_from : (cells : List ℕ) (k j : ℕ) → Number.byte_at (drop ((k + j) * cell_width) cells) 4 ≡ Number.byte_at (drop (k * cell_width) cells) (j * cell_width + 4)
state_from cells k j =
    let e : (k + j) * cell_width + 4 ≡ k * cell_width + (j * cell_width + 4) = omega arith in
    get_or-drop ((k + j) * cell_width) cells 4 0 ∙ ap (λ (i : ℕ). get_or cells i 0) e ∙ sym (get_or-drop (k * cell_width) cells (j * cell_width + 4) 0)

-- byte i from cell k on is 0
abbrev zero_in : (cells : List ℕ) → (k i : ℕ) → Type 0
zero_in cells k i = Number.byte_at (drop (k * cell_width) cells) i ≡ 0

absent_at : (cells : List ℕ) (k j : ℕ) → zero_in cells k (j * cell_width + 4) → Cells.cell_of_record cells (k + j) ≡ Absent
unfolding Cells.decode_cell Cells.cell_of
absent_at cells k j e = rw (state_from cells k j ∙ e)

pub eight_absent : (cells : List ℕ) (k : ℕ) → let s = drop (k * cell_width) cells in
    bit_or (bit_or (bit_or (bit_or (bit_or (bit_or (bit_or (Number.byte_at s 4) (Number.byte_at s 12)) (Number.byte_at s 20)) (Number.byte_at s 28)) (Number.byte_at s 36)) (Number.byte_at s 44)) (Number.byte_at s 52)) (Number.byte_at s 60) ≡ 0 → AbsentFrom cells k 8
eight_absent cells k e =
    let h7 = or_none _ _ e in
    let h6 = or_none _ _ h7.0 in
    let h5 = or_none _ _ h6.0 in
    let h4 = or_none _ _ h5.0 in
    let h3 = or_none _ _ h4.0 in
    let h2 = or_none _ _ h3.0 in
    let h1 = or_none _ _ h2.0 in
    each h1.0 h1.1 h2.1 h3.1 h4.1 h5.1 h6.1 h7.1
  where
    each : zero_in cells k 4 → zero_in cells k 12 → zero_in cells k 20 → zero_in cells k 28 → zero_in cells k 36 → zero_in cells k 44 → zero_in cells k 52 → zero_in cells k 60 → AbsentFrom cells k 8
    each a b c d e f g h zero l = absent_at cells k 0 a
    each a b c d e f g h (suc zero) l = absent_at cells k 1 b
    each a b c d e f g h (suc (suc zero)) l = absent_at cells k 2 c
    each a b c d e f g h (suc (suc (suc zero))) l = absent_at cells k 3 d
    each a b c d e f g h (suc (suc (suc (suc zero)))) l = absent_at cells k 4 e
    each a b c d e f g h (suc (suc (suc (suc (suc zero))))) l = absent_at cells k 5 f
    each a b c d e f g h (suc (suc (suc (suc (suc (suc zero)))))) l = absent_at cells k 6 g
    each a b c d e f g h (suc (suc (suc (suc (suc (suc (suc zero))))))) l = absent_at cells k 7 h
    each a b c d e f g h (suc (suc (suc (suc (suc (suc (suc (suc j)))))))) l = absurd (omega arith)

-- so their lines are none
pub made_passed : (cells : List ℕ) (k n : ℕ) → k + n ≤ length cells / cell_width → AbsentFrom cells k n → made (lines_of_cells cells) (k + n) ≡ made (lines_of_cells cells) k
unfolding cell_line
made_passed cells k zero h a = let e : k + 0 ≡ k = omega arith in rw e
made_passed cells k (suc n) h a =
    let e : k + suc n ≡ k + n + 1 = omega arith in
    let lt : k + n < length (lines_of_cells cells) = omega (arith, count_cells cells) in
    ap (made (lines_of_cells cells)) e
    ∙ made_next (lines_of_cells cells) (k + n) lt
    ∙ ap (λ (l : List ℕ). made (lines_of_cells cells) (k + n) ++ l) (cell_at_lem cells (k + n) (omega arith) ∙ rw (a n (omega arith)))
    ∙ append-nil (made (lines_of_cells cells) (k + n))
    ∙ made_passed cells k n (omega arith) (λ j l. a j (omega arith))
