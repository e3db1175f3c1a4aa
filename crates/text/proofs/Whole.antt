-- Lemmas on the lines one after another: which one stands where, and the text of the first j of them. Assumes nothing.
use Prim.Native.Nat.{ℕ, zero, suc, ◌+◌, ◌-◌, ◌*◌, ◌/◌, ◌≤◌, ◌<◌}
use native.Mathlib.Omega.{arith}
use native.Mathlib.Numerals.{add-one}
use native.Mathlib.Nat.{not-suc-le-zero, le_of_suc-le-suc, suc-mul, zero-mul, add_comm, zero-add}
use mathlib.Core.Path.{◌≡◌, refl, sym, ap, ◌∙◌}
use mathlib.Core.List.{List, [], ◌∷◌, ◌++◌, map, append_assoc, append-nil}
use lib.ListN.{length, get_or, take, drop, length-append, length-map, take-append-drop, get_or-append}
use lib.Seq.{take-suc, take_all, drop-drop, get_or-append-add}
use Rattle.buffer.specs.Rows.{rows, joined}
use Rattle.record.specs.TokensAndTags as Tokens
use Rattle.record.specs.Cells as Cells
use Rattle.record.specs.declared.cell.Cell.{Cell}
use Rattle.buffer.proofs.Tables.{length_rows, get_d_rows}
use Rattle.record.specs.Widths.{token_width, cell_width}
use Rattle.rules.specs.declared.answer.Answer.{Answer}
use Rattle.text.specs.Text.{token_line, cell_line, cell_lines, lines}

-- ---- which line stands where

pub map_rows : {A B : Type 0} (f : A → B) (w : ℕ) (dec : List ℕ → A) (n : ℕ) (l : List ℕ) → map f (rows w dec n l) ≡ rows w (λ b. f (dec b)) n l
map_rows f w dec zero l = refl
map_rows f w dec (suc n) l = rw (map_rows f w dec n (drop w l))

pub length_cells : (k : ℕ) (xs : List Cell) → length (cell_lines k xs) ≡ length xs
length_cells k [] = refl
length_cells k (x ∷ xs) = ap suc (length_cells (suc k) xs)

pub cell_line_lem : (k m i : ℕ) (l : List ℕ) → i < m → get_or (cell_lines k (rows cell_width Cells.decode_cell m l)) i [] ≡ cell_line (k + i) (Cells.decode_cell (drop (i * cell_width) l))
cell_line_lem k zero i l h = absurd (not-suc-le-zero h)
cell_line_lem k (suc m) zero l h = let e : k ≡ k + 0 = omega arith in rw (zero-mul cell_width, ← e)
cell_line_lem k (suc m) (suc i) l h =
    let e : suc k + i ≡ k + suc i = omega arith in
    cell_line_lem (suc k) m i (drop cell_width l) (le_of_suc-le-suc h) ∙ rw (drop-drop (i * cell_width) cell_width l, suc-mul i cell_width, add_comm (i * cell_width) cell_width, e)

module _ (a : Answer) (listing cells : List ℕ) where
  abbrev n : ℕ
  n = length listing / token_width

  abbrev m : ℕ
  m = length cells / cell_width

  abbrev tokens : List (List ℕ)
  tokens = map token_line (rows token_width Tokens.decode_token n listing)

  abbrev below : List (List ℕ)
  below = cell_lines 0 (rows cell_width Cells.decode_cell m cells)

  length_tokens : length tokens ≡ n
  length_tokens = length-map (rows token_width Tokens.decode_token n listing) token_line ∙ length_rows token_width Tokens.decode_token n listing

  pub length_lines : length (lines a listing cells) ≡ 1 + (n + m)
  length_lines =
      omega (arith, length-append tokens below, length_tokens, length_cells 0 (rows cell_width Cells.decode_cell m cells), length_rows cell_width Cells.decode_cell m cells)

  pub line_token : (j : ℕ) → (j ≡ 0 → ⊥) → j ≤ n → get_or (lines a listing cells) j [] ≡ token_line (Tokens.token_at listing (j - 1))
  line_token zero z h = absurd (z refl)
  line_token (suc i) z h =
      let e : suc i - 1 ≡ i = omega arith in
      let lt : i < n = omega arith in
      rw e (get_or-append tokens below [] i (omega (arith, length_tokens))
      ∙ ap (λ (l : List (List ℕ)). get_or l i []) (map_rows token_line token_width Tokens.decode_token n listing)
      ∙ get_d_rows token_width (λ b. token_line (Tokens.decode_token b)) n i listing [] lt)

  pub line_cell : (j : ℕ) → n < j → j < 1 + (n + m) → get_or (lines a listing cells) j [] ≡ cell_line (j - 1 - n) (Cells.cell_of_record cells (j - 1 - n))
  line_cell zero h k = absurd (omega arith)
  line_cell (suc i) h k =
      let x = suc i - 1 - n in
      let e : i ≡ length tokens + x = omega (arith, length_tokens) in
      let z : 0 + x ≡ x = zero-add x in
      ap (λ (p : ℕ). get_or (tokens ++ below) p []) e ∙ get_or-append-add tokens below x [] ∙ cell_line_lem 0 m x cells (omega arith) ∙ rw z

-- ---- the text of the first j lines

pub joined_append : (xs ys : List (List ℕ)) → joined (λ (l : List ℕ). l) (xs ++ ys) ≡ joined (λ (l : List ℕ). l) xs ++ joined (λ (l : List ℕ). l) ys
joined_append [] ys = refl
joined_append (x ∷ xs) ys = rw (joined_append xs ys) (sym (append_assoc x (joined (λ (l : List ℕ). l) xs) (joined (λ (l : List ℕ). l) ys)))

module _ (ls : List (List ℕ)) where
  abbrev pub made : ℕ → List ℕ
  made j = joined (λ (l : List ℕ). l) (take j ls)

  pub made_next : (j : ℕ) → j < length ls → made (j + 1) ≡ made j ++ get_or ls j []
  made_next j h =
      ap made (add-one j) ∙ ap (joined (λ (l : List ℕ). l)) (take-suc ls j [] h) ∙ joined_append (take j ls) (get_or ls j [] ∷ [])
      ∙ ap (λ (l : List ℕ). made j ++ l) (append-nil (get_or ls j []))

  pub made_longer : (j : ℕ) → j < length ls → length (made (j + 1)) ≡ length (made j) + length (get_or ls j [])
  made_longer j h = ap length (made_next j h) ∙ length-append (made j) (get_or ls j [])

  pub made_all : (j : ℕ) → length ls ≤ j → made j ≡ joined (λ (l : List ℕ). l) ls
  made_all j h = ap (joined (λ (l : List ℕ). l)) (take_all j ls h)

  pub made_within : (j : ℕ) → length (made j) ≤ length (joined (λ (l : List ℕ). l) ls)
  made_within j =
      let e = ap (λ (l : List (List ℕ)). length (joined (λ (l : List ℕ). l) l)) (take-append-drop j ls) in
      omega (arith, e, ap length (joined_append (take j ls) (drop j ls)), length-append (made j) (joined (λ (l : List ℕ). l) (drop j ls)))
