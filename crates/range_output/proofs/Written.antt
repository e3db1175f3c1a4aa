-- Records that are put one behind the other, over any kind of record: what is written after each (`write_next`), and in the end (`write_all`); and records that
-- are read in turn and put as what they mean (`Passed`). A range record has 32 bytes, and 12 if it is a cell's. Assumes nothing.
use Prim.Native.Nat.{ℕ, zero, suc, ◌+◌, ◌*◌, ◌≤◌, ◌<◌}
use mathlib.Core.Path.{◌≡◌, refl, sym, ap, ◌∙◌}
use mathlib.Core.List.{List, [], ◌∷◌, ◌++◌, map, append-nil}
use native.Mathlib.Numerals.{add-one}
use native.Mathlib.Omega.{arith}
use native.Mathlib.Nat.{suc-mul, zero-mul, zero-add}
use lib.ListN.{length, get_or, take, drop, length-append, length-drop, length-map}
use lib.Seq.{drop-length, drop-append-add, take_at, take-suc, length-take-le, take_all, drop-drop}
use Rattle.record.specs.declared.tag.Tag.{Tag}
use Rattle.record.specs.Widths.{range_token_width, range_cell_width}
use Rattle.record.specs.TokensAndTags as Tokens
use Rattle.record.specs.Cells as Cells
use Rattle.arithmetic.specs.declared.Range.{Range}
use Rattle.buffer.specs.Rows.{written, put_row, rows, joined, written_over}
use Rattle.buffer.proofs.Tables.{length_joined, put_end, length_rows, get_d_rows}
use Rattle.machine.specs.Machine.{Token, Cell, absent, waiting, present}
use Rattle.rules.specs.RangeRun.{encode_range, encode_range_cell}

pub get_d_map : {A B : Type 0} (f : A → B) (xs : List A) (k : ℕ) (d : A) → get_or (map f xs) k (f d) ≡ f (get_or xs k d)
get_d_map f [] k d = refl
get_d_map f (x ∷ xs) zero d = refl
get_d_map f (x ∷ xs) (suc k) d = get_d_map f xs k d

module _ {A : Type 0} (w : ℕ) (enc : A → List ℕ) (len : (a : A) → length (enc a) ≡ w) (xs : List A) (lent : List ℕ) where
  -- after the first i records
  abbrev pub up_to : ℕ → List ℕ
  up_to i = joined enc (take i xs) ++ drop (i * w) lent

  pub write_next : (d : A) (i : ℕ) → i < length xs → put_row w (up_to i) i (enc (get_or xs i d)) ≡ up_to (i + 1)
  write_next d i h =
      let many : length (take i xs) ≡ i = length-take-le i xs (omega arith) in
      let one : i * w + w ≡ (i + 1) * w = sym (suc-mul i w) ∙ ap (λ (k : ℕ). k * w) (sym (add-one i)) in
      let past : drop w (drop (i * w) lent) ≡ drop ((i + 1) * w) lent = drop-drop w (i * w) lent ∙ ap (λ (k : ℕ). drop k lent) one in
      let more : take i xs ++ get_or xs i d ∷ [] ≡ take (i + 1) xs = sym (ap (λ (k : ℕ). take k xs) (add-one i) ∙ take-suc xs i d h) in
      ap (λ (k : ℕ). put_row w (up_to i) k (enc (get_or xs i d))) (sym many)
      ∙ put_end w enc len (take i xs) (drop (i * w) lent) (get_or xs i d)
      ∙ (λ j. joined enc (more j) ++ past j)

  -- every byte stays or is written
  pub length_up_to : (i : ℕ) → i ≤ length xs → i * w ≤ length lent → length (up_to i) ≡ length lent
  length_up_to i h k =
      length-append (joined enc (take i xs)) (drop (i * w) lent)
      ∙ ap (λ (n : ℕ). n + length (drop (i * w) lent)) (length_joined w enc len (take i xs) ∙ ap (λ (n : ℕ). n * w) (length-take-le i xs h))
      ∙ omega (arith, length-drop (i * w) lent)

  pub write_all : up_to (length xs) ≡ written_over enc xs lent
  write_all = (λ j. joined enc (take_all (length xs) xs (omega arith) j) ++ drop (sym (length_joined w enc len xs) j) lent)

module _ {A B : Type 0} (w : ℕ) (dec : List ℕ → A) (meant : A → B) (v : ℕ) (enc : B → List ℕ) (len : (b : B) → length (enc b) ≡ v) (n : ℕ) (src lent : List ℕ) where
  -- the first i of n records were read, and what they mean is written
  pub record Passed (out : List ℕ) (i : ℕ) : Type 0 where
    pub within : i ≤ n
    pub held : out ≡ up_to v enc len (map meant (rows w dec n src)) lent i
    pub size : length out ≡ length lent

length_meant : {A B : Type 0} (w : ℕ) (dec : List ℕ → A) (meant : A → B) (n : ℕ) (src : List ℕ) → length (map meant (rows w dec n src)) ≡ n
length_meant w dec meant n src = length-map (rows w dec n src) meant ∙ length_rows w dec n src

module _ {A B : Type 0} {w : ℕ} {dec : List ℕ → A} {meant : A → B} {v : ℕ} {enc : B → List ℕ} {len : (b : B) → length (enc b) ≡ v} {n : ℕ} {src lent : List ℕ} where
  pub passed_none : Passed w dec meant v enc len n src lent lent 0
  passed_none = record { within = omega arith; held = rw (zero-mul v); size = refl }

  -- one record more, a, whose bytes are b
  pub passed_more : {out out' b : List ℕ} {i : ℕ} {a : A} → Passed w dec meant v enc len n src lent out i → i < n → (i + 1) * v ≤ length lent
      → a ≡ dec (drop (i * w) src) → b ≡ enc (meant a) → out' ≡ put_row v out i b → Passed w dec meant v enc len n src lent out' (i + 1)
  passed_more {out' = out'} {i = i} {a = a} p h room e r q =
      let all = map meant (rows w dec n src) in
      let many = length_meant w dec meant n src in
      let same : get_or all i (meant (dec [])) ≡ meant a = get_d_map meant (rows w dec n src) i (dec []) ∙ ap meant (get_d_rows w dec n i src (dec []) h ∙ sym e) in
      let next : out' ≡ up_to v enc len all lent (i + 1) = q ∙ rw (p.held, r, ← same) (write_next v enc len all lent (meant (dec [])) i (omega arith)) in
      record { within = omega arith; held = next; size = ap length next ∙ length_up_to v enc len all lent (i + 1) (omega arith) room }

  pub passed_all : {out : List ℕ} {i : ℕ} → Passed w dec meant v enc len n src lent out i → n ≤ i → out ≡ written_over enc (map meant (rows w dec n src)) lent
  passed_all {i = i} p h =
      let all = map meant (rows w dec n src) in
      let e : i ≡ length all = omega (arith, length_meant w dec meant n src, p.within) in
      p.held ∙ ap (up_to v enc len all lent) e ∙ write_all v enc len all lent

pub length_token : (t : Token Tag Range) → length (encode_range t) ≡ range_token_width
unfolding encode_range Tokens.encode_token
length_token t = refl

pub length_cell : (c : Cell Range) → length (encode_range_cell c) ≡ range_cell_width
unfolding encode_range_cell Cells.encode_cell
length_cell absent = refl
length_cell waiting = refl
length_cell (present r) = refl

-- a record is written, and then what is behind it
pub at_end : (zeros front behind : List ℕ) → length front + length behind ≡ length zeros → written (written zeros 0 front) (length front) behind ≡ front ++ behind
unfolding written
at_end zeros front behind e =
    let rest = drop (length front) zeros in
    let past : drop (length front + length behind) (front ++ rest) ≡ [] =
    drop-append-add front rest (length behind) ∙ drop-drop (length behind) (length front) zeros ∙ ap (λ (k : ℕ). drop k zeros) e ∙ drop-length zeros in
    rw (zero-add (length front), take_at front rest (length front) refl, past, append-nil behind) refl
