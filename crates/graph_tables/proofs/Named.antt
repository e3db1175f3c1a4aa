-- The named arrays in the tables of a run, one after the other. Assumes nothing.
use Prim.Native.Nat.{ℕ, zero, suc, ◌+◌, ◌*◌, ◌/◌, ◌≤◌, ◌<◌}
use native.Mathlib.Omega.{arith}
use native.Mathlib.Nat.{zero-add}
use mathlib.Core.Path.{◌≡◌, refl, sym, ap, ◌∙◌}
use mathlib.Core.Bool.{Bool, true, false}
use mathlib.Core.List.{List, ◌∷◌}
use lib.ListN.{length, get_or, set, drop, length-set}
use lib.Seq.{get_or-set_same, get_or-set_other, drop-drop}
use lib.Dec.{eqb}
use borrow.Author.Tests.{eqb-true, eqb-false}
use Rattle.record.specs.declared.array.NamedArray.{NamedArray}
use Rattle.buffer.specs.Rows.{rows}
use Rattle.record.specs.Widths.{array_width}
use Rattle.record.specs.Arrays.{most_arrays, array_in, arrays_of}
use Rattle.record.specs.Arrays as Arrays
use Rattle.rules.specs.Needs.{list_from}
use Rattle.abstraction.specs.Tables.{array_from, arrays_in}

-- the first i are in the table, and what stands before and behind them is as it was
pub record Naming (arrays before after : List ℕ) (i : ℕ) : Type 0 where
  pub few : i ≤ length arrays / array_width
  pub most : length arrays / array_width ≤ most_arrays
  pub size : length after ≡ 641
  pub count : get_or after 256 0 ≡ length arrays / array_width
  pub named : (k : ℕ) → k < i → array_from after k ≡ array_in arrays k
  pub returns : (k : ℕ) → k < 256 → get_or after k 0 ≡ get_or before k 0
  pub counts : (k : ℕ) → get_or after (k + 385) 0 ≡ get_or before (k + 385) 0

-- once their number is there
pub none_named : (arrays lent : List ℕ) → length arrays / array_width ≤ most_arrays → length lent ≡ 641
    → Naming arrays (set lent 256 (length arrays / array_width)) (set lent 256 (length arrays / array_width)) 0
none_named arrays lent most size = record {
  few = omega arith;
  most = most;
  size = length-set lent 256 (length arrays / array_width) ∙ size;
  count = get_or-set_same lent 256 (length arrays / array_width) 0 (omega arith);
  named = λ k h. absurd (omega arith);
  returns = λ k h. refl;
  counts = λ k. refl;
}

-- the number stands between the two
pub other_entry : (lent : List ℕ) (n k : ℕ) → ¬ (k ≡ 256) → get_or (set lent 256 n) k 0 ≡ get_or lent k 0
other_entry lent n k h = get_or-set_other lent 256 k n 0 h

module _ (arrays before : List ℕ) where
  module _ (after : List ℕ) (i : ℕ) (h : Naming arrays before after i) (here : i < length arrays / array_width) (a : NamedArray) (e : a ≡ array_in arrays i) where
    abbrev once : List ℕ
    once = set after (i * 2 + 257) a.first

    abbrev twice : List ℕ
    twice = set once (i * 2 + 258) a.length

    other : (k : ℕ) → ¬ (k ≡ i * 2 + 257) → ¬ (k ≡ i * 2 + 258) → get_or twice k 0 ≡ get_or after k 0
    other k n m = get_or-set_other once (i * 2 + 258) k a.length 0 m ∙ get_or-set_other after (i * 2 + 257) k a.first 0 n

    first : get_or twice (i * 2 + 257) 0 ≡ a.first
    first = get_or-set_other once (i * 2 + 258) (i * 2 + 257) a.length 0 (λ e. omega arith) ∙ get_or-set_same after (i * 2 + 257) a.first 0 (omega (arith, h.size, h.most))

    second : get_or twice (i * 2 + 258) 0 ≡ a.length
    second = get_or-set_same once (i * 2 + 258) a.length 0 (omega (arith, length-set after (i * 2 + 257) a.first, h.size, h.most))

    by_place : (k : ℕ) → k < i + 1 → (b : Bool) → eqb k i ≡ b → array_from twice k ≡ array_in arrays k
    by_place k l true p =
        let z = eqb-true k i p in
        rw z ((λ j. record { first = first j; length = second j }) ∙ e)
    by_place k l false p =
        let n = eqb-false k i p in
        let u = other (k * 2 + 257) (λ q. n (omega arith)) (λ q. omega arith) in
        let v = other (k * 2 + 258) (λ q. omega arith) (λ q. n (omega arith)) in
        let low : k < i = omega (arith, n) in
        (λ j. record { first = u j; length = v j }) ∙ h.named k (omega arith)

    pub one_more : Naming arrays before twice (i + 1)
    one_more = record {
      few = omega arith;
      most = h.most;
      size = length-set once (i * 2 + 258) a.length ∙ length-set after (i * 2 + 257) a.first ∙ h.size;
      count = other 256 (λ q. omega arith) (λ q. omega arith) ∙ h.count;
      named = λ k l. by_place k l (eqb k i) refl;
      returns = λ k l. other k (λ q. omega arith) (λ q. omega arith) ∙ h.returns k l;
      counts = λ k. other (k + 385) (λ q. omega (arith, h.most)) (λ q. omega (arith, h.most)) ∙ h.counts k;
    }

-- as a list
listed_rows : (arrays : List ℕ) (f : ℕ → NamedArray) (n i : ℕ) → ((k : ℕ) → k < n → f (i + k) ≡ array_in arrays (i + k)) → list_from i n f ≡ rows array_width Arrays.decode_array n (drop (i * array_width) arrays)
listed_rows arrays f zero i h = refl
listed_rows arrays f (suc n) i h =
    let z : i + 0 ≡ i = omega arith in
    let here : f i ≡ array_in arrays i = rw z at (h 0 (omega arith)) in
    let next = listed_rows arrays f n (suc i) (λ k l. let s : i + suc k ≡ suc i + k = omega arith in rw s at (h (suc k) (omega arith))) in
    let d : drop (suc i * array_width) arrays ≡ drop array_width (drop (i * array_width) arrays) = (let s : suc i * array_width ≡ i * array_width + array_width = omega arith in rw s) ∙ sym (drop-drop array_width (i * array_width) arrays) in
    λ j. here j ∷ (next ∙ ap (rows array_width Arrays.decode_array n) d) j

pub all_named : (arrays before after : List ℕ) (i : ℕ) → Naming arrays before after i → length arrays / array_width ≤ i → arrays_in after ≡ arrays_of arrays
unfolding arrays_in
all_named arrays before after i h all =
    rw h.count (listed_rows arrays (array_from after) (length arrays / array_width) 0 (λ k l. rw (zero-add k) (h.named k (omega arith))))
