-- Laws of the counts of ones: by blocks of one width, how a change of one flag changes them; and of the counts by blocks and by groups that the
-- invariant holds one behind the other. Assumes nothing.
use Prim.Native.Nat.{ℕ, zero, suc, ◌+◌, ◌-◌, ◌*◌, ◌/◌, ◌%◌, ◌≤◌, ◌<◌}
use mathlib.Core.Path.{◌≡◌, refl, sym, ap, ◌∙◌}
use mathlib.Core.Bool.{Bool, true, false}
use mathlib.Core.List.{List, [], ◌∷◌, ◌++◌}
use native.Mathlib.Omega.{arith}
use native.Mathlib.Nat.{not-suc-le-zero, le_of_suc-le-suc, suc-mul, zero-add, suc-add}
use lib.Dec.{eqb}
use lib.ListN.{length, get_or, take, drop, set, length-drop, length-set, get_or-append}
use lib.Seq.{drop-drop, take-set-lt, take-set-le, drop-set-lt, drop-set-add, get_or-take, get_or-drop, get_or-append-add, length-take-le, get_or-set_same, get_or-set_other, set-append_left}
use borrow.Author.Tests.{eqb-true, eqb-false}
use Rattle.store_flags.specs.Flags.{ones, blocks, FlagList, Tallied}
use Rattle.store_flags.proofs.Laws.{Binary, ones_split, ones_set, ones_at, ones_le}

-- ---- blocks of one width

module _ (w : ℕ) where
  ones_blocks : (n : ℕ) (l : List ℕ) → length l ≡ n * w → ones (blocks w n l) ≡ ones l
  ones_blocks zero [] h = refl
  ones_blocks zero (x ∷ l) h = absurd (omega arith)
  ones_blocks (suc n) l h = omega (arith, ones_split w l, ones_blocks n (drop w l) (omega (arith, length-drop w l, suc-mul n w)))

  length_blocks : (n : ℕ) (l : List ℕ) → length (blocks w n l) ≡ n
  length_blocks zero l = refl
  length_blocks (suc n) l = ap suc (length_blocks n (drop w l))

  get_d_blocks : (n b : ℕ) (l : List ℕ) → b < n → get_or (blocks w n l) b 0 ≡ ones (take w (drop (b * w) l))
  get_d_blocks zero b l h = absurd (not-suc-le-zero h)
  get_d_blocks (suc n) zero l h = let e : 0 * w ≡ 0 = omega arith in rw e
  get_d_blocks (suc n) (suc b) l h =
      let e : w + b * w ≡ suc b * w = omega (arith, suc-mul b w) in
      get_d_blocks n b (drop w l) (le_of_suc-le-suc h) ∙ rw (drop-drop (b * w) w l, e)

  -- one flag is changed
  blocks_set : (n b j v : ℕ) (l : List ℕ) → n * w ≤ length l → b < n → j < w
      → blocks w n (set l (b * w + j) v) ≡ set (blocks w n l) b (get_or (blocks w n l) b 0 + v - get_or l (b * w + j) 0)
  blocks_set zero b j v l g h s = absurd (not-suc-le-zero h)
  blocks_set (suc n) zero j v l g h s =
      let a : 0 * w + j ≡ j = omega arith in
      let t : length (take w l) ≡ w = length-take-le w l (omega (arith, suc-mul n w)) in
      let e : ones (set (take w l) j v) ≡ ones (take w l) + v - get_or l j 0 =
      omega (arith, ones_set (take w l) j v (omega arith), get_or-take w l j 0 s) in
      rw (a, take-set-lt w l j v s, drop-set-lt w l j v s, e)
  blocks_set (suc n) (suc b) j v l g h s =
      let q = b * w + j in
      let a : suc b * w + j ≡ w + q = omega (arith, suc-mul b w) in
      let ih = blocks_set n b j v (drop w l) (omega (arith, length-drop w l, suc-mul n w)) (le_of_suc-le-suc h) s in
      rw (a, take-set-le w l (w + q) v (omega arith), drop-set-add w l q v, ← get_or-drop w l q 0) (ap (λ (r : List ℕ). ones (take w l) ∷ r) ih)

  -- the same, from the change's place and the block's count
  block_put : (n b j i v x : ℕ) (l : List ℕ) → n * w ≤ length l → b < n → j < w → i ≡ b * w + j → x ≡ get_or (blocks w n l) b 0
      → blocks w n (set l i v) ≡ set (blocks w n l) b (x + v - get_or l i 0)
  block_put n b j i v x l g h s e d = rw (e, d) (blocks_set n b j v l g h s)

  -- the ones of the w flags from k on: at least the flag k + j, and at most w
  part_bounds : (k j : ℕ) (l : List ℕ) → Binary l → j < w → (get_or l (k + j) 0 ≤ ones (take w (drop k l))) × (ones (take w (drop k l)) ≤ w)
  part_bounds k j l b h =
      let p = drop k l in (
        omega (arith, ones_at (take w p) j, get_or-take w p j 0 h, get_or-drop k l j 0),
        ones_le w p (λ i. rw (get_or-drop k l i 0) (b (k + i))),
      )

-- the groups together
pub four_groups : (l : List ℕ) → FlagList l
    → (ones (take 512 l) + ones (take 512 (drop 512 l)) + ones (take 512 (drop 1024 l)) + ones (take 512 (drop 1536 l)) ≡ ones l) × (ones l ≤ 2048)
four_groups l c =
    let at = λ (g : ℕ) (h : g < 4). get_d_blocks 512 4 g l h in
    let few = λ (k : ℕ). (part_bounds 512 k 0 l c.binary (omega arith)).1 in
    let all = ones_blocks 512 4 l c.size in (
      omega (arith, all, at 0 (omega arith), at 1 (omega arith), at 2 (omega arith), at 3 (omega arith)),
      omega (arith, all, at 0 (omega arith), at 1 (omega arith), at 2 (omega arith), at 3 (omega arith), few 0, few 512, few 1024, few 1536),
    )

-- ---- the invariant

-- a store to each of two lists that stand one behind the other
pub set_append_add : (xs ys : List ℕ) (i a : ℕ) → set (xs ++ ys) (length xs + i) a ≡ xs ++ set ys i a
set_append_add [] ys i a = rw (zero-add i)
set_append_add (x ∷ xs) ys i a = rw (suc-add (length xs) i) (ap (λ (r : List ℕ). x ∷ r) (set_append_add xs ys i a))

set_both : (xs ys : List ℕ) (i j a b : ℕ) → i < length xs → set (set (xs ++ ys) i a) (length xs + j) b ≡ set xs i a ++ set ys j b
set_both xs ys i j a b h = rw (set-append_left xs ys i a h, ← length-set xs i a) (set_append_add (set xs i a) ys j b)

module _ (flags counts : List ℕ) (c : Tallied flags counts) where
  in_blocks : (b : ℕ) → b < 32 → get_or counts b 0 ≡ get_or (blocks 64 32 flags) b 0
  in_blocks b h =
      ap (λ (q : List ℕ). get_or q b 0) c.same ∙ get_or-append (blocks 64 32 flags) (blocks 512 4 flags) 0 b (omega (arith, length_blocks 64 32 flags))

  in_groups : (g : ℕ) → get_or counts (32 + g) 0 ≡ get_or (blocks 512 4 flags) g 0
  in_groups g = ap (λ (q : List ℕ). get_or q (32 + g) 0) c.same ∙ get_or-append-add (blocks 64 32 flags) (blocks 512 4 flags) g 0

  pub block_is : (b : ℕ) → b < 32 → get_or counts b 0 ≡ ones (take 64 (drop (b * 64) flags))
  block_is b h = in_blocks b h ∙ get_d_blocks 64 32 b flags h

  pub group_is : (g : ℕ) → g < 4 → get_or counts (32 + g) 0 ≡ ones (take 512 (drop (g * 512) flags))
  group_is g h = in_groups g ∙ get_d_blocks 512 4 g flags h

  pub block_bounds : (i : ℕ) → i < 2048 → (get_or flags i 0 ≤ get_or counts (i / 64) 0) × (get_or counts (i / 64) 0 ≤ 64)
  block_bounds i h =
      let a : i / 64 * 64 + i % 64 ≡ i = omega arith in
      rw (block_is (i / 64) (omega arith)) (rw a at (part_bounds 64 (i / 64 * 64) (i % 64) flags c.binary (omega arith)))

  pub group_bounds : (i : ℕ) → i < 2048 → (get_or flags i 0 ≤ get_or counts (32 + i / 512) 0) × (get_or counts (32 + i / 512) 0 ≤ 512)
  group_bounds i h =
      let a : i / 512 * 512 + i % 512 ≡ i = omega arith in
      rw (group_is (i / 512) (omega arith)) (rw a at (part_bounds 512 (i / 512 * 512) (i % 512) flags c.binary (omega arith)))

  pub groups_all : get_or counts 32 0 + get_or counts 33 0 + get_or counts 34 0 + get_or counts 35 0 ≡ ones flags
  groups_all = omega (arith, in_groups 0, in_groups 1, in_groups 2, in_groups 3, ones_blocks 512 4 flags c.size)

  pub tallied_set : (i v : ℕ) → i < 2048 → v ≤ 1
      → let x = get_or counts (i / 64) 0 + v - get_or flags i 0 in
      let y = get_or counts (32 + i / 512) 0 + v - get_or flags i 0 in
      Tallied (set flags i v) (set (set counts (i / 64) x) (32 + i / 512) y)
  tallied_set i v h g =
      let x = get_or counts (i / 64) 0 + v - get_or flags i 0 in
      let y = get_or counts (32 + i / 512) 0 + v - get_or flags i 0 in
      let bs = blocks 64 32 flags in
      let gs = blocks 512 4 flags in
      let b : blocks 64 32 (set flags i v) ≡ set bs (i / 64) x =
      block_put 64 32 (i / 64) (i % 64) i v (get_or counts (i / 64) 0) flags (omega (arith, c.size)) (omega arith) (omega arith) (omega arith) (in_blocks (i / 64) (omega arith)) in
      let d : blocks 512 4 (set flags i v) ≡ set gs (i / 512) y =
      block_put 512 4 (i / 512) (i % 512) i v (get_or counts (32 + i / 512) 0) flags (omega (arith, c.size)) (omega arith) (omega arith) (omega arith) (in_groups (i / 512)) in
      record {
        size = length-set flags i v ∙ c.size;
        binary = λ j. go j (eqb j i) refl;
        same =
            ap (λ (q : List ℕ). set (set q (i / 64) x) (32 + i / 512) y) c.same
            ∙ set_both bs gs (i / 64) (i / 512) x y (omega (arith, length_blocks 64 32 flags))
            ∙ ap (λ (q : List ℕ). q ++ set gs (i / 512) y) (sym b)
            ∙ ap (λ (q : List ℕ). blocks 64 32 (set flags i v) ++ q) (sym d);
      }
    where
      go : (j : ℕ) (t : Bool) → eqb j i ≡ t → get_or (set flags i v) j 0 ≤ 1
      go j true d = rw (eqb-true j i d, get_or-set_same flags i v 0 (omega arith)) g
      go j false d = rw (get_or-set_other flags i j v 0 (eqb-false j i d)) (c.binary j)
