-- Laws of a part of an array: what it reads, what a store in it makes of it, and that a store beside it leaves it. Assumes nothing.
use Prim.Native.Nat.{ℕ, ◌+◌, ◌-◌, ◌≤◌, ◌<◌}
use mathlib.Core.Path.{◌≡◌, ap, ◌∙◌}
use mathlib.Core.List.{List}
use native.Mathlib.Omega.{arith}
use lib.ListN.{length, get_or, set, take, drop, length-drop}
use lib.Seq.{length-take-le, take-set-le, take-set-lt, drop-set-lt, drop-set-add, get_or-take, get_or-drop}
use Rattle.store_chains.specs.Chains.{part}

module _ (from size : ℕ) (l : List ℕ) where
  pub length_part : from + size ≤ length l → length (part from size l) ≡ size
  unfolding part
  length_part h = length-take-le size (drop from l) (omega (arith, length-drop from l))

  pub get_d_part : (i : ℕ) → i < size → get_or (part from size l) i 0 ≡ get_or l (i + from) 0
  unfolding part
  get_d_part i h =
      let e : from + i ≡ i + from = omega arith in
      get_or-take size (drop from l) i 0 h ∙ get_or-drop from l i 0 ∙ ap (λ (j : ℕ). get_or l j 0) e

  pub part_set : (i v : ℕ) → i < size → part from size (set l (i + from) v) ≡ set (part from size l) i v
  unfolding part
  part_set i v h =
      let e : i + from ≡ from + i = omega arith in
      ap (λ (j : ℕ). take size (drop from (set l j v))) e ∙ ap (take size) (drop-set-add from l i v) ∙ take-set-lt size (drop from l) i v h

  pub part_before : (j v : ℕ) → j < from → part from size (set l j v) ≡ part from size l
  unfolding part
  part_before j v h = ap (take size) (drop-set-lt from l j v h)

  pub part_past : (j v : ℕ) → from + size ≤ j → part from size (set l j v) ≡ part from size l
  unfolding part
  part_past j v h =
      let i = j - from in
      let e : j ≡ from + i = omega arith in
      ap (λ (m : ℕ). take size (drop from (set l m v))) e ∙ ap (take size) (drop-set-add from l i v) ∙ take-set-le size (drop from l) i v (omega arith)
