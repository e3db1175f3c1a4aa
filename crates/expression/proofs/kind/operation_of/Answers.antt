-- `expression::kind::operation_of` meets its contract: the kinds 16 to 23 are the codes of the operations on two operands. Assumes nothing.
use Prim.Native.Nat.{ℕ, zero, suc, ◌+◌, ◌-◌, ◌≤◌, ◌<◌}
use native.Mathlib.Omega.{arith}
use mathlib.Core.Path.{◌≡◌, refl, sym, ap, ◌∙◌}
use mathlib.Core.Bool.{Bool, true, false, ◌&&◌}
use mathlib.Core.List.{[], ◌∷◌}
use lib.Dec.{T, leb}
use denote.Enum.Declared.{tag_of}
use borrow.Enum.Refused.{opened}
use borrow.Author.Tests.{leb-true}
use Rattle.record.specs.declared.operation.Arithmetic.{Arithmetic}
use Rattle.record.specs.declared.operation.Arithmetic.TheVariants.{Add}
use Rattle.record.specs.declared.operation.Operation.{Operation}
use Rattle.record.specs.declared.operation.Operation.TheVariants.{OnTwo}
use Rattle.record.specs.GraphRecords.{operation_of, row_of}
use Rattle.record.specs.contracts.operation.Operation.{the_type}
use Rattle.rules.specs.Expression.{arithmetic_of}
use Rattle.check_fields.proofs.Turns.{and_left, and_right}
use Rattle.check_fields.proofs.Operations.{on_two_among}
use Rattle.expression.proofs.kind.operation_of.Goals as goal

told : (b : Bool) → T b → b ≡ true
told true t = refl
told false t = absurd t

abbrev second : Operation → Arithmetic
second (OnTwo o) = o
second o = Add

eight : (m : ℕ) → m < 8 → second (operation_of (16 + m)) ≡ arithmetic_of (16 + m)
unfolding row_of
eight zero h = refl
eight (suc zero) h = refl
eight (suc (suc zero)) h = refl
eight (suc (suc (suc zero))) h = refl
eight (suc (suc (suc (suc zero)))) h = refl
eight (suc (suc (suc (suc (suc zero))))) h = refl
eight (suc (suc (suc (suc (suc (suc zero)))))) h = refl
eight (suc (suc (suc (suc (suc (suc (suc zero))))))) h = refl
eight (suc (suc (suc (suc (suc (suc (suc (suc m)))))))) h = absurd (omega arith)

from_16 : (n : ℕ) → 16 ≤ n → n ≤ 23 → second (operation_of n) ≡ arithmetic_of n
from_16 n h k =
    let e : 16 + (n - 16) ≡ n = omega arith in
    rw e at (eight (n - 16) (omega arith))

pub returns-in-OnTwo : goal.returns-in-OnTwo
returns-in-OnTwo c =
    let n = c.args.t.kind in
    let named = sym c.from.ensures ∙ c.in-OnTwo.is in
    let t : T (leb 16 n && leb n 23) = rw (← on_two_among n true (11 ∷ []) (ap (tag_of the_type) named) tt) tt in
    let low = told (leb 16 n) (and_left (leb 16 n) (leb n 23) t) in
    let high = told (leb n 23) (and_right (leb 16 n) (leb n 23) t) in
    (low, high, sym (ap second named) ∙ from_16 n (leb-true 16 n low) (leb-true n 23 high))

pub returns-in_default : goal.returns-in_default
returns-in_default c =
    sym (on_two_among c.args.t.kind false (0 ∷ 1 ∷ 2 ∷ 3 ∷ 4 ∷ 5 ∷ 6 ∷ 7 ∷ 8 ∷ 9 ∷ 10 ∷ 12 ∷ 13 ∷ []) (rw c.from.ensures at (opened c.in_default.in_default-own.keys2)) tt)
