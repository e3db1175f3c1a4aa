-- `fire_effect::operate::operate` meets its contract: each arm gives what its operation does. Assumes nothing.
use Prim.Native.Nat.{ℕ}
use mathlib.Core.Path.{◌≡◌, refl}
use mathlib.Core.List.{List, [], ◌∷◌}
use lib.IntN.{ℤ}
use mir.Facts.{to_z-of_z}
use types.Run.{OneOf, miss}
use denote.Enum.Declared.{tag_of}
use Rattle.std.specs.Prelude.{Ok}
use Rattle.record.specs.declared.array.NamedArray.{NamedArray}
use Rattle.record.specs.declared.operation.Operation.{Operation}
use Rattle.record.specs.declared.operation.Operation.TheVariants as Operations
use Rattle.record.specs.contracts.operation.Operation.{the_type}
use Rattle.fire_effect.specs.declared.operate.Action.TheVariants.{Send}
use Rattle.fire_effect.specs.Effects.{operated_of}
use borrow.Enum.Refused.{opened}
use Rattle.fire_effect.proofs.operate.operate.Goals as goal

-- the operations that none of the other arms names, by their numbers as variants: they give the value on port 0
abbrev rest : List ℕ
rest = 0 ∷ 1 ∷ 2 ∷ 4 ∷ 5 ∷ 6 ∷ 7 ∷ 8 ∷ 13 ∷ []

moves : (o : Operation) (table : List NamedArray) (k : ℤ) (cells : ℕ) (a b : ℤ) → OneOf rest (tag_of the_type o) → Ok (Send a) ≡ operated_of o table k cells a b
unfolding operated_of
moves Operations.Copy table k cells a b h = refl
moves Operations.Sink table k cells a b h = refl
moves Operations.Out table k cells a b h = refl
moves Operations.Const table k cells a b h = absurd (miss rest 3 tt h)
moves Operations.Switch table k cells a b h = refl
moves Operations.Gate table k cells a b h = refl
moves Operations.Next table k cells a b h = refl
moves Operations.Enter table k cells a b h = refl
moves Operations.Leave table k cells a b h = refl
moves Operations.Fetch table k cells a b h = absurd (miss rest 9 tt h)
moves Operations.Store table k cells a b h = absurd (miss rest 10 tt h)
moves (Operations.OnTwo o) table k cells a b h = absurd (miss rest 11 tt h)
moves (Operations.OnConstant o) table k cells a b h = absurd (miss rest 12 tt h)
moves Operations.Unknown table k cells a b h = refl

pub returns-in-Const : goal.returns-in-Const
unfolding operated_of
returns-in-Const c = rw (c.in-Const.is, to_z-of_z c.ranges.k)

pub returns-in-Fetch : goal.returns-in-Fetch
unfolding operated_of
returns-in-Fetch c = rw c.in-Fetch.is (rw (to_z-of_z c.ranges.k, to_z-of_z c.ranges.a) at c.fetch.ensures)

pub returns-in-Store : goal.returns-in-Store
unfolding operated_of
returns-in-Store c = rw c.in-Store.is (rw (to_z-of_z c.ranges.k, to_z-of_z c.ranges.a, to_z-of_z c.ranges.b) at c.store.ensures)

pub returns-in-OnTwo : goal.returns-in-OnTwo
unfolding operated_of
returns-in-OnTwo c = rw c.in-OnTwo.is (rw (c.compute.ensures, to_z-of_z c.ranges.a, to_z-of_z c.ranges.b) at c.computed.ensures)

pub returns-in-OnConstant : goal.returns-in-OnConstant
unfolding operated_of
returns-in-OnConstant c = rw c.in-OnConstant.is (rw (c.compute-in-OnConstant.ensures, to_z-of_z c.ranges.a, to_z-of_z c.ranges.k) at c.computed-in-OnConstant.ensures)

pub returns-in_default : goal.returns-in_default
unfolding operated_of
returns-in_default c = rw (to_z-of_z c.ranges.a) (moves c.args.o _ _ _ _ _ (opened c.in_default.in_default-own.keys6))
