-- `store_flags::Flags::select` meets its contract. Assumes nothing.
use Prim.Native.Nat.{ℕ}
use mathlib.Core.Path.{sym, ap, ◌∙◌}
use native.Mathlib.Omega.{arith}
use Rattle.store_flags.specs.Flags.{place}
use Rattle.store_flags.proofs.Laws.{places_le}
use Rattle.store_flags.proofs.Minus.{selected}
use Rattle.store_flags.proofs.Flags.select.Goals as goal

pub first-requires : goal.first-requires
first-requires c = omega (arith, places_le 0 c.args.self.now, c.requires)

pub returns-then-k-eq0 : goal.returns-then-k-eq0
returns-then-k-eq0 c =
    let f = c.args.self.now in
    selected c.first.ensures.list c.args.k (omega (arith, places_le 0 f, c.requires)) c.first.result (c.first.ensures.value ∙ ap (λ (m : ℕ). place m f) (sym c.if-k-eq0.true))
