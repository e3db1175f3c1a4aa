-- `held::Marks::set_skip` meets its contract. Assumes nothing.
use Prim.Native.Nat.{ℕ, ◌+◌, ◌-◌}
use mathlib.Core.Path.{◌≡◌, sym, ap, ◌∙◌}
use mathlib.Core.List.{List, ◌++◌}
use native.Mathlib.Omega.{arith}
use lib.ListN.{set, length-set, length-append}
use Rattle.std.proofs.lemmas.List.{set-append_right}
use Rattle.held.proofs.Marks.set_skip.Goals as goal

pub returns : goal.returns
returns c =
    let m = c.self.inside in
    let i = c.args.i in
    let n = c.args.n in
    let back : i + 2048 - 2048 ≡ i = omega arith in
    record {
      marks_after = sym (ap (λ (l : List ℕ). set l (i + 2048) n) (sym c.self.view_is) ∙ set-append_right m.holders m.skips 2048 (i + 2048) n c.self.told.0 (omega arith) ∙ ap (λ (k : ℕ). m.holders ++ set m.skips k n) back);
      size = omega (arith, length-append m.holders (set m.skips i n), length-set m.skips i n, c.self.told.0, c.self.told.1);
    }
