-- `graph_tables::make` meets its contract: what is put behind the returns leaves them, and the arrays leave the operand counts behind them. Assumes nothing.
use mathlib.Core.Path.{ap, ◌∙◌}
use Prim.Native.Nat.{ℕ}
use Rattle.store_enabled.specs.Enabled.{waited_for}
use Rattle.graph_tables.proofs.make.Goals as goal

pub returns : goal.returns
returns c =
    let n = c.name.ensures in
    let a = c.arities.ensures in
    let r = c.returns.ensures in
    record {
      arities = λ tag. ap (λ (e : ℕ). waited_for e tag) (n.by_index_2 tag.instruction) ∙ a.arities.0 tag;
      returns = λ site h. n.by_index site h ∙ a.returns r.0 site h;
      named = n.out_after;
    }
