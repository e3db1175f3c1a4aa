-- `graph_tables::arities` meets its contract. The invariant: the first i entries are right. Assumes nothing.
use Prim.Native.Nat.{◌+◌}
use native.Mathlib.Omega.{arith}
use mathlib.Core.Path.{refl, ◌∙◌}
use lib.ListN.{length-set}
use lib.Seq.{get_or-set_other}
use Rattle.record.specs.GraphRecords.{graph_of}
use Rattle.graph_tables.proofs.Entries.{entry_next, all_arities}
use Rattle.graph_tables.proofs.arities.Goals as goal

pub loop-i-init : goal.loop-i-init
loop-i-init c = (omega arith, c.requires.1, (λ τ h. absurd (omega arith)), λ k h. refl)

pub loop-i-preserved : goal.loop-i-preserved
loop-i-preserved c =
    let l = c.loop-i in
    let v = c.entry_at.result in (
      omega arith,
      length-set l.out (l.i + 385) v ∙ l.invariant.1,
      entry_next (graph_of c.args.graph.now) l.out l.i v (omega arith) l.invariant.2 c.entry_at.ensures,
      λ k h. get_or-set_other l.out (l.i + 385) k v 0 (λ e. omega arith) ∙ l.invariant.3 k h,
    )

pub returns : goal.returns
returns c = let l = c.loop-i in record { arities = (all_arities c.args.graph.now l.out c.requires.0 l.invariant.1 (λ τ h. l.invariant.2 τ (omega arith)), l.invariant.1); returns = (λ r site h. l.invariant.3 site h ∙ r site h) }
