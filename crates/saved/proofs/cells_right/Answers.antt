-- `saved::cells_right` meets its contract. The invariant: the first c cells are right. Assumes nothing.
use Prim.Native.Nat.{◌/◌}
use mathlib.Core.Path.{sym, ◌∙◌}
use native.Mathlib.Omega.{arith}
use lib.ListN.{length}
use Rattle.record.specs.TokensAndTags.{tokens}
use Rattle.record.specs.Widths.{cell_width}
use Rattle.machine.proofs.View.{false_true}
use Rattle.saved.specs.Passes.{cell_right}
use Rattle.saved.proofs.Laws.{all_fails}
use Rattle.saved.proofs.cells_right.Goals as goal

pub returns-then-not-cell_right : goal.returns-then-not-cell_right
returns-then-not-cell_right c =
    let a = c.args in
    let l = c.loop-c in record {
      by_index = (λ tables flags ledger used m. all_fails (cell_right (tokens used ledger) a.cells.now) (length a.cells.now / cell_width) l.c (omega (arith, c.loop-c-test.true))
          (sym (c.cell_right.ensures.by_index tables flags ledger used m) ∙ c.if-not-cell_right.true));
      cell_bytes = (λ h. false_true h);
    }
