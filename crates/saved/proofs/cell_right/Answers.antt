-- `saved::cell_right` meets its contract. Assumes nothing.
use Prim.Native.Nat.{◌*◌}
use mathlib.Core.Bool.{Bool, true, false, not, cond, beq}
use mathlib.Core.Path.{◌≡◌, refl, sym, ap, ◌∙◌}
use lib.ListN.{drop}
use Rattle.record.specs.Widths.{cell_width}
use Rattle.machine.proofs.View.{false_true}
use Rattle.rules.specs.Saved.{cell_allowed}
use Rattle.saved.specs.Passes.{cell_right}
use Rattle.saved.proofs.cell_right.Goals as goal
use Rattle.saved.proofs.cell_right.Goals.{After-cell_allowed}

pub returns-then-not-cell_allowed : goal.returns-then-not-cell_allowed
unfolding cell_right
returns-then-not-cell_allowed c = let allowed : let a = c.args in cell_allowed (drop (a.c * cell_width) a.cells.now) ≡ c.cell_allowed.result = ap cell_allowed (sym c.row_at.ensures) ∙ sym c.cell_allowed.ensures.value in record { by_index = (λ tables flags ledger used m. rw (allowed, c.if-not-cell_allowed.true)); cell_bytes = (λ h. false_true h) }

waits : (a w : Bool) → beq a w ≡ cond w a (not a)
waits true true = refl
waits true false = refl
waits false true = refl
waits false false = refl

pub returns-clause-by_index : goal.returns-clause-by_index
unfolding cell_right
returns-clause-by_index c tables flags ledger used m =
    let a = c.args in
    let allowed : cell_allowed (drop (a.c * cell_width) a.cells.now) ≡ c.cell_allowed.result = ap cell_allowed (sym c.row_at.ensures) ∙ sym c.cell_allowed.ensures.value in
    rw (allowed, c.if-not-cell_allowed.false, ← c.read-x.ensures, ← c.is_waiting.ensures, ← c.any_deferred.ensures tables flags ledger used m) (waits c.any_deferred.result c.is_waiting.result)
