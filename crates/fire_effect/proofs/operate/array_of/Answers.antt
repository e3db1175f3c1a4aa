-- `fire_effect::operate::array_of` meets its contract: past the last array stands one of no cells. Assumes nothing.
use Prim.Native.Nat.{◌≤◌, ◌<◌}
use mathlib.Core.Path.{sym, ◌∙◌}
use lib.ListN.{get_or}
use Rattle.fire_effect.proofs.Does.{in_table, past_table}
use Rattle.fire_effect.proofs.operate.array_of.Goals as goal

pub returns-then-n-count : goal.returns-then-n-count
returns-then-n-count c =
    let a = c.args in
    let h : a.n < get_or a.tables.now 256 0 = rw c.entry-count.ensures at c.if-n-count.true in
    (λ i. record { first = c.entry.ensures i; length = c.entry-then-n-count.ensures i }) ∙ sym (in_table a.tables.now a.n h)

pub returns-else-n-count : goal.returns-else-n-count
returns-else-n-count c =
    let a = c.args in
    let h : get_or a.tables.now 256 0 ≤ a.n = rw c.entry-count.ensures at c.if-n-count.false in
    sym (past_table a.tables.now a.n h)
