-- `plot_cache::serves` meets its contract: it says what the definition does, which keeps the promise. Assumes nothing.
use borrow.Author.Rules.{rules}
use mathlib.Core.Path.{sym, ◌∙◌}
use Rattle.machine.proofs.View.{false_true}
use Rattle.plot_cache.specs.Serves.{serves}
use Rattle.plot_cache.proofs.Served.{decided}
use Rattle.plot_cache.proofs.serves.Goals as goal

pub returns-then-same_order : goal.returns-then-same_order
unfolding serves
returns-then-same_order c =
    let a = c.args in
    decided a.kept.now a.end a.asked.now _ (rw (← c.kept.view_is) c.kept.invariant.0) (rw (← c.kept.view_is) c.kept.invariant.1) (rw (← c.same_machine.ensures, c.if-same_machine.true, ← c.kept.view_is, ← c.asked.view_is, ← c.same_order.ensures, c.if-same_order.true))

pub returns-else-same_order : goal.returns-else-same_order
unfolding serves
returns-else-same_order c =
    let a = c.args in
    decided a.kept.now a.end a.asked.now _ (rw (← c.kept.view_is) c.kept.invariant.0) (rw (← c.kept.view_is) c.kept.invariant.1) (rw (← c.same_machine.ensures, c.if-same_machine.true, ← c.kept.view_is, ← c.asked.view_is, ← c.same_order.ensures, c.if-same_order.false) c.any_order.ensures)

pub returns-else-same_machine : goal.returns-else-same_machine
unfolding serves
returns-else-same_machine c = record { exactly = rw (← c.same_machine.ensures, c.if-same_machine.false); holds = λ e. false_true (sym c.if-same_machine.false ∙ e) }
