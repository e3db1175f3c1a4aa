-- `plot_cache::same_machine` meets its contract. Assumes nothing.
use borrow.Author.Tests.{eq-eqb, ne_eqb}
use Rattle.plot_cache.specs.Serves.{same_machine}
use Rattle.plot_cache.proofs.SameLists.{test_is}
use Rattle.plot_cache.proofs.same_machine.Goals as goal

pub returns-then-kept-asked : goal.returns-then-kept-asked
unfolding same_machine
returns-then-kept-asked c = rw (← c.kept.view_is, ← c.asked.view_is, test_is c.kept.inside.graph.now c.asked.inside.graph.now c.eq.ensures c.if-eq.true, test_is c.kept.inside.arrays.now c.asked.inside.arrays.now c.eq-then-eq.ensures c.if-eq-2.true, test_is c.kept.inside.inputs.now c.asked.inside.inputs.now c.eq-then-eq-2.ensures c.if-eq-3.true, eq-eqb _ _ c.if-kept-asked.true)

pub returns-else-kept-asked : goal.returns-else-kept-asked
unfolding same_machine
returns-else-kept-asked c = rw (← c.kept.view_is, ← c.asked.view_is, test_is c.kept.inside.graph.now c.asked.inside.graph.now c.eq.ensures c.if-eq.true, test_is c.kept.inside.arrays.now c.asked.inside.arrays.now c.eq-then-eq.ensures c.if-eq-2.true, test_is c.kept.inside.inputs.now c.asked.inside.inputs.now c.eq-then-eq-2.ensures c.if-eq-3.true, ne_eqb _ _ c.if-kept-asked.false)

pub returns-else-eq-3 : goal.returns-else-eq-3
unfolding same_machine
returns-else-eq-3 c = rw (← c.kept.view_is, ← c.asked.view_is, test_is c.kept.inside.graph.now c.asked.inside.graph.now c.eq.ensures c.if-eq.true, test_is c.kept.inside.arrays.now c.asked.inside.arrays.now c.eq-then-eq.ensures c.if-eq-2.true, test_is c.kept.inside.inputs.now c.asked.inside.inputs.now c.eq-then-eq-2.ensures c.if-eq-3.false) c.if-eq-3.false

pub returns-else-eq-2 : goal.returns-else-eq-2
unfolding same_machine
returns-else-eq-2 c = rw (← c.kept.view_is, ← c.asked.view_is, test_is c.kept.inside.graph.now c.asked.inside.graph.now c.eq.ensures c.if-eq.true, test_is c.kept.inside.arrays.now c.asked.inside.arrays.now c.eq-then-eq.ensures c.if-eq-2.false) c.if-eq-2.false

pub returns-else-eq : goal.returns-else-eq
unfolding same_machine
returns-else-eq c = rw (← c.kept.view_is, ← c.asked.view_is, test_is c.kept.inside.graph.now c.asked.inside.graph.now c.eq.ensures c.if-eq.false) c.if-eq.false
