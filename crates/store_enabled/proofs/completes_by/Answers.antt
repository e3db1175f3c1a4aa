-- `store_enabled::completes_by` meets its contract. Assumes nothing.
use mathlib.Core.Path.{sym, ◌∙◌}
use borrow.Author.Tests.{ne_eqb, lt-ltb}
use lib.Dec.{ltb}
use Rattle.store_enabled.specs.Enabled.{waited_for}
use Rattle.store_enabled.proofs.Arriving.{first_port, no_operand}
use Rattle.store_enabled.proofs.completes_by.Goals as goal

pub returns-then-entry-eq1 : goal.returns-then-entry-eq1
unfolding waited_for
returns-then-entry-eq1 c = rw c.if-entry-eq1.true (first_port c.args.port)

pub returns-then-entry-eq2 : goal.returns-then-entry-eq2
unfolding waited_for
returns-then-entry-eq2 c = rw (c.if-entry-eq2.true, lt-ltb c.args.port 2 c.requires.1) c.live.ensures

pub returns-then-is_root : goal.returns-then-is_root
unfolding waited_for
returns-then-is_root c = rw (c.if-entry-eq-LEAVE_ENTRY.true, sym c.is_root.ensures ∙ c.if-is_root.true) (no_operand (ltb c.args.port 0))

pub returns-then-entry-eq-LEAVE_ENTRY : goal.returns-then-entry-eq-LEAVE_ENTRY
unfolding waited_for
returns-then-entry-eq-LEAVE_ENTRY c = rw (c.if-entry-eq-LEAVE_ENTRY.true, sym c.is_root.ensures ∙ c.if-is_root.false) (first_port c.args.port)

pub returns : goal.returns
unfolding waited_for
returns c =
    let a = c.args in
    rw (ne_eqb a.entry 3 c.if-entry-eq-LEAVE_ENTRY.false, ne_eqb a.entry 1 c.if-entry-eq1.false, ne_eqb a.entry 2 c.if-entry-eq2.false) (no_operand (ltb a.port a.entry))
