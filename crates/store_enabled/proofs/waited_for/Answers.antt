-- `store_enabled::waited_for` meets its contract. Assumes nothing.
use mathlib.Core.Path.{sym, ◌∙◌}
use borrow.Author.Tests.{eq-eqb, ne_eqb}
use Rattle.store_enabled.specs.Enabled.{waited_for}
use Rattle.store_enabled.proofs.waited_for.Goals as goal

pub returns-then-entry-ne-LEAVE_ENTRY : goal.returns-then-entry-ne-LEAVE_ENTRY
unfolding waited_for
returns-then-entry-ne-LEAVE_ENTRY c = rw (ne_eqb _ _ c.if-entry-ne-LEAVE_ENTRY.true)

pub returns-then-is_root : goal.returns-then-is_root
unfolding waited_for
returns-then-is_root c = rw (eq-eqb _ _ c.if-entry-ne-LEAVE_ENTRY.false, sym c.is_root.ensures ∙ c.if-is_root.true)

pub returns-else-is_root : goal.returns-else-is_root
unfolding waited_for
returns-else-is_root c = rw (eq-eqb _ _ c.if-entry-ne-LEAVE_ENTRY.false, sym c.is_root.ensures ∙ c.if-is_root.false)
