-- `engine::turns::note` meets its contract. Assumes nothing.
use mathlib.Core.Path.{◌∙◌}
use borrow.Author.Rules.{rules}
use borrow.Author.Tests.{lt-ltb, le-ltb}
use Rattle.engine.specs.Turns.{log_noted}
use Rattle.engine.proofs.turns.note.Goals as goal

pub returns-then-i-log : goal.returns-then-i-log
unfolding log_noted
returns-then-i-log c = c.put_tag.ensures ∙ rw (lt-ltb _ _ c.if-i-log.true, c.read-t.ensures)

pub returns-else-i-log : goal.returns-else-i-log
unfolding log_noted
returns-else-i-log c = rw (le-ltb _ _ c.if-i-log.false)
