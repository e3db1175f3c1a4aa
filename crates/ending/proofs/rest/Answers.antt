-- `ending::rest` meets its contract. Assumes nothing.
use mathlib.Core.Path.{sym, ap, ◌∙◌}
use lib.ListN.{length}
use Rattle.ending.proofs.Laws.{rests_ended, rests_spent}
use Rattle.ending.proofs.rest.Goals as goal

pub returns-then-enabled_count-eq0 : goal.returns-then-enabled_count-eq0
returns-then-enabled_count-eq0 c = rests_ended _ _ (sym (c.enabled_count.ensures ∙ ap length c.requires.0) ∙ c.if-enabled_count-eq0.true) _ c.ending.ensures

pub returns-else-enabled_count-eq0 : goal.returns-else-enabled_count-eq0
returns-else-enabled_count-eq0 c = rests_spent _ _ (λ z. c.if-enabled_count-eq0.false (c.enabled_count.ensures ∙ ap length c.requires.0 ∙ z))
