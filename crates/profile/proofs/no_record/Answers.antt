-- `profile::no_record` meets its contract. Assumes nothing.
use mathlib.Core.Path.{sym, ap, ◌∙◌}
use lib.ListN.{length}
use Rattle.profile.proofs.Stepping.{last_ended, last_full}
use Rattle.profile.proofs.no_record.Goals as goal

pub returns-then-enabled_count-eq0 : goal.returns-then-enabled_count-eq0
returns-then-enabled_count-eq0 c = last_ended _ _ (sym (c.enabled_count.ensures ∙ ap length c.requires.0) ∙ c.if-enabled_count-eq0.true) _ c.ending.ensures

pub returns-else-enabled_count-eq0 : goal.returns-else-enabled_count-eq0
returns-else-enabled_count-eq0 c = last_full _ _ (λ z. c.if-enabled_count-eq0.false (c.enabled_count.ensures ∙ ap length c.requires.0 ∙ z))
