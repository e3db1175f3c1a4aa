-- `fire_commit::admit::beside` meets its contract. Assumes nothing.
use mathlib.Core.Path.{sym, ◌∙◌}
use Rattle.record.proofs.Equality.{equal_tags}
use Rattle.fire_commit.proofs.Slots.{open_apart, open_beside}
use Rattle.fire_commit.proofs.admit.beside.Goals as goal

pub returns-then-eq : goal.returns-then-eq
returns-then-eq c ts x len low apart free o =
    let a = c.args in
    rw len at (open_beside a.first a.second a.slot ts x low apart free o (sym (c.eq.ensures ∙ equal_tags a.first.tag a.second.tag) ∙ c.if-eq.true))

pub returns-else-eq : goal.returns-else-eq
returns-else-eq c ts x len low apart free o =
    let a = c.args in
    open_apart a.first a.second a.slot ts x low apart free o (sym (c.eq.ensures ∙ equal_tags a.first.tag a.second.tag) ∙ c.if-eq.false)
