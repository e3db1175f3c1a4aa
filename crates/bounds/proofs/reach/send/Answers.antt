-- `bounds::reach::send` meets its contract. Assumes nothing.
use Rattle.check_fields.proofs.Graphs.{both_in_use}
use Rattle.bounds.proofs.Ports.{first_inside, second_inside}
use Rattle.bounds.proofs.reach.send.Goals as goal

pub entry-requires : goal.entry-requires
entry-requires c = first_inside _ _ _ c.requires c.if-r-eq0.false

pub returns-then-r-eq1 : goal.returns-then-r-eq1
returns-then-r-eq1 c = rw (c.if-r-eq1.true, c.entry.ensures.0)

pub entry-requires-2 : goal.entry-requires-2
entry-requires-2 c = second_inside _ _ _ c.requires c.if-r-eq0.false c.if-r-eq1.false

pub returns : goal.returns
returns c = rw (both_in_use _ _ _ c.if-r-eq0.false c.if-r-eq1.false, c.entry-2.ensures.0, c.entry.ensures.0)
