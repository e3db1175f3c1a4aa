-- `graph_tables::note` meets its contract. Assumes nothing.
use Rattle.check_fields.proofs.Sites.{at_site_some, at_site_none}
use Rattle.graph_tables.proofs.note.Goals as goal

pub returns-in-Some : goal.returns-in-Some
returns-in-Some c =
    let r = c.args.r in
    let h = rw c.in-Some.is at c.site_of.ensures in
    at_site_some c.args.out.now r r.second.instruction c.in-Some.site h.0 h.1

pub returns-in_default : goal.returns-in_default
returns-in_default c =
    let r = c.args.r in
    at_site_none c.args.out.now r r.second.instruction (rw c.in_default.is at c.site_of.ensures)
