-- `check_fields::site::Entered::note` meets its contract. Assumes nothing.
use Rattle.std.specs.Prelude.{Some}
use Rattle.check_fields.proofs.Sites.{at_site_some, at_site_none}
use Rattle.check_fields.proofs.site.Entered.note.Goals as goal

pub returns-in-Some : goal.returns-in-Some
returns-in-Some c =
    let r = c.args.r in
    let h = rw c.in-Some.is at c.site_of.ensures in
    rw c.self.view_is (at_site_some c.args.self.now r (Some r.second.instruction) c.in-Some.site h.0 h.1)

pub returns-in_default : goal.returns-in_default
returns-in_default c =
    let r = c.args.r in
    at_site_none c.args.self.now r (Some r.second.instruction) (rw c.in_default.is at c.site_of.ensures)
