-- `check_fields::site::Entered::good_enter` meets its contract. Assumes nothing.
use mathlib.Core.Path.{ap}
use mathlib.Core.Bool.{not}
use borrow.Author.Tests.{eq-eqb, ne_eqb, le-leb, lt-leb}
use mir.Facts.{to_z-of_z}
use Rattle.check_fields.proofs.Constants.{within_none, within_some}
use Rattle.check_fields.proofs.site.Entered.good_enter.Goals as goal

pub returns-in_default : goal.returns-in_default
returns-in_default c = rw (within_none c.args.constant (rw c.in_default.is at (rw (to_z-of_z c.ranges.constant) at c.small.ensures)))

pub returns-then-back-eq0 : goal.returns-then-back-eq0
returns-then-back-eq0 c =
    let h = rw c.in-Some.is at (rw (to_z-of_z c.ranges.constant) at c.small.ensures) in
    rw (within_some c.args.constant h.0, ← h.1, le-leb _ _ c.if-site-ge1.true, eq-eqb _ _ c.if-back-eq0.true, ← c.self.view_is) (ap not c.other.ensures)

pub returns-else-back-eq0 : goal.returns-else-back-eq0
returns-else-back-eq0 c =
    let h = rw c.in-Some.is at (rw (to_z-of_z c.ranges.constant) at c.small.ensures) in
    rw (within_some c.args.constant h.0, ← h.1, le-leb _ _ c.if-site-ge1.true, ne_eqb _ _ c.if-back-eq0.false)

pub returns-else-site-ge1 : goal.returns-else-site-ge1
returns-else-site-ge1 c =
    let h = rw c.in-Some.is at (rw (to_z-of_z c.ranges.constant) at c.small.ensures) in
    rw (within_some c.args.constant h.0, ← h.1, lt-leb _ _ c.if-site-ge1.false)
