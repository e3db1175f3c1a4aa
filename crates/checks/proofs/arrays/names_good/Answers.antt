-- `checks::arrays::names_good` meets its contract. A constant of a byte or more is that of no array. Assumes nothing.
use native.Mathlib.Omega.{arith}
use mathlib.Core.Path.{sym}
use borrow.Author.Tests.{lt-leb}
use mir.Facts.{to_z-of_z}
use mir.Val.{SFits}
use mir.Syntax.{w32}
use Rattle.rules.specs.Check.{names_good}
use Rattle.check_fields.specs.Sites.{small_of}
use Rattle.check_fields.proofs.Constants.{within_few}
use Rattle.checks.proofs.arrays.names_good.Goals as goal

pub returns-then-not-names_array : goal.returns-then-not-names_array
unfolding names_good
returns-then-not-names_array c = rw (← c.names_array.ensures _ (sym c.from.ensures), c.if-not-names_array.true)

pub returns-in-Some : goal.returns-in-Some
unfolding names_good
returns-in-Some c =
    let fits : SFits w32 c.args.r.constant = record { sfits = c.struct_told-1.given.1.1.1.1.0.1 } in
    let h = rw c.in-Some.is at (rw (to_z-of_z fits) at c.small.ensures) in
    rw (← c.names_array.ensures _ (sym c.from.ensures), c.if-not-names_array.false, within_few c.args.n c.requires c.args.r.constant, ← h.1)

pub returns-in-None : goal.returns-in-None
unfolding names_good
returns-in-None c =
    let fits : SFits w32 c.args.r.constant = record { sfits = c.struct_told-1.given.1.1.1.1.0.1 } in
    let h = rw c.in-None.is at (rw (to_z-of_z fits) at c.small.ensures) in
    rw (← c.names_array.ensures _ (sym c.from.ensures), c.if-not-names_array.false, within_few c.args.n c.requires c.args.r.constant, lt-leb (small_of c.args.r.constant) c.args.n (omega (arith, h, c.requires)))
