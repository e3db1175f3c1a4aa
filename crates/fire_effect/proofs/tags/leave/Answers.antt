-- `fire_effect::tags::leave` meets its contract. Assumes nothing.
use mathlib.Core.Path.{sym, ap, ◌∙◌}
use mir.Facts.{to_z-of_z}
use native.Mathlib.Omega.{arith}
use lib.IntN.{nat_abs}
use mir.Syntax.{w32}
use mir.Val.{SFits}
use Rattle.rules.specs.InstructionSet.{send_left}
use Rattle.fire_effect.proofs.Does.{made_as}
use Rattle.fire_effect.proofs.tags.leave.Goals as goal

pub returns-in_default : goal.returns-in_default
unfolding send_left
returns-in_default c = rw (sym c.leave.ensures ∙ c.in_default.is) c.to_none.ensures

pub returns : goal.returns
unfolding send_left
returns c =
    let site = c.in-Some.caller.site in
    let fits : SFits w32 c.args.r.constant = record { sfits = c.struct_told-1.given.1.1.1.1.0.1 } in
    let k = c.byte-k.ensures ∙ ap nat_abs (to_z-of_z fits) in
    let back = c.requires.returns site (omega (arith, c.in-Some.known_told-1-own.given)) in
    rw (sym c.leave.ensures ∙ c.in-Some.is)
    (made_as (λ v. rw (← k, ← back)) c.returned.ensures)
