-- `fire_operands::value_in` meets its contract. Assumes nothing.
use mir.Facts.{to_z-of_z}
use mir.Syntax.{w32}
use mir.Val.{SFits}
use Rattle.fire_operands.proofs.value_in.Goals as goal

pub returns-in-Live : goal.returns-in-Live
returns-in-Live c =
    let f : SFits w32 c.in-Live.v = record { sfits = c.in-Live.known_told-1-own.given.0.1 } in
    rw (to_z-of_z f, c.in-Live.is)

pub returns-in-Spent : goal.returns-in-Spent
returns-in-Spent c =
    let f : SFits w32 c.in-Spent.v = record { sfits = c.in-Spent.known_told-in-Spent-1-own.given.0.1 } in
    rw (to_z-of_z f, c.in-Spent.is)

pub returns-in-Deferred : goal.returns-in-Deferred
returns-in-Deferred c = rw (to_z-of_z {w = w32} (record { sfits = c.signed.type_inv }), c.in-Deferred.is) c.signed.ensures
