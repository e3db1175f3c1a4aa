-- `fire_outputs::wake` meets its contract. Assumes nothing.
use mathlib.Core.Path.{sym}
use mir.Facts.{to_z-of_z}
use mir.Syntax.{w32}
use mir.Val.{SFits}
use borrow.Enum.Refused.{opened}
use Rattle.fire_outputs.proofs.Laws.{kept_same, kept_as, kept_woken, no_write}
use Rattle.fire_outputs.proofs.wake.Goals as goal

pub returns-in_default : goal.returns-in_default
returns-in_default c = kept_as (kept_same c.requires.0) (sym ((no_write c.args.action (opened c.in_default.in_default-own.keys2)).wakes _))

pub wake-requires : goal.wake-requires
wake-requires c = let p = c.requires in (p.0, rw c.in-Write.is at p.1)

pub returns : goal.returns
returns c =
    let f : SFits w32 c.in-Write.v = record { sfits = c.in-Write.known_told-1-own.given.1.0.1 } in
    let e = c.wake.ensures in
    rw c.in-Write.is (rw (to_z-of_z f) at (kept_woken c.requires.0 c.in-Write.number _ e.ledger_after e.ledger_after_2 e.cases))
