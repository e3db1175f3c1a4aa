-- `range_output::ends_of` meets its contract. Assumes nothing.
use mir.Facts.{to_z-of_z}
use mir.Syntax.{w32}
use mir.Val.{SFits}
use Rattle.range_output.specs.Left.{ends_of}
use Rattle.range_output.proofs.ends_of.Goals as goal

pub returns-in-Live : goal.returns-in-Live
unfolding ends_of
returns-in-Live c =
    let low : SFits w32 c.meaning-r.result.low = record { sfits = c.struct_told-1.given.0.1 } in
    let high : SFits w32 c.meaning-r.result.high = record { sfits = c.struct_told-in-Live-1.given.1.0.1 } in
    let h : SFits w32 c.in-Live.handle = record { sfits = c.in-Live.known_told-1-own.given.0.1 } in
    rw (c.in-Live.is, c.bits.ensures, to_z-of_z low, to_z-of_z high, c.meaning-r.ensures, to_z-of_z h)

pub returns-in-Spent : goal.returns-in-Spent
unfolding ends_of
returns-in-Spent c =
    let low : SFits w32 c.meaning-r-in-Spent.result.low = record { sfits = c.struct_told-in-Spent-1.given.0.1 } in
    let high : SFits w32 c.meaning-r-in-Spent.result.high = record { sfits = c.struct_told-in-Spent-2-1.given.1.0.1 } in
    let h : SFits w32 c.in-Spent.handle = record { sfits = c.in-Spent.known_told-in-Spent-1-own.given.0.1 } in
    rw (c.in-Spent.is, c.bits-in-Spent.ensures, to_z-of_z low, to_z-of_z high, c.meaning-r-in-Spent.ensures, to_z-of_z h)

pub returns-in-Deferred : goal.returns-in-Deferred
unfolding ends_of
returns-in-Deferred c = rw c.in-Deferred.is
