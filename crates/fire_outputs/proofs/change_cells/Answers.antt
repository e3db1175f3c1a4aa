-- `fire_outputs::change_cells` meets its contract. Assumes nothing.
use mathlib.Core.Path.{refl, ap}
use lib.ListN.{set}
use mir.Facts.{to_z-of_z}
use mir.Syntax.{w32}
use mir.Val.{SFits}
use Rattle.record.specs.declared.token.Content.TheVariants.{Live}
use Rattle.record.specs.declared.cell.Cell.TheVariants.{Present}
use Rattle.fire_outputs.proofs.Laws.{cells_as, cells_same, cells_written_lem}
use Rattle.fire_outputs.specs.Outputs.{cells_in}
use Rattle.fire_outputs.proofs.change_cells.Goals as goal

pub fetch-requires : goal.fetch-requires
fetch-requires c = let p = c.requires in (p.0, rw c.in-Read.is at p.1)

pub write-requires : goal.write-requires
write-requires c = rw c.in-Write.is at c.requires.1

pub returns-in-Send : goal.returns-in-Send
returns-in-Send c =
    let f : SFits w32 c.in-Send.v = record { sfits = c.in-Send.known_told-1-own.given.0.1 } in
    rw c.in-Send.is (record { value = ap Live (to_z-of_z f); cells_kept = cells_same c.requires.0 })

pub returns-in-Read : goal.returns-in-Read
returns-in-Read c = rw c.in-Read.is c.fetch.ensures

pub returns-in-Write : goal.returns-in-Write
returns-in-Write c =
    let f : SFits w32 c.in-Write.v = record { sfits = c.in-Write.known_told-in-Write-1-own.given.1.0.1 } in
    let e = c.write.ensures in
    rw c.in-Write.is (record { value = refl; cells_kept = cells_as (cells_written_lem c.requires.0 c.in-Write.number (Present _) (rw c.in-Write.is at c.requires.1) e.1 e.0) (ap (λ y. set (cells_in c.args.cells.now) c.in-Write.number (Present y)) (to_z-of_z f)) })
