-- `fire_outputs::fetch` meets its contract. Assumes nothing.
use mathlib.Core.Path.{◌≡◌, sym, ap, ◌∙◌}
use lib.ListN.{get_or, set}
use mir.Facts.{to_z-of_z}
use mir.Syntax.{w32}
use mir.Val.{SFits}
use borrow.Enum.Refused.{opened}
use Rattle.record.specs.declared.token.Content.TheVariants.{Live}
use Rattle.record.specs.declared.cell.Cell.TheVariants.{Absent, Waiting, Present}
use Rattle.fire_outputs.proofs.Laws.{cell_held_lem, cells_as, cells_same, cells_written_lem, fetched_present, NoValue, no_value}
use Rattle.fire_outputs.specs.Outputs.{cells_in, content_fetched}
use Rattle.fire_outputs.proofs.fetch.Goals as goal

pub returns-in_default : goal.returns-in_default
returns-in_default c =
    let at-cell-at = c.read-found in
    let a = c.args in
    let n : NoValue (get_or (cells_in a.cells.now) a.number Absent) = rw (cell_held_lem a.cells.now a.number c.requires.1, ← at-cell-at.ensures) (no_value at-cell-at.result (opened c.in_default.in_default-own.keys2)) in record { value = sym (n.defers a.number); cells_kept = cells_as (cells_written_lem c.requires.0 a.number Waiting c.requires.1 tt c.write.ensures.0) (ap (set (cells_in a.cells.now) a.number) (sym n.waits)) }

pub returns : goal.returns
returns c =
    let a = c.args in
    let f : SFits w32 c.in-Present.v = record { sfits = c.in-Present.known_told-1-own.given.0.1 } in
    let n : get_or (cells_in a.cells.now) a.number Absent ≡ Present c.in-Present.v = cell_held_lem a.cells.now a.number c.requires.1 ∙ sym c.read-found.ensures ∙ c.in-Present.is in record { value = ap Live (to_z-of_z f) ∙ sym (ap (content_fetched a.number) n); cells_kept = cells_as (cells_same c.requires.0) (sym (fetched_present (cells_in a.cells.now) a.number c.in-Present.v n)) }
