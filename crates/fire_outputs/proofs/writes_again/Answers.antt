-- `fire_outputs::writes_again` meets its contract. Assumes nothing.
use mathlib.Core.Path.{sym, ap, ◌∙◌}
use borrow.Enum.Refused.{opened}
use Rattle.fire_outputs.proofs.Laws.{cell_held_lem, no_value, no_write}
use Rattle.fire_outputs.specs.Outputs.{is_present}
use Rattle.fire_outputs.proofs.writes_again.Goals as goal

pub returns-in_default : goal.returns-in_default
returns-in_default c = sym ((no_write c.args.action (opened c.in_default.in_default-own.keys2)).once _)

pub read-requires : goal.read-requires
read-requires c = rw c.in-Write.is at c.requires

pub returns-in-Present : goal.returns-in-Present
returns-in-Present c =
    rw c.in-Write.is (sym (ap is_present (cell_held_lem c.args.cells.now c.in-Write.number (rw c.in-Write.is at c.requires) ∙ sym c.read.ensures ∙ c.in-Present.is)))

pub returns-in_default-matches : goal.returns-in_default-matches
returns-in_default-matches c =
    rw c.in-Write.is (sym (ap is_present (cell_held_lem c.args.cells.now c.in-Write.number (rw c.in-Write.is at c.requires) ∙ sym c.read.ensures) ∙ (no_value c.read.result (opened c.in_default-matches.in_default-matches-own.keys2)).shut))
