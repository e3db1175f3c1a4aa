-- `record::cell::encode_cell` meets its contract. Assumes nothing.
use Rattle.std.proofs.Common.{sym, ap, ◌∙◌, to_z-of_z, w32, SFits, rules}
use Rattle.record.specs.Cells.{encode_cell}
use Rattle.record.proofs.cell.CellEncodeWIDTH.encode.Goals as goal

pub returns-in-Absent : goal.returns-in-Absent
unfolding encode_cell
returns-in-Absent c = (c.bytes_of.ensures ∙ sym (ap encode_cell c.in-Absent.is), rw c.in-Absent.is tt)

pub returns-in-Waiting : goal.returns-in-Waiting
unfolding encode_cell
returns-in-Waiting c = (c.bytes_of-in-Waiting.ensures ∙ sym (ap encode_cell c.in-Waiting.is), rw c.in-Waiting.is tt)

pub returns-in-Present : goal.returns-in-Present
unfolding encode_cell
returns-in-Present c =
    let f : SFits w32 c.in-Present.v = record { sfits = c.in-Present.known_told-1-own.given.0.1 } in
    (c.bytes_of-in-Present.ensures ∙ rw (c.bits.ensures, to_z-of_z f) (sym (ap encode_cell c.in-Present.is)), rw c.in-Present.is f)
