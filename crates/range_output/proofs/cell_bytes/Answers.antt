-- `range_output::cell_bytes` meets its contract. Assumes nothing.
use mathlib.Core.Path.{◌≡◌, refl, ◌∙◌}
use mathlib.Core.List.{List, ◌++◌}
use mathlib.Core.Logic.{◌⊎◌, inl, inr}
use mir.Facts.{to_z-of_z}
use mir.Syntax.{w32}
use mir.Val.{SFits}
use borrow.Author.Rules.{rules}
use Rattle.number.specs.Number.{bytes32}
use Rattle.record.specs.declared.cell.Cell as RecordCell
use Rattle.record.specs.declared.cell.Cell.TheVariants.{Absent, Waiting}
use Rattle.record.specs.Cells.{encode_cell}
use Rattle.arithmetic.specs.declared.Range.{Range}
use Rattle.rules.specs.RangeRun.{encode_range_cell}
use Rattle.range_output.specs.Left.{cell_meant}
use Rattle.range_output.proofs.cell_bytes.Goals as goal

without_range : (t : List Range) (c : RecordCell.Cell) → (c ≡ Absent) ⊎ (c ≡ Waiting) → encode_cell c ++ bytes32 0 ≡ encode_range_cell (cell_meant t c)
unfolding encode_range_cell
without_range t c (inl e) = rw e refl
without_range t c (inr e) = rw e refl

pub returns-in-Absent : goal.returns-in-Absent
returns-in-Absent c = c.with_high.ensures ∙ rw c.encode.ensures.0 (without_range c.args.table.now c.args.cell c.in-Absent.is)

pub returns-in-Present : goal.returns-in-Present
unfolding encode_range_cell
returns-in-Present c =
    let low : SFits w32 c.meaning-r.result.low = search rules in
    let high : SFits w32 c.meaning-r.result.high = search rules in
    let h : SFits w32 c.in-Present.handle = search rules in
    c.with_high-in-Present.ensures ∙ rw (c.in-Present.is, c.bits.ensures, c.encode-in-Present.ensures.0, to_z-of_z low, to_z-of_z high, c.meaning-r.ensures, to_z-of_z h) refl
