-- `text::put_cells` meets its contract. Assumes nothing.
use native.Mathlib.Omega.{arith}
use Prim.Native.Nat.{◌/◌, ◌<◌}
use lib.ListN.{length}
use Rattle.record.specs.Widths.{cell_width}
use Rattle.text.specs.Lines.{lines_of_cells}
use Rattle.text.proofs.Whole.{made_all}
use Rattle.text.proofs.Fields.{count_cells, cell_at_lem, line_room, line_made, made_passed}
use Rattle.text.proofs.put_cells.Goals as goal

pub put_cell-at-requires : goal.put_cell-at-requires
put_cell-at-requires c =
    let l = c.loop-k in
    let g = c.args.cells.now in
    let h : l.k < length g / cell_width = omega arith in
    let lt : l.k < length (lines_of_cells g) = omega (arith, count_cells g) in
    rw (c.read.ensures, ← cell_at_lem g l.k h) (line_room (lines_of_cells g) l.k lt l.invariant.1 c.requires)

pub loop-k-preserved-then-absent-eq0 : goal.loop-k-preserved-then-absent-eq0
loop-k-preserved-then-absent-eq0 c =
    let l = c.loop-k in
    let g = c.args.cells.now in
    let h : l.k < length g / cell_width = omega arith in
    let lt : l.k < length (lines_of_cells g) = omega (arith, count_cells g) in
    (omega arith, line_made (lines_of_cells g) l.k lt l.invariant.1 (rw (cell_at_lem g l.k h, ← c.read.ensures) c.put_cell-at.ensures))

pub loop-k-preserved : goal.loop-k-preserved
loop-k-preserved c =
    let l = c.loop-k in
    let p = c.passed_over-absent in
    (p.ensures.0, rw (made_passed c.args.cells.now l.k p.result p.ensures.0 p.ensures.1) l.invariant.1)

pub returns : goal.returns
returns c = let l = c.loop-k in let g = c.args.cells.now in rw (made_all (lines_of_cells g) l.k (omega (arith, count_cells g))) at l.invariant.1
